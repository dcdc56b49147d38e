-- A get and a scan answer as the map that the rows hold.
use Rattle.std.proofs.Common.{◌≡◌, inl, inr, ◌≤◌, List, [], ◌∷◌, map, filter, length, true, false, cond, Some, Option, option_map, slice_get, Ok, Err, Result, IfOk, refl, sym, ap, subst, ◌∙◌, IsPermutation, is_eq}
use Rattle.std.specs.Prelude.{IsTrue, MatchResult}
use Rattle.std.specs.List.{AllByRecursion}
use Rattle.std.specs.FinMap.{find, get, get-from_entries}
use Rattle.std.proofs.lemmas.List.{length-map}
use Rattle.sqlite.specs.declared.types.Value.TheVariants.{Blob}
use Rattle.sdb_sqlite.specs.Types.{Error, Key, Pair, Record, Request}
use Rattle.sqlite.specs.Order.{Row, column, bytes}
use Rattle.sqlite.specs.Store.{Ghosts}
use Rattle.sqlite.specs.Held.{Held as Connected, state}
use Rattle.sqlite.specs.Effect.{Database}
use Rattle.sqlite.specs.State.{State, Shown, FailsToQuery}
use Rattle.sqlite.specs.View.{doubt}
use Rattle.sqlite.proofs.Callers.{reads_as}
use Rattle.sdb_types.specs.declared.record.Request.TheVariants.{Get}
use Rattle.sdb_types.specs.declared.record.Reply.TheVariants as reply
use Rattle.sdb_types.specs.Order.{key_cmp}
use Rattle.sdb_types.specs.Exact.{equal_of}
use Rattle.sdb_types.specs.Fits.{key_fits}
use Rattle.sdb_types.specs.Contents.{Contents, record_at, record_of}
use Rattle.sdb_types.proofs.Public.{and_true, key_exact, key_total}
use Rattle.sdb_codec.specs.Spelling.{key_bytes, KeyIsEncodable}
use Rattle.sdb_codec.specs.Reading.{record_in}
use Rattle.sdb_codec.proofs.Public.{key_round_trip}
use Rattle.sdb_store.specs.Store.{Performs}
use Rattle.sdb_sqlite.specs.declared.refused.Stopped.{Stopped}
use Rattle.sdb_sqlite.specs.declared.refused.Stopped.TheVariants as stopped
use Rattle.sdb_sqlite.specs.Stopping.{stop_reply}
use Rattle.sdb_sqlite.specs.Statements.{get_body}
use Rattle.sdb_sqlite.specs.Table.{records_schema}
use Rattle.sdb_sqlite.specs.Rows.{IsRowOfStore, row_key, entry_of, own_columns, key_or_none, has_key, rows_at, contents_of_rows, blob_of}
use Rattle.sdb_sqlite.specs.Database.{HasTable, HoldsRows, IsAnswered, contents_of_state}
use Rattle.sdb_sqlite.specs.Asked.{IsDue, found_as, found_in, found_by, IsGot, Gets, got_reply}
use Rattle.sdb_sqlite.proofs.Texts.{by_k, body_shown, get_is, get_plain}
use Rattle.sdb_sqlite.proofs.Keys.{same_key}
use Rattle.sdb_sqlite.proofs.Lists.{filter_same, weaker, passed, few_permutation}
use Rattle.sdb_sqlite.proofs.Queries.{passes, blobs_test, answered, query_keeps, rows_held}

---- the connection is open and returns what was written

abbrev pub IsSure : {S : Type 0} → Ghosts S → Connected S → Type 0
IsSure g h = IsTrue (g.view h.store).is_open × (doubt (g.view h.store).is_clean ≡ 0)

---- rows and their keys

-- the key that a row's bytes spell is its own
pub tied_key : (row : Row) (it : IsRowOfStore row) → row_key row ≡ it.key
tied_key row it = ap row_key it.is ∙ ap key_or_none (key_round_trip it.key it.known it.fits)

pub of_key : (q : Key) (row : Row) → has_key q row ≡ true → q ≡ row_key row
of_key q row h = key_exact q (row_key row) (equal_of (key_cmp q (row_key row)) h)

-- the test of a get
pub passes_key : (q : Key) (others : Row) → key_fits q → KeyIsEncodable q → (row : Row) → IsRowOfStore row → passes by_k (Blob (key_bytes q) ∷ others) row ≡ has_key q row
passes_key q others known fits row it =
    ap (passes by_k (Blob (key_bytes q) ∷ others)) it.is
    ∙ and_true _ ∙ blobs_test (key_bytes q) (key_bytes it.key) ∙ same_key q it.key known it.known fits it.fits
    ∙ ap (λ (k : Key). is_eq (key_cmp q k)) (sym (tied_key row it))

pub keys_passed : (q : Key) (others : Row) → key_fits q → KeyIsEncodable q → (rows : List Row) → AllByRecursion IsRowOfStore rows → filter (passes by_k (Blob (key_bytes q) ∷ others)) rows ≡ rows_at q rows
keys_passed q others known fits rows all =
    filter_same _ (has_key q) rows (weaker IsRowOfStore (λ r. passes by_k (Blob (key_bytes q) ∷ others) r ≡ has_key q r) (passes_key q others known fits) rows all)

-- what the map has at a key
find_rows : (q : Key) (rows : List Row) → find key_cmp q (map entry_of rows) ≡ option_map (λ row. (entry_of row).1) (slice_get (rows_at q rows) 0)
find_rows q [] = refl
find_rows q (r ∷ rows) =
    elim (has_key q r) as (λ b. cond b (Some (entry_of r).1) (find key_cmp q (map entry_of rows)) ≡ option_map (λ row. (entry_of row).1) (slice_get (cond b (r ∷ rows_at q rows) (rows_at q rows)) 0))
    [ true ↦ refl | false ↦ find_rows q rows ]

pub held_at : (q : Key) (rows : List Row) → get (contents_of_rows rows) q ≡ option_map (λ row. (entry_of row).1) (slice_get (rows_at q rows) 0)
held_at q rows = get-from_entries key_total (map entry_of rows) q ∙ find_rows q rows

---- a get

-- a row of a key has a body, and its columns are those of the map
body_is : (q : Key) (row : Row) → IsRowOfStore row → has_key q row ≡ true → found_as q (blob_of (column row 4)) ≡ Ok (Some (record_of (q, (entry_of row).1)))
body_is q row it has =
    let same : row_key row ≡ q = sym (of_key q row has) in
    let body : column row 4 ≡ Blob it.body = ap (λ r. column r 4) it.is in
    ap (λ v. found_as q (blob_of v)) body
    ∙ ap (λ (cs : List Pair). Ok (Some (record_of (q, cs)))) ((λ i. own_columns (sym same i) (record_in (bytes (sym body i)))))

first_body : (q : Key) (xs : List Row) → AllByRecursion (λ x. IsRowOfStore x × (has_key q x ≡ true)) xs
    → found_in q (map (λ r. column r 4 ∷ []) xs) ≡ Ok (option_map (λ columns. record_of (q, columns)) (option_map (λ row. (entry_of row).1) (slice_get xs 0)))
first_body q [] all = refl
first_body q (x ∷ xs) (one, all) = body_is q x one.0 one.1

pub found_is : (q : Key) (rows answer : List Row) → AllByRecursion IsRowOfStore rows → answer ≡ map (λ r. column r 4 ∷ []) (rows_at q rows) → found_in q answer ≡ Ok (record_at (contents_of_rows rows) q)
found_is q rows answer all is =
    ap (found_in q) is ∙ first_body q (rows_at q rows) (passed IsRowOfStore (has_key q) rows all)
    ∙ ap (λ o. Ok (option_map (λ columns. record_of (q, columns)) o)) (sym (held_at q rows))

pub shown_rows : (old new : State) (q : Key) (rows : List Row) → key_fits q → KeyIsEncodable q → HoldsRows old → Shown get_body (Blob (key_bytes q) ∷ []) old new rows
    → rows ≡ map (λ r. column r 4 ∷ []) (rows_at q (old.now.trees 0))
shown_rows old new q rows known fits it h =
    let read = reads_as get_body (Blob (key_bytes q) ∷ []) old new records_schema it.schema _ get_is.0 get_plain get_is.1 rows h in
    let passing : filter (passes by_k (Blob (key_bytes q) ∷ [])) (old.now.trees 0) ≡ rows_at q (old.now.trees 0) = keys_passed q [] known fits (old.now.trees 0) it.rows in
    let shuffled = answered old.now.trees by_k body_shown (Blob (key_bytes q) ∷ []) rows read.answer in
    let few : length (map (λ r. column r 4 ∷ []) (rows_at q (old.now.trees 0))) ≤ 1 = rw length-map (it.once q) in
    few_permutation _ rows few (subst (λ (xs : List Row). IsPermutation (map (λ r. column r 4 ∷ []) xs) rows) passing shuffled)

-- what a get found is what the map has
pub record IsFound (q : Key) (old new : State) (found : Result (Option Record) Stopped) : Type 0 where
  pub kept : HasTable new
  pub same : new.now ≡ old.now
  pub there : IfOk found (λ o. o ≡ record_at (contents_of_state old) q)

pub due_found : (q : Key) (m : Contents) (due found : Result (Option Record) Stopped) → IsDue due found → IfOk due (λ o. o ≡ record_at m q) → IfOk found (λ o. o ≡ record_at m q)
due_found q m due found (inl e) h = subst (λ (r : Result (Option Record) Stopped). IfOk r (λ o. o ≡ record_at m q)) (sym e) h
due_found q m due found (inr e) h = subst (λ (r : Result (Option Record) Stopped). IfOk r (λ o. o ≡ record_at m q)) (sym e) tt

pub got_is : {S : Type 0} (g : Ghosts S) (q : Key) (old new : Connected S) (found : Result (Option Record) Stopped) → IsSure g new → key_fits q → KeyIsEncodable q → HasTable (state g old) → IsGot g q old new found
    → IsFound q (state g old) (state g new) found
got_is g q old new found sure known fits it got =
    let shown = got.asked.reported sure.1 in
    let keeps = query_keeps get_body get_plain (Blob (key_bytes q) ∷ []) (state g old) (state g new) it got.asked.limit got.answer sure.0 shown in
    record {
      kept = keeps.0;
      same = keeps.1;
      there = due_found q (contents_of_state (state g old)) (found_by q got.answer) found got.due (by_answer got.answer shown);
    }
  where
    by_answer : (answer : Result (List Row) Error) → MatchResult answer (Shown get_body (Blob (key_bytes q) ∷ []) (state g old) (state g new)) (FailsToQuery get_body (Blob (key_bytes q) ∷ []) (state g old) (state g new)) → IfOk (found_by q answer) (λ o. o ≡ record_at (contents_of_state (state g old)) q)
    by_answer (Ok rows) h = subst (λ (r : Result (Option Record) Stopped). IfOk r (λ o. o ≡ record_at (contents_of_state (state g old)) q))
        (sym (found_is q ((state g old).now.trees 0) rows it.rows (shown_rows (state g old) (state g new) q rows known fits (rows_held (state g old) it) h))) refl
    by_answer (Err e) h = tt

---- what a call is answered of

same_held : (old new : State) → new.now ≡ old.now → contents_of_state new ≡ contents_of_state old
same_held old new e = ap (λ (d : Database). contents_of_rows (d.trees 0)) e

-- a call that stopped changed nothing
pub stopped_performs : (q : Request) (s : Stopped) (old new : Contents) → new ≡ old → Performs q (stop_reply s) old new
stopped_performs q stopped.NoMemory old new e = e
stopped_performs q stopped.Refused old new e = inl e
stopped_performs q stopped.Unfit old new e = inl e
stopped_performs q stopped.Foreign old new e = inl e
stopped_performs q stopped.Tied old new e = inl e

found_performs : (q : Key) (old new : State) (found : Result (Option Record) Stopped) → IsFound q old new found → Performs (Get q) (got_reply found) (contents_of_state old) (contents_of_state new)
found_performs q old new (Ok o) it = (ap reply.Found it.there, same_held old new it.same)
found_performs q old new (Err s) it = stopped_performs (Get q) s (contents_of_state old) (contents_of_state new) (same_held old new it.same)

pub get_told : {S : Type 0} (g : Ghosts S) (q : Key) (old new : Connected S) (found : Result (Option Record) Stopped) → IsSure g new → key_fits q → HasTable (state g old) → Gets g q old new found
    → IsAnswered (Get q) (got_reply found) (state g old) (state g new)
get_told g q old new found sure known it (inl unfit) =
    subst (λ (c : Connected _). IsAnswered (Get q) (got_reply found) (state g old) (state g c)) (sym unfit.1)
    (record { kept = it; performed = subst (λ (r : Result (Option Record) Stopped). Performs (Get q) (got_reply r) (contents_of_state (state g old)) (contents_of_state (state g old))) (sym unfit.2) (inl refl) })
get_told g q old new found sure known it (inr (fits, inl out_of_memory)) =
    subst (λ (c : Connected _). IsAnswered (Get q) (got_reply found) (state g old) (state g c)) (sym out_of_memory.0)
    (record { kept = it; performed = subst (λ (r : Result (Option Record) Stopped). Performs (Get q) (got_reply r) (contents_of_state (state g old)) (contents_of_state (state g old))) (sym out_of_memory.1) refl })
get_told g q old new found sure known it (inr (fits, inr got)) =
    let is = got_is g q old new found sure known fits it got in
    record { kept = is.kept; performed = found_performs q (state g old) (state g new) found is }
