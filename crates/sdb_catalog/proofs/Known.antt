-- Catalogs in a first store of known contents.
use Rattle.std.proofs.Common.{◌≡◌, ℕ, ◌+◌, List, [], ◌∷◌, ◌++◌, map, take, Bool, true, false, cond, Option, Some, None, Result, Ok, Err, inl, inr, refl, sym, ap, subst, ◌∙◌}
use Rattle.std.specs.Prelude.{IfErr, IsErrAnd, flat_map, slice_get}
use Rattle.std.specs.FinMap.{insert}
use Rattle.std.specs.Option.{option_map_or}
use Rattle.std.specs.Str.{bytes_eq}
use Rattle.std.proofs.lemmas.Slice.Eq.{bytes_eq-Decides}
use Rattle.sdb_catalog.specs.Types.{Place, Record, Reply, Request, Table}
use Rattle.sdb_types.specs.declared.record.Condition.TheVariants.{Absent}
use Rattle.sdb_types.specs.declared.record.Reply.TheVariants.{Applied, NotMet, Rows}
use Rattle.sdb_types.specs.declared.record.Request.TheVariants.{Scan}
use Rattle.sdb_types.specs.Contents.{Contents, holds, put_reply, record_at, rows_in}
use Rattle.sdb_store.specs.Store.{Performs}
use Rattle.sdb_stores.specs.Views.{Attached, StoreView, names_of, route_of}
use Rattle.sdb_catalog.specs.declared.entry.Entry.{Entry}
use Rattle.sdb_catalog.specs.declared.outcome.Outcome.{Outcome}
use Rattle.sdb_catalog.specs.declared.outcome.Outcome.TheVariants as outcome
use Rattle.sdb_catalog.specs.declared.refused.CatalogRefused.{CatalogRefused}
use Rattle.sdb_catalog.specs.declared.refused.CatalogRefused.TheVariants as refused
use Rattle.sdb_catalog.specs.Calls.{Called, IsRead, IsStopped, IsUnread, ContentsAreUnchanged, first_contents, metadata_span, with_states}
use Rattle.sdb_catalog.specs.Definition.{definition_text}
use Rattle.sdb_catalog.specs.Known.{CatalogState, IsBadIn, IsCatalogIn, IsLeftBy, IsPartlyStored, IsStoredIn, MayWrite, MayWriteFirst, first_name, has_definition, line_of, lines_of, outcome_at, outcome_in, state_after, state_of, after_entry, after_outcome, after_table}
use Rattle.sdb_catalog.specs.Opened.{IsFirstBad, Opens, store_in, tables_of}
use Rattle.sdb_catalog.specs.Rows.{definition_column, row_of, text_at}
use Rattle.sdb_catalog.specs.Written.{AreWritten, HasDefinition, IsStored, IsWritten, Line, entry_for, grown, line_text, put_of, written_tables}
use Rattle.sdb_catalog.proofs.Calling.{first_before, first_now}
use Rattle.sdb_catalog.proofs.Kept.{put_applied}
use Rattle.sdb_catalog.proofs.Writes.{WrittenSo, known_after}

---- what is so of an error that is passed on

pub passed_on : {A E : Type 0} (P : E → Type 0) (r : Result A E) (e : E) → IsErrAnd r (λ x. x ≡ e) → P e → IfErr r P
passed_on P (Ok a) e h p = tt
passed_on P (Err x) e h p = subst P (sym h) p

---- one call

-- the first store answers as a map does
pub performed : (q : Request) (r : Reply) (old : Attached) (new : List StoreView) → old.known 0 → Called q r old new → Performs q r (first_contents old.views) (first_contents new)
performed q r old new t call =
    subst (λ (m : Contents). Performs q r m (first_contents new)) (sym (first_before old.views call.before call.stood))
    (subst (Performs q r call.before.contents) (sym (first_now old.views new call.before call.now call.stood call.rest)) (call.performed t))

rows_same : (a b : List Record) → Rows a ≡ Rows b → a ≡ b
rows_same a b h = cc

-- a scan shows the rows that are there
pub rows_shown : (rows : List Record) (old : Attached) (new : List StoreView) → old.known 0 → Called (Scan metadata_span) (Rows rows) old new → rows ≡ rows_in metadata_span (first_contents old.views)
rows_shown rows old new t call = rows_same rows (rows_in metadata_span (first_contents old.views)) (performed (Scan metadata_span) (Rows rows) old new t call).0

pub contents_read : (rows : List Record) (old : Attached) (new : List StoreView) → old.known 0 → Called (Scan metadata_span) (Rows rows) old new → first_contents new ≡ first_contents old.views
contents_read rows old new t call = (performed (Scan metadata_span) (Rows rows) old new t call).1

---- what is read

pub opens_in : (es : List Entry) (old : Attached) (mid : List StoreView) → old.known 0 → IsRead old mid es → Opens (names_of old.views) (rows_in metadata_span (first_contents old.views)) es
opens_in es old mid t read = subst (λ (rs : List Record). Opens (names_of old.views) rs es) (rows_shown read.rows old mid t read.scanned) read.opens

pub catalog_in : (es : List Entry) (now : List Place) (opened : List Table) (old : Attached) (mid : List StoreView) → IsRead old mid es → opened ≡ tables_of es → ((ns : List ℕ) → route_of ns now ≡ store_in es ns) → old.known 0
    → IsCatalogIn (names_of old.views) (first_contents old.views) opened now
catalog_in es now opened old mid read tables placed t = record { entries = es; opens = opens_in es old mid t read; tables = tables; placed = placed }

pub bad_in : (old : Attached) (new : List StoreView) (e : CatalogRefused) → IsUnread old new e → old.known 0 → IsBadIn (names_of old.views) (first_contents old.views) e
bad_in old new refused.StoreFault h t = tt
bad_in old new (refused.BadRow key) h t = subst (λ (rs : List Record). IsFirstBad (names_of old.views) rs key) (rows_shown h.rows old new t h.scanned) h.bad
bad_in old new refused.NoMemory h t = tt

---- one table

put_unmet : (o : Option Record) (found : Record) → NotMet (Some found) ≡ put_reply Absent o → o ≡ Some found
put_unmet None found h = absurd (let e : NotMet (Some found) ≡ Applied = h in cc)
put_unmet (Some x) found h = let e : NotMet (Some found) ≡ NotMet (Some x) = h in cc

abbrev same_text : Entry → Option (List ℕ) → Bool
same_text e o = option_map_or (λ (text : List ℕ). bytes_eq text (definition_text e.table)) o false

has_it : (e : Entry) (found : Record) → HasDefinition e found → has_definition e found ≡ true
has_it e found h = ap (same_text e) h ∙ (bytes_eq-Decides (definition_text e.table) (definition_text e.table)).1 refl

lacks_it : (e : Entry) (found : Record) → (HasDefinition e found → ⊥) → has_definition e found ≡ false
lacks_it e found h = none_of (text_at definition_column found) h
  where
    none_of : (o : Option (List ℕ)) → (o ≡ Some (definition_text e.table) → ⊥) → same_text e o ≡ false
    none_of None k = refl
    none_of (Some text) k =
        elim (bytes_eq text (definition_text e.table)) as (λ b. bytes_eq text (definition_text e.table) ≡ b → b ≡ false) [
          | true ↦ λ q. absurd (k (ap Some ((bytes_eq-Decides text (definition_text e.table)).0 q)))
          | false ↦ λ q. refl
        ] refl

abbrev outcome_if : Entry → Option Record → Bool → Outcome
outcome_if e o b = cond b outcome.Full (outcome_at e o)

-- what came of an entry, and the state after it
entry_written : (known : List Entry) (e : Entry) (o : Outcome) (old : Attached) (new : List StoreView) → old.known 0 → IsWritten known e o old new
    → (outcome_in (state_of known (first_contents old.views)) e ≡ o) × (state_of (grown known e o) (first_contents new) ≡ after_outcome (state_of known (first_contents old.views)) e o)
entry_written known e outcome.Created old new t h =
    let m = first_contents old.views in
    let p = performed (put_of e) Applied old new t h.1 in
    let none = put_applied (record_at m (row_of e).key) p.0 in (
      ap (outcome_if e (record_at m (row_of e).key)) h.0 ∙ ap (outcome_at e) none,
      ap (state_of (known ++ e ∷ [])) (p.1 ∙ ap (λ (o : Option Record). cond (holds Absent o) (insert m (row_of e).key (row_of e).columns) m) none),
    )
entry_written known e outcome.Exists old new t h =
    let m = first_contents old.views in
    let p = performed (put_of e) (NotMet (Some h.1.0)) old new t h.1.1 in
    let there = put_unmet (record_at m (row_of e).key) h.1.0 p.0 in (
      ap (outcome_if e (record_at m (row_of e).key)) h.0 ∙ ap (outcome_at e) there ∙ ap (λ (b : Bool). cond b outcome.Exists outcome.Differs) (has_it e h.1.0 h.1.2),
      ap (state_of known) (p.1 ∙ ap (λ (o : Option Record). cond (holds Absent o) (insert m (row_of e).key (row_of e).columns) m) there),
    )
entry_written known e outcome.Differs old new t h =
    let m = first_contents old.views in
    let p = performed (put_of e) (NotMet (Some h.1.0)) old new t h.1.1 in
    let there = put_unmet (record_at m (row_of e).key) h.1.0 p.0 in (
      ap (outcome_if e (record_at m (row_of e).key)) h.0 ∙ ap (outcome_at e) there ∙ ap (λ (b : Bool). cond b outcome.Exists outcome.Differs) (lacks_it e h.1.0 h.1.2),
      ap (state_of known) (p.1 ∙ ap (λ (o : Option Record). cond (holds Absent o) (insert m (row_of e).key (row_of e).columns) m) there),
    )
entry_written known e outcome.Full old new t h =
    (ap (outcome_if e (record_at (first_contents old.views) (row_of e).key)) h.0, ap (λ (l : List StoreView). state_of known (first_contents l)) h.1)

-- a table that was answered
pub has_put : (known : List Entry) (e : Entry) (o : Outcome) (old new : Attached) → IsWritten known e o old new.views → MayWrite known e old new
has_put known e o old new h t =
    let one = entry_written known e o old new.views t h in
    inr (ap (λ (s : CatalogState). s.contents) (one.1 ∙ ap (after_outcome (state_of known (first_contents old.views)) e) (sym one.0)))

---- tables

module _ (places : List Place) (first : List ℕ) where
  abbrev tables : List Line → List Table
  tables ls = map (λ (l : Line). l.table) ls

  -- the lines are those of the tables, and the state after them
  all_written : (known : List Entry) (ls : List Line) (old : Attached) (new : List StoreView) → old.known 0 → AreWritten places first known ls old new
      → (ls ≡ lines_of places first (state_of known (first_contents old.views)) (tables ls))
      × (state_of (known_after places first known ls) (first_contents new) ≡ state_after places first (state_of known (first_contents old.views)) (tables ls))
  all_written known [] old new t h = (refl, ap (λ (l : List StoreView). state_of known (first_contents l)) h)
  all_written known (l ∷ ls) old new t h =
      let s = state_of known (first_contents old.views) in
      let e = entry_for known places first l.table in
      let one = entry_written known e l.outcome old h.0 t h.1 in
      let next : state_of (grown known e l.outcome) (first_contents h.0) ≡ after_entry s e = one.1 ∙ ap (after_outcome s e) (sym one.0) in
      let rest = all_written (grown known e l.outcome) ls (with_states old h.0) new t h.2 in (
        ap (λ (o : Outcome). record { table = l.table; outcome = o } ∷ ls) (sym one.0)
            ∙ ap (λ (xs : List Line). line_of places first s l.table ∷ xs) (rest.0 ∙ ap (λ (x : CatalogState). lines_of places first x (tables ls)) next),
        rest.1 ∙ ap (λ (x : CatalogState). state_after places first x (tables ls)) next,
      )

  -- the state while tables are written
  pub state_now : (known now : List Entry) (ts : List Table) (answer : List ℕ) (old : Attached) (new : List StoreView) → old.known 0 → WrittenSo places first known now ts answer old new → state_of now (first_contents new) ≡ state_after places first (state_of known (first_contents old.views)) ts
  state_now known now ts answer old new t so =
      ap (λ (es : List Entry). state_of es (first_contents new)) so.known_now ∙ (all_written known so.lines old new t so.written).1
      ∙ ap (state_after places first (state_of known (first_contents old.views))) so.tables

  state_more : (s : CatalogState) (ts : List Table) (t : Table) → state_after places first s (ts ++ t ∷ []) ≡ after_table places first (state_after places first s ts) t
  state_more s [] t = refl
  state_more s (u ∷ us) t = state_more (after_table places first s u) us t

  pub wrote_first : (known now : List Entry) (ts : List Table) (i : ℕ) (answer : List ℕ) (old new : Attached) → WrittenSo places first known now (take i ts) answer old new.views → MayWriteFirst places first known ts old new
  wrote_first known now ts i answer old new so t = (i, ap (λ (s : CatalogState). s.contents) (state_now known now (take i ts) answer old new.views t so))

  -- one table more was not answered
  pub may_write_more : (known now : List Entry) (ts : List Table) (i : ℕ) (t : Table) (e : Entry) (answer : List ℕ) (old mid new : Attached) → WrittenSo places first known now (take i ts) answer old mid.views → ((at : ℕ) → old.known at → mid.known at)
      → e ≡ entry_for now places first t → take (i + 1) ts ≡ take i ts ++ t ∷ [] → MayWrite now e mid new → MayWriteFirst places first known ts old new
  may_write_more known now ts i t e answer old mid new so goes is more h told0 =
      let s = state_of known (first_contents old.views) in
      let before = state_now known now (take i ts) answer old mid.views told0 so in
      elim (h (goes 0 told0)) [
        | inl same ↦ (i, same ∙ ap (λ (x : CatalogState). x.contents) before)
        | inr done ↦ (
          i + 1,
          done ∙ ap (λ (x : Entry). (after_entry (state_of now (first_contents mid.views)) x).contents) is ∙ ap (λ (x : CatalogState). (after_table places first x t).contents) before
              ∙ ap (λ (x : CatalogState). x.contents) (sym (state_more s (take i ts) t) ∙ ap (state_after places first s) (sym more)),
        )
      ]

---- the whole

first_is : (names : List (List ℕ)) (first : List ℕ) → slice_get names 0 ≡ Some first → first ≡ first_name names
first_is [] first h = absurd (let e : None ≡ Some first = h in cc)
first_is (name ∷ names) first h = let e : Some name ≡ Some first = h in cc

pub stored_in : (places : List Place) (catalog : List Table) (text : List ℕ) (old : Attached) (new : List StoreView) → IsStored places catalog text old new → old.known 0 → IsStoredIn (names_of old.views) places catalog text (first_contents old.views) (first_contents new)
stored_in places catalog text old new stored t =
    let m = first_contents old.views in
    let es = stored.entries in
    let ts = written_tables catalog in
    let all = all_written places stored.first es stored.written.lines (with_states old stored.mid) new t stored.written.written in
    let same : first_contents stored.mid ≡ m = contents_read stored.read.rows old stored.mid t stored.read.scanned in
    let named : stored.first ≡ first_name (names_of old.views) = first_is (names_of old.views) stored.first stored.named in
    record {
      entries = es;
      opens = opens_in es old stored.mid t stored.read;
      answer =
          stored.written.text
          ∙ ap (flat_map line_text)
          (all.0 ∙ ap (lines_of places stored.first (state_of es (first_contents stored.mid))) stored.written.tables
          ∙ ap (λ (c : Contents). lines_of places stored.first (state_of es c) ts) same ∙ ap (λ (first : List ℕ). lines_of places first (state_of es m) ts) named);
      contents = ap (λ (s : CatalogState). s.contents)
          (all.1 ∙ ap (state_after places stored.first (state_of es (first_contents stored.mid))) stored.written.tables
          ∙ ap (λ (c : Contents). state_after places stored.first (state_of es c) ts) same ∙ ap (λ (first : List ℕ). state_after places first (state_of es m) ts) named);
    }

-- the first tables were written after the rows were read
partly : (places : List Place) (catalog ts : List Table) (first : List ℕ) (es : List Entry) (old mid new : Attached) → IsRead old mid.views es → slice_get (names_of old.views) 0 ≡ Some first → ts ≡ written_tables catalog → ContentsAreUnchanged old mid → ((at : ℕ) → old.known at → mid.known at)
    → MayWriteFirst places first es ts mid new → old.known 0 → IsPartlyStored (names_of old.views) places catalog (first_contents old.views) (first_contents new.views)
partly places catalog ts first es old mid new read named is keeps goes h t =
    let some = h (goes 0 t) in
    record {
      entries = es;
      opens = opens_in es old mid.views t read;
      count = some.0;
      contents =
          some.1 ∙ ap (λ (c : Contents). (state_after places first (state_of es c) (take some.0 ts)).contents) (keeps t)
          ∙ ap (λ (us : List Table). (state_after places first (state_of es (first_contents old.views)) (take some.0 us)).contents) is
          ∙ ap (λ (name : List ℕ). (state_after places name (state_of es (first_contents old.views)) (take some.0 (written_tables catalog))).contents) (first_is (names_of old.views) first named);
    }

---- refusals

pub left_unread : (places : List Place) (catalog : List Table) (old new : Attached) (e : CatalogRefused) → IsUnread old new.views e → ContentsAreUnchanged old new → old.known 0 → IsLeftBy e (names_of old.views) places catalog (first_contents old.views) (first_contents new.views)
left_unread places catalog old new refused.StoreFault h keeps t = inl (keeps t)
left_unread places catalog old new (refused.BadRow key) h keeps t = (keeps t, bad_in old new.views (refused.BadRow key) h t)
left_unread places catalog old new refused.NoMemory h keeps t = inl (keeps t)

left_partly : (names : List (List ℕ)) (places : List Place) (catalog : List Table) (old new : Contents) (e : CatalogRefused) (before now : List StoreView) → IsStopped before now e → IsPartlyStored names places catalog old new → IsLeftBy e names places catalog old new
left_partly names places catalog old new refused.StoreFault before now h k = inr k
left_partly names places catalog old new (refused.BadRow key) before now h k = absurd h
left_partly names places catalog old new refused.NoMemory before now h k = inr k

pub left_writing : (places : List Place) (catalog ts : List Table) (first : List ℕ) (es : List Entry) (e : CatalogRefused) (old mid new : Attached) → IsRead old mid.views es → slice_get (names_of old.views) 0 ≡ Some first → ts ≡ written_tables catalog → ContentsAreUnchanged old mid → ((at : ℕ) → old.known at → mid.known at)
    → MayWriteFirst places first es ts mid new → IsStopped mid.views new.views e → old.known 0 → IsLeftBy e (names_of old.views) places catalog (first_contents old.views) (first_contents new.views)
left_writing places catalog ts first es e old mid new read named is keeps goes h stopped t =
    left_partly (names_of old.views) places catalog (first_contents old.views) (first_contents new.views) e mid.views new.views stopped
    (partly places catalog ts first es old mid new read named is keeps goes h t)
