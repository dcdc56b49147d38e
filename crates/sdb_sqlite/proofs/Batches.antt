-- A batch answers as the map that the rows hold, over one transaction.
use Rattle.std.proofs.Common.{◌≡◌, ◌⊎◌, inl, inr, ℕ, ◌+◌, List, [], ◌∷◌, length, Bool, true, false, cond, None, Some, Option, Ok, Err, Result, refl, sym, ap, subst, ◌∙◌, arith}
use Rattle.std.specs.Prelude.{All, IsTrue, IsSome, MatchResult, ◌≤◌, ◌&&◌, ◌||◌, not, is_none, is_some}
use Rattle.std.specs.List.{AllByRecursion}
use Rattle.std.specs.FinMap.{insert}
use Rattle.std.proofs.lemmas.List.Elements.{recursion_from_All}
use Rattle.sqlite.specs.declared.types.Value.TheVariants.{Blob}
use Rattle.sdb_sqlite.specs.Types.{Condition, Error, Key, Put, Record, Reply}
use Rattle.sqlite.specs.Order.{Row}
use Rattle.sqlite.specs.Store.{Ghosts}
use Rattle.sqlite.specs.Held.{Held as Connected, state}
use Rattle.sqlite.specs.Tree.{IsTable}
use Rattle.sqlite.specs.Effect.{Database, is_query}
use Rattle.sqlite.specs.Listing.{understood}
use Rattle.sqlite.specs.Calls.{IsWrite}
use Rattle.sqlite.specs.Command.TheVariants.{Begin, Commit, Rollback, Release, RollbackTo}
use Rattle.sqlite.specs.State.{State, Executes, ExecutesIn, IsNotRun, IsNoStatement, IsMisplaced, IsUnchanged, IsRolledBack, Shown, FailsToQuery, is_pragma, shows_rows}
use Rattle.sqlite.proofs.Callers.{IsPlain, command_of, statement_of, runs_as}
use Rattle.sdb_types.specs.declared.record.Request.TheVariants.{PutAll}
use Rattle.sdb_types.specs.declared.record.Reply.TheVariants as reply
use Rattle.sdb_types.specs.Order.{has_key, are_distinct}
use Rattle.sdb_types.specs.Fits.{key_fits, record_fits, put_fits}
use Rattle.sdb_types.specs.Contents.{Contents, record_at, holds, put_keys, is_met_by, unmet_from, all_put, batch_reply as reply_of_batch, after}
use Rattle.sdb_types.proofs.Public.{clash, once_parts, unmet_aside}
use Rattle.sdb_codec.specs.Spelling.{key_bytes, KeyIsEncodable, RecordIsEncodable}
use Rattle.sdb_store.specs.Store.{Performs}
use Rattle.sdb_sqlite.specs.declared.batch.BatchWritten.{BatchWritten}
use Rattle.sdb_sqlite.specs.declared.batch.BatchWritten.TheVariants.{AllWritten, FirstUnmet}
use Rattle.sdb_sqlite.specs.declared.calls.Written.{Written}
use Rattle.sdb_sqlite.specs.declared.calls.Written.TheVariants.{Applied, NotMet}
use Rattle.sdb_sqlite.specs.declared.refused.Stopped.{Stopped}
use Rattle.sdb_sqlite.specs.declared.refused.Stopped.TheVariants as stopped
use Rattle.sdb_sqlite.specs.Stopping.{stopped_by}
use Rattle.sdb_sqlite.specs.Statements.{get_body, add_row, change_row, begin, commit, roll_back}
use Rattle.sdb_sqlite.specs.Table.{records_schema}
use Rattle.sdb_sqlite.specs.Rows.{IsRowOfStore, rows_at, contents_of_rows}
use Rattle.sdb_sqlite.specs.Database.{HasTable, HoldsRows, IsAnswered, contents_of_state}
use Rattle.sdb_sqlite.specs.Asked.{IsGot, IsWritten, found_by, written_by, put_text, put_params, PutsOver, Follows, Puts, Continues, PutsEach, RollsBack, Commits, Ends, PutsAll, batch_reply}
use Rattle.sdb_sqlite.proofs.Texts.{get_plain, begin_is, begin_plain, commit_is, commit_plain, roll_back_is, roll_back_plain, roll_back_whole, tail_of, names_of}
use Rattle.sdb_sqlite.proofs.Queries.{rows_held, shown_same, failed_same}
use Rattle.sdb_sqlite.proofs.Gets.{IsSure, found_is, shown_rows, due_found, stopped_performs}
use Rattle.sdb_sqlite.proofs.Edits.{found_row, no_row}
use Rattle.sdb_sqlite.proofs.Writes.{Wrote, failed_leaves, failed_keeps, insert_wrote, update_wrote}

---- inside of a transaction

-- The transaction began over that database, and the table as it sees it holds this.
pub record IsInside (base : Database) (m : Contents) (s : State) : Type 0 where
  pub rows : HoldsRows s
  pub contents : contents_of_state s ≡ m
  pub committed : s.committed ≡ base
  pub mode : s.in_transaction ≡ true

-- It is undone.
pub record IsBack (base : Database) (s : State) : Type 0 where
  pub now : s.now ≡ base
  pub committed : s.committed ≡ base
  pub mode : s.in_transaction ≡ false
  pub unlimited : s.step_limit ≡ None

-- It may be undone.
abbrev pub IsLeft : Database → State → Type 0
IsLeft base s = ((m : Contents) × IsInside base m s) ⊎ IsBack base s

module _ (base : Database) (m : Contents) (old new : State) (it : IsInside base m old) (limit : new.step_limit ≡ old.step_limit) where
  inside_same : IsUnchanged old new → IsInside base m new
  inside_same same =
      let now = same.0.now_is in
      record {
        rows = record {
          schema = ap (λ (d : Database). d.schema) now ∙ it.rows.schema;
          rows = subst (λ (d : Database). AllByRecursion IsRowOfStore (d.trees 0)) (sym now) it.rows.rows;
          numbered = subst (λ (d : Database). IsTable (d.trees 0)) (sym now) it.rows.numbered;
          once = subst (λ (d : Database). (key : Key) → length (rows_at key (d.trees 0)) ≤ 1) (sym now) it.rows.once;
          unlimited = limit ∙ it.rows.unlimited;
        };
        contents = ap (λ (d : Database). contents_of_rows (d.trees 0)) now ∙ it.contents;
        committed = same.0.committed_is ∙ it.committed;
        mode = same.0.mode ∙ it.mode;
      }

  inside_back : IsTrue new.is_open → IsRolledBack old new → IsBack base new
  inside_back is_open back = record {
    now = (back.undone is_open).0 ∙ it.committed;
    committed = (back.undone is_open).1 ∙ it.committed;
    mode = back.autocommit;
    unlimited = limit ∙ it.rows.unlimited;
  }

  inside_left : IsTrue new.is_open → IsUnchanged old new ⊎ IsRolledBack old new → IsLeft base new
  inside_left is_open (inl same) = inl (m, inside_same same)
  inside_left is_open (inr back) = inr (inside_back is_open back)

  inside_wrote : (left : Contents) → Wrote old new left → IsInside base left new
  inside_wrote left w = record {
    rows = w.held;
    contents = w.contents;
    committed = w.committed ∙ ap (λ (b : Bool). cond b old.committed new.now) it.mode ∙ it.committed;
    mode = w.mode ∙ it.mode;
  }

---- a get and a write there

-- what a get found inside of a transaction
abbrev pub FoundInside : Database → Contents → Key → State → Result (Option Record) Stopped → Type 0
FoundInside base m key new (Ok o) = IsInside base m new × (o ≡ record_at m key)
FoundInside base m key new (Err s) = IsLeft base new

module _ {S : Type 0} (g : Ghosts S) (sure : (c : Connected S) → IsSure g c) (base : Database) where
  get_inside : (m : Contents) (key : Key) (old new : Connected S) (found : Result (Option Record) Stopped) → key_fits key → KeyIsEncodable key → IsInside base m (state g old) → IsGot g key old new found → FoundInside base m key (state g new) found
  get_inside m key old new found known fits it got = by got.answer found (got.asked.reported (sure new).1) got.due
    where
      by : (answer : Result (List Row) Error) (found : Result (Option Record) Stopped) → MatchResult answer (Shown get_body (Blob (key_bytes key) ∷ []) (state g old) (state g new)) (FailsToQuery get_body (Blob (key_bytes key) ∷ []) (state g old) (state g new))
          → (found ≡ found_by key answer) ⊎ (found ≡ Err stopped.NoMemory) → FoundInside base m key (state g new) found
      by (Ok rows) found shown due =
          let here = inside_same base m (state g old) (state g new) it got.asked.limit (shown_same get_body get_plain (Blob (key_bytes key) ∷ []) (state g old) (state g new) it.rows.schema rows shown) in
          let is : found_by key (Ok rows) ≡ Ok (record_at (contents_of_state (state g old)) key) = found_is key ((state g old).now.trees 0) rows it.rows.rows (shown_rows (state g old) (state g new) key rows known fits it.rows shown) in
          elim due [
            | inl e ↦ subst (FoundInside base m key (state g new)) (sym (e ∙ is)) (here, ap (λ (c : Contents). record_at c key) it.contents)
            | inr e ↦ subst (FoundInside base m key (state g new)) (sym e) (inl (m, here))
          ]
      by (Err e) found failed due =
          let left = inside_left base m (state g old) (state g new) it got.asked.limit (sure new).0 (failed_same get_body get_plain (Blob (key_bytes key) ∷ []) (state g old) (state g new) it.rows.schema e failed) in
          elim due [
            | inl h ↦ subst (FoundInside base m key (state g new)) (sym h) left
            | inr h ↦ subst (FoundInside base m key (state g new)) (sym h) left
          ]

  -- what a put of a batch comes to
  abbrev WrittenInside : Contents → Put → State → Result Written Stopped → Type 0
  WrittenInside m p new (Ok Applied) = IsInside base (insert m p.rec.key p.rec.columns) new × (is_met_by m p ≡ true)
  WrittenInside m p new (Ok (NotMet found)) = IsInside base m new × (found ≡ record_at m p.rec.key) × (is_met_by m p ≡ false)
  WrittenInside m p new (Err s) = IsLeft base new

  write_inside : (m : Contents) (p : Put) (old new : Connected S) (result : Result Written Stopped) (found : Option Record) → record_fits p.rec → RecordIsEncodable p.rec → IsInside base m (state g old) → found ≡ record_at m p.rec.key → holds p.condition found ≡ true
      → IsWritten g (put_text found) (put_params p.rec found) old new result → WrittenInside m p (state g new) result
  write_inside m p old new result found known fits it is h w = subst (WrittenInside m p (state g new)) (sym w.due) (by w.answer (w.ran.runs (sure new).1))
    where
      met : is_met_by m p ≡ true
      met = ap (holds p.condition) (sym is) ∙ h

      there : found ≡ record_at (contents_of_state (state g old)) p.rec.key
      there = is ∙ ap (λ (c : Contents). record_at c p.rec.key) (sym it.contents)

      put_in : (left : Contents) → left ≡ insert (contents_of_state (state g old)) p.rec.key p.rec.columns → IsInside base left (state g new) → WrittenInside m p (state g new) (Ok Applied)
      put_in left e inside = (subst (λ (c : Contents). IsInside base c (state g new)) (e ∙ ap (λ (c : Contents). insert c p.rec.key p.rec.columns) it.contents) inside, met)

      wrote : (count : ℕ) (o : Option Record) → o ≡ record_at (contents_of_state (state g old)) p.rec.key → Executes (put_text o) (put_params p.rec o) (state g old) (state g new) (Ok count) → WrittenInside m p (state g new) (Ok Applied)
      wrote count None at ran =
          put_in _ refl (inside_wrote base m (state g old) (state g new) it w.ran.limit _
          (insert_wrote (state g old) (state g new) p.rec count it.rows known fits w.ran.limit (no_row p.rec.key ((state g old).now.trees 0) at) ran))
      wrote count (Some there) at ran =
          let row = found_row p.rec.key ((state g old).now.trees 0) there (it.rows.once p.rec.key) at in
          put_in _ refl (inside_wrote base m (state g old) (state g new) it w.ran.limit _
          (update_wrote (state g old) (state g new) p.rec row.0 count it.rows known fits w.ran.limit row.1 ran))

      by : (answer : Result ℕ Error) → Executes (put_text found) (put_params p.rec found) (state g old) (state g new) answer → WrittenInside m p (state g new) (written_by answer)
      by (Ok count) ran = wrote count found there ran
      by (Err e) failed = inside_left base m (state g old) (state g new) it w.ran.limit (sure new).0 (failed_leaves (put_text found) (put_params p.rec found) (state g old) (state g new) e failed)

  -- nothing was asked
  stays_inside : (m : Contents) (p : Put) (old new : Connected S) (s : Stopped) (result : Result Written Stopped) → new ≡ old → result ≡ Err s → IsInside base m (state g old) → WrittenInside m p (state g new) result
  stays_inside m p old new s result e is it = subst (WrittenInside m p (state g new)) (sym is) (inl (m, subst (λ (c : Connected S). IsInside base m (state g c)) (sym e) it))

  over_inside : (m : Contents) (p : Put) (old new : Connected S) (result : Result Written Stopped) (found : Option Record) → record_fits p.rec → RecordIsEncodable p.rec → IsInside base m (state g old) → found ≡ record_at m p.rec.key
      → PutsOver g p.rec p.condition old new result found → WrittenInside m p (state g new) result
  over_inside m p old new result found known fits it is (inl unmet) =
      subst (WrittenInside m p (state g new)) (sym unmet.2)
      (subst (λ (c : Connected S). IsInside base m (state g c)) (sym unmet.1) it, is, ap (holds p.condition) (sym is) ∙ unmet.0)
  over_inside m p old new result found known fits it is (inr (h, inl out_of_memory)) = stays_inside m p old new stopped.NoMemory result out_of_memory.0 out_of_memory.1 it
  over_inside m p old new result found known fits it is (inr (h, inr w)) = write_inside m p old new result found known fits it is h w

  follows_inside : (m : Contents) (p : Put) (mid new : Connected S) (result : Result Written Stopped) (found : Result (Option Record) Stopped) → record_fits p.rec → RecordIsEncodable p.rec → FoundInside base m p.rec.key (state g mid) found
      → Follows mid new result (PutsOver g p.rec p.condition mid new result) found → WrittenInside m p (state g new) result
  follows_inside m p mid new result (Ok o) known fits it next = over_inside m p mid new result o known fits it.0 it.1 next
  follows_inside m p mid new result (Err s) known fits it next = subst (WrittenInside m p (state g new)) (sym next.1) (subst (λ (c : Connected S). IsLeft base (state g c)) (sym next.0) it)

  put_inside : (m : Contents) (p : Put) (old new : Connected S) (result : Result Written Stopped) → record_fits p.rec → IsInside base m (state g old) → Puts g p.rec p.condition old new result → WrittenInside m p (state g new) result
  put_inside m p old new result known it (inl unfit) = stays_inside m p old new stopped.Unfit result unfit.1 unfit.2 it
  put_inside m p old new result known it (inr (fits, inl out_of_memory)) = stays_inside m p old new stopped.NoMemory result out_of_memory.0 out_of_memory.1 it
  put_inside m p old new result known it (inr (fits, inr put)) =
      follows_inside m p put.mid new result put.found known fits (get_inside m p.rec.key old put.mid put.found known.key fits.key it put.got) put.next

  ---- the puts one after another

  abbrev EachInside : ℕ → List Put → Contents → State → Result BatchWritten Stopped → Type 0
  EachInside n b m new (Ok AllWritten) = IsInside base (all_put b m) new × (unmet_from n b m ≡ None)
  EachInside n b m new (Ok (FirstUnmet k found)) = IsLeft base new × (unmet_from n b m ≡ Some (k, found))
  EachInside n b m new (Err s) = IsLeft base new

  met_first : (p : Put) (ps : List Put) (n : ℕ) (m : Contents) → has_key (put_keys ps) p.rec.key ≡ false → is_met_by m p ≡ true → unmet_from n (p ∷ ps) m ≡ unmet_from (n + 1) ps (insert m p.rec.key p.rec.columns)
  met_first p ps n m out met = ap (λ (b : Bool). cond b (unmet_from (n + 1) ps m) (Some (n, record_at m p.rec.key))) met ∙ sym (unmet_aside ps (n + 1) m p.rec out)

  later_inside : (p : Put) (ps : List Put) (n : ℕ) (m : Contents) (new : State) (result : Result BatchWritten Stopped) → unmet_from n (p ∷ ps) m ≡ unmet_from (n + 1) ps (insert m p.rec.key p.rec.columns)
      → EachInside (n + 1) ps (insert m p.rec.key p.rec.columns) new result → EachInside n (p ∷ ps) m new result
  later_inside p ps n m new (Ok AllWritten) e h = (h.0, e ∙ h.1)
  later_inside p ps n m new (Ok (FirstUnmet k found)) e h = (h.0, e ∙ h.1)
  later_inside p ps n m new (Err s) e h = h

  each_inside : (b : List Put) (n : ℕ) (m : Contents) (old new : Connected S) (result : Result BatchWritten Stopped) → AllByRecursion put_fits b → are_distinct (put_keys b) ≡ true → IsInside base m (state g old) → PutsEach g n b old new result → EachInside n b m (state g new) result
  each_inside [] n m old new result fits once it h = subst (EachInside n [] m (state g new)) (sym h.1) (subst (λ (c : Connected S). IsInside base m (state g c)) (sym h.0) it, refl)
  each_inside (p ∷ ps) n m old new result fits once it h =
      by h.1 (put_inside m p old h.0 h.1 fits.0 it h.2) h.3 (λ inside more. each_inside ps (n + 1) (insert m p.rec.key p.rec.columns) h.0 new result fits.1 parts.1 inside more)
    where
      parts : (has_key (put_keys ps) p.rec.key ≡ false) × (are_distinct (put_keys ps) ≡ true)
      parts = once_parts (has_key (put_keys ps) p.rec.key) (are_distinct (put_keys ps)) once

      by : (one : Result Written Stopped) → WrittenInside m p (state g h.0) one → Continues n h.0 new result (PutsEach g (n + 1) ps h.0 new result) one
          → (IsInside base (insert m p.rec.key p.rec.columns) (state g h.0) → PutsEach g (n + 1) ps h.0 new result → EachInside (n + 1) ps (insert m p.rec.key p.rec.columns) (state g new) result)
          → EachInside n (p ∷ ps) m (state g new) result
      by (Ok Applied) w more rest =
          later_inside p ps n m (state g new) result (met_first p ps n m parts.0 w.1)
          (rest w.0 more)
      by (Ok (NotMet found)) w more rest =
          subst (EachInside n (p ∷ ps) m (state g new)) (sym more.1) (
            inl (m, subst (λ (c : Connected S). IsInside base m (state g c)) (sym more.0) w.0),
            ap (λ (b : Bool). cond b (unmet_from (n + 1) ps m) (Some (n, record_at m p.rec.key))) w.2 ∙ ap (λ (o : Option Record). Some (n, o)) (sym w.1),
          )
      by (Err s) w more rest = subst (EachInside n (p ∷ ps) m (state g new)) (sym more.1) (subst (λ (c : Connected S). IsLeft base (state g c)) (sym more.0) w)

---- how a transaction ends

-- what is as it was has the table
back_table : (old new : State) → HasTable old → IsBack old.now new → HasTable new
back_table old new it back = record {
  schema = ap (λ (d : Database). d.schema) back.now ∙ it.schema;
  rows = subst (λ (d : Database). AllByRecursion IsRowOfStore (d.trees 0)) (sym back.now) it.rows;
  numbered = subst (λ (d : Database). IsTable (d.trees 0)) (sym back.now) it.numbered;
  once = subst (λ (d : Database). (key : Key) → length (rows_at key (d.trees 0)) ≤ 1) (sym back.now) it.once;
  settled = back.committed ∙ sym back.now;
  autocommit = back.mode;
  unlimited = back.unlimited;
}

no_begin : {A : Type 0} → Rollback ≡ Begin → A
no_begin e = absurd (cc)

no_release : {A : Type 0} (name : List ℕ) → Rollback ≡ Release name → A
no_release name e = absurd (cc)

no_return : {A : Type 0} (name : List ℕ) → Rollback ≡ RollbackTo name → A
no_return name e = absurd (cc)

placed : (s : State) (e : Error) → IsTrue s.in_transaction → IsMisplaced s Rollback e → ⊥
placed s e inside (inl (code, inl (is, at))) = no_begin is
placed s e inside (inl (code, inr (is, outside))) = clash (sym inside ∙ outside)
placed s e inside (inr (code, name, inl is, unnamed)) = no_release name is
placed s e inside (inr (code, name, inr is, unnamed)) = no_return name is

-- ROLLBACK is one statement
is_run : (s : State) (e : Error) → s.now.schema ≡ records_schema → IsNoStatement s roll_back [] e → ⊥
is_run s e has (inl h) = subst IsPlain (sym (ap (λ x. understood x roll_back) has) ∙ h.1) roll_back_plain
is_run s e has (inr h) =
    let is = sym (ap (λ x. understood x roll_back) has) ∙ h.1 in
    let plain = subst IsPlain is roll_back_plain in
    let whole = subst (λ r. (tail_of r ≡ 8) × (names_of r ≡ 0)) is roll_back_whole in
    elim h.2 [
      | inl more ↦ more.0 (subst (λ (t : ℕ). 8 ≤ t) (sym whole.0) (omega arith))
      | inr given ↦ elim given [ inl few ↦ few.0 (sym whole.1) | inr formats ↦ formats.0 plain.1 ]
    ]

-- ROLLBACK inside of a transaction undoes it, whatever its answer
refused_undoes : (old new : State) (e : Error) → old.now.schema ≡ records_schema → IsTrue old.in_transaction → Executes roll_back [] old new (Err e) → IsRolledBack old new
unfolding ExecutesIn IsNotRun
refused_undoes old new e has inside (inl (inl h)) = absurd (is_run old e has h.0)
refused_undoes old new e has inside (inl (inr h)) = h.3
refused_undoes old new e has inside (inr h) =
    let is = sym (ap (λ x. understood x roll_back) has) ∙ h.1.is in
    let plain = subst IsPlain is roll_back_plain in
    let command = subst (λ r. command_of r ≡ Rollback) is roll_back_is in
    let shows : shows_rows false h.0 ≡ false = λ i. is_query (command i) || (not false && (is_pragma (command i) || is_some (plain.0 i))) in
    elim (rw shows at h.2) [
      | inl it ↦ absurd (elim it.0 [
        | inl misplaced ↦ placed old e inside (subst (λ k. IsMisplaced old k e) command misplaced)
        | inr changes ↦ elim changes.0 [ inl write ↦ subst IsWrite command write | inr returns ↦ clash (sym (subst (λ r. IsSome r) plain.0 returns)) ]
      ])
      | inr failed ↦ failed.3
    ]

module _ (old : State) (it : HasTable old) where
  back_again : (mid new : State) → IsTrue new.is_open → new.step_limit ≡ mid.step_limit → IsBack old.now mid → IsUnchanged mid new ⊎ IsRolledBack mid new → IsBack old.now new
  back_again mid new is_open limit back (inl same) = record {
    now = same.0.now_is ∙ back.now;
    committed = same.0.committed_is ∙ back.committed;
    mode = same.0.mode ∙ back.mode;
    unlimited = limit ∙ back.unlimited;
  }
  back_again mid new is_open limit back (inr undone) = record {
    now = (undone.undone is_open).0 ∙ back.committed;
    committed = (undone.undone is_open).1 ∙ back.committed;
    mode = undone.autocommit;
    unlimited = limit ∙ back.unlimited;
  }

  back_schema : (mid : State) → IsBack old.now mid → mid.now.schema ≡ records_schema
  back_schema mid back = ap (λ (d : Database). d.schema) back.now ∙ it.schema

  rolled_back : (mid new : State) (answer : Result ℕ Error) → IsTrue new.is_open → new.step_limit ≡ mid.step_limit → IsLeft old.now mid → Executes roll_back [] mid new answer → IsBack old.now new
  rolled_back mid new (Ok count) is_open limit (inl inside) ran =
      inside_back old.now inside.0 mid new inside.1 limit is_open (runs_as roll_back [] mid new records_schema inside.1.rows.schema Rollback roll_back_is roll_back_plain count ran).1
  rolled_back mid new (Ok count) is_open limit (inr back) ran =
      back_again mid new is_open limit back (inr (runs_as roll_back [] mid new records_schema (back_schema mid back) Rollback roll_back_is roll_back_plain count ran).1)
  rolled_back mid new (Err e) is_open limit (inl inside) failed =
      inside_back old.now inside.0 mid new inside.1 limit is_open (refused_undoes mid new e inside.1.rows.schema inside.1.mode failed)
  rolled_back mid new (Err e) is_open limit (inr back) failed = back_again mid new is_open limit back (failed_leaves roll_back [] mid new e failed)

  begun_inside : (new : State) (count : ℕ) → new.step_limit ≡ old.step_limit → Executes begin [] old new (Ok count) → IsInside old.now (contents_of_state old) new
  begun_inside new count limit ran =
      let begun = runs_as begin [] old new records_schema it.schema Begin begin_is begin_plain count ran in
      let now = begun.1.now_is in
      record {
        rows = record {
          schema = ap (λ (d : Database). d.schema) now ∙ it.schema;
          rows = subst (λ (d : Database). AllByRecursion IsRowOfStore (d.trees 0)) (sym now) it.rows;
          numbered = subst (λ (d : Database). IsTable (d.trees 0)) (sym now) it.numbered;
          once = subst (λ (d : Database). (key : Key) → length (rows_at key (d.trees 0)) ≤ 1) (sym now) it.once;
          unlimited = limit ∙ it.unlimited;
        };
        contents = ap (λ (d : Database). contents_of_rows (d.trees 0)) now;
        committed = begun.1.committed_is ∙ it.settled;
        mode = begun.1.mode;
      }

  committed_table : (m : Contents) (mid new : State) (count : ℕ) → new.step_limit ≡ mid.step_limit → IsInside old.now m mid → Executes commit [] mid new (Ok count) → HasTable new × (contents_of_state new ≡ m)
  committed_table m mid new count limit inside ran =
      let done = runs_as commit [] mid new records_schema inside.rows.schema Commit commit_is commit_plain count ran in
      let now = done.1.now_is in (
        record {
          schema = ap (λ (d : Database). d.schema) now ∙ inside.rows.schema;
          rows = subst (λ (d : Database). AllByRecursion IsRowOfStore (d.trees 0)) (sym now) inside.rows.rows;
          numbered = subst (λ (d : Database). IsTable (d.trees 0)) (sym now) inside.rows.numbered;
          once = subst (λ (d : Database). (key : Key) → length (rows_at key (d.trees 0)) ≤ 1) (sym now) inside.rows.once;
          settled = done.1.committed_is ∙ sym now;
          autocommit = done.1.mode;
          unlimited = limit ∙ inside.rows.unlimited;
        },
        ap (λ (d : Database). contents_of_rows (d.trees 0)) now ∙ inside.contents,
      )

---- the answer of a batch

applied_all : (b : List Put) (m n : Contents) → unmet_from 1 b m ≡ None → n ≡ all_put b m → Performs (PutAll b) reply.Applied m n
applied_all b m n met e = (ap reply_of_batch (sym met), e ∙ ap (λ (o : Option (ℕ × Option Record)). cond (is_none o) (all_put b m) m) (sym met))

refused_all : (b : List Put) (m n : Contents) (k : ℕ) (found : Option Record) → unmet_from 1 b m ≡ Some (k, found) → n ≡ m → Performs (PutAll b) (reply.NotAll k found) m n
refused_all b m n k found unmet e = (ap reply_of_batch (sym unmet), e ∙ ap (λ (o : Option (ℕ × Option Record)). cond (is_none o) (all_put b m) m) (sym unmet))

module _ {S : Type 0} (g : Ghosts S) (sure : (c : Connected S) → IsSure g c) (b : List Put) (old : Connected S) (it : HasTable (state g old)) where
  -- it is as it was
  as_before : (new : Connected S) → IsBack (state g old).now (state g new) → contents_of_state (state g new) ≡ contents_of_state (state g old)
  as_before new back = ap (λ (d : Database). contents_of_rows (d.trees 0)) back.now

  stopped_all : (new : Connected S) (s : Stopped) (result : Result BatchWritten Stopped) → result ≡ Err s → IsBack (state g old).now (state g new) → IsAnswered (PutAll b) (batch_reply result) (state g old) (state g new)
  stopped_all new s result is back = subst (λ (r : Result BatchWritten Stopped). IsAnswered (PutAll b) (batch_reply r) (state g old) (state g new)) (sym is)
      (record { kept = back_table (state g old) (state g new) it back; performed = stopped_performs (PutAll b) s (contents_of_state (state g old)) (contents_of_state (state g new)) (as_before new back) })

  back_by : (mid new : Connected S) → IsLeft (state g old).now (state g mid) → RollsBack g mid new → IsBack (state g old).now (state g new)
  back_by mid new left back = rolled_back (state g old) it (state g mid) (state g new) back.0 (sure new).0 back.1.limit left (back.1.runs (sure new).1)

  commits_told : (mid new : Connected S) (result : Result BatchWritten Stopped) → IsInside (state g old).now (all_put b (contents_of_state (state g old))) (state g mid) → unmet_from 1 b (contents_of_state (state g old)) ≡ None → Commits g mid new result
      → IsAnswered (PutAll b) (batch_reply result) (state g old) (state g new)
  commits_told mid new result inside met (inl done) =
      let kept = committed_table (state g old) it (all_put b (contents_of_state (state g old))) (state g mid) (state g new) done.0 done.1.limit inside (done.1.runs (sure new).1) in
      subst (λ (r : Result BatchWritten Stopped). IsAnswered (PutAll b) (batch_reply r) (state g old) (state g new)) (sym done.2)
      (record { kept = kept.0; performed = applied_all b (contents_of_state (state g old)) (contents_of_state (state g new)) met kept.1 })
  commits_told mid new result inside met (inr failed) =
      let left = inside_left (state g old).now _ (state g mid) (state g failed.1) inside failed.2.limit (sure failed.1).0 (failed_leaves commit [] (state g mid) (state g failed.1) failed.0 (failed.2.runs (sure failed.1).1)) in
      stopped_all new (stopped_by failed.0) result failed.4 (back_by failed.1 new left failed.3)

  ends_told : (mid new : Connected S) (written result : Result BatchWritten Stopped) → EachInside g sure (state g old).now 1 b (contents_of_state (state g old)) (state g mid) written → Ends g mid new result written → IsAnswered (PutAll b) (batch_reply result) (state g old) (state g new)
  ends_told mid new (Ok AllWritten) result each ends = commits_told mid new result each.0 each.1 ends
  ends_told mid new (Ok (FirstUnmet k found)) result each ends =
      let back = back_by mid new each.0 ends.0 in
      subst (λ (r : Result BatchWritten Stopped). IsAnswered (PutAll b) (batch_reply r) (state g old) (state g new)) (sym ends.1)
      (record { kept = back_table (state g old) (state g new) it back; performed = refused_all b (contents_of_state (state g old)) (contents_of_state (state g new)) k found each.1 (as_before new back) })
  ends_told mid new (Err s) result each ends = stopped_all new s result ends.1 (back_by mid new each ends.0)

  pub batch_told : (new : Connected S) (result : Result BatchWritten Stopped) → All put_fits b → are_distinct (put_keys b) ≡ true → PutsAll g b old new result → IsAnswered (PutAll b) (batch_reply result) (state g old) (state g new)
  batch_told new result fits once (inl refused) =
      let keeps = failed_keeps begin [] (state g old) (state g new) refused.0 it (sure new).0 refused.1.limit (refused.1.runs (sure new).1) in
      subst (λ (r : Result BatchWritten Stopped). IsAnswered (PutAll b) (batch_reply r) (state g old) (state g new)) (sym refused.2)
      (record { kept = keeps.0; performed = stopped_performs (PutAll b) (stopped_by refused.0) (contents_of_state (state g old)) (contents_of_state (state g new)) (ap (λ (d : Database). contents_of_rows (d.trees 0)) keeps.1) })
  batch_told new result fits once (inr put) =
      let inside = begun_inside (state g old) it (state g put.begun) put.count put.begins.limit (put.begins.runs (sure put.begun).1) in
      ends_told put.last new put.written result (each_inside g sure (state g old).now b 1 (contents_of_state (state g old)) put.begun put.last put.written (recursion_from_All put_fits b fits) once inside put.puts) put.ends

---- the puts one after another

pub each_more : {S : Type 0} (g : Ghosts S) (n : ℕ) (p : Put) (ps : List Put) (old mid new : Connected S) (result : Result BatchWritten Stopped) → Puts g p.rec p.condition old mid (Ok Applied) → PutsEach g (n + 1) ps mid new result → PutsEach g n (p ∷ ps) old new result
each_more g n p ps old mid new result put rest = (mid, Ok Applied, put, rest)

pub each_unmet : {S : Type 0} (g : Ghosts S) (n k : ℕ) (p : Put) (ps : List Put) (old new : Connected S) (found : Option Record) → k ≡ n → Puts g p.rec p.condition old new (Ok (NotMet found)) → PutsEach g n (p ∷ ps) old new (Ok (FirstUnmet k found))
each_unmet g n k p ps old new found same put = (new, Ok (NotMet found), put, (refl, ap (λ j. Ok (FirstUnmet j found)) same))

pub each_stopped : {S : Type 0} (g : Ghosts S) (n : ℕ) (p : Put) (ps : List Put) (old new : Connected S) (s : Stopped) → Puts g p.rec p.condition old new (Err s) → PutsEach g n (p ∷ ps) old new (Err s)
each_stopped g n p ps old new s put = (new, Err s, put, (refl, refl))
