-- What the statements that write leave.
use Rattle.std.proofs.Common.{◌≡◌, ◌⊎◌, inl, inr, ℕ, ℤ, ◌≤◌, List, [], ◌∷◌, map, filter, length, Bool, true, false, cond, None, Ok, Err, Result, refl, sym, ap, subst, ◌∙◌, IsPermutation, arith}
use Rattle.std.specs.Prelude.{IsTrue, not, ◌&&◌}
use Rattle.std.specs.List.{AllByRecursion}
use Rattle.std.specs.FinMap.{insert, remove}
use Rattle.std.proofs.lemmas.Bool.{cases_Bool}
use Rattle.sdb_sqlite.specs.Types.{Error, Key, Record, Value}
use Rattle.sqlite.specs.declared.types.Value.TheVariants.{Null, Int, Text, Blob}
use Rattle.sqlite.specs.Order.{Row}
use Rattle.sqlite.specs.Ops.{unary}
use Rattle.sqlite.specs.Term.{Term}
use Rattle.sqlite.specs.Tree.{Trees, IsTable, put_row, without_rowid}
use Rattle.sqlite.specs.Kind.TheVariants.{Integer}
use Rattle.sqlite.specs.Source.TheVariants.{Values}
use Rattle.sqlite.specs.Command.TheVariants.{Insert, Update, Delete}
use Rattle.sqlite.specs.Program.{IsProgramAnswer}
use Rattle.sqlite.specs.Edit.{edit_of, edited, next_rowid, is_taken}
use Rattle.sqlite.specs.Cast.{cast}
use Rattle.sqlite_rules.specs.Calls.{ids_of}
use Rattle.sqlite.specs.Rowids.TheVariants.{Chosen, Given}
use Rattle.sqlite.specs.Does.{Tally, Does}
use Rattle.sqlite.specs.Rows.{Written as Step}
use Rattle.sqlite.specs.Listing.{understood}
use Rattle.sqlite.specs.Effect.{Database}
use Rattle.sqlite.specs.State.{State, mode_of, Executes, ExecutesIn, IsNotRun, IsUnchanged, IsRolledBack, shows_rows}
use Rattle.sqlite.proofs.Callers.{statement_of, runs_as, one_step}
use Rattle.sqlite_trees.proofs.TreeLemmas.{all-put_row, IsTable-put_row}
use Rattle.sdb_types.specs.Order.{table_text}
use Rattle.sdb_types.specs.Fits.{key_fits, record_fits}
use Rattle.sdb_codec.specs.Spelling.{key_bytes, record_bytes, KeyIsEncodable, RecordIsEncodable}
use Rattle.sdb_sqlite.specs.Spans.{partition_key}
use Rattle.sdb_sqlite.specs.Statements.{add_row, change_row, remove_row}
use Rattle.sdb_sqlite.specs.Table.{records, records_schema}
use Rattle.sdb_sqlite.specs.Rows.{stored, IsRowOfStore, has_key, rows_at, contents_of_rows}
use Rattle.sdb_types.specs.Contents.{Contents}
use Rattle.sdb_sqlite.specs.Database.{HasTable, HoldsRows, contents_of_state}
use Rattle.sdb_sqlite.proofs.Texts.{by_k, selected, insert_terms, insert_is, insert_plain, update_shown, update_is, update_plain, delete_shown, delete_is, delete_plain}
use Rattle.sdb_sqlite.proofs.Lists.{few_permutation, passed}
use Rattle.sdb_sqlite.proofs.Queries.{passes, answered, unchanged_keeps, undone_keeps, observed_in, rows_held}
use Rattle.sdb_sqlite.proofs.Gets.{keys_passed, tied_key, of_key}
use Rattle.sdb_sqlite.proofs.Edits.{inserted, removed, once_after, row_of, row_tied, row_key_is, row_columns_are, added_own, added_other, taken_own, taken_other, changed_own, changed_other, kept_tied, kept_table}

---- parts of what a statement does

-- whatever the statement is, where it fails nothing changed or the transaction is undone
pub failed_leaves : (sql : List ℕ) (params : Row) (old new : State) (e : Error) → Executes sql params old new (Err e) → IsUnchanged old new ⊎ IsRolledBack old new
unfolding ExecutesIn IsNotRun
failed_leaves sql params old new e (inl (inl h)) = inl h.1
failed_leaves sql params old new e (inl (inr h)) = inr h.3
failed_leaves sql params old new e (inr h) =
    elim (cases_Bool (shows_rows false h.0)) [
      | inl shows ↦ inl (rw shows at h.2).1
      | inr runs ↦ elim (rw runs at h.2) [ inl it ↦ inl it.1 | inr it ↦ inr it.3 ]
    ]

pub failed_keeps : (sql : List ℕ) (params : Row) (old new : State) (e : Error) → HasTable old → IsTrue new.is_open → new.step_limit ≡ old.step_limit → Executes sql params old new (Err e) → HasTable new × (new.now ≡ old.now)
failed_keeps sql params old new e it is_open limit h = elim (failed_leaves sql params old new e h) [
  | inl same ↦ unchanged_keeps old new it same limit
  | inr back ↦ undone_keeps old new it back is_open limit
]

either : (b : Bool) (x : Value) → cond b x x ≡ x
either true x = refl
either false x = refl

cast_null : cast Integer Null ≡ Null
unfolding unary
cast_null = either _ Null

cast_int : (n : ℤ) → cast Integer (Int n) ≡ Int n
unfolding unary
cast_int n = either _ (Int n)

pub went : {B E R : Type 0} {b : B} {Stops : E → Type 0} → ((stop : E) × Stops stop × (Ok b ≡ Err stop)) ⊎ R → R
went (inl stopped) = absurd (let e = stopped.2 in cc)
went (inr on) = on

pub same_value : {B E : Type 0} {a b : B} → ◌≡◌ {A = Result B E} (Ok a) (Ok b) → a ≡ b
same_value e = cc

not_true : (b : Bool) → (not b && true) ≡ true → b ≡ false
not_true true h = sym h
not_true false h = refl

-- what a write leaves beside the rows
pub record Leaves (old new : State) (left : List Row) : Type 0 where
  pub schema : new.now.schema ≡ records_schema
  pub rows : new.now.trees 0 ≡ left
  pub committed : new.committed ≡ cond old.in_transaction old.committed new.now
  pub mode : new.in_transaction ≡ old.in_transaction

-- A write that leaves these contents: outside of a transaction it is committed.
pub record Wrote (old new : State) (left : Contents) : Type 0 where
  pub held : HoldsRows new
  pub contents : contents_of_state new ≡ left
  pub committed : new.committed ≡ cond old.in_transaction old.committed new.now
  pub mode : new.in_transaction ≡ old.in_transaction

-- what is kept then
held_by : (old new : State) (rows : List Row) → HoldsRows old → new.step_limit ≡ old.step_limit → Leaves old new rows → AllByRecursion IsRowOfStore rows → IsTable rows → ((key : Key) → length (rows_at key rows) ≤ 1) → HoldsRows new
held_by old new rows it limit h tied up once = record {
  schema = h.schema;
  rows = subst (AllByRecursion IsRowOfStore) (sym h.rows) tied;
  numbered = subst IsTable (sym h.rows) up;
  once = subst (λ (xs : List Row). (key : Key) → length (rows_at key xs) ≤ 1) (sym h.rows) once;
  unlimited = limit ∙ it.unlimited;
}

-- outside of a transaction
settled_by : (old new : State) (left : Contents) → HasTable old → Wrote old new left → HasTable new × (contents_of_state new ≡ left)
settled_by old new left it w = (
  record {
    schema = w.held.schema;
    rows = w.held.rows;
    numbered = w.held.numbered;
    once = w.held.once;
    settled = w.committed ∙ ap (λ (b : Bool). cond b old.committed new.now) it.autocommit;
    autocommit = w.mode ∙ it.autocommit;
    unlimited = w.held.unlimited;
  },
  w.contents,
)

---- the INSERT

abbrev new_row : Record → List Row → Row
new_row r rows = row_of (next_rowid rows) r

abbrev insert_params : Record → Row
insert_params r = Blob (key_bytes r.key) ∷ Text (table_text r.key.table) ∷ Blob (key_bytes (partition_key r.key.table r.key.partition)) ∷ Blob (record_bytes r) ∷ []

adds : (old new : State) (r : Record) (count : ℕ) → HoldsRows old → Executes add_row (insert_params r) old new (Ok count)
    → Leaves old new (put_row (new_row r (old.now.trees 0)) (old.now.trees 0)) × (is_taken (old.now.trees 0) (new_row r (old.now.trees 0)) ≡ false)
adds old new r count it h =
    let params = insert_params r in
    let db = old.now.trees in
    let x = new_row r (db 0) in
    let command = Insert 0 (Values insert_terms 5) in
    let w = runs_as add_row params old new records_schema it.schema command insert_is insert_plain count h in
    let text = statement_of add_row (understood records_schema add_row) in
    let done = went (subst (λ s. Does old.step_limit (mode_of old) params (record old.now { schema = s }) text None command (Ok (w.tally, new.now))) it.schema w.changed) in
    let now = ap (λ (p : Tally × Database). p.1) (same_value (went (went done.2).2).2) in
    let given = went done.1 in
    let written = went (went given.2).2 in
    let counted = went written.2 in
    let trees : done.0.trees ≡ written.0 = ap (λ (s : Step). s.trees) (same_value counted.2) ∙ same_value counted.1 in
    let edit = edit_of db records [] Chosen 0 given.0 in
    let step = one_step records_schema _ db written.0 edit refl written.1 in
    let news : edit.news ≡ x ∷ [] = ap (λ all. (edit_of db records [] Chosen 0 all).news) given.1.1 ∙ rw cast_null refl in
    let rows : edited db edit ≡ put_row x (db 0) = ap (λ all. edited db (edit_of db records [] Chosen 0 all)) given.1.1 ∙ rw cast_null refl in
    let fresh = rw news at step.fresh in (
      record {
        schema = ap (λ (d : Database). d.schema) now;
        rows = ap (λ (d : Database). d.trees 0) now ∙ ap (λ (t : Trees). t 0) trees ∙ step.rows ∙ rows;
        committed = w.shown.committed_is;
        mode = w.shown.mode;
      },
      not_true _ fresh,
    )

-- An INSERT of a record leaves the map with the record, where it had none of its key.
pub insert_wrote : (old new : State) (r : Record) (count : ℕ) → HoldsRows old → record_fits r → RecordIsEncodable r → new.step_limit ≡ old.step_limit → rows_at r.key (old.now.trees 0) ≡ [] → Executes add_row (insert_params r) old new (Ok count)
    → Wrote old new (insert (contents_of_state old) r.key r.columns)
insert_wrote old new r count it known fits limit none h =
    let rows = old.now.trees 0 in
    let x = new_row r rows in
    let id = next_rowid rows in
    let a = adds old new r count it h in
    let is = row_key_is id r known fits in
    let own = added_own rows x r.key is none a.1 in
    let other = added_other rows x r.key is none a.1 in
    record {
      held = held_by old new (put_row x rows) it limit a.0 (all-put_row IsRowOfStore x rows (row_tied id r known fits) it.rows) (IsTable-put_row x rows it.numbered) (once_after rows (put_row x rows) x (x ∷ []) (omega arith) it.once own other);
      contents = ap contents_of_rows a.0.rows ∙ inserted rows (put_row x rows) x own other ∙ (λ i. insert (contents_of_state old) (is i) (row_columns_are id r known fits i));
      committed = a.0.committed;
      mode = a.0.mode;
    }

pub insert_told : (old new : State) (r : Record) (count : ℕ) → HasTable old → record_fits r → RecordIsEncodable r → new.step_limit ≡ old.step_limit → rows_at r.key (old.now.trees 0) ≡ [] → Executes add_row (insert_params r) old new (Ok count)
    → HasTable new × (contents_of_state new ≡ insert (contents_of_state old) r.key r.columns)
insert_told old new r count it known fits limit none h = settled_by old new _ it (insert_wrote old new r count (rows_held old it) known fits limit none h)

---- the one row that a query by key shows

one_shown : (db : Trees) (shown : List Term) (q : Key) (others : Row) (y : Row) (rows : List Row) → key_fits q → KeyIsEncodable q → AllByRecursion IsRowOfStore (db 0) → rows_at q (db 0) ≡ y ∷ []
    → IsProgramAnswer [] (selected by_k shown) db (Blob (key_bytes q) ∷ others) rows → rows ≡ observed_in by_k shown (Blob (key_bytes q) ∷ others) y ∷ []
one_shown db shown q others y rows known fits tied one h =
    let params = Blob (key_bytes q) ∷ others in
    let passing : filter (passes by_k params) (db 0) ≡ y ∷ [] = keys_passed q others known fits (db 0) tied ∙ one in
    few_permutation (observed_in by_k shown params y ∷ []) rows (omega arith) (subst (λ (xs : List Row). IsPermutation (map (observed_in by_k shown params) xs) rows) passing (answered db by_k shown params rows h))

---- the UPDATE

updates : (old new : State) (q : Key) (id : ℤ) (t p b c : List ℕ) (count : ℕ) → HoldsRows old → key_fits q → KeyIsEncodable q → rows_at q (old.now.trees 0) ≡ stored id (key_bytes q) t p b ∷ [] → Executes change_row (Blob (key_bytes q) ∷ Blob c ∷ []) old new (Ok count)
    → Leaves old new (put_row (stored id (key_bytes q) t p c) (without_rowid id (old.now.trees 0)))
updates old new q id t p b c count it known fits one h =
    let k = key_bytes q in
    let params = Blob k ∷ Blob c ∷ [] in
    let db = old.now.trees in
    let command = Update 0 (record { lets = []; body = selected by_k update_shown }) in
    let w = runs_as change_row params old new records_schema it.schema command update_is update_plain count h in
    let text = statement_of change_row (understood records_schema change_row) in
    let done = went (subst (λ s. Does old.step_limit (mode_of old) params (record old.now { schema = s }) text None command (Ok (w.tally, new.now))) it.schema w.changed) in
    let now = ap (λ (p : Tally × Database). p.1) (same_value (went (went done.2).2).2) in
    let read = went done.1 in
    let rows : read.0 ≡ (Int id ∷ Int id ∷ Blob k ∷ Text t ∷ Blob p ∷ Blob c ∷ []) ∷ [] = one_shown db update_shown q (Blob c ∷ []) (stored id k t p b) read.0 known fits it.rows one read.1.answer in
    let written = went read.2 in
    let trees : done.0.trees ≡ written.0 = ap (λ (s : Step). s.trees) (same_value written.2) in
    let edit = edit_of db records (ids_of read.0) Given 1 read.0 in
    let step = one_step records_schema _ db written.0 edit refl written.1 in
    let made : edited db edit ≡ put_row (stored id k t p c) (without_rowid id (db 0)) = ap (λ all. edited db (edit_of db records (ids_of all) Given 1 all)) rows ∙ rw (cast_int id) refl in
    record {
      schema = ap (λ (d : Database). d.schema) now;
      rows = ap (λ (d : Database). d.trees 0) now ∙ ap (λ (s : Trees). s 0) trees ∙ step.rows ∙ made;
      committed = w.shown.committed_is;
      mode = w.shown.mode;
    }

-- the row of a key is one that the store writes
abbrev body_row : ℤ → Key → List ℕ → Row
body_row id q body = stored id (key_bytes q) (table_text q.table) (key_bytes (partition_key q.table q.partition)) body

the_row : (q : Key) (rows : List Row) (y : Row) → AllByRecursion IsRowOfStore rows → rows_at q rows ≡ y ∷ [] → (it : IsRowOfStore y) × (has_key q y ≡ true) × (y ≡ body_row it.id q it.body)
the_row q rows y tied one =
    let both = subst (AllByRecursion (λ x. IsRowOfStore x × (has_key q x ≡ true))) one (passed IsRowOfStore (has_key q) rows tied) in
    let it : IsRowOfStore y = both.0.0 in
    let same : it.key ≡ q = sym (of_key q y both.0.1 ∙ tied_key y it) in
    (it, both.0.1, it.is ∙ ap (λ (k : Key). body_row it.id k it.body) same)

-- An UPDATE of a record's row leaves the map with the record.
pub update_wrote : (old new : State) (r : Record) (y : Row) (count : ℕ) → HoldsRows old → record_fits r → RecordIsEncodable r → new.step_limit ≡ old.step_limit → rows_at r.key (old.now.trees 0) ≡ y ∷ []
    → Executes change_row (Blob (key_bytes r.key) ∷ Blob (record_bytes r) ∷ []) old new (Ok count) → Wrote old new (insert (contents_of_state old) r.key r.columns)
update_wrote old new r y count it known fits limit one h =
    let rows = old.now.trees 0 in
    let there = the_row r.key rows y it.rows one in
    let id = there.0.id in
    let x = row_of id r in
    let z = body_row id r.key there.0.body in
    let one_z : rows_at r.key rows ≡ z ∷ [] = one ∙ ap (λ v. v ∷ []) there.2 in
    let of_z : has_key r.key z ≡ true = ap (has_key r.key) (sym there.2) ∙ there.1 in
    let a = updates old new r.key id _ _ there.0.body (record_bytes r) count it known.key fits.key one_z h in
    let is = row_key_is id r known fits in
    let own = changed_own rows it.numbered r.key z id refl of_z one_z x refl is in
    let other = changed_other rows it.numbered r.key z id refl of_z one_z x refl is in
    let news = put_row x (without_rowid id rows) in
    record {
      held = held_by old new news it limit a (all-put_row IsRowOfStore x (without_rowid id rows) (row_tied id r known fits) (kept_tied id rows it.rows)) (IsTable-put_row x (without_rowid id rows) (kept_table id rows it.numbered)) (once_after rows news x (x ∷ []) (omega arith) it.once own other);
      contents = ap contents_of_rows a.rows ∙ inserted rows news x own other ∙ (λ i. insert (contents_of_state old) (is i) (row_columns_are id r known fits i));
      committed = a.committed;
      mode = a.mode;
    }

pub update_told : (old new : State) (r : Record) (y : Row) (count : ℕ) → HasTable old → record_fits r → RecordIsEncodable r → new.step_limit ≡ old.step_limit → rows_at r.key (old.now.trees 0) ≡ y ∷ []
    → Executes change_row (Blob (key_bytes r.key) ∷ Blob (record_bytes r) ∷ []) old new (Ok count) → HasTable new × (contents_of_state new ≡ insert (contents_of_state old) r.key r.columns)
update_told old new r y count it known fits limit one h = settled_by old new _ it (update_wrote old new r y count (rows_held old it) known fits limit one h)

---- the DELETE

deletes : (old new : State) (q : Key) (id : ℤ) (t p b : List ℕ) (count : ℕ) → HoldsRows old → key_fits q → KeyIsEncodable q → rows_at q (old.now.trees 0) ≡ stored id (key_bytes q) t p b ∷ [] → Executes remove_row (Blob (key_bytes q) ∷ []) old new (Ok count)
    → Leaves old new (without_rowid id (old.now.trees 0))
deletes old new q id t p b count it known fits one h =
    let k = key_bytes q in
    let params = Blob k ∷ [] in
    let db = old.now.trees in
    let command = Delete 0 (record { lets = []; body = selected by_k delete_shown }) in
    let w = runs_as remove_row params old new records_schema it.schema command delete_is delete_plain count h in
    let text = statement_of remove_row (understood records_schema remove_row) in
    let done = went (subst (λ s. Does old.step_limit (mode_of old) params (record old.now { schema = s }) text None command (Ok (w.tally, new.now))) it.schema w.changed) in
    let now = ap (λ (p : Tally × Database). p.1) (same_value (went (went done.2).2).2) in
    let read = went done.1 in
    let rows : read.0 ≡ (Int id ∷ []) ∷ [] = one_shown db delete_shown q [] (stored id k t p b) read.0 known fits it.rows one read.1.answer in
    let written = went read.2 in
    let trees : done.0.trees ≡ written.0 = ap (λ (s : Step). s.trees) (same_value written.2) in
    let edit = edit_of db records (ids_of read.0) Given 0 [] in
    let step = one_step records_schema _ db written.0 edit refl written.1 in
    let made : edited db edit ≡ without_rowid id (db 0) = ap (λ all. edited db (edit_of db records (ids_of all) Given 0 [])) rows in
    record {
      schema = ap (λ (d : Database). d.schema) now;
      rows = ap (λ (d : Database). d.trees 0) now ∙ ap (λ (s : Trees). s 0) trees ∙ step.rows ∙ made;
      committed = w.shown.committed_is;
      mode = w.shown.mode;
    }

-- A DELETE of a key's row leaves the map without the key.
delete_wrote : (old new : State) (q : Key) (y : Row) (count : ℕ) → HoldsRows old → key_fits q → KeyIsEncodable q → new.step_limit ≡ old.step_limit → rows_at q (old.now.trees 0) ≡ y ∷ [] → Executes remove_row (Blob (key_bytes q) ∷ []) old new (Ok count)
    → Wrote old new (remove (contents_of_state old) q)
delete_wrote old new q y count it known fits limit one h =
    let rows = old.now.trees 0 in
    let there = the_row q rows y it.rows one in
    let id = there.0.id in
    let z = body_row id q there.0.body in
    let one_z : rows_at q rows ≡ z ∷ [] = one ∙ ap (λ v. v ∷ []) there.2 in
    let of_z : has_key q z ≡ true = ap (has_key q) (sym there.2) ∙ there.1 in
    let a = deletes old new q id _ _ there.0.body count it known fits one_z h in
    let own = taken_own rows it.numbered q z id refl of_z one_z in
    let other = taken_other rows it.numbered q z id refl of_z one_z in
    let news = without_rowid id rows in
    record {
      held = held_by old new news it limit a (kept_tied id rows it.rows) (kept_table id rows it.numbered) (once_after rows news z [] (omega arith) it.once own other);
      contents = ap contents_of_rows a.rows ∙ removed rows news z own other ∙ ap (remove (contents_of_state old)) (sym (of_key q z of_z));
      committed = a.committed;
      mode = a.mode;
    }

pub delete_told : (old new : State) (q : Key) (y : Row) (count : ℕ) → HasTable old → key_fits q → KeyIsEncodable q → new.step_limit ≡ old.step_limit → rows_at q (old.now.trees 0) ≡ y ∷ [] → Executes remove_row (Blob (key_bytes q) ∷ []) old new (Ok count)
    → HasTable new × (contents_of_state new ≡ remove (contents_of_state old) q)
delete_told old new q y count it known fits limit one h = settled_by old new _ it (delete_wrote old new q y count (rows_held old it) known fits limit one h)
