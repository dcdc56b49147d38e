-- What a plan gives on the rows that its transaction sees may be written.
use Rattle.std.proofs.Common.{◌≡◌, Bool, true, false, not, ◌&&◌, cond, List, [], ◌∷◌, map, Option, Some, None, refl, sym, subst}
use Rattle.std.specs.Prelude.{filter, find, is_some, unwrap_or}
use Rattle.std.specs.Option.{option_map}
use Rattle.std.specs.Ordering.{is_eq}
use Rattle.std.specs.List.{AllByRecursion, list_all}
use Rattle.std.proofs.lemmas.Bool.{and_parts}
use Rattle.sdb_client.specs.Types.{Change, Image, Key, Keyed, Pair, Statement, Table}
use Rattle.sdb_types.specs.Order.{key_cmp}
use Rattle.sdb_types.specs.Columns.{are_columns}
use Rattle.sdb_types.proofs.Public.{and_both}
use Rattle.sdb_record.specs.Parts.{are_user_columns}
use Rattle.sdb_record.specs.Rolls.{is_change}
use Rattle.sdb_record.specs.declared.write.Change.TheVariants as change
use Rattle.sdb_schema.specs.Table.{is_table}
use Rattle.sdb_schema.specs.Rows.{fits_table}
use Rattle.sdb_model.specs.declared.statement.Statement.TheVariants as statement
use Rattle.sdb_model.specs.Exec.{key_of, passes, with_sets}
use Rattle.sdb_exec.specs.Plans.{Planned, change_is_well_typed, changes_on, columns_at, finished, first_unfit, is_unfit, put_row, step_at, step_of}
use Rattle.sdb_model.specs.Reads.{access_of}
use Rattle.sdb_exec.proofs.Public.{changes_fit}
use Rattle.sdb_snapshot.specs.Reads.{ReadRecord, is_key_read}
use Rattle.sdb_snapshot.specs.Sets.{IsSetInvariant}
use Rattle.sdb_snapshot.specs.Seen.{Seen, overlay}
use Rattle.sdb_snapshot.specs.Written.{AreChanges}
use Rattle.sdb_client.specs.Inside.{IsValidPlan, IsKeyRead, MayWrite}
use Rattle.sdb_client.proofs.WrittenRows.{fitting_user, named_ordered, sets_ordered}
use Rattle.sdb_client.proofs.SeenRows.{IsSeenRow, seen_rows}

-- the columns of a row that a change leaves are in order
abbrev is_ordered : Change → Bool
is_ordered (change.Row columns) = are_columns columns
is_ordered change.Delete = true

-- a change of a key that was read
abbrev IsSeen : List ReadRecord → Keyed → Type 0
IsSeen read_set k = (is_key_read read_set k.key ≡ true) × (is_ordered k.change ≡ true)

found_ordered : (key : Key) (read_set : List ReadRecord) (rows : List Image) → AllByRecursion (IsSeenRow read_set) rows → are_columns (unwrap_or (columns_at key rows) []) ≡ true
found_ordered key read_set [] h = refl
found_ordered key read_set (r ∷ rs) h = elim (is_eq (key_cmp key r.key)) as (λ b. are_columns (unwrap_or (option_map (λ (x : Image). x.columns) (cond b (Some r) (find (λ x. is_eq (key_cmp key x.key)) rs))) []) ≡ true) [ true ↦ h.0.1 | false ↦ found_ordered key read_set rs h.1 ]

updates_seen : (read_set : List ReadRecord) (t : Table) (sets : List Pair) (p : Image → Bool) (rows : List Image) → AllByRecursion (IsSeenRow read_set) rows → AllByRecursion (IsSeen read_set) (map (λ (r : Image). record { key = r.key; change = change.Row (with_sets t sets r.columns) }) (filter p rows))
updates_seen read_set t sets p [] h = tt
updates_seen read_set t sets p (r ∷ rs) h =
    let rest = updates_seen read_set t sets p rs h.1 in
    elim (p r) as (λ b. AllByRecursion (IsSeen read_set) (map (λ (x : Image). record { key = x.key; change = change.Row (with_sets t sets x.columns) }) (cond b (r ∷ filter p rs) (filter p rs)))) [ true ↦ ((h.0.0, sets_ordered t sets r.columns h.0.1), rest) | false ↦ rest ]

deletes_seen : (read_set : List ReadRecord) (p : Image → Bool) (rows : List Image) → AllByRecursion (IsSeenRow read_set) rows → AllByRecursion (IsSeen read_set) (map (λ (r : Image). record { key = r.key; change = change.Delete }) (filter p rows))
deletes_seen read_set p [] h = tt
deletes_seen read_set p (r ∷ rs) h =
    let rest = deletes_seen read_set p rs h.1 in
    elim (p r) as (λ b. AllByRecursion (IsSeen read_set) (map (λ (x : Image). record { key = x.key; change = change.Delete }) (cond b (r ∷ filter p rs) (filter p rs)))) [ true ↦ ((h.0.0, refl), rest) | false ↦ rest ]

changes_seen : (read_set : List ReadRecord) (t : Table) (st : Statement) (rows : List Image) → AllByRecursion (IsSeenRow read_set) rows → IsKeyRead read_set (access_of t st) → AllByRecursion (IsSeen read_set) (changes_on t st rows)
changes_seen read_set t (statement.Insert s) rows h key =
    elim (is_some (columns_at (key_of t s) rows)) as (λ b. AllByRecursion (IsSeen read_set) (cond b [] (put_row (key_of t s) (Rattle.sdb_model.specs.Exec.with_named t s.columns s.values []) ∷ []))) [ true ↦ tt | false ↦ ((key, named_ordered t s.columns s.values [] refl), tt) ]
changes_seen read_set t (statement.Upsert s) rows h key = ((key, named_ordered t s.columns s.values _ (found_ordered (key_of t s) read_set rows h)), tt)
changes_seen read_set t (statement.Update s) rows h key = updates_seen read_set t s.sets (passes t s.tests) rows h
changes_seen read_set t (statement.Delete s) rows h key = deletes_seen read_set (passes t s.tests) rows h
changes_seen read_set t st rows h key = tt

change_fine : (t : Table) → is_table t ≡ true → (k : Keyed) → is_ordered k.change ≡ true → change_is_well_typed t k ≡ true → is_change k.change ≡ true
change_fine t table k o f = of_change k.change o f
  where
    of_change : (c : Change) → is_ordered c ≡ true → Rattle.sdb_exec.specs.Plans.leaves_well_typed t k.key c ≡ true → is_change c ≡ true
    of_change (change.Row columns) o f = and_both (are_columns columns) (are_user_columns columns) o (fitting_user t table k.key columns f)
    of_change change.Delete o f = refl

are_changes : (read_set : List ReadRecord) (t : Table) → is_table t ≡ true → (ks : List Keyed) → AllByRecursion (IsSeen read_set) ks → list_all (change_is_well_typed t) ks ≡ true → AreChanges read_set ks
are_changes read_set t table [] h f = tt
are_changes read_set t table (k ∷ ks) h f =
    let parts = and_parts (change_is_well_typed t k) (list_all (change_is_well_typed t) ks) f in
    ((h.0.0, change_fine t table k h.0.1 parts.0), are_changes read_set t table ks h.1 parts.1)

all_fit : (t : Table) (rows : List Image) → first_unfit t rows ≡ None → list_all (λ r. fits_table t r.key r.columns) rows ≡ true
all_fit t [] h = refl
all_fit t (r ∷ rs) h =
    elim (fits_table t r.key r.columns) as (λ b. option_map (λ (x : Image). x.key) (cond (not b) (Some r) (find (is_unfit t) rs)) ≡ None → (b && list_all (λ x. fits_table t x.key x.columns) rs) ≡ true) [
      | true ↦ λ k. all_fit t rs k
      | false ↦ λ k. absurd (cc)
    ] h

of_unfit : (read_set : List ReadRecord) (p : Planned) (rows : List Image) (o : Option Key) → IsValidPlan p → AllByRecursion (IsSeenRow read_set) rows → IsKeyRead read_set (access_of p.table p.statement) → first_unfit p.table rows ≡ o → MayWrite read_set (finished p.table p.statement rows o)
of_unfit read_set p rows (Some key) valid h read e = tt
of_unfit read_set p rows None valid h read e =
    are_changes read_set p.table valid.table (changes_on p.table p.statement rows) (changes_seen read_set p.table p.statement rows h read) (changes_fit p.table p.statement rows valid.literals valid.accepted (all_fit p.table rows e))

pub may_write : (s : Seen) (p : Planned) → IsValidPlan p → IsSetInvariant s.read_set s.writes → IsKeyRead s.read_set (access_of p.table p.statement) → MayWrite s.read_set (step_of p (overlay (access_of p.table p.statement) s))
may_write s p valid kept read =
    let rows = overlay (access_of p.table p.statement) s in
    subst (λ (b : Bool). MayWrite s.read_set (step_at b p.table p.statement rows)) (sym valid.asked)
    (of_unfit s.read_set p rows (first_unfit p.table rows) valid (seen_rows s (access_of p.table p.statement) kept) read refl)
