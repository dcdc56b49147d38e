-- The rows that a statement writes hold user columns alone, in their order.
use Rattle.std.proofs.Common.{◌≡◌, ℕ, Bool, true, false, not, ◌&&◌, cond, List, [], ◌∷◌, Option, Some, None, refl, subst}
use Rattle.std.specs.Prelude.{find, is_ok, Result}
use Rattle.std.specs.Option.{option_map, option_map_or}
use Rattle.std.specs.List.{list_all}
use Rattle.std.proofs.lemmas.Bool.{and_parts}
use Rattle.sdb_client.specs.Types.{Column, Key, Pair, Table, TableRefused, Value}
use Rattle.sdb_types.specs.Columns.{are_columns, with_column}
use Rattle.sdb_types.proofs.Public.{and_both, with_column-are_columns}
use Rattle.sdb_record.specs.Names.{is_user, same_name}
use Rattle.sdb_record.specs.Parts.{are_user_columns, is_column_name, is_user_pair}
use Rattle.sdb_schema.specs.Table.{refuse, none_of, first_unknown, first_listed_twice, first_repeated, first_reserved, checked_table, is_table, is_reserved, key_names, rises}
use Rattle.sdb_schema.specs.Rows.{fits_table, is_of_column, is_stored_in, is_value_of}
use Rattle.sdb_model.specs.Rows.{Name, is_key_column, literal_at}
use Rattle.sdb_model.specs.Exec.{with_named, with_sets}
use Rattle.sdb_record.proofs.Public.{same_name-true as same}

---- user columns

refuse-valid : {A B : Type 0} (o : Option A) (f : A → TableRefused) (after : Result B TableRefused) → is_ok (refuse o f after) ≡ true → (o ≡ None) × (is_ok after ≡ true)
refuse-valid None f after h = (refl, h)
refuse-valid (Some a) f after h = absurd (cc)

none_reserved : (t : Table) → is_ok (checked_table t) ≡ true → first_reserved t.columns ≡ None
unfolding checked_table
none_reserved t h =
    let a = refuse-valid (none_of t.partition) _ _ h in
    let b = refuse-valid (first_unknown t.columns (key_names t)) _ _ a.1 in
    let c = refuse-valid (first_unknown t.columns t.indexed) _ _ b.1 in
    let d = refuse-valid (first_listed_twice t.columns) _ _ c.1 in
    let e = refuse-valid (first_repeated [] (key_names t)) _ _ d.1 in
    (refuse-valid (first_reserved t.columns) _ _ e.1).0

-- each column of a table has a user's name of at most 64 bytes
abbrev are_users : List Column → Bool
are_users cs = list_all (λ c. is_user c.name && is_column_name c.name) cs

unnot : (b : Bool) → not (not b) ≡ true → b ≡ true
unnot true h = refl
unnot false h = cc

users : (cs : List Column) → list_all (λ c. is_column_name c.name) cs ≡ true → first_reserved cs ≡ None → are_users cs ≡ true
users [] n r = refl
users (c ∷ cs) n r =
    let parts = and_parts (is_column_name c.name) (list_all (λ (d : Column). is_column_name d.name) cs) n in
    elim (is_user c.name) as (λ b. option_map (λ (d : Column). d.name) (cond (not b) (Some c) (find (λ d. is_reserved d.name) cs)) ≡ None → ((b && is_column_name c.name) && are_users cs) ≡ true) [
      | true ↦ λ k. and_both (is_column_name c.name) (are_users cs) parts.0 (users cs parts.1 k)
      | false ↦ λ k. absurd (cc)
    ] r

of_column : (cs : List Column) (name : List ℕ) (v : Value) → are_users cs ≡ true → is_of_column cs name v ≡ true → (is_user name && is_column_name name) ≡ true
of_column [] name v u h = absurd (cc)
of_column (c ∷ cs) name v u h =
    let parts = and_parts (is_user c.name && is_column_name c.name) (are_users cs) u in
    elim (same_name c.name name) as (λ b. same_name c.name name ≡ b → option_map_or (λ k. Rattle.sdb_schema.specs.Rows.is_of_kind k v) (option_map (λ (d : Column). d.kind) (cond b (Some c) (find (λ d. same_name d.name name) cs))) false ≡ true → (is_user name && is_column_name name) ≡ true) [
      | true ↦ λ e k. subst (λ n. (is_user n && is_column_name n) ≡ true) (same c.name name e) parts.0
      | false ↦ λ e k. of_column cs name v parts.1 k
    ] refl h

stored_user : (t : Table) → are_users t.columns ≡ true → (ps : List Pair) → list_all (is_stored_in t) ps ≡ true → are_user_columns ps ≡ true
stored_user t u [] h = refl
stored_user t u (p ∷ ps) h =
    let parts = and_parts (is_stored_in t p) (list_all (is_stored_in t) ps) h in
    let of_it = and_parts (is_of_column t.columns p.name p.value) _ (and_parts (not _) (is_value_of t.columns p.name p.value) parts.0).1 in
    and_both (is_user_pair p && is_column_name p.name) (are_user_columns ps) (of_column t.columns p.name p.value u of_it.0) (stored_user t u ps parts.1)

pub table_users : (t : Table) → is_table t ≡ true → are_users t.columns ≡ true
table_users t h =
    let parts = and_parts (list_all (λ c. is_column_name c.name) t.columns) (is_ok (checked_table t)) (and_parts (rises t.columns) _ h).1 in
    users t.columns parts.0 (none_reserved t parts.1)

pub fitting_user : (t : Table) → is_table t ≡ true → (key : Key) (ps : List Pair) → fits_table t key ps ≡ true → are_user_columns ps ≡ true
fitting_user t h key ps fits = stored_user t (table_users t h) ps (and_parts _ (list_all (is_stored_in t) ps) (and_parts _ _ fits).1).1

---- columns in their order

pub named_ordered : (t : Table) (ns : List Name) (vs : List Value) (ps : List Pair) → are_columns ps ≡ true → are_columns (with_named t ns vs ps) ≡ true
named_ordered t [] vs ps h = h
named_ordered t (n ∷ ns) [] ps h = h
named_ordered t (n ∷ ns) (v ∷ vs) ps h =
    let p : Pair = record { name = n; value = literal_at t n v } in
    named_ordered t ns vs (cond (is_key_column t n) ps (with_column p ps)) (elim (is_key_column t n) as (λ b. are_columns (cond b ps (with_column p ps)) ≡ true) [ true ↦ h | false ↦ with_column-are_columns p ps h ])

pub sets_ordered : (t : Table) (sets ps : List Pair) → are_columns ps ≡ true → are_columns (with_sets t sets ps) ≡ true
sets_ordered t [] ps h = h
sets_ordered t (s ∷ sets) ps h = sets_ordered t sets _ (with_column-are_columns (record { name = s.name; value = literal_at t s.name s.value }) ps h)
