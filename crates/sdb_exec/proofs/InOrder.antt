-- The rows of an access rise by key, and so do the changes on such rows.
use Rattle.std.proofs.Common.{◌≡◌, List, [], ◌∷◌, Bool, true, false, cond, map, Option, Some, None, refl, ap, ◌∙◌}
use Rattle.std.specs.Prelude.{filter, is_some}
use Rattle.std.specs.List.{list_all}
use Rattle.std.specs.Ordering.{is_lt}
use Rattle.std.specs.FinMap.{entries, is_sorted}
use Rattle.std.specs.FinMap.Entries.{below_all}
use Rattle.std.proofs.lemmas.Bool.{and_parts}
use Rattle.sdb_exec.specs.Types.{Access, Change, Image, Key, Keyed, Pair, Statement, Table}
use Rattle.sdb_types.specs.Order.{key_cmp}
use Rattle.sdb_record.specs.declared.write.Change.TheVariants as change
use Rattle.sdb_model.specs.declared.statement.Statement.TheVariants as statement
use Rattle.sdb_model.specs.Exec.{Tables, row_of_entry, passes, key_of, with_sets}
use Rattle.sdb_model.specs.Access.{in_access, rows_at}
use Rattle.sdb_exec.specs.Plans.{keys_rise, row_keys, change_keys, columns_at, changes_on}
use Rattle.sdb_exec.proofs.Laid.{keyed}
use Rattle.sdb_exec.proofs.Local.{ordered}

above_filter : (ok : Key → Bool) (p : Image → Bool) (rs : List Image) → list_all ok (row_keys rs) ≡ true → list_all ok (row_keys (filter p rs)) ≡ true
above_filter ok p [] h = refl
above_filter ok p (r ∷ rs) h =
    let parts = and_parts (ok r.key) (list_all ok (row_keys rs)) h in
    let rest : list_all ok (row_keys (filter p rs)) ≡ true = above_filter ok p rs parts.1 in
    elim (p r) as (λ b. list_all ok (row_keys (cond b (r ∷ filter p rs) (filter p rs))) ≡ true) [ true ↦ rw (parts.0, rest) refl | false ↦ rest ]

filter_rises : (p : Image → Bool) (rs : List Image) → keys_rise (row_keys rs) ≡ true → keys_rise (row_keys (filter p rs)) ≡ true
filter_rises p [] h = refl
filter_rises p (r ∷ rs) h =
    let parts = and_parts (list_all (λ q. is_lt (key_cmp r.key q)) (row_keys rs)) (keys_rise (row_keys rs)) h in
    let rest : keys_rise (row_keys (filter p rs)) ≡ true = filter_rises p rs parts.1 in
    let above : list_all (λ q. is_lt (key_cmp r.key q)) (row_keys (filter p rs)) ≡ true = above_filter (λ q. is_lt (key_cmp r.key q)) p rs parts.0 in
    elim (p r) as (λ b. keys_rise (row_keys (cond b (r ∷ filter p rs) (filter p rs))) ≡ true) [ true ↦ rw (above, rest) refl | false ↦ rest ]

above_entries : (k : Key) (es : List (Key × List Pair)) → below_all key_cmp k es ≡ true → list_all (λ q. is_lt (key_cmp k q)) (row_keys (map row_of_entry es)) ≡ true
above_entries k [] h = refl
above_entries k (e ∷ es) h =
    let parts = and_parts (is_lt (key_cmp k e.0)) (below_all key_cmp k es) h in
    let rest : list_all (λ q. is_lt (key_cmp k q)) (row_keys (map row_of_entry es)) ≡ true = above_entries k es parts.1 in
    rw (parts.0, rest) refl

entries_rise : (es : List (Key × List Pair)) → is_sorted key_cmp es ≡ true → keys_rise (row_keys (map row_of_entry es)) ≡ true
entries_rise [] h = refl
entries_rise (e ∷ es) h =
    let parts = and_parts (below_all key_cmp e.0 es) (is_sorted key_cmp es) h in
    let above : list_all (λ q. is_lt (key_cmp e.0 q)) (row_keys (map row_of_entry es)) ≡ true = above_entries e.0 es parts.0 in
    let rest : keys_rise (row_keys (map row_of_entry es)) ≡ true = entries_rise es parts.1 in
    rw (above, rest) refl

pub rows_rise : (a : Access) (d : Tables) → keys_rise (row_keys (rows_at a d)) ≡ true
rows_rise a d = filter_rises (λ r. in_access a r.key) _ (entries_rise (entries d) (ordered d))

keyed_keys : (new : Image → Change) (rs : List Image) → change_keys (map (keyed new) rs) ≡ row_keys rs
keyed_keys new [] = refl
keyed_keys new (r ∷ rs) = ap (λ ks. r.key ∷ ks) (keyed_keys new rs)

one_rises : (o : Option (List Pair)) (w : Keyed) → keys_rise (change_keys (cond (is_some o) [] (w ∷ []))) ≡ true
one_rises None w = refl
one_rises (Some x) w = refl

pub changes_rise : (t : Table) (s : Statement) (rows : List Image) → keys_rise (row_keys rows) ≡ true → keys_rise (change_keys (changes_on t s rows)) ≡ true
changes_rise t (statement.Insert s) rows h = one_rises (columns_at (key_of t s) rows) _
changes_rise t (statement.Upsert s) rows h = refl
changes_rise t (statement.Update s) rows h = ap keys_rise (keyed_keys (λ r. change.Row (with_sets t s.sets r.columns)) (filter (passes t s.tests) rows)) ∙ filter_rises (passes t s.tests) rows h
changes_rise t (statement.Delete s) rows h = ap keys_rise (keyed_keys (λ r. change.Delete) (filter (passes t s.tests) rows)) ∙ filter_rises (passes t s.tests) rows h
changes_rise t (statement.Select s) rows h = refl
changes_rise t statement.Begin rows h = refl
changes_rise t statement.Commit rows h = refl
changes_rise t statement.Rollback rows h = refl
changes_rise t statement.Vacuum rows h = refl
