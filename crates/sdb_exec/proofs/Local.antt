-- A statement's answer and changes are those that it has on the rows of its access.
use Rattle.std.proofs.Common.{◌≡◌, List, [], ◌∷◌, Bool, true, false, not, ◌||◌, cond, map, length, Option, Some, None, refl, sym, ap, ◌∙◌}
use Rattle.std.specs.Prelude.{filter, is_some, unwrap_or}
use Rattle.std.specs.Ordering.{is_eq}
use Rattle.std.specs.FinMap.{get, insert, entries, entries_sorted, find, is_sorted, get-entries, get-from_entries, get-from_sorted, entries-from_sorted, from_sorted, same_map}
use Rattle.std.specs.FinMap.Entries.{where_key, is_sorted-where_key, find-where_key}
use Rattle.sdb_exec.specs.Types.{Access, Image, Key, Pair, Statement, Table, Test}
use Rattle.sdb_types.specs.Order.{key_cmp}
use Rattle.sdb_types.proofs.Public.{cond_some as each, key_exact, key_total, truth as true_from_T}
use Rattle.sdb_model.specs.declared.statement.Statement.TheVariants as statement
use Rattle.sdb_record.specs.declared.access.Access.TheVariants as access
use Rattle.sdb_model.specs.declared.answer.Answer.TheVariants as answer
use Rattle.sdb_record.specs.declared.write.Change.TheVariants as change
use Rattle.sdb_schema.specs.Table.{is_table}
use Rattle.sdb_model.specs.Exec.{Tables, all_rows, row_of_entry, tables_of_rows, is_row_of, passes, with_sets, key_of, with_named, answer_of, left_by, projected, cut, sorted}
use Rattle.sdb_model.specs.Reads.{access_for, access_of}
use Rattle.sdb_model.specs.Access.{in_access, rows_at, with_changes}
use Rattle.sdb_exec.specs.Plans.{has_shape, are_shaped, put_row, columns_at, answer_on, changes_on}
use Rattle.sdb_exec.proofs.Narrow.{narrow, tests_imply_access}
use Rattle.sdb_exec.proofs.Laid.{outcome, keyed, laid, mapped_at, find-mapped, sieved_at, find-sieved}
use Rattle.sdb_model.proofs.Public.{where_rows}

-- the rows that pass are found among those of the access
pub passing : (t : Table) (ts : List Test) (d : Tables) → is_table t ≡ true → are_shaped t (all_rows d) ≡ true → filter (passes t ts) (all_rows d) ≡ filter (passes t ts) (rows_at (access_for t ts) d)
passing t ts d table shaped = narrow (passes t ts) (λ r. in_access (access_for t ts) r.key) (λ r. not (is_row_of t r) || has_shape t r.key) (tests_imply_access t ts table) (all_rows d) shaped

-- the row at a key is found among those of the access to that key
at_one : (k : Key) (es : List (Key × List Pair)) → columns_at k (filter (λ r. is_eq (key_cmp k r.key)) (map row_of_entry es)) ≡ find key_cmp k es
at_one k [] = refl
at_one k (e ∷ es) =
    let rest = at_one k es in
    elim (is_eq (key_cmp k e.0)) as (λ b. is_eq (key_cmp k e.0) ≡ b → columns_at k (cond b (row_of_entry e ∷ filter (λ r. is_eq (key_cmp k r.key)) (map row_of_entry es)) (filter (λ r. is_eq (key_cmp k r.key)) (map row_of_entry es))) ≡ cond b (Some e.1) (find key_cmp k es)) [
      | true ↦ λ h. rw h refl
      | false ↦ λ h. rest
    ] refl

pub found_at : (k : Key) (d : Tables) → get d k ≡ columns_at k (rows_at (access.Get k) d)
found_at k d = get-entries d k ∙ sym (at_one k (entries d))

-- the whole tables mapped are the tables with the changes of the rows that pass
update_at : (p : Image → Bool) (f : Image → List Pair) (q : Key) (o : Option (List Pair))
    → mapped_at (λ r. cond (p r) (record { key = r.key; columns = f r }) r) q o ≡ outcome p (λ r. change.Row (f r)) q o o
update_at p f q None = refl
update_at p f q (Some c) = elim (p (row_of_entry (q, c))) as (λ b. Some (cond b (record { key = q; columns = f (row_of_entry (q, c)) }) (row_of_entry (q, c))).columns ≡ cond b (Some (f (row_of_entry (q, c)))) (Some c)) [ true ↦ refl | false ↦ refl ]

keeps_key : (b : Bool) (r : Image) (c : List Pair) → (cond b (record { key = r.key; columns = c }) r).key ≡ r.key
keeps_key true r c = refl
keeps_key false r c = refl

pub ordered : (d : Tables) → is_sorted key_cmp (entries d) ≡ true
ordered d = true_from_T _ (entries_sorted d)

pub updates : (p : Image → Bool) (f : Image → List Pair) (d : Tables)
    → tables_of_rows (map (λ r. cond (p r) (record { key = r.key; columns = f r }) r) (all_rows d)) ≡ with_changes d (map (keyed (λ r. change.Row (f r))) (filter p (all_rows d)))
updates p f d = same_map key_total key_exact _ _ (λ q.
    get-from_entries key_total _ q
    ∙ find-mapped (λ r. cond (p r) (record { key = r.key; columns = f r }) r) (λ r. keeps_key (p r) r (f r)) (entries d) q
    ∙ update_at p f q (find key_cmp q (entries d))
    ∙ ap (outcome p (λ r. change.Row (f r)) q (find key_cmp q (entries d))) (sym (get-entries d q))
    ∙ sym (laid p (λ r. change.Row (f r)) (entries d) d q (ordered d)))

delete_at : (p : Image → Bool) (q : Key) (o : Option (List Pair)) → sieved_at (λ r. not (p r)) q o ≡ outcome p (λ r. change.Delete) q o o
delete_at p q None = refl
delete_at p q (Some c) = elim (p (row_of_entry (q, c))) as (λ b. cond (not b) (Some c) None ≡ cond b None (Some c)) [ true ↦ refl | false ↦ refl ]

pub deletes : (p : Image → Bool) (d : Tables) → tables_of_rows (filter (λ r. not (p r)) (all_rows d)) ≡ with_changes d (map (keyed (λ r. change.Delete)) (filter p (all_rows d)))
deletes p d = same_map key_total key_exact _ _ (λ q.
    get-from_entries key_total _ q
    ∙ find-sieved (λ r. not (p r)) (entries d) q (ordered d)
    ∙ delete_at p q (find key_cmp q (entries d))
    ∙ ap (outcome p (λ r. change.Delete) q (find key_cmp q (entries d))) (sym (get-entries d q))
    ∙ sym (laid p (λ r. change.Delete) (entries d) d q (ordered d)))

-- the answer

pub same_answer : (t : Table) (s : Statement) (d : Tables) → is_table t ≡ true → are_shaped t (all_rows d) ≡ true → answer_of t s d ≡ answer_on t s (rows_at (access_of t s) d)
same_answer t (statement.Insert s) d table shaped = ap (λ o. cond (is_some o) (answer.Duplicate (key_of t s)) (answer.Count 1)) (found_at (key_of t s) d)
same_answer t (statement.Upsert s) d table shaped = refl
same_answer t (statement.Update s) d table shaped = ap (λ rs. answer.Count (length rs)) (passing t s.tests d table shaped)
same_answer t (statement.Delete s) d table shaped = ap (λ rs. answer.Count (length rs)) (passing t s.tests d table shaped)
same_answer t (statement.Select s) d table shaped = ap (λ rs. answer.Rows (map (projected t s.columns) (cut s.limit (sorted t rs)))) (passing t s.tests d table shaped)
same_answer t statement.Begin d table shaped = refl
same_answer t statement.Commit d table shaped = refl
same_answer t statement.Rollback d table shaped = refl
same_answer t statement.Vacuum d table shaped = refl

-- and the tables after

inserted : (d : Tables) (k : Key) (c : List Pair) (o p : Option (List Pair)) → o ≡ p → cond (is_some o) d (insert d k c) ≡ with_changes d (cond (is_some p) [] (put_row k c ∷ []))
inserted d k c o None e = rw e refl
inserted d k c o (Some x) e = rw e refl

pub same_after : (t : Table) (s : Statement) (d : Tables) → is_table t ≡ true → are_shaped t (all_rows d) ≡ true → left_by t s d ≡ with_changes d (changes_on t s (rows_at (access_of t s) d))
same_after t (statement.Insert s) d table shaped = inserted d (key_of t s) _ _ _ (found_at (key_of t s) d)
same_after t (statement.Upsert s) d table shaped = ap (λ o. insert d (key_of t s) (with_named t s.columns s.values (unwrap_or o []))) (found_at (key_of t s) d)
same_after t (statement.Update s) d table shaped =
    updates (passes t s.tests) (λ r. with_sets t s.sets r.columns) d ∙ ap (λ rs. with_changes d (map (keyed (λ r. change.Row (with_sets t s.sets r.columns))) rs)) (passing t s.tests d table shaped)
same_after t (statement.Delete s) d table shaped =
    deletes (passes t s.tests) d ∙ ap (λ rs. with_changes d (map (keyed (λ r. change.Delete)) rs)) (passing t s.tests d table shaped)
same_after t (statement.Select s) d table shaped = refl
same_after t statement.Begin d table shaped = refl
same_after t statement.Commit d table shaped = refl
same_after t statement.Rollback d table shaped = refl
same_after t statement.Vacuum d table shaped = refl

-- two tables that agree at the access's keys

pub part : (p : Key → Bool) → Tables → Tables
part p d = from_sorted (where_key key_cmp p (entries d))

pub entries-part : (p : Key → Bool) (d : Tables) → entries (part p d) ≡ where_key key_cmp p (entries d)
unfolding part
entries-part p d = entries-from_sorted key_cmp _ (is_sorted-where_key key_cmp p (entries d) (entries_sorted d))

pub get-part : (p : Key → Bool) (d : Tables) (q : Key) → get (part p d) q ≡ cond (p q) (get d q) None
unfolding part
get-part p d q =
    get-from_sorted key_cmp _ q (is_sorted-where_key key_cmp p (entries d) (entries_sorted d))
    ∙ find-where_key key_cmp p q (λ x e. ap p (sym (key_exact q x e))) (entries d)
    ∙ ap (λ o. cond (p q) o None) (sym (get-entries d q))

pub agree_rows : (a : Access) (d e : Tables) → ((q : Key) → in_access a q ≡ true → get d q ≡ get e q) → rows_at a d ≡ rows_at a e
agree_rows a d e h =
    let one : part (in_access a) d ≡ part (in_access a) e = same_map key_total key_exact _ _ (λ q. get-part (in_access a) d q ∙ each (in_access a q) (get d q) (get e q) (h q) ∙ sym (get-part (in_access a) e q)) in
    where_rows (in_access a) (entries d) ∙ ap (map row_of_entry) (sym (entries-part (in_access a) d) ∙ ap entries one ∙ entries-part (in_access a) e) ∙ sym (where_rows (in_access a) (entries e))
