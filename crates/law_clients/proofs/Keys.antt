-- The keys that a plan's changes are of are those that its statement writes on plain tables.
use Rattle.std.proofs.Common.{◌≡◌, Bool, true, false, not, ◌||◌, List, [], ◌∷◌, ◌++◌, map, length, Some, refl, sym, ap, ◌∙◌}
use Rattle.std.specs.Prelude.{filter, if◌then◌else◌, is_some, nat_lt}
use Rattle.std.specs.Option.{option_map_or}
use Rattle.std.specs.List.{list_all, list_any}
use Rattle.std.specs.FinMap.{get}
use Rattle.std.proofs.lemmas.List.{length-map}
use Rattle.law_clients.specs.Types.{Image, Key, Keyed, Statement, Table, Write}
use Rattle.sdb_types.specs.Order.{same_key}
use Rattle.sdb_schema.specs.Table.{is_table}
use Rattle.sdb_schema.specs.Rows.{fits_table}
use Rattle.sdb_model.specs.declared.statement.Statement.TheVariants as statement
use Rattle.sdb_model.specs.Access.{rows_at}
use Rattle.sdb_model.specs.Exec.{Tables, all_rows, exec, is_row_of, key_of, named_table, passes, with_named}
use Rattle.sdb_model.specs.Serial.{run_body}
use Rattle.sdb_exec.specs.Plans.{are_shaped, changes_on, put_row}
use Rattle.sdb_model.specs.Reads.{access_of}
use Rattle.sdb_exec.proofs.Public.{all_shaped, found_at, passing}
use Rattle.sdb_snapshot.specs.Reads.{ReadRecord}
use Rattle.sdb_snapshot.specs.Written.{most_writes, with_write, with_writes, write_of}
use Rattle.sdb_txn.specs.Txn.{TxnAt}
use Rattle.sdb_client.specs.Client.{too_many}
use Rattle.law_clients.specs.Keys.{keys_of_body, keys_on, keys_written, pass_with, with_keys}

---- writes

one_key : (ws : List Write) (w : Write) → map (λ (x : Write). x.key) (with_write ws w) ≡ (if list_any (same_key w.key) (map (λ (x : Write). x.key) ws) then map (λ (x : Write). x.key) ws else map (λ (x : Write). x.key) ws ++ w.key ∷ [])
one_key [] w = refl
one_key (x ∷ ws) w = by (same_key w.key x.key) (list_any (same_key w.key) (map (λ (y : Write). y.key) ws)) (one_key ws w)
  where
    by : (b c : Bool) → map (λ (y : Write). y.key) (with_write ws w) ≡ (if c then map (λ (y : Write). y.key) ws else map (λ (y : Write). y.key) ws ++ w.key ∷ []) → map (λ (y : Write). y.key) (if b then record { key = x.key; base = x.base; change = w.change } ∷ ws else x ∷ with_write ws w) ≡ (if b || c then x.key ∷ map (λ (y : Write). y.key) ws else x.key ∷ (map (λ (y : Write). y.key) ws ++ w.key ∷ []))
    by true c h = refl
    by false true h = ap (λ ks. x.key ∷ ks) h
    by false false h = ap (λ ks. x.key ∷ ks) h

pub keys_with : (read_set : List ReadRecord) (ws : List Write) (ks : List Keyed) → map (λ (w : Write). w.key) (with_writes read_set ws ks) ≡ with_keys (map (λ (w : Write). w.key) ws) (map (λ (k : Keyed). k.key) ks)
keys_with read_set ws [] = refl
keys_with read_set ws (k ∷ ks) = keys_with read_set (with_write ws (write_of read_set k)) ks ∙ ap (λ qs. with_keys qs (map (λ (x : Keyed). x.key) ks)) (one_key ws (write_of read_set k))

---- rows that fit have the shape of their table

---- a statement's changes

map_map : {A B C : Type 0} (f : B → C) (g : A → B) (xs : List A) → map f (map g xs) ≡ map (λ x. f (g x)) xs
map_map f g [] = refl
map_map f g (x ∷ xs) = ap (λ ys. f (g x) ∷ ys) (map_map f g xs)

changes_on_table : (t : Table) (st : Statement) (d : Tables) → is_table t ≡ true → are_shaped t (all_rows d) ≡ true → map (λ (k : Keyed). k.key) (changes_on t st (rows_at (access_of t st) d)) ≡ keys_on t st d
changes_on_table t (statement.Insert s) d table shaped = ap (λ o. map (λ (k : Keyed). k.key) (if is_some o then [] else put_row (key_of t s) (with_named t s.columns s.values []) ∷ [])) (sym (found_at (key_of t s) d)) ∙ by (is_some (get d (key_of t s)))
  where
    by : (b : Bool) → map (λ (k : Keyed). k.key) (if b then [] else put_row (key_of t s) (with_named t s.columns s.values []) ∷ []) ≡ (if b then [] else key_of t s ∷ [])
    by true = refl
    by false = refl
changes_on_table t (statement.Upsert s) d table shaped = refl
changes_on_table t (statement.Update s) d table shaped = map_map (λ (k : Keyed). k.key) _ (filter (passes t s.tests) (rows_at (access_of t (statement.Update s)) d)) ∙ ap (map (λ (r : Image). r.key)) (sym (passing t s.tests d table shaped))
changes_on_table t (statement.Delete s) d table shaped = map_map (λ (k : Keyed). k.key) _ (filter (passes t s.tests) (rows_at (access_of t (statement.Delete s)) d)) ∙ ap (map (λ (r : Image). r.key)) (sym (passing t s.tests d table shaped))
changes_on_table t (statement.Select s) d table shaped = refl
changes_on_table t statement.Begin d table shaped = refl
changes_on_table t statement.Commit d table shaped = refl
changes_on_table t statement.Rollback d table shaped = refl
changes_on_table t statement.Vacuum d table shaped = refl

pub keys_changed : (catalog : List Table) (t : Table) (st : Statement) (d : Tables) → is_table t ≡ true → named_table catalog st ≡ Some t → list_all (λ r. not (is_row_of t r) || fits_table t r.key r.columns) (all_rows d) ≡ true → map (λ (k : Keyed). k.key) (changes_on t st (rows_at (access_of t st) d)) ≡ keys_written catalog st d
keys_changed catalog t st d table named fit = changes_on_table t st d table (all_shaped t (all_rows d) fit) ∙ sym (ap (λ o. option_map_or (λ x. keys_on x st d) o []) named)

---- too many

pub many_is : (t : TxnAt) (ks : List Keyed) → too_many t ks ≡ pass_with (map (λ (w : Write). w.key) t.seen.writes) (map (λ (k : Keyed). k.key) ks)
many_is t [] = refl
many_is t (k ∷ ks) = ap (nat_lt most_writes) (sym (length-map (with_writes t.seen.read_set t.seen.writes (k ∷ ks)) (λ (w : Write). w.key)) ∙ ap (λ (qs : List Key). length qs) (keys_with t.seen.read_set t.seen.writes (k ∷ ks)))

---- one statement more

pub keys_more : (catalog : List Table) (ss : List Statement) (st : Statement) (d : Tables) (ks : List Key) → keys_of_body catalog (ss ++ st ∷ []) d ks ≡ with_keys (keys_of_body catalog ss d ks) (keys_written catalog st (run_body catalog ss d).1)
keys_more catalog [] st d ks = refl
keys_more catalog (s ∷ ss) st d ks = keys_more catalog ss st (exec catalog s d).1 (with_keys ks (keys_written catalog s d))
