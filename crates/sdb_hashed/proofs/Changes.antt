-- Changes of what is at one key.
use Rattle.std.proofs.Common.{◌≡◌, Bool, List, true, false, cond, Option, Some, None, refl, sym, ap, ◌∙◌}
use Rattle.std.specs.Prelude.{if◌then◌else◌, is_some}
use Rattle.std.specs.Option.{option_map}
use Rattle.std.specs.Ordering.{eq_by_cmp}
use Rattle.std.specs.FinMap.{get, insert, remove, get-insert, get-remove, same_map}
use Rattle.sdb_hashed.specs.Types.{Condition, Key, Pair, Record}
use Rattle.sdb_types.specs.declared.record.Request.TheVariants.{PutIf, DeleteIf}
use Rattle.sdb_types.specs.Order.{key_cmp}
use Rattle.sdb_types.specs.Contents.{Contents, record_of, holds, after}
use Rattle.sdb_types.specs.Exact.{equal_of}
use Rattle.sdb_types.proofs.Public.{key_exact, key_total}
use Rattle.sdb_store.specs.Batches.{replaced}

-- A change of what is at k alone: other keys keep what they have, and what k then has comes from what it had.
pub record IsLocal (k : Key) (op : Contents → Contents) : Type 0 where
  pub elsewhere : (m : Contents) (q : Key) → eq_by_cmp key_cmp q k ≡ false → get (op m) q ≡ get m q
  pub alike : (m n : Contents) (q : Key) → get m q ≡ get n q → get m k ≡ get n k → get (op m) q ≡ get (op n) q

pub nothing_local : (k : Key) → IsLocal k (λ m. m)
nothing_local k = record { elsewhere = λ m q h. refl; alike = λ m n q e at. e }

pub insert_local : (k : Key) (v : List Pair) → IsLocal k (λ m. insert m k v)
insert_local k v = record {
  elsewhere = λ m q h. get-insert key_total m k v q ∙ ap (λ b. cond b (Some v) (get m q)) h;
  alike = λ m n q e at. get-insert key_total m k v q ∙ ap (cond (eq_by_cmp key_cmp q k) (Some v)) e ∙ sym (get-insert key_total n k v q);
}

pub remove_local : (k : Key) → IsLocal k (λ m. remove m k)
remove_local k = record {
  elsewhere = λ m q h. get-remove key_total m k q ∙ ap (λ b. cond b None (get m q)) h;
  alike = λ m n q e at. get-remove key_total m k q ∙ ap (cond (eq_by_cmp key_cmp q k) None) e ∙ sym (get-remove key_total n k q);
}

-- a change that is made where a condition holds of what is at the key
if_local : (k : Key) (op : Contents → Contents) (test : Option (List Pair) → Bool) → IsLocal k op → IsLocal k (λ m. if test (get m k) then op m else m)
if_local k op test local = record {
  elsewhere = λ m q h. elim (test (get m k)) as (λ b. get (cond b (op m) m) q ≡ get m q) [ true ↦ local.elsewhere m q h | false ↦ refl ];
  alike = λ m n q e at.
      elim (test (get m k)) as (λ b. get (cond b (op m) m) q ≡ get (cond b (op n) n) q) [ true ↦ local.alike m n q e at | false ↦ e ]
      ∙ ap (λ o. get (cond (test o) (op n) n) q) at;
}

pub put_local : (rec : Record) (condition : Condition) → IsLocal rec.key (after (PutIf rec condition))
put_local rec condition = if_local rec.key (λ m. insert m rec.key rec.columns) (λ o. holds condition (option_map (λ columns. record_of (rec.key, columns)) o)) (insert_local rec.key rec.columns)

pub delete_local : (k : Key) (condition : Condition) → IsLocal k (after (DeleteIf k condition))
delete_local k condition = if_local k (λ m. remove m k) (λ o. holds condition (option_map (λ columns. record_of (k, columns)) o)) (remove_local k)

-- nothing is removed where there is nothing
pub remove_absent : (m : Contents) (k : Key) → get m k ≡ None → remove m k ≡ m
remove_absent m k none = same_map key_total key_exact (remove m k) m (λ q.
    get-remove key_total m k q
    ∙ elim (eq_by_cmp key_cmp q k) as (λ b. eq_by_cmp key_cmp q k ≡ b → cond b None (get m q) ≡ get m q) [
      | true ↦ λ p. sym none ∙ ap (get m) (sym (key_exact q k (equal_of (key_cmp q k) p)))
      | false ↦ λ p. refl
    ] refl)

pub replace_local : (r : Record) → IsLocal r.key (replaced r)
replace_local r = if_local r.key (λ m. insert m r.key r.columns) is_some (insert_local r.key r.columns)

-- and nothing is put over nothing
pub replace_absent : (m : Contents) (r : Record) → get m r.key ≡ None → replaced r m ≡ m
replace_absent m r none = ap (λ (o : Option (List Pair)). cond (is_some o) (insert m r.key r.columns) m) none
