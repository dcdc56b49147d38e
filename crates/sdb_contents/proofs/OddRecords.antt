-- The records that a scan shows to break the rules are at their keys.
use Rattle.std.proofs.Common.{◌≡◌, ◌∙◌, inl, inr, ℕ, zero, suc, Bool, true, false, List, [], ◌∷◌, take, Option, Some, None, refl, sym, ap}
use Rattle.std.specs.Prelude.{Contains, find, not, slice_get}
use Rattle.std.specs.List.{AllByRecursion, list_all}
use Rattle.std.specs.Option.{option_map, option_map_or}
use Rattle.std.specs.Ordering.{is_eq}
use Rattle.sdb_contents.specs.Types.{Decided, Key, Place, Record, Table, TableName, TxId}
use Rattle.sdb_types.specs.Contents.{Contents, in_span, record_at, rise, rows_in}
use Rattle.sdb_types.specs.Exact.{equal_of}
use Rattle.sdb_types.specs.Order.{table_cmp}
use Rattle.sdb_types.proofs.Public.{and_first, and_second, none_some, rows_in-are_rows_of, some_is, table_exact}
use Rattle.sdb_record.specs.Coordinator.{coordinator_table, is_coordinator_table}
use Rattle.law_protocol.proofs.Public.{row_there}
use Rattle.sdb_model.specs.Events.{StoreContents, contents_under, stored_at, store_of}
use Rattle.sdb_contents.specs.Opening.{records_of, whole}
use Rattle.sdb_contents.specs.Decided.{is_decided}
use Rattle.sdb_contents.specs.Dumped.{is_well_formed}
use Rattle.sdb_contents.specs.Odd.{IsOddAt, first_ill_formed, first_in, first_of}
use Rattle.sdb_contents.specs.Refused.{first_unlike}
use Rattle.sdb_contents.proofs.Coordinated.{row_found}
use Rattle.sdb_contents.proofs.DumpLists.{first_or_later, found_in_list, none_in}

not_so : (b : Bool) → not b ≡ true → b ≡ false
not_so true e = let f = e in cc
not_so false e = refl

all_in : (p : Record → Bool) (rs : List Record) (r : Record) → list_all p rs ≡ true → Contains rs r → p r ≡ true
all_in p [] r all among = absurd (none_in r among)
all_in p (x ∷ rs) r all among = elim (first_or_later x r rs among) [
  | inl same ↦ ap p (sym same) ∙ and_first (p x) (list_all p rs) all
  | inr more ↦ all_in p rs r (and_second (p x) (list_all p rs) all) more
]

-- a record of a table, in the order of its scan, is at its key
pub record Scanned (places : List Place) (store_contents : List StoreContents) (table : TableName) (r : Record) : Type 0 where
  pub agrees : stored_at places store_contents r.key ≡ Some r
  pub table_is : table ≡ r.key.table

scanned : (places : List Place) (store_contents : List StoreContents) (table : TableName) (r : Record) → Contains (records_of places store_contents table) r → Scanned places store_contents table r
scanned places store_contents table r among = by (contents_under store_contents (store_of places store_contents table.ns)) refl among
  where
    by : (o : Option Contents) → contents_under store_contents (store_of places store_contents table.ns) ≡ o → Contains (option_map_or (rows_in (whole table)) o []) r → Scanned places store_contents table r
    by None e h = absurd (none_in r h)
    by (Some m) e h =
        let lawful = rows_in-are_rows_of (whole table) m in
        let within : in_span (whole table) r.key ≡ true = all_in (λ x. in_span (whole table) x.key) (rows_in (whole table) m) r (and_second (rise (rows_in (whole table) m)) (list_all (λ x. in_span (whole table) x.key) (rows_in (whole table) m)) lawful) h in
        let found : record_at m r.key ≡ Some r = sym (row_there (whole table) r.key m within) ∙ row_found (rows_in (whole table) m) r (and_first (rise (rows_in (whole table) m)) (list_all (λ x. in_span (whole table) x.key) (rows_in (whole table) m)) lawful) h in
        let named : table ≡ r.key.table = table_exact table r.key.table (equal_of (table_cmp table r.key.table) (and_first (is_eq (table_cmp table r.key.table)) true within)) in
        record {
          agrees = ap (λ (t : TableName). option_map_or (λ (x : Contents). record_at x r.key) (contents_under store_contents (store_of places store_contents t.ns)) None) (sym named) ∙ ap (λ (x : Option Contents). option_map_or (λ (y : Contents). record_at y r.key) x None) e ∙ found;
          table_is = named;
        }

-- the first record that isn't so
pub record Unlike (places : List Place) (store_contents : List StoreContents) (table : TableName) (is_so : Record → Bool) (key : Key) : Type 0 where
  pub found : Record
  pub agrees : stored_at places store_contents key ≡ Some found
  pub table_is : table ≡ found.key.table
  pub bad : is_so found ≡ false

unlike : (places : List Place) (store_contents : List StoreContents) (table : TableName) (is_so : Record → Bool) (key : Key) → first_unlike is_so (records_of places store_contents table) ≡ Some key → Unlike places store_contents table is_so key
unlike places store_contents table is_so key h = by (find (λ r. not (is_so r)) (records_of places store_contents table)) refl h
  where
    by : (o : Option Record) → find (λ r. not (is_so r)) (records_of places store_contents table) ≡ o → option_map (λ (r : Record). r.key) o ≡ Some key → Unlike places store_contents table is_so key
    by None e k = absurd (none_some key k)
    by (Some r) e k =
        let there = found_in_list (λ (x : Record). not (is_so x)) (records_of places store_contents table) r e in
        let s = scanned places store_contents table r there.0 in
        record { found = r; agrees = ap (stored_at places store_contents) (sym (some_is r.key key k)) ∙ s.agrees; table_is = s.table_is; bad = not_so (is_so r) there.1 }

-- of the coordinator's table
pub odd_row : (catalog : List Table) (places : List Place) (store_contents : List StoreContents) (decide : TxId → Option Decided) (key : Key) → first_unlike is_decided (records_of places store_contents coordinator_table) ≡ Some key → IsOddAt catalog places store_contents decide key
odd_row catalog places store_contents decide key h =
    let u = unlike places store_contents coordinator_table is_decided key h in
    record { found = u.found; agrees = u.agrees; odd = inr (ap is_coordinator_table (sym u.table_is), u.bad) }

-- of a table of the catalog
pub odd_record : (catalog : List Table) (places : List Place) (store_contents : List StoreContents) (decide : TxId → Option Decided) (t : Table) (key : Key) → Contains catalog t → first_ill_formed decide places store_contents t ≡ Some key → IsOddAt catalog places store_contents decide key
odd_record catalog places store_contents decide t key listed h =
    let u = unlike places store_contents t.name (is_well_formed decide t) key h in
    record { found = u.found; agrees = u.agrees; odd = inl (record { table = t; listed = listed; named = u.table_is; ill_formed = u.bad }) }

---- table by table

none_both : (a b : Option Key) → first_of a b ≡ None → (a ≡ None) × (b ≡ None)
none_both None b h = (refl, h)
none_both (Some k) b h = absurd (none_some k (sym h))

-- where the tables before give none, the first of the next is the first of all
pub first_behind : (f : Table → Option Key) (ts : List Table) (i : ℕ) (t : Table) (key : Key) → slice_get ts i ≡ Some t → first_in f (take i ts) ≡ None → f t ≡ Some key → first_in f ts ≡ Some key
first_behind f [] i t key here none first = absurd (none_some t here)
first_behind f (x ∷ ts) zero t key here none first = ap (λ (o : Option Key). first_of o (first_in f ts)) (ap f (some_is x t here) ∙ first)
first_behind f (x ∷ ts) (suc i) t key here none first =
    let both = none_both (f x) (first_in f (take i ts)) none in
    ap (λ (o : Option Key). first_of o (first_in f ts)) both.0 ∙ first_behind f ts i t key here both.1 first

-- where no table gives one, there is none
pub none_of_all : (f : Table → Option Key) (ts : List Table) → ((i : ℕ) (t : Table) → slice_get ts i ≡ Some t → f t ≡ None) → first_in f ts ≡ None
none_of_all f [] none = refl
none_of_all f (t ∷ ts) none = ap (λ (o : Option Key). first_of o (first_in f ts)) (none 0 t refl) ∙ none_of_all f ts (λ i u here. none (suc i) u here)

-- what tables give that give the same
pub first_same : (f g : Table → Option Key) (ts : List Table) → AllByRecursion (λ (t : Table). f t ≡ g t) ts → first_in f ts ≡ first_in g ts
first_same f g [] h = refl
first_same f g (t ∷ ts) h = ap (λ (o : Option Key). first_of o (first_in f ts)) h.0 ∙ ap (first_of (g t)) (first_same f g ts h.1)
