-- The order of values, tables and keys.
use Rattle.std.specs.Prelude.{ℕ, ℤ, pos, Bool, true, false, not, ◌&&◌, ◌||◌, List, [], ◌∷◌, ◌++◌}
use Rattle.std.specs.List.{list_all}
use Rattle.std.specs.declared.cmp.Ordering.{Ordering}
use Rattle.std.specs.Ordering.{nat_cmp, int_cmp, bool_cmp, ordering_then, is_eq}
use Rattle.std.specs.Cmp.Lexicographic.{slice_cmp}
use Rattle.sdb_types.specs.declared.value.Value.{Value}
use Rattle.sdb_types.specs.declared.value.Value.TheVariants as value
use Rattle.sdb_types.specs.declared.key.TableName.{TableName}
use Rattle.sdb_types.specs.declared.key.Key.{Key}

-- the place of a value's kind
abbrev pub kind_of : Value → ℕ
kind_of value.Null = 0
kind_of (value.Bool b) = 1
kind_of (value.Int n) = 2
kind_of (value.BigInt n) = 3
kind_of (value.Text text) = 4
kind_of (value.Blob bytes) = 5

abbrev pub truth_of : Value → Bool
truth_of value.Null = false
truth_of (value.Bool b) = b
truth_of (value.Int n) = false
truth_of (value.BigInt n) = false
truth_of (value.Text text) = false
truth_of (value.Blob bytes) = false

abbrev pub number_of : Value → ℤ
number_of value.Null = pos 0
number_of (value.Bool b) = pos 0
number_of (value.Int n) = n
number_of (value.BigInt n) = n
number_of (value.Text text) = pos 0
number_of (value.Blob bytes) = pos 0

abbrev pub bytes_of : Value → List ℕ
bytes_of value.Null = []
bytes_of (value.Bool b) = []
bytes_of (value.Int n) = []
bytes_of (value.BigInt n) = []
bytes_of (value.Text text) = text
bytes_of (value.Blob bytes) = bytes

-- by kind, then false before true, numbers by size, texts and blobs by bytes
abbrev pub value_cmp : Value → Value → Ordering
value_cmp a b =
    ordering_then (nat_cmp (kind_of a) (kind_of b)) (ordering_then (bool_cmp (truth_of a) (truth_of b)) (ordering_then (int_cmp (number_of a) (number_of b)) (slice_cmp nat_cmp (bytes_of a) (bytes_of b))))

abbrev pub name_cmp : List ℕ → List ℕ → Ordering
name_cmp = slice_cmp nat_cmp

abbrev pub table_cmp : TableName → TableName → Ordering
table_cmp a b = ordering_then (name_cmp a.ns b.ns) (name_cmp a.table b.table)

-- by table, then by partition and by clustering values, item by item, a prefix first
abbrev pub key_cmp : Key → Key → Ordering
key_cmp a b =
    ordering_then (table_cmp a.table b.table) (ordering_then (slice_cmp value_cmp a.partition b.partition) (slice_cmp value_cmp a.clustering b.clustering))

-- two keys are one
unfoldable pub same_key : Key → Key → Bool
same_key a b = is_eq (key_cmp a b)

-- a key is among keys
abbrev pub has_key : List Key → Key → Bool
has_key [] q = false
has_key (k ∷ ks) q = has_key ks q || same_key q k

-- no key comes twice
abbrev pub are_distinct : List Key → Bool
are_distinct [] = true
are_distinct (k ∷ ks) = not (has_key ks k) && are_distinct ks

-- two keys are of one partition of one table
abbrev pub same_partition : Key → Key → Bool
same_partition a b = is_eq (table_cmp a.table b.table) && is_eq (slice_cmp value_cmp a.partition b.partition)

-- all keys are of one partition of one table
abbrev pub in_one_partition : List Key → Bool
in_one_partition [] = true
in_one_partition (k ∷ ks) = list_all (same_partition k) ks

-- `ns.table`
abbrev pub table_text : TableName → List ℕ
table_text t = t.ns ++ 46 ∷ t.table
