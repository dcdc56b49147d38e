-- The order of a table's rows by their keys.
use Rattle.std.specs.Prelude.{List, [], ◌∷◌}
use Rattle.std.specs.declared.cmp.Ordering.{Ordering}
use Rattle.std.specs.declared.cmp.Ordering.TheVariants.{Less, Equal, Greater}
use Rattle.std.specs.Ordering.{ordering_then, ordering_reverse}
use Rattle.std.specs.Cmp.Lexicographic.{slice_cmp}
use Rattle.sdb_types.specs.declared.value.Value.{Value}
use Rattle.sdb_types.specs.declared.key.Key.{Key}
use Rattle.sdb_types.specs.Order.{table_cmp, value_cmp}
use Rattle.sdb_schema.specs.declared.table.Direction.{Direction}
use Rattle.sdb_schema.specs.declared.table.Direction.TheVariants.{Asc, Desc}
use Rattle.sdb_schema.specs.declared.table.Order.{Order}
use Rattle.sdb_schema.specs.declared.table.Table.{Table}

abbrev pub turned_by : Direction → Ordering → Ordering
turned_by Asc order = order
turned_by Desc order = ordering_reverse order

-- Item by item, each turned as its clustering column is; a prefix comes before the whole.
abbrev pub clustering_cmp : List Order → List Value → List Value → Ordering
clustering_cmp [] xs ys = slice_cmp value_cmp xs ys
clustering_cmp (o ∷ os) [] [] = Equal
clustering_cmp (o ∷ os) [] (y ∷ ys) = Less
clustering_cmp (o ∷ os) (x ∷ xs) [] = Greater
clustering_cmp (o ∷ os) (x ∷ xs) (y ∷ ys) = ordering_then (turned_by o.direction (value_cmp x y)) (clustering_cmp os xs ys)

-- The order of keys, with the descending clustering columns of a table reversed.
abbrev pub row_key_cmp : Table → Key → Key → Ordering
row_key_cmp t a b =
    ordering_then (table_cmp a.table b.table) (ordering_then (slice_cmp value_cmp a.partition b.partition) (clustering_cmp t.clustering a.clustering b.clustering))
