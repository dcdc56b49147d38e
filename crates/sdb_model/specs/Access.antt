-- Rows of tables at the keys of an access, and tables with changes laid over them.
use Rattle.std.specs.Prelude.{Bool, List, [], ◌∷◌, filter, Option, Some, None}
use Rattle.std.specs.Ordering.{is_eq}
use Rattle.std.specs.FinMap.{insert, remove}
use Rattle.sdb_model.specs.Types.{Access, Image, Key, Keyed, Pair}
use Rattle.sdb_types.specs.Order.{key_cmp}
use Rattle.sdb_types.specs.Contents.{in_span}
use Rattle.sdb_record.specs.declared.access.Access.TheVariants as access
use Rattle.sdb_record.specs.Rolls.{row_of_change}
use Rattle.sdb_model.specs.Exec.{Tables, all_rows}

-- a key is one that the access reads
abbrev pub in_access : Access → Key → Bool
in_access (access.Get key) q = is_eq (key_cmp key q)
in_access (access.Scan span) q = in_span span q

-- the rows at an access's keys, in the order of their keys
abbrev pub rows_at : Access → Tables → List Image
rows_at a d = filter (λ r. in_access a r.key) (all_rows d)

-- with this row at a key, or none
abbrev pub with_row : Tables → Key → Option (List Pair) → Tables
with_row d key None = remove d key
with_row d key (Some columns) = insert d key columns

-- the tables with changes laid over them, one after the other
abbrev pub with_changes : Tables → List Keyed → Tables
with_changes d [] = d
with_changes d (k ∷ ks) = with_changes (with_row d k.key (row_of_change k.change)) ks
