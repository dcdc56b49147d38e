use Rattle.std.proofs.Common.{◌≡◌, true, take}
use Rattle.std.specs.List.{list_all}
use Rattle.sdb_schema.specs.Rows.{is_stored_in}
use Rattle.sdb_schema.proofs.row.all_stored.Given as goal

abbrev pub invariant-loop-pair : goal.invariant-loop-pair
invariant-loop-pair l = list_all (is_stored_in l.table) (take l.pair-index l.pairs) ≡ true
