use Rattle.std.proofs.Common.{◌≡◌, take, map}
use Rattle.sdb_model.specs.Rows.{value_of}
use Rattle.sdb_exec.proofs.show.observed.Given as goal

abbrev pub invariant-loop-name : goal.invariant-loop-name
invariant-loop-name l = l.values ≡ map (value_of l.table l.row) (take l.name-index l.names)
