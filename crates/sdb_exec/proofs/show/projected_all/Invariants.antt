use Rattle.std.proofs.Common.{◌≡◌, take, map}
use Rattle.sdb_model.specs.Rows.{value_of}
use Rattle.sdb_exec.proofs.show.projected_all.Given as goal

abbrev pub invariant-loop-row : goal.invariant-loop-row
invariant-loop-row l = l.found ≡ map (λ r. map (value_of l.table r) l.names) (take l.row-index l.rows)
