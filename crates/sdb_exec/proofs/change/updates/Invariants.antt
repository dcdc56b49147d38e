use Rattle.std.proofs.Common.{◌≡◌, take, map}
use Rattle.sdb_record.specs.declared.write.Change.TheVariants as change
use Rattle.sdb_model.specs.Exec.{with_sets}
use Rattle.sdb_exec.proofs.change.updates.Given as goal

abbrev pub invariant-loop-row : goal.invariant-loop-row
invariant-loop-row l = l.changes ≡ map (λ r. record { key = r.key; change = change.Row (with_sets l.table l.sets r.columns) }) (take l.row-index l.rows)
