use Rattle.std.proofs.Common.{◌≡◌, take, map}
use Rattle.sdb_record.specs.declared.write.Change.TheVariants as change
use Rattle.sdb_exec.proofs.change.deletes.Given as goal

abbrev pub invariant-loop-row : goal.invariant-loop-row
invariant-loop-row l = l.changes ≡ map (λ r. record { key = r.key; change = change.Delete }) (take l.row-index l.rows)
