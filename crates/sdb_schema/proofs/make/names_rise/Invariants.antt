use Rattle.std.proofs.Common.{◌≡◌, length}
use Rattle.sdb_schema.specs.Table.{rises}
use Rattle.sdb_schema.proofs.make.names_rise.Given as goal

abbrev pub invariant-loop-column : goal.invariant-loop-column
invariant-loop-column l = rises l.rest ≡ rises l.columns

abbrev pub decreases-loop-column : goal.decreases-loop-column
decreases-loop-column l = length l.rest
