use Rattle.std.proofs.Common.{◌≡◌, length}
use Rattle.sdb_schema.specs.Table.{first_listed_twice}
use Rattle.sdb_schema.proofs.make.find_listed_twice.Given as goal

abbrev pub invariant-loop-column : goal.invariant-loop-column
invariant-loop-column l = first_listed_twice l.rest ≡ first_listed_twice l.columns

abbrev pub decreases-loop-column : goal.decreases-loop-column
decreases-loop-column l = length l.rest
