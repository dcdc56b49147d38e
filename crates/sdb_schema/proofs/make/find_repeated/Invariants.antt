use Rattle.std.proofs.Common.{◌≡◌, [], take, drop}
use Rattle.sdb_schema.specs.Table.{first_repeated}
use Rattle.sdb_schema.proofs.make.find_repeated.Given as goal

abbrev pub invariant-loop-i : goal.invariant-loop-i
invariant-loop-i l = first_repeated (take l.i l.names) (drop l.i l.names) ≡ first_repeated [] l.names
