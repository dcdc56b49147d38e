use Rattle.std.proofs.Common.{◌≡◌, take}
use Rattle.sdb_shell.specs.Statements.{sets_of}
use Rattle.sdb_shell.proofs.literals.sets_of.Given as goal

abbrev pub invariant-loop-pair : goal.invariant-loop-pair
invariant-loop-pair l = l.sets ≡ sets_of l.table (take l.pair-index l.pairs)
