use Rattle.std.proofs.Common.{◌≡◌, take}
use Rattle.sdb_shell.specs.Statements.{tests_of}
use Rattle.sdb_shell.proofs.literals.tests_of.Given as goal

abbrev pub invariant-loop-pair : goal.invariant-loop-pair
invariant-loop-pair l = l.tests ≡ tests_of l.table (take l.pair-index l.pairs)
