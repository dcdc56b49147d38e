use Rattle.std.proofs.Common.{◌≡◌, ◌++◌, drop}
use Rattle.sdb_shell.specs.Statements.{pairs_of}
use Rattle.sdb_shell.proofs.literals.pairs_of.Given as goal

abbrev pub invariant-loop-i : goal.invariant-loop-i
invariant-loop-i l = l.pairs ++ pairs_of (drop l.i l.names) (drop l.i l.row) ≡ pairs_of l.names l.row
