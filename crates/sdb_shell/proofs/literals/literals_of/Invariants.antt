use Rattle.std.proofs.Common.{◌≡◌, map, take}
use Rattle.sdb_shell.specs.Statements.{literal_of}
use Rattle.sdb_shell.proofs.literals.literals_of.Given as goal

abbrev pub invariant-loop-value : goal.invariant-loop-value
invariant-loop-value l = l.literals ≡ map literal_of (take l.value-index l.row)
