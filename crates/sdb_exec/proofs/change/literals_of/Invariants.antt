use Rattle.std.proofs.Common.{◌≡◌, take, map}
use Rattle.sdb_model.specs.Exec.{literal_in}
use Rattle.sdb_exec.proofs.change.literals_of.Given as goal

abbrev pub invariant-loop-name : goal.invariant-loop-name
invariant-loop-name l = l.values ≡ map (literal_in l.table l.insert) (take l.name-index l.names)
