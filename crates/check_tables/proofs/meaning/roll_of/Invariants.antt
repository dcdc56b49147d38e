use Rattle.std.proofs.Common.{◌≡◌, drop}
use Rattle.std.specs.Prelude.{find}
use Rattle.sdb_model.specs.ReadSet.{rolls}
use Rattle.check_tables.specs.Values.{made_of}
use Rattle.check_tables.proofs.meaning.roll_of.Given as goal

abbrev pub invariant-loop-made : goal.invariant-loop-made
invariant-loop-made l = find (λ m. rolls l.rec (made_of m)) (drop l.made-index l.calls) ≡ find (λ m. rolls l.rec (made_of m)) l.calls
