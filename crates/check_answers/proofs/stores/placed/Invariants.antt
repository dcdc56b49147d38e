use Rattle.std.proofs.Common.{◌≡◌, drop}
use Rattle.std.specs.Prelude.{find}
use Rattle.sdb_model.specs.Rows.{same_name}
use Rattle.check_answers.proofs.stores.placed.Given as goal

abbrev pub invariant-loop-place : goal.invariant-loop-place
invariant-loop-place l = find (λ p. same_name p.ns l.ns) (drop l.place-index l.places) ≡ find (λ p. same_name p.ns l.ns) l.places
