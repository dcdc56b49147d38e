use Rattle.std.proofs.Common.{◌≡◌, ◌∙◌, ap, arith, rules, to_z, of_z, w64}
use Rattle.std.specs.Prelude.{map}
use Rattle.sdb_phases.specs.Work.{prepares_of}
use Rattle.sdb_phases.specs.Steps.{puts_from}
use Rattle.sdb_phases.proofs.Public.{puts_all}
use Rattle.sdb_prepare.proofs.prepare.Prepare.new.Goals as goal

pub invariant_of-result : goal.invariant_of-result
invariant_of-result c =
    let made : c.in_ok-prepares.field-0 ≡ map (prepares_of c.args.id (to_z w64 (of_z w64 c.args.now))) c.args.groups.now = search rules in
    let count = ap (λ asks. puts_from asks 0) made ∙ puts_all c.args.id (to_z w64 (of_z w64 c.args.now)) c.args.groups.now in
    omega (arith, count, c.requires.few)
