use Rattle.std.proofs.Common.{◌≡◌, drop}
use Rattle.check_protocol.specs.Values.{planned}
use Rattle.check_protocol.proofs.plan.plan_of.Given as goal

abbrev pub invariant-loop-plan : goal.invariant-loop-plan
invariant-loop-plan l = planned (drop l.plan-index l.plans) l.id.0 ≡ planned l.plans l.id.0
