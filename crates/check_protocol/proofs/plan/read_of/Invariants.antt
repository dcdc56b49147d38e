use Rattle.std.proofs.Common.{◌≡◌, drop}
use Rattle.std.specs.Prelude.{find}
use Rattle.sdb_types.specs.Order.{same_key}
use Rattle.check_protocol.proofs.plan.read_of.Given as goal

abbrev pub invariant-loop-read : goal.invariant-loop-read
invariant-loop-read l = find (λ r. same_key l.key r.key) (drop l.read-index l.found) ≡ find (λ r. same_key l.key r.key) l.found
