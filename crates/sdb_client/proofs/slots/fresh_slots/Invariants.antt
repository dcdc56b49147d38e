use Rattle.sdb_client.specs.Execution.{AreFresh}
use Rattle.sdb_client.proofs.slots.fresh_slots.Given as goal

-- so many clients that have done nothing
abbrev pub invariant-loop-i : goal.invariant-loop-i
invariant-loop-i l = AreFresh l.i l.client_slots.items
