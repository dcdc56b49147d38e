use Rattle.std.proofs.Common.{ap, add-one, subst, sym, ◌∙◌}
use Rattle.sdb_client.specs.Client.{ClientAt, nothing_done}
use Rattle.sdb_client.specs.declared.slot.ClientSlot.{ClientSlot}
use Rattle.std.proofs.Common.{List, false}
use Rattle.sdb_client.specs.Execution.{AreFresh}
use Rattle.sdb_client.proofs.Fresh.{fresh_more, fresh_none}
use Rattle.sdb_client.proofs.slots.fresh_slots.Goals as goal

pub loop-i-init : goal.loop-i-init
loop-i-init c = subst (λ (xs : List ClientSlot). AreFresh 0 xs) (sym c.new-client_slots.ensures.items) fresh_none

pub loop-i-preserved : goal.loop-i-preserved
loop-i-preserved c =
    fresh_more c.loop-i.i c.loop-i.client_slots.items c.push.new.self.items (record { client = c.new.result; accepted = 0; stopped = false }) c.loop-i.invariant
    (ap (λ (x : ClientAt). let s : ClientSlot = record { client = x; accepted = 0; stopped = false } in s) (c.new.ensures ∙ ap nothing_done (add-one c.loop-i.i)))
    c.in_ok-push.ensures.items
