use mir.Val.{of_z, to_z}
use Rattle.std.proofs.Common.{rules, ◌≡◌, ◌∙◌, ℤ, Option, ap, get_or, refl, subst, w64}
use Rattle.sdb_model.specs.declared.answer.Answer.{Answer}
use Rattle.sdb_model.specs.declared.event.How.TheVariants.{Seen}
use Rattle.sdb_client.specs.Client.{ReplyPost}
use Rattle.sdb_client.specs.Execution.{CallStep, State, with_client_at}
use Rattle.check_answers.proofs.Steps.{called}
use Rattle.check_answers.proofs.clients.Clients.receive.Goals as goal

pub returns : goal.returns
returns c = λ so.
    let s = c.args.self.now in
    let at = c.in-Some.at in
    let client_slot = c.index_mut-client_slot.result.now in
    let reply = c.args.reply in
    let answered = c.advance-answered.result in
    let client = c.advance-answered.new.self in
    let read : client_slot ≡ get_or s.client_slots at client_slot = c.index_mut-client_slot.ensures.value ∙ ap (λ (w : State). get_or w.client_slots at client_slot) c.self.view_is in
    let now : to_z w64 (of_z w64 c.self.inside.clock) ≡ c.self.inside.clock = search rules in
    let acked = subst (λ (z : ℤ). ReplyPost client_slot.client client_slot.client.vacuum reply z answered client) now c.advance-answered.ensures in
    let takes = subst (λ (w : State). ReplyPost client_slot.client client_slot.client.vacuum reply w.clock answered client) c.self.view_is acked in
    let left = ap (λ (w : State). with_client_at w at (record { client = client; accepted = client_slot.accepted; stopped = client_slot.stopped })) c.self.view_is in
    let then : State = with_client_at (record { client_slots = c.self.inside.client_slots.items; flights = c.self.inside.flights.items; clock = c.self.inside.clock }) at (record { client = client; accepted = client_slot.accepted; stopped = client_slot.stopped }) in
    let stepped = called s then c.args.client at client_slot c.args.request.now reply answered client c.in-Some.ensures.0 c.in-Some.ensures.1 c.in-Some.ensures.2 read (c.if-not-is_pending.ensures refl) (c.if-not-can_answer.ensures refl) c.prove_order.ensures takes left in
    subst (λ (a : Option Answer). CallStep s c.args.client c.args.request.now Seen reply a then) (c.is_answered_so.ensures.same.0 so) stepped
