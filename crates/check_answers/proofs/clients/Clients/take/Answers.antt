use mir.Val.{of_z, to_z}
use Rattle.std.proofs.Common.{rules, ◌≡◌, ◌≢◌, ◌∙◌, ◌<◌, ◌^◌, ℕ, ℤ, List, Option, Some, ap, get_or, refl, subst, sym, w64}
use Rattle.check_answers.specs.Types.{Answer, ClientSlot, Table, TxId}
use Rattle.sdb_model.specs.Catalogs.{catalog_after}
use Rattle.sdb_model.specs.declared.answer.Answer.TheVariants as answer
use Rattle.sdb_client.specs.Client.{TextPost, next_id, TextStep}
use Rattle.sdb_client.specs.Execution.{IsGateAt, State, TakeStep, client_after, with_client_at}
use Rattle.check_answers.proofs.Steps.{took}
use Rattle.check_answers.proofs.clients.Clients.take.Goals as goal

pub returns : goal.returns
returns c = λ so past same_catalog.
    let s = c.args.self.now in
    let script = c.args.script.now in
    let at = c.in-Some.at in
    let text = c.args.text.now in
    let client_slot = c.index_mut-client_slot.result.now in
    let gate = c.gate_at-gate.result in
    let answered = c.take-answered.result in
    let client = c.take-answered.new.self in
    let read : client_slot ≡ get_or s.client_slots at client_slot = c.index_mut-client_slot.ensures.value ∙ ap (λ (w : State). get_or w.client_slots at client_slot) c.self.view_is in
    let gated = subst (λ (ss : List ClientSlot). IsGateAt gate ss at) (c.deref.ensures.value ∙ ap (λ (w : State). w.client_slots) c.self.view_is) c.gate_at-gate.ensures in
    let now : to_z w64 (of_z w64 c.self.inside.clock) ≡ c.self.inside.clock = search rules in
    let acked = subst (λ (z : ℤ). answered ≢ Some answer.NoMemory → TextPost (record { catalog = c.args.catalog.now; now = z; gate = gate; fresh = c.next_id-fresh.result }) text client_slot.client answered client) now c.take-answered.ensures.answered in
    let taking = subst (λ (i : TxId). TextStep (record { catalog = c.args.catalog.now; now = c.self.inside.clock; gate = gate; fresh = i }) text client_slot.client answered client) c.next_id-fresh.ensures (record { memory = c.take-answered.ensures.memory; answered = acked }) in
    let under = subst (λ (ts : List Table). TextStep (record { catalog = ts; now = c.self.inside.clock; gate = gate; fresh = next_id client_slot.client }) text client_slot.client answered client) same_catalog taking in
    let takes = subst (λ (w : State). TextStep (record { catalog = catalog_after script.catalog past; now = w.clock; gate = gate; fresh = next_id client_slot.client }) text client_slot.client answered client) c.self.view_is under in
    let small = subst (λ n. n < 2 ^ 64) c.begun-begun.ensures c.begun-begun.type_inv in
    let stepped = took script past s c.args.client at client_slot gate text answered client c.in-Some.ensures.0 c.in-Some.ensures.1 c.in-Some.ensures.2 read (c.if-not-is_idle.ensures.idle refl) (c.if-not-is_next.ensures refl) gated small takes in
    let same = subst (λ (a : Option Answer). TakeStep script past s c.args.client text a (with_client_at s at (client_after client_slot 1 client))) (c.is_answered_so.ensures.same.0 so) stepped in
    let counted = subst (λ (n : ℕ). TakeStep script past s c.args.client text c.args.answer.now (with_client_at s at (record { client = client; accepted = n; stopped = client_slot.stopped }))) (sym c.in-Some-checked_add.ensures.1) same in
    subst (λ (w : State). TakeStep script past s c.args.client text c.args.answer.now (with_client_at w at (record { client = client; accepted = c.in-Some-checked_add.accepted; stopped = client_slot.stopped }))) (sym c.self.view_is) counted
