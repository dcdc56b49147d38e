use mir.Val.{of_z, to_z}
use Rattle.std.proofs.Common.{rules, List, ◌≡◌, ◌≢◌, ◌∙◌, ◌<◌, ◌^◌, ℤ, suc, Some, ap, arith, get_or, length, subst, w64}
use Rattle.sdb_model.specs.declared.answer.Answer.TheVariants as answer
use Rattle.sdb_client.specs.Client.{TextPost, next_id, TextStep}
use Rattle.sdb_world.specs.Types.{Gate, Table, TxId}
use Rattle.sdb_model.specs.Catalogs.{catalog_after}
use Rattle.sdb_model.specs.Follows.{texts_of}
use Rattle.law_runs.specs.World.{WorldAt}
use Rattle.sdb_world.proofs.Takings.{next_short, pushed_as, some_left, took}
use Rattle.sdb_world.proofs.world.World.take.Goals as goal

pub take-answer-requires-clause-short : goal.take-answer-requires-clause-short
take-answer-requires-clause-short c =
    let client_slot = c.index_mut-client_slot.result.now in
    let read : client_slot ≡ get_or c.args.self.now.client_slots c.args.at client_slot = c.index_mut-client_slot.ensures.value ∙ ap (λ (w : WorldAt). get_or w.client_slots c.args.at client_slot) c.self.view_is in
    next_short c.args.self.now c.args.at client_slot c.in_ok-text.text c.requires.world c.requires.at read c.in_ok-text.ensures

pub overflow_add-client_slot : goal.overflow_add-client_slot
overflow_add-client_slot c =
    let client_slot = c.index_mut-client_slot.result.now in
    let read : client_slot ≡ get_or c.args.self.now.client_slots c.args.at client_slot = c.index_mut-client_slot.ensures.value ∙ ap (λ (w : WorldAt). get_or w.client_slots c.args.at client_slot) c.self.view_is in
    let left = some_left c.args.self.now c.args.at client_slot c.requires.at read c.requires.left in
    let size : c.len-left.result ≡ length (texts_of c.args.self.now.script.clients (suc c.args.at)) = c.len-left.ensures ∙ ap length c.statements.ensures in
    let bound : c.len-left.result < 2 ^ 64 = c.len-left.type_inv in
    omega (arith, left, size, bound)

pub returns : goal.returns
returns c =
    let client_slot = c.index_mut-client_slot.result.now in
    let read : client_slot ≡ get_or c.args.self.now.client_slots c.args.at client_slot = c.index_mut-client_slot.ensures.value ∙ ap (λ (w : WorldAt). get_or w.client_slots c.args.at client_slot) c.self.view_is in
    let gate : Gate = c.gate-gate.result in
    let now : to_z w64 (of_z w64 c.self.inside.clock) ≡ c.self.inside.clock = search rules in
    let answered = subst (λ (z : ℤ). c.take-answer.result ≢ Some answer.NoMemory → TextPost (record { catalog = c.self.inside.catalog; now = z; gate = gate; fresh = c.next_id-fresh.result }) c.in_ok-text.text client_slot.client c.take-answer.result c.take-answer.new.self) now c.take-answer.ensures.answered in
    let numbered : c.next_id-fresh.result ≡ next_id client_slot.client = c.next_id-fresh.ensures in
    let tables = catalog_after c.self.inside.script.catalog c.self.inside.events in
    let under = subst (λ (ts : List Table). TextStep (record { catalog = ts; now = c.self.inside.clock; gate = gate; fresh = c.next_id-fresh.result }) c.in_ok-text.text client_slot.client c.take-answer.result c.take-answer.new.self) c.self.invariant (record { memory = c.take-answer.ensures.memory; answered = answered }) in
    let taking = subst (λ (i : TxId). TextStep (record { catalog = tables; now = c.self.inside.clock; gate = gate; fresh = i }) c.in_ok-text.text client_slot.client c.take-answer.result c.take-answer.new.self) numbered under in
    took _ c.args.self.now c.self.view_is c.args.at client_slot c.in_ok-text.text gate c.take-answer.result c.take-answer.new.self c.push.new.self c.requires.at read c.in_ok-text.ensures taking c.gate-gate.ensures
    (subst (λ n. n < 2 ^ 64) c.begun-begun.ensures c.begun-begun.type_inv) (pushed_as c.self.inside.events c.in_ok-event.ensures c.in_ok-push.ensures.ok)
