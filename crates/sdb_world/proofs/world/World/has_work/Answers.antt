use Rattle.std.proofs.Common.{◌≡◌, ◌∙◌, ap, get_or, length}
use Rattle.law_runs.specs.World.{WorldAt}
use Rattle.sdb_world.proofs.Works.{works_busy, works_left, works_not}
use Rattle.sdb_world.proofs.world.World.has_work.Goals as goal

pub returns-then-not-is_idle : goal.returns-then-not-is_idle
returns-then-not-is_idle c =
    let client_slot = c.index-client_slot.result.now in
    let read : client_slot ≡ get_or c.args.self.now.client_slots c.args.at client_slot = c.index-client_slot.ensures ∙ ap (λ (w : WorldAt). get_or w.client_slots c.args.at client_slot) c.self.view_is in
    works_busy c.args.self.now c.args.at client_slot c.requires.world c.requires.at read c.is_idle.result c.is_idle.ensures.idle c.is_idle.ensures.busy c.if-not-client_slot.true c.if-not-is_idle.true

pub returns-else-not-is_idle : goal.returns-else-not-is_idle
returns-else-not-is_idle c =
    let client_slot = c.index-client_slot.result.now in
    let read : client_slot ≡ get_or c.args.self.now.client_slots c.args.at client_slot = c.index-client_slot.ensures ∙ ap (λ (w : WorldAt). get_or w.client_slots c.args.at client_slot) c.self.view_is in
    works_left c.args.self.now c.args.at client_slot c.requires.world c.requires.at read c.is_idle.result c.is_idle.ensures.idle c.is_idle.ensures.busy c.if-not-client_slot.true c.len.result c.if-not-is_idle.false (c.len.ensures ∙ ap length c.statements.ensures)

pub returns-else-not-client_slot : goal.returns-else-not-client_slot
returns-else-not-client_slot c =
    let client_slot = c.index-client_slot.result.now in
    let read : client_slot ≡ get_or c.args.self.now.client_slots c.args.at client_slot = c.index-client_slot.ensures ∙ ap (λ (w : WorldAt). get_or w.client_slots c.args.at client_slot) c.self.view_is in
    works_not c.args.self.now c.args.at client_slot c.requires.world c.requires.at read c.if-not-client_slot.false
