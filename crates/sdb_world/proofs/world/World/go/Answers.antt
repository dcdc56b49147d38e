use Rattle.std.proofs.Common.{◌≡◌, ◌-◌, ◌∙◌, ap, get_or, refl, sym}
use Rattle.sdb_client.specs.Client.{IsBusy, IsIdle}
use Rattle.sdb_client.specs.declared.slot.ClientSlot.{ClientSlot}
use Rattle.law_runs.specs.World.{WorldAt}
use Rattle.sdb_world.proofs.ClientSteps.{at_write, goes_call, goes_idle, goes_take, left_of, place_low}
use Rattle.sdb_world.proofs.Takings.{on_ok}
use Rattle.sdb_model.specs.declared.event.Event.TheVariants as event
use Rattle.sdb_contents.proofs.Public.{unasked}
use Rattle.sdb_world.proofs.Asked.{asks_pushed, asks_take}
use Rattle.sdb_world.proofs.Broken.{breaks_pushed, breaks_take}
use Rattle.sdb_world.proofs.world.World.go.Goals as goal

pub returns-then-not-has_work-clause-world : goal.returns-then-not-has_work-clause-world
returns-then-not-has_work-clause-world g c =
    (goes_idle c.args.self.now c.args.client c.args.way c.requires.world c.requires.client c.has_work.result c.has_work.ensures (g.R.Registry.state c.args.stores.now) _ c.push.new.self c.if-not-has_work.true c.self.view_is c.in_ok-push.ensures.ok).0

pub returns-then-not-has_work-clause-acted : goal.returns-then-not-has_work-clause-acted
returns-then-not-has_work-clause-acted g c =
    (goes_idle c.args.self.now c.args.client c.args.way c.requires.world c.requires.client c.has_work.result c.has_work.ensures (g.R.Registry.state c.args.stores.now) _ c.push.new.self c.if-not-has_work.true c.self.view_is c.in_ok-push.ensures.ok).1

pub take-requires-clause-idle : goal.take-requires-clause-idle
take-requires-clause-idle g c =
    let client_slot = c.index.result.now in
    let read : client_slot ≡ get_or c.args.self.now.client_slots (c.args.client - 1) client_slot = c.index.ensures ∙ ap (λ (w : WorldAt). get_or w.client_slots (c.args.client - 1) client_slot) c.self.view_is in
    at_write (λ (s : ClientSlot). IsIdle s.client) c.args.self.now.client_slots (c.args.client - 1) client_slot (place_low c.args.self.now c.args.client c.requires.world c.requires.client) read (c.is_idle.ensures.idle c.if-is_idle.true)

pub take-requires-clause-left : goal.take-requires-clause-left
take-requires-clause-left g c =
    let client_slot = c.index.result.now in
    let read : client_slot ≡ get_or c.args.self.now.client_slots (c.args.client - 1) client_slot = c.index.ensures ∙ ap (λ (w : WorldAt). get_or w.client_slots (c.args.client - 1) client_slot) c.self.view_is in
    left_of c.args.self.now (c.args.client - 1) client_slot c.requires.world (place_low c.args.self.now c.args.client c.requires.world c.requires.client) read (c.is_idle.ensures.idle c.if-is_idle.true) (sym c.has_work.ensures ∙ c.if-not-has_work.false)

pub call-requires-clause-busy : goal.call-requires-clause-busy
call-requires-clause-busy g c =
    let client_slot = c.index.result.now in
    let read : client_slot ≡ get_or c.args.self.now.client_slots (c.args.client - 1) client_slot = c.index.ensures ∙ ap (λ (w : WorldAt). get_or w.client_slots (c.args.client - 1) client_slot) c.self.view_is in
    at_write (λ (s : ClientSlot). IsBusy s.client) c.args.self.now.client_slots (c.args.client - 1) client_slot (place_low c.args.self.now c.args.client c.requires.world c.requires.client) read (c.is_idle.ensures.busy c.if-is_idle.false)

pub returns-then-is_idle-clause-world : goal.returns-then-is_idle-clause-world
returns-then-is_idle-clause-world g c =
    let client_slot = c.index.result.now in
    let read : client_slot ≡ get_or c.args.self.now.client_slots (c.args.client - 1) client_slot = c.index.ensures ∙ ap (λ (w : WorldAt). get_or w.client_slots (c.args.client - 1) client_slot) c.self.view_is in
    let idle = at_write (λ (s : ClientSlot). IsIdle s.client) c.args.self.now.client_slots (c.args.client - 1) client_slot (place_low c.args.self.now c.args.client c.requires.world c.requires.client) read (c.is_idle.ensures.idle c.if-is_idle.true) in
    on_ok c.take.result c.take.ensures (λ t. (goes_take c.args.self.now c.args.client c.args.way c.requires.world c.requires.client c.has_work.result c.has_work.ensures (g.R.Registry.state c.args.stores.now) c.take.new.self c.if-not-has_work.false idle t).0)

pub returns-then-is_idle-clause-acted : goal.returns-then-is_idle-clause-acted
returns-then-is_idle-clause-acted g c =
    let client_slot = c.index.result.now in
    let read : client_slot ≡ get_or c.args.self.now.client_slots (c.args.client - 1) client_slot = c.index.ensures ∙ ap (λ (w : WorldAt). get_or w.client_slots (c.args.client - 1) client_slot) c.self.view_is in
    let idle = at_write (λ (s : ClientSlot). IsIdle s.client) c.args.self.now.client_slots (c.args.client - 1) client_slot (place_low c.args.self.now c.args.client c.requires.world c.requires.client) read (c.is_idle.ensures.idle c.if-is_idle.true) in
    on_ok c.take.result c.take.ensures (λ t. (goes_take c.args.self.now c.args.client c.args.way c.requires.world c.requires.client c.has_work.result c.has_work.ensures (g.R.Registry.state c.args.stores.now) c.take.new.self c.if-not-has_work.false idle t).1)

pub returns-else-is_idle-clause-world : goal.returns-else-is_idle-clause-world
returns-else-is_idle-clause-world g c =
    let client_slot = c.index.result.now in
    let read : client_slot ≡ get_or c.args.self.now.client_slots (c.args.client - 1) client_slot = c.index.ensures ∙ ap (λ (w : WorldAt). get_or w.client_slots (c.args.client - 1) client_slot) c.self.view_is in
    let busy = at_write (λ (s : ClientSlot). IsBusy s.client) c.args.self.now.client_slots (c.args.client - 1) client_slot (place_low c.args.self.now c.args.client c.requires.world c.requires.client) read (c.is_idle.ensures.busy c.if-is_idle.false) in
    on_ok c.call.result c.call.ensures.called (λ t. (goes_call c.args.self.now c.args.client c.args.way c.requires.world c.requires.client c.has_work.result c.has_work.ensures (g.R.Registry.state c.args.stores.now) (g.R.Registry.state c.call.new.stores) c.call.new.self c.if-not-has_work.false busy t).0)

pub returns-else-is_idle-clause-acted : goal.returns-else-is_idle-clause-acted
returns-else-is_idle-clause-acted g c =
    let client_slot = c.index.result.now in
    let read : client_slot ≡ get_or c.args.self.now.client_slots (c.args.client - 1) client_slot = c.index.ensures ∙ ap (λ (w : WorldAt). get_or w.client_slots (c.args.client - 1) client_slot) c.self.view_is in
    let busy = at_write (λ (s : ClientSlot). IsBusy s.client) c.args.self.now.client_slots (c.args.client - 1) client_slot (place_low c.args.self.now c.args.client c.requires.world c.requires.client) read (c.is_idle.ensures.busy c.if-is_idle.false) in
    on_ok c.call.result c.call.ensures.called (λ t. (goes_call c.args.self.now c.args.client c.args.way c.requires.world c.requires.client c.has_work.result c.has_work.ensures (g.R.Registry.state c.args.stores.now) (g.R.Registry.state c.call.new.stores) c.call.new.self c.if-not-has_work.false busy t).1)

pub returns-then-not-has_work-clause-broken : goal.returns-then-not-has_work-clause-broken
returns-then-not-has_work-clause-broken g c = breaks_pushed _ c.args.self.now c.self.view_is c.push.new.self (event.Idle c.args.client) (g.R.Registry.state c.args.stores.now).views c.in_ok-push.ensures.ok refl

pub returns-then-is_idle-clause-broken : goal.returns-then-is_idle-clause-broken
returns-then-is_idle-clause-broken g c = on_ok c.take.result c.take.ensures (λ t. breaks_take c.args.self.now c.take.new.self (c.args.client - 1) (g.R.Registry.state c.args.stores.now).views t)

pub returns-then-not-has_work-clause-asked : goal.returns-then-not-has_work-clause-asked
returns-then-not-has_work-clause-asked g c =
    let held = g.R.Registry.state c.args.stores.now in
    asks_pushed _ c.args.self.now c.self.view_is c.push.new.self (event.Idle c.args.client) held held c.in_ok-push.ensures.ok (unasked held)

pub returns-then-is_idle-clause-asked : goal.returns-then-is_idle-clause-asked
returns-then-is_idle-clause-asked g c = on_ok c.take.result c.take.ensures (λ t. asks_take c.args.self.now c.take.new.self (c.args.client - 1) (g.R.Registry.state c.args.stores.now) t)
