use Rattle.std.proofs.Common.{◌≡◌, ◌∙◌, None, Some, refl}
use Rattle.sdb_model.specs.declared.event.Event.TheVariants as event
use Rattle.sdb_model.specs.Events.{table_asked}
use Rattle.sdb_contents.proofs.Public.{fit_for, unasked}
use Rattle.sdb_world.proofs.Acts.{acts_land}
use Rattle.sdb_world.proofs.Asked.{asks_landed, asks_pushed}
use Rattle.sdb_world.proofs.Broken.{breaks_landed, breaks_pushed}
use Rattle.sdb_world.proofs.ClientSteps.{goes_none}
use Rattle.sdb_world.proofs.Landings.{left_by}
use Rattle.sdb_world.proofs.Takings.{landed, named_store, pushed_as}
use Rattle.sdb_world.proofs.world.World.land.Goals as goal

pub returns-in_ok-push-in-None-clause-world : goal.returns-in_ok-push-in-None-clause-world
returns-in_ok-push-in-None-clause-world g c =
    let left = left_by c.args.number c.args.self.now c.landing.new.self c.landing.result None c.in-None.is c.landing.ensures.left in
    (goes_none (g.R.Registry.state c.args.stores.now) _ c.landing.new.self c.args.self.now c.args.number c.push.new.self c.requires.world c.self.view_is left c.in_ok-push-in-None.ensures.ok).0

pub returns-in_ok-push-in-None-clause-acted : goal.returns-in_ok-push-in-None-clause-acted
returns-in_ok-push-in-None-clause-acted g c =
    let left = left_by c.args.number c.args.self.now c.landing.new.self c.landing.result None c.in-None.is c.landing.ensures.left in
    (goes_none (g.R.Registry.state c.args.stores.now) _ c.landing.new.self c.args.self.now c.args.number c.push.new.self c.requires.world c.self.view_is left c.in_ok-push-in-None.ensures.ok).1

pub returns-in_ok-push-in-None-clause-asked : goal.returns-in_ok-push-in-None-clause-asked
returns-in_ok-push-in-None-clause-asked g c =
    let held = g.R.Registry.state c.args.stores.now in
    let left = left_by c.args.number c.args.self.now c.landing.new.self c.landing.result None c.in-None.is c.landing.ensures.left in
    asks_pushed _ c.args.self.now (c.self.view_is ∙ left.1) c.push.new.self (event.Idle 0) held held c.in_ok-push-in-None.ensures.ok (unasked held)

pub returns-in_ok-push-in-None-clause-broken : goal.returns-in_ok-push-in-None-clause-broken
returns-in_ok-push-in-None-clause-broken g c =
    let left = left_by c.args.number c.args.self.now c.landing.new.self c.landing.result None c.in-None.is c.landing.ensures.left in
    breaks_pushed _ c.args.self.now (c.self.view_is ∙ left.1) c.push.new.self (event.Idle 0) (g.R.Registry.state c.args.stores.now).views c.in_ok-push-in-None.ensures.ok refl

pub returns-in_ok-push-in-Some-clause-world : goal.returns-in_ok-push-in-Some-clause-world
returns-in_ok-push-in-Some-clause-world g c =
    let old = g.R.Registry.state c.args.stores.now in
    let new = g.R.Registry.state c.perform-how.new.stores in
    let left = left_by c.args.number c.args.self.now c.landing.new.self c.landing.result (Some c.in-Some.request) c.in-Some.is c.landing.ensures.left in
    let q = c.in-Some.request in
    let made = c.perform-how.ensures in
    (acts_land old new c.args.self.now _ c.args.number c.requires.world
    (landed old new _ c.args.self.now c.args.number left.0 c.in_ok-store-in-Some.store q c.perform-how.result.0 c.perform-how.result.1 c.push-in-Some.new.self left.1 left.2 (c.self.view_is ∙ left.3) made.lawful made.allowed c.prove_order.ensures
    (λ f about. (c.in_ok-store-in-Some.ensures ∙ named_store old q c.table_of.result.now c.store_of.result.now c.table_of.ensures c.store_of.ensures f, made.made (fit_for c.args.self.now.script.catalog old (table_asked q) about f)))
    (pushed_as _ c.in_ok-event-in-Some.ensures c.in_ok-push-in-Some.ensures.ok))).0

pub returns-in_ok-push-in-Some-clause-acted : goal.returns-in_ok-push-in-Some-clause-acted
returns-in_ok-push-in-Some-clause-acted g c =
    let old = g.R.Registry.state c.args.stores.now in
    let new = g.R.Registry.state c.perform-how.new.stores in
    let left = left_by c.args.number c.args.self.now c.landing.new.self c.landing.result (Some c.in-Some.request) c.in-Some.is c.landing.ensures.left in
    let q = c.in-Some.request in
    let made = c.perform-how.ensures in
    (acts_land old new c.args.self.now _ c.args.number c.requires.world
    (landed old new _ c.args.self.now c.args.number left.0 c.in_ok-store-in-Some.store q c.perform-how.result.0 c.perform-how.result.1 c.push-in-Some.new.self left.1 left.2 (c.self.view_is ∙ left.3) made.lawful made.allowed c.prove_order.ensures
    (λ f about. (c.in_ok-store-in-Some.ensures ∙ named_store old q c.table_of.result.now c.store_of.result.now c.table_of.ensures c.store_of.ensures f, made.made (fit_for c.args.self.now.script.catalog old (table_asked q) about f)))
    (pushed_as _ c.in_ok-event-in-Some.ensures c.in_ok-push-in-Some.ensures.ok))).1

pub returns-in_ok-push-in-Some-clause-asked : goal.returns-in_ok-push-in-Some-clause-asked
returns-in_ok-push-in-Some-clause-asked g c =
    let left = left_by c.args.number c.args.self.now c.landing.new.self c.landing.result (Some c.in-Some.request) c.in-Some.is c.landing.ensures.left in
    asks_landed _ _ (c.self.view_is ∙ left.3) c.push-in-Some.new.self c.args.number c.in_ok-store-in-Some.store c.in-Some.request c.perform-how.result.0 c.perform-how.result.1 (g.R.Registry.state c.args.stores.now) (g.R.Registry.state c.perform-how.new.stores) (pushed_as _ c.in_ok-event-in-Some.ensures c.in_ok-push-in-Some.ensures.ok) c.perform-how.ensures.once

pub returns-in_ok-push-in-Some-clause-broken : goal.returns-in_ok-push-in-Some-clause-broken
returns-in_ok-push-in-Some-clause-broken g c =
    let left = left_by c.args.number c.args.self.now c.landing.new.self c.landing.result (Some c.in-Some.request) c.in-Some.is c.landing.ensures.left in
    let made = c.perform-how.ensures in
    breaks_landed _ _ (c.self.view_is ∙ left.3) c.push-in-Some.new.self c.args.number c.in_ok-store-in-Some.store c.in-Some.request c.perform-how.result.0 c.perform-how.result.1 (g.R.Registry.state c.args.stores.now).views (g.R.Registry.state c.perform-how.new.stores).views (pushed_as _ c.in_ok-event-in-Some.ensures c.in_ok-push-in-Some.ensures.ok) made.broken made.goes.counted
