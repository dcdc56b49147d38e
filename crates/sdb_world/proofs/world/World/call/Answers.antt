use mir.Val.{of_z, to_z}
use Rattle.std.proofs.Common.{rules, ◌≡◌, ◌∙◌, ◌+◌, ◌++◌, ◌∷◌, [], ℤ, ap, get_or, subst, w64}
use Rattle.sdb_client.specs.Client.{ReplyPost}
use Rattle.sdb_types.specs.declared.record.Reply.{Reply}
use Rattle.sdb_model.specs.declared.event.Event.TheVariants as event
use Rattle.sdb_model.specs.Events.{table_asked}
use Rattle.sdb_contents.proofs.Public.{fit_for}
use Rattle.law_runs.specs.World.{WorldAt}
use Rattle.sdb_world.proofs.Takings.{called, named_store, pushed_as}
use Rattle.sdb_world.proofs.Asked.{asks_called}
use Rattle.sdb_world.proofs.Broken.{breaks_called}
use Rattle.sdb_world.proofs.world.World.call.Goals as goal

pub returns-clause-called : goal.returns-clause-called
returns-clause-called g c =
    let old = g.R.Registry.state c.args.stores.now in
    let client_slot = c.index_mut.result.now in
    let read : client_slot ≡ get_or c.args.self.now.client_slots c.args.at client_slot = c.index_mut.ensures.value ∙ ap (λ (w : WorldAt). get_or w.client_slots c.args.at client_slot) c.self.view_is in
    let now : to_z w64 (of_z w64 c.self.inside.clock) ≡ c.self.inside.clock = search rules in
    let answered = subst (λ (z : ℤ). ReplyPost client_slot.client client_slot.client.vacuum c.perform-how.result.1 z c.advance-answer.result c.advance-answer.new.self) now c.advance-answer.ensures in
    let came = (pushed_as c.self.inside.events c.in_ok-event.ensures c.in_ok-push.ensures.ok) ∙ ap (λ (r : Reply). c.self.inside.events ++ event.Call (c.args.at + 1) c.in_ok-store.store c.in_ok-request.request c.perform-how.result.0 r c.advance-answer.result ∷ []) c.in_ok-answered.ensures in
    called old (g.R.Registry.state c.perform-how.new.stores) _ c.args.self.now c.self.view_is c.args.at client_slot c.args.way c.in_ok-store.store c.in_ok-request.request c.perform-how.result.0 c.perform-how.result.1 c.advance-answer.result c.advance-answer.new.self c.delay.new.self c.push.new.self
    c.requires.at read c.in_ok-request.ensures.pending c.perform-how.ensures.lawful c.perform-how.ensures.allowed c.prove_order.ensures answered
    (λ f about. (c.in_ok-store.ensures ∙ named_store old c.in_ok-request.request c.table_of.result.now c.store_of.result.now c.table_of.ensures c.store_of.ensures f, c.perform-how.ensures.made (fit_for c.args.self.now.script.catalog old (table_asked c.in_ok-request.request) about f)))
    c.in_ok-delay.ensures came

pub returns-clause-broken : goal.returns-clause-broken
returns-clause-broken g c =
    let made = c.perform-how.ensures in
    let came = (pushed_as c.self.inside.events c.in_ok-event.ensures c.in_ok-push.ensures.ok) ∙ ap (λ (r : Reply). c.self.inside.events ++ event.Call (c.args.at + 1) c.in_ok-store.store c.in_ok-request.request c.perform-how.result.0 r c.advance-answer.result ∷ []) c.in_ok-answered.ensures in
    breaks_called _ c.args.self.now c.self.view_is c.push.new.self (c.args.at + 1) c.in_ok-store.store c.in_ok-request.request c.perform-how.result.0 c.perform-how.result.1 c.advance-answer.result (g.R.Registry.state c.args.stores.now).views (g.R.Registry.state c.perform-how.new.stores).views came made.broken made.goes.counted

pub returns-clause-asked : goal.returns-clause-asked
returns-clause-asked g c =
    let came = (pushed_as c.self.inside.events c.in_ok-event.ensures c.in_ok-push.ensures.ok) ∙ ap (λ (r : Reply). c.self.inside.events ++ event.Call (c.args.at + 1) c.in_ok-store.store c.in_ok-request.request c.perform-how.result.0 r c.advance-answer.result ∷ []) c.in_ok-answered.ensures in
    asks_called _ c.args.self.now c.self.view_is c.push.new.self (c.args.at + 1) c.in_ok-store.store c.in_ok-request.request c.perform-how.result.0 c.perform-how.result.1 c.advance-answer.result (g.R.Registry.state c.args.stores.now) (g.R.Registry.state c.perform-how.new.stores) came c.perform-how.ensures.once
