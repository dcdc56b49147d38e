use Rattle.std.proofs.Common.{sym, subst}
use Rattle.sdb_world.specs.Types.{How, Reply}
use Rattle.sdb_contents.specs.Board.{IsDelivered, IsMade, how_lost}
use Rattle.sdb_contents.proofs.Public.{delayed, discarded, lost, once_lost, once_seen, unasked}
use Rattle.sdb_model.specs.Follows.{IsHowOfLose, IsHowOfStep}
use Rattle.sdb_world.specs.declared.delivery.Delivery.{Delivery}
use Rattle.sdb_world.specs.Step.{IsDeliveryOf}
use Rattle.sdb_world.proofs.Hows.{lost_allowed, seen_allowed}
use Rattle.sdb_world.proofs.perform.perform.Goals as goal

pub returns-in-Step-clause-made : goal.returns-in-Step-clause-made
returns-in-Step-clause-made g c = λ f.
    let old = g.R.Registry.state c.args.stores.now in
    let new = g.R.Registry.state c.call-reply.new.stores in
    subst (λ (h : How). IsMade c.args.request.now h c.call-reply.result old new) (sym c.how_seen.ensures) (c.call-reply.ensures.called f)

pub returns-in-Lose-clause-made : goal.returns-in-Lose-clause-made
returns-in-Lose-clause-made g c = λ f.
    let old = g.R.Registry.state c.args.stores.now in
    let new = g.R.Registry.state c.call-reply-in-Lose.new.stores in
    let r = c.call-reply-in-Lose.result in
    subst (λ (h : How). IsMade c.args.request.now h c.reply_lost.result old new) (sym c.how_lost.ensures)
    (subst (λ (x : Reply). IsMade c.args.request.now (how_lost r) x old new) (sym c.reply_lost.ensures) (lost c.args.request.now r old new (c.call-reply-in-Lose.ensures.called f)))

pub returns-in-Discard-clause-made : goal.returns-in-Discard-clause-made
returns-in-Discard-clause-made g c = λ f. discarded (g.R.Registry.state c.args.stores.now) c.args.request.now f c.requires.formed

pub returns-in-Step-clause-allowed : goal.returns-in-Step-clause-allowed
returns-in-Step-clause-allowed g c =
    subst (λ (w : Delivery). IsDeliveryOf w c.how_seen.result c.call-reply.result) (sym c.in-Step.is)
    (subst (λ (h : How). IsHowOfStep h c.call-reply.result) (sym c.how_seen.ensures) (seen_allowed c.call-reply.result))

pub returns-in-Lose-clause-allowed : goal.returns-in-Lose-clause-allowed
returns-in-Lose-clause-allowed g c =
    let r = c.call-reply-in-Lose.result in
    subst (λ (w : Delivery). IsDeliveryOf w c.how_lost.result c.reply_lost.result) (sym c.in-Lose.is)
    (subst (λ (h : How). IsHowOfLose h c.reply_lost.result) (sym c.how_lost.ensures) (subst (λ (x : Reply). IsHowOfLose (how_lost r) x) (sym c.reply_lost.ensures) (lost_allowed r)))

pub returns-in-Step-clause-once : goal.returns-in-Step-clause-once
returns-in-Step-clause-once g c =
    let old = g.R.Registry.state c.args.stores.now in
    let new = g.R.Registry.state c.call-reply.new.stores in
    subst (λ (h : How). IsDelivered c.args.request.now h c.call-reply.result old new) (sym c.how_seen.ensures) (once_seen c.args.request.now c.call-reply.result old new c.call-reply.ensures.once)

pub returns-in-Lose-clause-once : goal.returns-in-Lose-clause-once
returns-in-Lose-clause-once g c =
    let old = g.R.Registry.state c.args.stores.now in
    let new = g.R.Registry.state c.call-reply-in-Lose.new.stores in
    let r = c.call-reply-in-Lose.result in
    subst (λ (h : How). IsDelivered c.args.request.now h c.reply_lost.result old new) (sym c.how_lost.ensures)
    (subst (λ (x : Reply). IsDelivered c.args.request.now (how_lost r) x old new) (sym c.reply_lost.ensures) (once_lost c.args.request.now r old new c.call-reply-in-Lose.ensures.once))

pub returns-in-Delay-clause-made : goal.returns-in-Delay-clause-made
returns-in-Delay-clause-made g c = λ f. delayed (g.R.Registry.state c.args.stores.now) c.args.request.now f c.requires.formed

pub returns-in-Delay-clause-once : goal.returns-in-Delay-clause-once
returns-in-Delay-clause-once g c = unasked (g.R.Registry.state c.args.stores.now)

pub returns-in-Discard-clause-once : goal.returns-in-Discard-clause-once
returns-in-Discard-clause-once g c = unasked (g.R.Registry.state c.args.stores.now)
