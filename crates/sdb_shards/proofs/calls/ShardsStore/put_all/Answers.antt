use Rattle.std.proofs.Common.{ap, length, ◌∙◌}
use Rattle.sdb_types.specs.declared.record.Request.TheVariants.{PutAll}
use Rattle.sdb_types.specs.Draws.{counted as next_number}
use Rattle.sdb_store.specs.Store.{faults_after}
use Rattle.sdb_shards.specs.Whole.{whole}
use Rattle.sdb_shards.proofs.Routes.{called_home, failed_home, not_applied, own_batch}
use Rattle.sdb_shards.proofs.calls.ShardsStore.put_all.Goals as goal

pub returns-in-Ok-clause-called : goal.returns-in-Ok-clause-called
returns-in-Ok-clause-called c =
    called_home (PutAll c.args.batch.now) c.put_all-reply.result c.answered.result c.in-Ok.at c.args.self.now c.begin.new.self c.answered.new.self c.put_all-reply.new.self c.begin.ensures.boxes c.begin.ensures.moved c.in-Ok.ensures.inside
    (own_batch c.args.self.now.moved (length c.args.self.now.boxes) c.in-Ok.at c.args.batch.now c.first_key-key.result.now c.first_key-key.ensures c.in-Ok.ensures.at c.requires.one) c.put_all-reply.ensures
    ((λ i. whole (c.answered.ensures.moved i) (c.answered.ensures.boxes i)) ∙ c.spread.ensures.shows.contents) c.answered.ensures.reply
    (c.answered.ensures.calls ∙ ap next_number (c.spread.ensures.shows.calls ∙ c.begin.ensures.calls)) (c.answered.ensures.faults ∙ ap (faults_after c.put_all-reply.result) (c.spread.ensures.shows.faults ∙ c.begin.ensures.faults))

pub returns-in-Ok-clause-fault : goal.returns-in-Ok-clause-fault
returns-in-Ok-clause-fault c =
    failed_home c.in-Ok.at (PutAll c.args.batch.now) c.put_all-reply.result c.answered.result c.args.self.now.boxes c.begin.new.self.boxes c.put_all-reply.new.self c.answered.new.self.boxes c.begin.ensures.boxes c.in-Ok.ensures.inside c.put_all-reply.ensures c.answered.ensures.reply (λ h. c.answered.ensures.boxes ∙ c.spread.ensures.unmoved (not_applied c.put_all-reply.result h))

pub returns-in-Ok-clause-never : goal.returns-in-Ok-clause-never
returns-in-Ok-clause-never c every = c.answered.ensures.moved ∙ ((c.spread.ensures.never (c.begin.ensures.every ∙ every)).1 ∙ c.begin.ensures.moved)
