use Rattle.std.proofs.Common.{◌≡◌, Bool, true, Some, ap, subst, sym, ◌∙◌}
use Rattle.std.specs.Prelude.{◌==◌}
use Rattle.sdb_types.specs.declared.key.Key.{Key}
use Rattle.sdb_types.specs.declared.record.Request.TheVariants.{Scan}
use Rattle.sdb_types.specs.Contents.{in_span}
use Rattle.sdb_types.specs.Draws.{counted as next_number}
use Rattle.sdb_store.specs.Store.{faults_after}
use Rattle.sdb_shards.specs.Whole.{home_in, whole}
use Rattle.sdb_shards.proofs.Routes.{called_home, failed_home, own_named}
use Rattle.sdb_shards.proofs.shards.Shards.scan_partition.Goals as goal

pub returns-in-Ok-clause-called : goal.returns-in-Ok-clause-called
returns-in-Ok-clause-called c =
    called_home (Scan c.args.span.now) c.scan-reply.result c.answered.result c.in-Ok.at c.args.self.now c.begin.new.self c.answered.new.self c.scan-reply.new.self c.begin.ensures.boxes c.begin.ensures.moved c.in-Ok.ensures.inside
    (own_named c.args.self.now c.args.span.now c.args.partition.now c.in-Ok.at c.requires c.in-Ok.ensures.at) c.scan-reply.ensures
    (λ i. whole (c.answered.ensures.moved i) (c.answered.ensures.boxes i)) c.answered.ensures.reply
    (c.answered.ensures.calls ∙ ap next_number c.begin.ensures.calls) (c.answered.ensures.faults ∙ ap (faults_after c.scan-reply.result) c.begin.ensures.faults)

pub returns-in-Ok-clause-fault : goal.returns-in-Ok-clause-fault
returns-in-Ok-clause-fault c =
    failed_home c.in-Ok.at (Scan c.args.span.now) c.scan-reply.result c.answered.result c.args.self.now.boxes c.begin.new.self.boxes c.scan-reply.new.self c.answered.new.self.boxes c.begin.ensures.boxes c.in-Ok.ensures.inside c.scan-reply.ensures c.answered.ensures.reply (λ h. c.answered.ensures.boxes)
