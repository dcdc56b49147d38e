use Rattle.std.proofs.Common.{◌∙◌}
use Rattle.sdb_types.specs.Contents.{rows_in}
use Rattle.sdb_shards.specs.Whole.{contents_in, whole}
use Rattle.sdb_shards.proofs.Listing.{same_held}
use Rattle.sdb_shards.proofs.Routes.{failed_rows, listed_how, scanned}
use Rattle.sdb_shards.proofs.calls.ShardsStore.scan.Goals as goal

pub returns-in-None-clause-called : goal.returns-in-None-clause-called
returns-in-None-clause-called c =
    scanned c.args.span.now c.listed-reply.result c.answered.result c.args.self.now c.answered.new.self
    ((λ i. whole (c.answered.ensures.moved i) (c.answered.ensures.boxes i)) ∙ same_held c.args.self.now.moved c.args.self.now.boxes c.gather.new.boxes c.gather.ensures.held)
    (listed_how c.gather.result c.listed-reply.result (rows_in c.args.span.now (contents_in c.args.self.now)) c.listed-reply.ensures.rows c.listed-reply.ensures.err c.gather.ensures.rows)
    c.answered.ensures.reply c.answered.ensures.calls c.answered.ensures.faults

pub returns-in-None-clause-fault : goal.returns-in-None-clause-fault
returns-in-None-clause-fault c =
    failed_rows c.gather.result c.listed-reply.result c.answered.result c.args.self.now.boxes c.gather.new.boxes c.answered.new.self.boxes c.listed-reply.ensures.fault c.gather.ensures.err c.answered.ensures.reply c.answered.ensures.boxes
