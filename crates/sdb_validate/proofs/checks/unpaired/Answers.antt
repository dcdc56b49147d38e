use Rattle.std.proofs.Common.{◌∙◌, sym}
use Rattle.sdb_validate.proofs.Paired.{paired_next}
use Rattle.sdb_validate.proofs.checks.unpaired.Goals as goal

pub loop-i-preserved : goal.loop-i-preserved
loop-i-preserved c =
    paired_next c.args.own.now c.args.reads.now c.loop-i.i c.index-reads-i.result c.loop-i-test.true c.index-reads-i.is (sym c.is_write_of.ensures ∙ c.if-not-is_write_of.false)
    ∙ c.loop-i.invariant
