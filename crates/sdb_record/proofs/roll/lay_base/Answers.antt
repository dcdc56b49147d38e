use Rattle.sdb_record.proofs.Checked.{keeps-at}
use Rattle.sdb_record.proofs.roll.lay_base.Goals as goal

pub unkept-requires : goal.unkept-requires
unkept-requires c =
    keeps-at c.args.pairs.now c.loop-pair.pair-index c.pair-item.result c.loop-pair-test.true c.pair-item.is c.loop-pair.invariant.1
