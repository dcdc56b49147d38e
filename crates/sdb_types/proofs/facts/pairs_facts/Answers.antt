use Rattle.std.proofs.Common.{All, subst}
use Rattle.std.proofs.lemmas.List.{take_all}
use Rattle.std.proofs.lemmas.List.Elements.{All-more}
use Rattle.sdb_types.specs.Fits.{pair_fits}
use Rattle.sdb_types.proofs.facts.pairs_facts.Goals as goal

pub loop-pair-preserved : goal.loop-pair-preserved
loop-pair-preserved c =
    All-more pair_fits c.args.pairs.now c.loop-pair.pair-index c.pair-item.result c.loop-pair-test.true c.loop-pair.invariant (subst pair_fits c.pair-item.is c.pair_facts.ensures)

pub returns : goal.returns
returns c = subst (All pair_fits) (take_all c.loop-pair.pair-index c.args.pairs.now c.loop-pair-test.false) c.loop-pair.invariant
