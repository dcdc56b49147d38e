use Rattle.std.proofs.Common.{All, subst}
use Rattle.std.proofs.lemmas.List.{take_all}
use Rattle.std.proofs.lemmas.List.Elements.{All-more}
use Rattle.sdb_types.specs.Fits.{value_fits}
use Rattle.sdb_types.proofs.facts.values_facts.Goals as goal

pub loop-value-preserved : goal.loop-value-preserved
loop-value-preserved c =
    All-more value_fits c.args.values.now c.loop-value.value-index c.value-item.result c.loop-value-test.true c.loop-value.invariant (subst value_fits c.value-item.is c.value_facts.ensures)

pub returns : goal.returns
returns c = subst (All value_fits) (take_all c.loop-value.value-index c.args.values.now c.loop-value-test.false) c.loop-value.invariant
