use Rattle.std.proofs.Common.{All, subst}
use Rattle.std.proofs.lemmas.List.{take_all}
use Rattle.std.proofs.lemmas.List.Elements.{All-more}
use Rattle.sdb_types.specs.Fits.{record_fits}
use Rattle.law_runs.proofs.facts.records_facts.Goals as goal

pub loop-rec-preserved : goal.loop-rec-preserved
loop-rec-preserved c =
    All-more record_fits c.args.records.now c.loop-rec.rec-index c.rec-item.result c.loop-rec-test.true c.loop-rec.invariant (subst record_fits c.rec-item.is c.record_facts.ensures)

pub returns : goal.returns
returns c = subst (All record_fits) (take_all c.loop-rec.rec-index c.args.records.now c.loop-rec-test.false) c.loop-rec.invariant
