use Rattle.std.proofs.Common.{All, subst}
use Rattle.std.proofs.lemmas.List.{take_all}
use Rattle.std.proofs.lemmas.List.Elements.{All-more}
use Rattle.law_runs.specs.Facts.{dump_fits}
use Rattle.law_runs.proofs.facts.dumps_facts.Goals as goal

pub loop-dump-preserved : goal.loop-dump-preserved
loop-dump-preserved c =
    All-more dump_fits c.args.dumps.now c.loop-dump.dump-index c.dump-item.result c.loop-dump-test.true c.loop-dump.invariant (subst dump_fits c.dump-item.is c.dump_facts.ensures)

pub returns : goal.returns
returns c = subst (All dump_fits) (take_all c.loop-dump.dump-index c.args.dumps.now c.loop-dump-test.false) c.loop-dump.invariant
