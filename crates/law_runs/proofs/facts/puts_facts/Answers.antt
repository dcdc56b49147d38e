use Rattle.std.proofs.Common.{All, subst}
use Rattle.std.proofs.lemmas.List.{take_all}
use Rattle.std.proofs.lemmas.List.Elements.{All-more}
use Rattle.sdb_model.specs.Plain.{put_is_plain}
use Rattle.law_runs.proofs.facts.puts_facts.Goals as goal

pub loop-put-preserved : goal.loop-put-preserved
loop-put-preserved c =
    All-more put_is_plain c.args.puts.now c.loop-put.put-index c.put-item.result c.loop-put-test.true c.loop-put.invariant (subst put_is_plain c.put-item.is c.put_facts.ensures)

pub returns : goal.returns
returns c = subst (All put_is_plain) (take_all c.loop-put.put-index c.args.puts.now c.loop-put-test.false) c.loop-put.invariant
