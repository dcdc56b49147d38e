use Rattle.std.proofs.Common.{◌∙◌}
use Rattle.sdb_bench.proofs.Spelled.{insert_spelled}
use Rattle.sdb_bench.proofs.texts.insert_text.Goals as goal

pub returns : goal.returns
returns c = c.in_ok-format.ensures.ok ∙ insert_spelled c.args.side c.args.p c.args.n c.namespace-ns.result.now c.namespace-ns.ensures.text
