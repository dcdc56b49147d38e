use Rattle.std.proofs.Common.{◌∙◌}
use Rattle.sdb_bench.proofs.Spelled.{update_spelled}
use Rattle.sdb_bench.proofs.texts.update_text.Goals as goal

pub returns : goal.returns
returns c = c.in_ok-format.ensures.ok ∙ update_spelled c.args.side c.args.p c.args.v c.namespace-ns.result.now c.namespace-ns.ensures.text
