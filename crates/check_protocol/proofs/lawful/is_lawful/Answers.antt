use Rattle.check_protocol.proofs.WholeLaw.{decided}
use Rattle.check_protocol.proofs.lawful.is_lawful.Goals as goal

pub returns : goal.returns
returns c = decided c.args.plans.now c.args.past.now c.all_follow.result c.all_follow.ensures
