use Rattle.sdb_types.proofs.Replies.{can_answer}
use Rattle.sdb_types.proofs.laws.store_replies.Goals as goal

pub returns : goal.returns
returns c = can_answer
