use Rattle.sdb_record.proofs.RollLaws.{forward-key, forward-writer, forward-committed, forward-accepted}
use Rattle.sdb_record.proofs.laws.forward_is_committed.Goals as goal

pub returns : goal.returns
returns c = record { key = forward-key; writer = forward-writer; committed = forward-committed; accepted = forward-accepted }
