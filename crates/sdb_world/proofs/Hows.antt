-- How a call came out is a how that its act allows, with the reply that its client gets.
use Rattle.std.proofs.Common.{refl}
use Rattle.sdb_types.specs.declared.record.Reply.{Reply}
use Rattle.sdb_types.specs.declared.record.Reply.TheVariants as reply
use Rattle.sdb_model.specs.Follows.{IsHowOfLose, IsHowOfStep}
use Rattle.sdb_contents.specs.Board.{how_lost, how_seen, reply_lost}

pub seen_allowed : (r : Reply) → IsHowOfStep (how_seen r) r
seen_allowed (reply.Found found) = refl
seen_allowed (reply.Rows rows) = refl
seen_allowed (reply.NotAll place there) = refl
seen_allowed reply.Applied = refl
seen_allowed (reply.NotMet found) = refl
seen_allowed reply.Fault = refl
seen_allowed reply.NoMemory = refl

pub lost_allowed : (r : Reply) → IsHowOfLose (how_lost r) (reply_lost r)
lost_allowed (reply.Found found) = refl
lost_allowed (reply.Rows rows) = refl
lost_allowed (reply.NotAll place there) = refl
lost_allowed reply.Applied = refl
lost_allowed (reply.NotMet found) = refl
lost_allowed reply.Fault = refl
lost_allowed reply.NoMemory = refl
