-- Kinds of replies.
use Rattle.std.specs.Prelude.{Bool, true, false}
use Rattle.sdb_types.specs.declared.record.Reply.{Reply}
use Rattle.sdb_types.specs.declared.record.Reply.TheVariants as reply

-- the store failed, as far as its client knows
abbrev pub is_fault : Reply → Bool
is_fault reply.Fault = true
is_fault r = false

-- a write took effect
abbrev pub is_applied : Reply → Bool
is_applied reply.Applied = true
is_applied r = false

-- a condition of a write was not met
abbrev pub is_refused : Reply → Bool
is_refused (reply.NotMet found) = true
is_refused (reply.NotAll k found) = true
is_refused r = false

-- a write took effect, or a condition of it was not met
abbrev pub is_answered : Reply → Bool
is_answered reply.Applied = true
is_answered (reply.NotMet found) = true
is_answered (reply.NotAll k found) = true
is_answered r = false
