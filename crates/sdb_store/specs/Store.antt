-- What the calls of a store mean.
use Rattle.std.specs.Prelude.{◌≡◌, ◌⊎◌, ℕ, Option, Some, None, if◌then◌else◌}
use Rattle.std.specs.FinMap as map
use Rattle.sdb_types.specs.declared.record.Condition.{Condition}
use Rattle.sdb_types.specs.declared.record.Record.{Record}
use Rattle.sdb_types.specs.declared.record.Request.{Request}
use Rattle.sdb_types.specs.declared.record.Reply.{Reply}
use Rattle.sdb_types.specs.declared.record.Reply.TheVariants as reply
use Rattle.sdb_types.specs.Contents.{Contents, CanAnswer, holds, reply_to, after}
use Rattle.sdb_types.specs.Draws.{counted as next_number}

-- The answer is the map's reply, and the contents are what the map then holds.
abbrev pub Answers : Request → Reply → Contents → Contents → Type 0
Answers q r old new = (r ≡ reply_to q old) × (new ≡ after q old)

-- the reply to a write whose condition does not hold of what is at its key
abbrev pub unmet_reply : Condition → Option Record → Option Reply
unmet_reply condition found = if holds condition found then None else Some (reply.NotMet found)

-- A call on a store of known contents: it answers as the map does and leaves what the map leaves. A fault leaves the
-- contents as before or as after the call, and out of memory leaves them as before.
abbrev pub Performs : Request → Reply → Contents → Contents → Type 0
Performs q reply.Fault old new = (new ≡ old) ⊎ (new ≡ after q old)
Performs q reply.NoMemory old new = new ≡ old
Performs q (reply.Found found) old new = Answers q (reply.Found found) old new
Performs q (reply.Rows rows) old new = Answers q (reply.Rows rows) old new
Performs q reply.Applied old new = Answers q reply.Applied old new
Performs q (reply.NotMet found) old new = Answers q (reply.NotMet found) old new
Performs q (reply.NotAll k found) old new = Answers q (reply.NotAll k found) old new

-- how many calls have failed after one that is answered so: one more where that is a fault, as far as a count of 64 bits goes, and
-- else as many as before
abbrev pub faults_after : Reply → ℕ → ℕ
faults_after reply.Fault faults = next_number faults
faults_after reply.NoMemory faults = faults
faults_after (reply.Found found) faults = faults
faults_after (reply.Rows rows) faults = faults
faults_after reply.Applied faults = faults
faults_after (reply.NotMet found) faults = faults
faults_after (reply.NotAll k found) faults = faults

-- What a store shows: whether its contents are known, what it then holds, how many calls have failed, and how many were made.
pub record StoreState : Type 1 where
  pub known : Type 0
  pub contents : Contents
  pub faults : ℕ
  pub calls : ℕ

-- A store of known contents that holds nothing, and of which no call was made.
pub record IsNewStore (store : StoreState) : Type 0 where
  pub where_known : store.known
  pub empty : store.contents ≡ map.empty
  pub sound : store.faults ≡ 0
  pub unused : store.calls ≡ 0

-- One call of a store. The reply is one that the request can get from any store. A store of known contents answers as a
-- map does, and its contents stay known. It is counted as one call, and as one failure exactly where the reply is a fault.
pub record IsStoreCall (q : Request) (r : Reply) (old new : StoreState) : Type 0 where
  pub where_known : old.known → new.known
  pub performed : old.known → Performs q r old.contents new.contents
  pub lawful : CanAnswer q r
  pub counted : new.calls ≡ next_number old.calls
  pub cause : new.faults ≡ faults_after r old.faults
