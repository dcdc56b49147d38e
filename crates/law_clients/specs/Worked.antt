-- One client's transaction, turn by turn: BEGIN, an INSERT that reads its key, and its COMMIT up to the put of COMMITTED.
use Rattle.std.specs.Prelude.{◌≡◌, ℕ, pos, true, List, [], ◌∷◌, codes}
use Rattle.law_clients.specs.Types.{Keyed, Reply, Request, TxId}
use Rattle.sdb_record.specs.declared.access.Access.TheVariants as access
use Rattle.sdb_record.specs.declared.write.Change.TheVariants as change
use Rattle.sdb_model.specs.declared.event.How.TheVariants.{Seen}
use Rattle.law_protocol.specs.Worked.{account, balance}
use Rattle.sdb_phases.specs.Work.{Work}
use Rattle.sdb_snapshot.specs.Seen as snapshot
use Rattle.sdb_snapshot.specs.Seen.{nothing, with_written}
use Rattle.law_protocol.specs.Plan.{Plan}
use Rattle.law_protocol.specs.Lawful.{Labelled, protocol_state}
use Rattle.law_clients.specs.Reads.{with_read, work_of}
use Rattle.law_clients.specs.System.{SystemAt, SystemOk, ClientCall, idle, next_id}

-- the transaction, and what it inserts
abbrev pub first_id : TxId
first_id = next_id idle 1

-- the row that it inserts
abbrev pub inserted : List Keyed
inserted = record { key = account; change = change.Row (balance (pos 100)) } ∷ []

-- what it has read, and then written
abbrev pub read_once : snapshot.Seen
read_once = with_read nothing (access.Get account) []

-- and what it has when the row is written
abbrev pub wrote_once : snapshot.Seen
wrote_once = with_written read_once inserted

-- what it commits
abbrev pub first_work : Work
first_work = work_of first_id (pos 0) wrote_once

-- a call of client 1 on its store
abbrev pub call_of : Request → Reply → ClientCall
call_of q r = record { client = 1; store = codes "ordered"; request = q; how = Seen; reply = r; now = pos 0 }

-- Events, plans and clients for which the invariant holds, and after which the transaction's put of COMMITTED was seen and applied.
pub record SomeCommit : Type 0 where
  pub plan : ℕ → Plan
  pub past : List Labelled
  pub sys : SystemAt
  pub ok : SystemOk plan past sys
  pub won : (protocol_state past).won first_id.0 ≡ true
