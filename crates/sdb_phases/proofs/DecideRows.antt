-- The rows of `decide_next`: what holds at each kind of row holds of every step of a decision.
use Rattle.std.proofs.Common.{ℕ, List, Some, None, Result, Ok, Err}
use Rattle.sdb_phases.specs.Types.{Decided, Decision, Record, Reply, TxId}
use Rattle.sdb_types.specs.declared.record.Reply.TheVariants as reply
use Rattle.sdb_record.specs.declared.coordinator.Decision.TheVariants as decision
use Rattle.sdb_record.specs.Coordinator.{coordinator_key_of, decision_in}
use Rattle.sdb_phases.specs.declared.step.DecideStep.{DecideStep}
use Rattle.sdb_phases.specs.declared.step.DecideStep.TheVariants as steps
use Rattle.sdb_phases.specs.declared.step.DecidePhase.{DecidePhase}
use Rattle.sdb_phases.specs.declared.step.DecidePhase.TheVariants as phase
use Rattle.sdb_phases.specs.Steps.{decide_next, followed, step_of_row}

-- A property of a phase, a reply and the step that follows, at each kind of row of `decide_next`: all that no other row names
-- is out of memory at the deciding put, and Unknown after it.
pub record DecideRows (id : TxId) (P : DecidePhase → Reply → DecidePhase × DecideStep → Type 0) : Type 0 where
  pub put_applied : P phase.Put reply.Applied (phase.Ended, steps.Committed)
  pub put_row : (row : Record) → P phase.Put (reply.NotMet (Some row)) (phase.Ended, followed id (steps.Expired id) row)
  pub put_fault : P phase.Put reply.Fault (phase.Look, steps.More)
  pub no_memory : (r : Reply) → P phase.Put r (phase.Ended, steps.NoMemory)
  pub look_none : P phase.Look (reply.Found None) (phase.Abort, steps.More)
  pub look_row : (row : Record) → P phase.Look (reply.Found (Some row)) (phase.Ended, followed id (steps.Expired id) row)
  pub abort_applied : P phase.Abort reply.Applied (phase.Ended, steps.Faulted)
  pub abort_row : (row : Record) → P phase.Abort (reply.NotMet (Some row)) (phase.Ended, followed id (steps.Expired id) row)
  pub abort_fault : P phase.Abort reply.Fault (phase.Again, steps.More)
  pub again_row : (row : Record) → P phase.Again (reply.Found (Some row)) (phase.Ended, followed id steps.Faulted row)
  pub unknown : (d : DecidePhase) (r : Reply) → P d r (phase.Ended, steps.Unknown id)

module _ (id : TxId) (P : DecidePhase → Reply → DecidePhase × DecideStep → Type 0) (rows : DecideRows id P) where
  pub by_rows : (d : DecidePhase) (r : Reply) → P d r (decide_next id d r)
  by_rows phase.Put (reply.Found found) = rows.no_memory (reply.Found found)
  by_rows phase.Put (reply.Rows found) = rows.no_memory (reply.Rows found)
  by_rows phase.Put (reply.NotAll place there) = rows.no_memory (reply.NotAll place there)
  by_rows phase.Put reply.Applied = rows.put_applied
  by_rows phase.Put (reply.NotMet None) = rows.no_memory (reply.NotMet None)
  by_rows phase.Put (reply.NotMet (Some row)) = rows.put_row row
  by_rows phase.Put reply.Fault = rows.put_fault
  by_rows phase.Put reply.NoMemory = rows.no_memory reply.NoMemory
  by_rows phase.Look (reply.Found None) = rows.look_none
  by_rows phase.Look (reply.Found (Some row)) = rows.look_row row
  by_rows phase.Look (reply.Rows found) = rows.unknown phase.Look (reply.Rows found)
  by_rows phase.Look (reply.NotAll place there) = rows.unknown phase.Look (reply.NotAll place there)
  by_rows phase.Look reply.Applied = rows.unknown phase.Look reply.Applied
  by_rows phase.Look (reply.NotMet found) = rows.unknown phase.Look (reply.NotMet found)
  by_rows phase.Look reply.Fault = rows.unknown phase.Look reply.Fault
  by_rows phase.Look reply.NoMemory = rows.unknown phase.Look reply.NoMemory
  by_rows phase.Abort (reply.Found found) = rows.unknown phase.Abort (reply.Found found)
  by_rows phase.Abort (reply.Rows found) = rows.unknown phase.Abort (reply.Rows found)
  by_rows phase.Abort (reply.NotAll place there) = rows.unknown phase.Abort (reply.NotAll place there)
  by_rows phase.Abort reply.Applied = rows.abort_applied
  by_rows phase.Abort (reply.NotMet None) = rows.unknown phase.Abort (reply.NotMet None)
  by_rows phase.Abort (reply.NotMet (Some row)) = rows.abort_row row
  by_rows phase.Abort reply.Fault = rows.abort_fault
  by_rows phase.Abort reply.NoMemory = rows.unknown phase.Abort reply.NoMemory
  by_rows phase.Again (reply.Found None) = rows.unknown phase.Again (reply.Found None)
  by_rows phase.Again (reply.Found (Some row)) = rows.again_row row
  by_rows phase.Again (reply.Rows found) = rows.unknown phase.Again (reply.Rows found)
  by_rows phase.Again (reply.NotAll place there) = rows.unknown phase.Again (reply.NotAll place there)
  by_rows phase.Again reply.Applied = rows.unknown phase.Again reply.Applied
  by_rows phase.Again (reply.NotMet found) = rows.unknown phase.Again (reply.NotMet found)
  by_rows phase.Again reply.Fault = rows.unknown phase.Again reply.Fault
  by_rows phase.Again reply.NoMemory = rows.unknown phase.Again reply.NoMemory
  by_rows phase.Ended r = rows.unknown phase.Ended r

---- every step

-- A property of a step alone, at each step that a decision can make.
pub record DecideSteps (id : TxId) (Q : DecidePhase × DecideStep → Type 0) : Type 0 where
  pub look : Q (phase.Look, steps.More)
  pub abort : Q (phase.Abort, steps.More)
  pub again : Q (phase.Again, steps.More)
  pub committed : Q (phase.Ended, steps.Committed)
  pub expired : Q (phase.Ended, steps.Expired id)
  pub faulted : Q (phase.Ended, steps.Faulted)
  pub unknown : Q (phase.Ended, steps.Unknown id)
  pub bad : Q (phase.Ended, steps.BadRecord (coordinator_key_of id))
  pub no_memory : Q (phase.Ended, steps.NoMemory)

pub by_steps : (id : TxId) (Q : DecidePhase × DecideStep → Type 0) → DecideSteps id Q → (d : DecidePhase) (r : Reply) → Q (decide_next id d r)
by_steps id Q s =
    by_rows id (λ d r n. Q n)
    (record {
      put_applied = s.committed;
      put_row = λ row. on (steps.Expired id) row s.expired;
      put_fault = s.look;
      no_memory = λ r. s.no_memory;
      look_none = s.abort;
      look_row = λ row. on (steps.Expired id) row s.expired;
      abort_applied = s.faulted;
      abort_row = λ row. on (steps.Expired id) row s.expired;
      abort_fault = s.again;
      again_row = λ row. on steps.Faulted row s.faulted;
      unknown = λ d r. s.unknown;
    })
  where
    one : (aborted : DecideStep) (x : Decision) → Q (phase.Ended, aborted) → Q (phase.Ended, elim x [ decision.Committed ↦ steps.Committed | decision.Aborted ↦ aborted ])
    one aborted decision.Committed h = s.committed
    one aborted decision.Aborted h = h

    by : (aborted : DecideStep) (o : Result Decided (List ℕ)) → Q (phase.Ended, aborted) → Q (phase.Ended, step_of_row id aborted o)
    by aborted (Err column) h = s.bad
    by aborted (Ok d) h = one aborted d.decision h

    on : (aborted : DecideStep) (row : Record) → Q (phase.Ended, aborted) → Q (phase.Ended, followed id aborted row)
    on aborted row h = by aborted (decision_in row) h
