-- The rows of `recover_next`: what holds at each kind of row holds of every step of a recovery.
use Rattle.std.proofs.Common.{◌≡◌, ℕ, ℤ, Bool, true, false, cond, List, Option, Some, None, Result, Ok, Err, refl}
use Rattle.sdb_phases.specs.Types.{Decided, Decision, Meta, Record, Reply}
use Rattle.sdb_types.specs.declared.record.Reply.TheVariants as reply
use Rattle.sdb_types.specs.Replies.{is_answered}
use Rattle.sdb_record.specs.declared.coordinator.Decision.TheVariants as decision
use Rattle.sdb_record.specs.Coordinator.{coordinator_key_of, decision_in, is_expired}
use Rattle.sdb_record.specs.Parts.{before_record}
use Rattle.sdb_record.specs.Rolls.{forward_record}
use Rattle.sdb_phases.specs.declared.step.RecoverStep.{RecoverStep}
use Rattle.sdb_phases.specs.declared.step.RecoverStep.TheVariants as steps
use Rattle.sdb_phases.specs.declared.step.RecoverPhase.{RecoverPhase}
use Rattle.sdb_phases.specs.declared.step.RecoverPhase.TheVariants as phase
use Rattle.sdb_phases.specs.Recover.{recover_next, roll_to, row_followed, undecided}

-- A property of a phase, a reply and the step that follows, at each kind of row of `recover_next`: three rows follow a
-- coordinator row, and all that no other row names is out of memory.
pub record RecoverRows (rec : Record) (meta : Meta) (now : ℤ) (P : RecoverPhase → Reply → RecoverPhase × RecoverStep → Type 0) : Type 0 where
  pub look_row : (row : Record) → P phase.Look (reply.Found (Some row)) (row_followed meta row)
  pub look_none : P phase.Look (reply.Found None) (undecided meta now)
  pub abort_applied : (moment : ℤ) → P (phase.Abort moment) reply.Applied (phase.Back, steps.More)
  pub abort_row : (moment : ℤ) (row : Record) → P (phase.Abort moment) (reply.NotMet (Some row)) (row_followed meta row)
  pub abort_fault : (moment : ℤ) → P (phase.Abort moment) reply.Fault (phase.Again, steps.More)
  pub again_row : (row : Record) → P phase.Again (reply.Found (Some row)) (row_followed meta row)
  pub again_none : P phase.Again (reply.Found None) (phase.Ended, steps.Faulted)
  pub forward : (at : ℤ) (r : Reply) → is_answered r ≡ true → P (phase.Forward at) r (phase.Ended, steps.Image (Some (forward_record rec at)))
  pub back : (r : Reply) → is_answered r ≡ true → P phase.Back r (phase.Ended, steps.Image (before_record rec))
  pub fault : (p : RecoverPhase) → P p reply.Fault (phase.Ended, steps.Faulted)
  pub no_memory : (p : RecoverPhase) (r : Reply) → P p r (phase.Ended, steps.NoMemory)

module _ (rec : Record) (meta : Meta) (now : ℤ) (P : RecoverPhase → Reply → RecoverPhase × RecoverStep → Type 0) (rows : RecoverRows rec meta now P) where
  pub by_rows : (p : RecoverPhase) (r : Reply) → P p r (recover_next rec meta p now r)
  by_rows phase.Look (reply.Found None) = rows.look_none
  by_rows phase.Look (reply.Found (Some row)) = rows.look_row row
  by_rows phase.Look (reply.Rows found) = rows.no_memory phase.Look (reply.Rows found)
  by_rows phase.Look (reply.NotAll place there) = rows.no_memory phase.Look (reply.NotAll place there)
  by_rows phase.Look reply.Applied = rows.no_memory phase.Look reply.Applied
  by_rows phase.Look (reply.NotMet found) = rows.no_memory phase.Look (reply.NotMet found)
  by_rows phase.Look reply.Fault = rows.fault phase.Look
  by_rows phase.Look reply.NoMemory = rows.no_memory phase.Look reply.NoMemory
  by_rows (phase.Abort m) (reply.Found found) = rows.no_memory (phase.Abort m) (reply.Found found)
  by_rows (phase.Abort m) (reply.Rows found) = rows.no_memory (phase.Abort m) (reply.Rows found)
  by_rows (phase.Abort m) (reply.NotAll place there) = rows.no_memory (phase.Abort m) (reply.NotAll place there)
  by_rows (phase.Abort m) reply.Applied = rows.abort_applied m
  by_rows (phase.Abort m) (reply.NotMet None) = rows.no_memory (phase.Abort m) (reply.NotMet None)
  by_rows (phase.Abort m) (reply.NotMet (Some row)) = rows.abort_row m row
  by_rows (phase.Abort m) reply.Fault = rows.abort_fault m
  by_rows (phase.Abort m) reply.NoMemory = rows.no_memory (phase.Abort m) reply.NoMemory
  by_rows phase.Again (reply.Found None) = rows.again_none
  by_rows phase.Again (reply.Found (Some row)) = rows.again_row row
  by_rows phase.Again (reply.Rows found) = rows.no_memory phase.Again (reply.Rows found)
  by_rows phase.Again (reply.NotAll place there) = rows.no_memory phase.Again (reply.NotAll place there)
  by_rows phase.Again reply.Applied = rows.no_memory phase.Again reply.Applied
  by_rows phase.Again (reply.NotMet found) = rows.no_memory phase.Again (reply.NotMet found)
  by_rows phase.Again reply.Fault = rows.fault phase.Again
  by_rows phase.Again reply.NoMemory = rows.no_memory phase.Again reply.NoMemory
  by_rows (phase.Forward at) (reply.Found found) = rows.no_memory (phase.Forward at) (reply.Found found)
  by_rows (phase.Forward at) (reply.Rows found) = rows.no_memory (phase.Forward at) (reply.Rows found)
  by_rows (phase.Forward at) (reply.NotAll place there) = rows.no_memory (phase.Forward at) (reply.NotAll place there)
  by_rows (phase.Forward at) reply.Applied = rows.forward at reply.Applied refl
  by_rows (phase.Forward at) (reply.NotMet found) = rows.forward at (reply.NotMet found) refl
  by_rows (phase.Forward at) reply.Fault = rows.fault (phase.Forward at)
  by_rows (phase.Forward at) reply.NoMemory = rows.no_memory (phase.Forward at) reply.NoMemory
  by_rows phase.Back (reply.Found found) = rows.no_memory phase.Back (reply.Found found)
  by_rows phase.Back (reply.Rows found) = rows.no_memory phase.Back (reply.Rows found)
  by_rows phase.Back (reply.NotAll place there) = rows.no_memory phase.Back (reply.NotAll place there)
  by_rows phase.Back reply.Applied = rows.back reply.Applied refl
  by_rows phase.Back (reply.NotMet found) = rows.back (reply.NotMet found) refl
  by_rows phase.Back reply.Fault = rows.fault phase.Back
  by_rows phase.Back reply.NoMemory = rows.no_memory phase.Back reply.NoMemory
  by_rows phase.Ended r = rows.no_memory phase.Ended r

---- where a row is followed, and where there is none

-- The record is rolled as the row says, or the row isn't well formed.
pub by_row : (meta : Meta) (row : Record) (Q : RecoverPhase × RecoverStep → Type 0)
    → ((d : Decided) → decision_in row ≡ Ok d → d.decision ≡ decision.Committed → Q (phase.Forward d.created_at, steps.More))
    → ((d : Decided) → decision_in row ≡ Ok d → d.decision ≡ decision.Aborted → Q (phase.Back, steps.More))
    → ((column : List ℕ) → decision_in row ≡ Err column → Q (phase.Ended, steps.BadRecord (coordinator_key_of meta.id)))
    → Q (row_followed meta row)
by_row meta row Q forward back bad = by (decision_in row) refl
  where
    on : (d : Decided) (x : Decision) → decision_in row ≡ Ok d → d.decision ≡ x → Q (elim x [ decision.Committed ↦ (phase.Forward d.created_at, steps.More) | decision.Aborted ↦ (phase.Back, steps.More) ])
    on d decision.Committed says is = forward d says is
    on d decision.Aborted says is = back d says is

    by : (o : Result Decided (List ℕ)) → decision_in row ≡ o → Q (roll_to meta o)
    by (Err column) says = bad column says
    by (Ok d) says = on d d.decision says refl

-- The record has expired, or its transaction may still decide.
pub by_expiry : (meta : Meta) (now : ℤ) (Q : RecoverPhase × RecoverStep → Type 0)
    → (is_expired meta.prepared_at now ≡ true → Q (phase.Abort now, steps.More))
    → (is_expired meta.prepared_at now ≡ false → Q (phase.Ended, steps.Busy meta.id meta.prepared_at))
    → Q (undecided meta now)
by_expiry meta now Q expired early = by (is_expired meta.prepared_at now) refl
  where
    by : (b : Bool) → is_expired meta.prepared_at now ≡ b → Q (cond b (phase.Abort now, steps.More) (phase.Ended, steps.Busy meta.id meta.prepared_at))
    by true is = expired is
    by false is = early is

-- A row, or its lack, gives no image yet.
pub no_image_of_row : (meta : Meta) (row : Record) (o : Option Record) → (row_followed meta row).1 ≡ steps.Image o → ⊥
no_image_of_row meta row o = by_row meta row (λ n. n.1 ≡ steps.Image o → ⊥) (λ d says is e. absurd (cc)) (λ d says is e. absurd (cc)) (λ column says e. absurd (cc))

pub no_image_of_none : (meta : Meta) (now : ℤ) (o : Option Record) → (undecided meta now).1 ≡ steps.Image o → ⊥
no_image_of_none meta now o = by_expiry meta now (λ n. n.1 ≡ steps.Image o → ⊥) (λ is e. absurd (cc)) (λ is e. absurd (cc))

---- every step

-- A property of a step alone, at each step that a recovery can make.
pub record RecoverSteps (rec : Record) (meta : Meta) (Q : RecoverPhase × RecoverStep → Type 0) : Type 0 where
  pub forward : (at : ℤ) → Q (phase.Forward at, steps.More)
  pub back : Q (phase.Back, steps.More)
  pub abort : (now : ℤ) → Q (phase.Abort now, steps.More)
  pub again : Q (phase.Again, steps.More)
  pub forwarded : (at : ℤ) → Q (phase.Ended, steps.Image (Some (forward_record rec at)))
  pub undone : Q (phase.Ended, steps.Image (before_record rec))
  pub busy : Q (phase.Ended, steps.Busy meta.id meta.prepared_at)
  pub fault : Q (phase.Ended, steps.Faulted)
  pub bad : Q (phase.Ended, steps.BadRecord (coordinator_key_of meta.id))
  pub no_memory : Q (phase.Ended, steps.NoMemory)

pub by_steps : (rec : Record) (meta : Meta) (Q : RecoverPhase × RecoverStep → Type 0) → RecoverSteps rec meta Q → (p : RecoverPhase) (now : ℤ) (r : Reply) → Q (recover_next rec meta p now r)
by_steps rec meta Q s p now r =
    by_rows rec meta now (λ p r n. Q n)
    (record {
      look_row = followed;
      look_none = by_expiry meta now Q (λ is. s.abort now) (λ is. s.busy);
      abort_applied = λ m. s.back;
      abort_row = λ m row. followed row;
      abort_fault = λ m. s.again;
      again_row = followed;
      again_none = s.fault;
      forward = λ at r is. s.forwarded at;
      back = λ r is. s.undone;
      fault = λ p. s.fault;
      no_memory = λ p r. s.no_memory;
    }) p r
  where
    followed : (row : Record) → Q (row_followed meta row)
    followed row = by_row meta row Q (λ d says is. s.forward d.created_at) (λ d says is. s.back) (λ column says. s.bad)
