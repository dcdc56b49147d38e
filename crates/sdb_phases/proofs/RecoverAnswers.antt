-- What a recovery answers, what the replies said.
use Rattle.std.proofs.Common.{◌≡◌, ◌<◌, ◌^◌, ℕ, ℤ, List, [], ◌∷◌, length, arith, Option, Some, None, Result, Ok, Err, is_err, refl, true, false, not, cond, ◌∙◌, ap, subst, sym}
use Rattle.std.specs.Prelude.{Bool}
use Rattle.sdb_phases.specs.Types.{Decided, Decision, Key, Meta, Record, Reply, TxId}
use Rattle.sdb_types.specs.declared.record.Reply.TheVariants as reply
use Rattle.sdb_record.specs.declared.coordinator.Decision.TheVariants as decision
use Rattle.sdb_record.specs.Coordinator.{coordinator_key_of, decision_in, is_expired}
use Rattle.sdb_record.specs.Rolls.{forward_record}
use Rattle.sdb_record.specs.Parts.{before_record}
use Rattle.sdb_record.proofs.Public.{row-key}
use Rattle.sdb_phases.specs.declared.step.RecoverStep.{RecoverStep}
use Rattle.sdb_phases.specs.declared.step.RecoverStep.TheVariants as steps
use Rattle.sdb_phases.specs.declared.step.RecoverPhase.{RecoverPhase}
use Rattle.sdb_phases.specs.declared.step.RecoverPhase.TheVariants as phase
use Rattle.sdb_phases.specs.Steps.{CanGet}
use Rattle.sdb_phases.specs.CommitLaws.{is_malformed, holds_malformed}
use Rattle.sdb_phases.specs.Recover.{Received, AreRecoverReplies, recover_after, recover_answer, recover_request_at, recover_next, row_followed}
use Rattle.sdb_phases.specs.RecoverLaws.{RecoverInvariant, RecoverEnds, WasRolled, RollsTo, found_pending, received_fault, received_malformed}
use Rattle.sdb_phases.proofs.RecoverRows.{by_row, by_rows}
use Rattle.sdb_phases.proofs.CommitInvariants.{row_malformed}
use Rattle.sdb_phases.proofs.RecoverInvariants.{recover_invariant}

-- a row that was found is followed, or isn't well formed
row_ends : (rec : Record) (meta : Meta) (past : List Received) (c : Received) (row : Record) → row.key ≡ coordinator_key_of meta.id → holds_malformed meta.id c.reply ≡ is_malformed meta.id row → RecoverEnds rec meta (c ∷ past) (row_followed meta row).1
row_ends rec meta past c row key holds =
    by_row meta row (λ n. RecoverEnds rec meta (c ∷ past) n.1) (λ d says is. tt) (λ d says is. tt) (λ column says. (refl, holds ∙ row_malformed meta.id row key (ap is_err says)))

-- without a row it is busy until the record expires
waits : (rec : Record) (meta : Meta) (past : List Received) (n : ℤ) (b : Bool) → length past ≡ 0 → is_expired meta.prepared_at n ≡ b
    → RecoverEnds rec meta (record { reply = reply.Found None; now = n } ∷ past) (cond {A = RecoverPhase × RecoverStep} b (phase.Abort n, steps.More) (phase.Ended, steps.Busy meta.id meta.prepared_at)).1
waits rec meta past n true none is = tt
waits rec meta [] n false none is = (refl, refl, ap not is)
waits rec meta (c ∷ past) n false none is = absurd (omega arith)

roll_ends : (rec : Record) (meta : Meta) (past : List Received) (d : RecoverPhase) (image : Option Record) → recover_after rec meta past ≡ d → RollsTo rec meta past d image → RollsTo rec meta past (recover_after rec meta past) image
roll_ends rec meta past d image e rolls = subst (λ x. RollsTo rec meta past x image) (sym e) rolls

-- what is answered to one reply more
abbrev KeepsEnds : Record → Meta → List Received → ℤ → RecoverPhase → Reply → RecoverPhase × RecoverStep → Type 0
KeepsEnds rec meta past n d r x =
    recover_after rec meta past ≡ d → RecoverInvariant rec meta past d → CanGet (recover_request_at rec meta d) r → RecoverEnds rec meta (record { reply = r; now = n } ∷ past) x.1

ends : (rec : Record) (meta : Meta) (past : List Received) (n : ℤ) (d : RecoverPhase) (r : Reply) → KeepsEnds rec meta past n d r (recover_next rec meta d n r)
ends rec meta past n =
    by_rows rec meta n (KeepsEnds rec meta past n)
    (record {
      look_row = λ row e s gets. row_ends rec meta past (record { reply = reply.Found (Some row); now = n }) row gets refl;
      look_none = λ e s gets. waits rec meta past n (is_expired meta.prepared_at n) s refl;
      abort_applied = λ now e s gets. tt;
      abort_row = λ now row e s gets. row_ends rec meta past (record { reply = reply.NotMet (Some row); now = n }) row (gets.0 ∙ row-key meta.id decision.Aborted now) refl;
      abort_fault = λ now e s gets. tt;
      again_row = λ row e s gets. row_ends rec meta past (record { reply = reply.Found (Some row); now = n }) row gets refl;
      again_none = λ e s gets. s.2;
      forward = λ at r is e s gets. (is, roll_ends rec meta past (phase.Forward at) (Some (forward_record rec at)) e (refl, s.2));
      back = λ r is e s gets. (is, roll_ends rec meta past phase.Back (before_record rec) e (refl, s.2));
      fault = λ d e s gets. refl;
      no_memory = λ d r e s gets. tt;
    })

recover_so : (rec : Record) (meta : Meta) (past : List Received) → meta.id.0 < 2 ^ 128 → AreRecoverReplies rec meta past → RecoverEnds rec meta past (recover_answer rec meta past)
recover_so rec meta [] small correct = tt
recover_so rec meta (c ∷ past) small (correct, gets, moment) =
    ends rec meta past c.now (recover_after rec meta past) c.reply refl (recover_invariant rec meta past small correct) gets

answers_at : (rec : Record) (meta : Meta) (past : List Received) (a : RecoverStep) → meta.id.0 < 2 ^ 128 → AreRecoverReplies rec meta past → recover_answer rec meta past ≡ a → RecoverEnds rec meta past a
answers_at rec meta past a small correct e = subst (RecoverEnds rec meta past) e (recover_so rec meta past small correct)

pub busy_pending : (rec : Record) (meta : Meta) (past : List Received) (id : TxId) (prepared_at : ℤ) → meta.id.0 < 2 ^ 128 → AreRecoverReplies rec meta past → recover_answer rec meta past ≡ steps.Busy id prepared_at → (id ≡ meta.id) × (prepared_at ≡ meta.prepared_at) × (found_pending meta past ≡ true)
busy_pending rec meta past id prepared_at = answers_at rec meta past (steps.Busy id prepared_at)

pub image_rolled : (rec : Record) (meta : Meta) (past : List Received) (image : Option Record) → meta.id.0 < 2 ^ 128 → AreRecoverReplies rec meta past → recover_answer rec meta past ≡ steps.Image image → WasRolled rec meta past image
image_rolled rec meta past image = answers_at rec meta past (steps.Image image)

pub faulted_fault : (rec : Record) (meta : Meta) (past : List Received) → meta.id.0 < 2 ^ 128 → AreRecoverReplies rec meta past → recover_answer rec meta past ≡ steps.Faulted → received_fault past ≡ true
faulted_fault rec meta past = answers_at rec meta past steps.Faulted

pub bad_malformed : (rec : Record) (meta : Meta) (past : List Received) (key : Key) → meta.id.0 < 2 ^ 128 → AreRecoverReplies rec meta past → recover_answer rec meta past ≡ steps.BadRecord key → (key ≡ coordinator_key_of meta.id) × (received_malformed meta past ≡ true)
bad_malformed rec meta past key = answers_at rec meta past (steps.BadRecord key)
