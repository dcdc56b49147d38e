-- Where a recovery is, what the replies said.
use Rattle.std.proofs.Common.{◌≡◌, ◌<◌, ◌≤◌, ◌^◌, ℕ, ℤ, List, [], ◌∷◌, length, arith, Some, None, Result, Ok, Err, refl, true, false, cond, ◌∙◌, ap, subst, rules}
use Rattle.std.specs.Prelude.{Bool}
use Rattle.std.specs.Ordering.{int_eq}
use Rattle.sdb_phases.specs.Types.{Decided, Decision, Meta, Record, Reply, TxId}
use Rattle.sdb_types.specs.declared.record.Reply.TheVariants as reply
use Rattle.sdb_record.specs.declared.coordinator.Decision.TheVariants as decision
use Rattle.sdb_record.specs.Coordinator.{coordinator_key_of, coordinator_row_of, decision_in, is_expired}
use Rattle.sdb_record.specs.Meta.{is_moment}
use Rattle.sdb_record.proofs.Public.{row-decision, row-key}
use Rattle.sdb_phases.specs.declared.step.RecoverStep.{RecoverStep}
use Rattle.sdb_phases.specs.declared.step.RecoverStep.TheVariants as steps
use Rattle.sdb_phases.specs.declared.step.RecoverPhase.{RecoverPhase}
use Rattle.sdb_phases.specs.declared.step.RecoverPhase.TheVariants as phase
use Rattle.sdb_phases.specs.Work.{abort_of}
use Rattle.sdb_phases.specs.Steps.{CanGet}
use Rattle.sdb_phases.specs.CommitLaws.{observes_decision, is_decision}
use Rattle.sdb_phases.specs.Recover.{Received, AreRecoverReplies, recover_after, recover_pending, recover_request_at, recover_next, roll_to}
use Rattle.sdb_phases.specs.RecoverLaws.{RecoverInvariant, learned_committed, learned_aborted, found_expired, was_committed_at, observes_committed_at}
use Rattle.sdb_phases.proofs.RecoverRows.{by_rows}
use Rattle.sdb_phases.proofs.CommitInvariants.{row_says, left}

-- The list of what was heard, seen from outside: what was learned by it.
pub record Knows (rec : Record) (meta : Meta) (past : List Received) (v : Result Decided (List ℕ)) : Type 0 where
  some : 0 < length past
  few : length past ≤ 3
  committed : (at : ℤ) → was_committed_at at v ≡ true → learned_committed rec meta at past ≡ true
  aborted : is_decision decision.Aborted v ≡ true → learned_aborted rec meta past ≡ true

int_eq_itself : (n : ℤ) → int_eq n n ≡ true
int_eq_itself n = search rules

rolls_one : (rec : Record) (meta : Meta) (past : List Received) (e : Decision) (d : Decided) → d.decision ≡ e → Knows rec meta past (Ok d)
    → RecoverInvariant rec meta past (elim e as (λ _. RecoverPhase × RecoverStep) [ decision.Committed ↦ (phase.Forward d.created_at, steps.More) | decision.Aborted ↦ (phase.Back, steps.More) ]).0
rolls_one rec meta past decision.Committed d is k =
    let same : was_committed_at d.created_at (Ok d) ≡ true = rw is (int_eq_itself d.created_at) in
    (k.few, k.some, k.committed d.created_at same)
rolls_one rec meta past decision.Aborted d is k =
    let same : is_decision decision.Aborted (Ok d) ≡ true = rw is refl in
    (k.few, k.some, k.aborted same)

rolls : (rec : Record) (meta : Meta) (past : List Received) (v : Result Decided (List ℕ)) → Knows rec meta past v → RecoverInvariant rec meta past (roll_to meta v).0
rolls rec meta past (Err column) k = let few = k.few in omega arith
rolls rec meta past (Ok d) k = rolls_one rec meta past d.decision d refl k

---- steps

learns_committed : (rec : Record) (meta : Meta) (past : List Received) (d : RecoverPhase) (c : Received) (at : ℤ) → recover_after rec meta past ≡ d → observes_committed_at at (recover_request_at rec meta d) c.reply ≡ true → learned_committed rec meta at (c ∷ past) ≡ true
learns_committed rec meta past d c at e h =
    left (observes_committed_at at (recover_pending rec meta past) c.reply) (learned_committed rec meta at past) (ap (λ x. observes_committed_at at (recover_request_at rec meta x) c.reply) e ∙ h)

learns_aborted : (rec : Record) (meta : Meta) (past : List Received) (d : RecoverPhase) (c : Received) → recover_after rec meta past ≡ d → observes_decision meta.id decision.Aborted (recover_request_at rec meta d) c.reply ≡ true → learned_aborted rec meta (c ∷ past) ≡ true
learns_aborted rec meta past d c e h =
    left (observes_decision meta.id decision.Aborted (recover_pending rec meta past) c.reply) (learned_aborted rec meta past) (ap (λ x. observes_decision meta.id decision.Aborted (recover_request_at rec meta x) c.reply) e ∙ h)

-- a row that was found at a phase is followed
row_rolls : (rec : Record) (meta : Meta) (past : List Received) (d : RecoverPhase) (c : Received) (row : Record) → recover_after rec meta past ≡ d → length past ≤ 2 → row.key ≡ coordinator_key_of meta.id
    → ((at : ℤ) → observes_committed_at at (recover_request_at rec meta d) c.reply ≡ was_committed_at at (decision_in row))
    → (is_decision decision.Aborted (decision_in row) ≡ true → observes_decision meta.id decision.Aborted (recover_request_at rec meta d) c.reply ≡ true)
    → RecoverInvariant rec meta (c ∷ past) (roll_to meta (decision_in row)).0
row_rolls rec meta past d c row e few key committed aborted =
    rolls rec meta (c ∷ past) (decision_in row) (record {
      some = omega arith;
      few = omega arith;
      committed = λ at h. learns_committed rec meta past d c at e (committed at ∙ h);
      aborted = λ h. learns_aborted rec meta past d c e (aborted h);
    })

expires : (rec : Record) (meta : Meta) (past : List Received) (n : ℤ) (b : Bool) → length past ≡ 0 → is_moment n ≡ true → is_expired meta.prepared_at n ≡ b
    → RecoverInvariant rec meta (record { reply = reply.Found None; now = n } ∷ past) (cond {A = RecoverPhase × RecoverStep} b (phase.Abort n, steps.More) (phase.Ended, steps.Busy meta.id meta.prepared_at)).0
expires rec meta [] n true none moment is = (refl, is, is, moment)
expires rec meta [] n false none moment is = omega arith
expires rec meta (c ∷ past) n b none moment is = absurd (omega arith)

still_expired : (meta : Meta) (c : Received) (past : List Received) → 0 < length past → found_expired meta past ≡ true → found_expired meta (c ∷ past) ≡ true
still_expired meta c [] some h = absurd (omega arith)
still_expired meta c (d ∷ past) some h = h

own_aborted_says : (id : TxId) (now : ℤ) → id.0 < 2 ^ 128 → is_moment now ≡ true → observes_decision id decision.Aborted (Some (abort_of id now)) reply.Applied ≡ true
own_aborted_says id now small moment =
    row_says id decision.Aborted (coordinator_row_of id decision.Aborted now) (row-key id decision.Aborted now) (ap (is_decision decision.Aborted) (row-decision id decision.Aborted now small moment))

-- a call that ends it is the fourth at most
ended_few : (rec : Record) (meta : Meta) (past : List Received) (d : RecoverPhase) (r : Reply) → RecoverInvariant rec meta past d → CanGet (recover_request_at rec meta d) r → length past ≤ 3
ended_few rec meta past phase.Look r s gets = omega arith
ended_few rec meta past (phase.Abort now) r (calls, expired, here, valid) gets = omega arith
ended_few rec meta past phase.Again r (calls, expired, faulted) gets = omega arith
ended_few rec meta past (phase.Forward at) r (few, some, learned) gets = few
ended_few rec meta past phase.Back r (few, some, learned) gets = few
ended_few rec meta past phase.Ended r s gets = absurd gets

-- the invariant after one reply more
abbrev KeepsInvariant : Record → Meta → List Received → ℤ → RecoverPhase → Reply → RecoverPhase × RecoverStep → Type 0
KeepsInvariant rec meta past n d r x =
    recover_after rec meta past ≡ d → RecoverInvariant rec meta past d → CanGet (recover_request_at rec meta d) r → RecoverInvariant rec meta (record { reply = r; now = n } ∷ past) x.0

step : (rec : Record) (meta : Meta) (past : List Received) → meta.id.0 < 2 ^ 128 → (n : ℤ) → is_moment n ≡ true → (d : RecoverPhase) (r : Reply) → KeepsInvariant rec meta past n d r (recover_next rec meta d n r)
step rec meta past small n moment =
    by_rows rec meta n (KeepsInvariant rec meta past n)
    (record {
      look_row = λ row e s gets. row_rolls rec meta past phase.Look (record { reply = reply.Found (Some row); now = n }) row e (omega arith) gets (λ at. refl) (row_says meta.id decision.Aborted row gets);
      look_none = λ e s gets. expires rec meta past n (is_expired meta.prepared_at n) s moment refl;
      abort_applied = λ now e s gets. let (calls, expired, here, valid) = s in (omega arith, omega arith, learns_aborted rec meta past (phase.Abort now) (record { reply = reply.Applied; now = n }) e (own_aborted_says meta.id now small valid));
      abort_row = λ now row e s gets.
          let (calls, expired, here, valid) = s in
          let key : row.key ≡ coordinator_key_of meta.id = gets.0 ∙ row-key meta.id decision.Aborted now in
          row_rolls rec meta past (phase.Abort now) (record { reply = reply.NotMet (Some row); now = n }) row e (omega arith) key (λ at. refl) (row_says meta.id decision.Aborted row key);
      abort_fault = λ now e s gets. let (calls, expired, here, valid) = s in (omega arith, still_expired meta (record { reply = reply.Fault; now = n }) past (omega arith) expired, refl);
      again_row = λ row e s gets. let (calls, expired, faulted) = s in row_rolls rec meta past phase.Again (record { reply = reply.Found (Some row); now = n }) row e (omega arith) gets (λ at. refl) (row_says meta.id decision.Aborted row gets);
      again_none = λ e s gets. let (calls, expired, faulted) = s in omega arith;
      forward = λ at r is e s gets. let (few, some, learned) = s in omega arith;
      back = λ r is e s gets. let (few, some, learned) = s in omega arith;
      fault = λ d e s gets. let few : length past ≤ 3 = ended_few rec meta past d reply.Fault s gets in omega arith;
      no_memory = λ d r e s gets. let few : length past ≤ 3 = ended_few rec meta past d r s gets in omega arith;
    })

pub recover_invariant : (rec : Record) (meta : Meta) (past : List Received) → meta.id.0 < 2 ^ 128 → AreRecoverReplies rec meta past → RecoverInvariant rec meta past (recover_after rec meta past)
recover_invariant rec meta [] small correct = refl
recover_invariant rec meta (c ∷ past) small (correct, gets, moment) =
    step rec meta past small c.now moment (recover_after rec meta past) c.reply refl (recover_invariant rec meta past small correct) gets

lies_at : (rec : Record) (meta : Meta) (past : List Received) (d : RecoverPhase) → meta.id.0 < 2 ^ 128 → AreRecoverReplies rec meta past → recover_after rec meta past ≡ d → RecoverInvariant rec meta past d
lies_at rec meta past d small correct e = subst (RecoverInvariant rec meta past) e (recover_invariant rec meta past small correct)

few_calls : (rec : Record) (meta : Meta) (past : List Received) (d : RecoverPhase) → RecoverInvariant rec meta past d → length past ≤ 4
few_calls rec meta past phase.Look s = omega arith
few_calls rec meta past (phase.Abort now) (calls, expired, here, valid) = omega arith
few_calls rec meta past phase.Again (calls, expired, faulted) = omega arith
few_calls rec meta past (phase.Forward at) (few, some, learned) = omega arith
few_calls rec meta past phase.Back (few, some, learned) = omega arith
few_calls rec meta past phase.Ended s = s

pub recovers_in_four : (rec : Record) (meta : Meta) (past : List Received) → meta.id.0 < 2 ^ 128 → AreRecoverReplies rec meta past → length past ≤ 4
recovers_in_four rec meta past small correct = few_calls rec meta past (recover_after rec meta past) (recover_invariant rec meta past small correct)

pub aborts_expired : (rec : Record) (meta : Meta) (past : List Received) (now : ℤ) → meta.id.0 < 2 ^ 128 → AreRecoverReplies rec meta past → recover_after rec meta past ≡ phase.Abort now → (length past ≡ 1) × (found_expired meta past ≡ true)
aborts_expired rec meta past now small correct e =
    let (calls, expired, here, valid) = lies_at rec meta past (phase.Abort now) small correct e in (calls, expired)

pub forwards_committed : (rec : Record) (meta : Meta) (past : List Received) (at : ℤ) → meta.id.0 < 2 ^ 128 → AreRecoverReplies rec meta past → recover_after rec meta past ≡ phase.Forward at → learned_committed rec meta at past ≡ true
forwards_committed rec meta past at small correct e =
    let (few, some, learned) = lies_at rec meta past (phase.Forward at) small correct e in learned

pub backs_aborted : (rec : Record) (meta : Meta) (past : List Received) → meta.id.0 < 2 ^ 128 → AreRecoverReplies rec meta past → recover_after rec meta past ≡ phase.Back → learned_aborted rec meta past ≡ true
backs_aborted rec meta past small correct e =
    let (few, some, learned) = lies_at rec meta past phase.Back small correct e in learned
