-- The records of a read are fine after each reply that its call can get.
use Rattle.std.proofs.Common.{◌≡◌, ℕ, ℤ, Bool, true, false, List, [], ◌∷◌, ◌++◌, Option, Some, None, Result, Ok, Err, refl, sym, ap, subst}
use Rattle.std.specs.Prelude.{if◌then◌else◌}
use Rattle.std.proofs.lemmas.List.{append_assoc, append-nil}
use Rattle.sdb_txn.specs.Types.{Meta, Record, RecoverPhase, RecoverStep, Reply, Request}
use Rattle.sdb_types.specs.declared.record.Reply.TheVariants as reply
use Rattle.sdb_types.specs.declared.record.Request.TheVariants as ask
use Rattle.sdb_types.specs.declared.record.State.TheVariants as state
use Rattle.sdb_record.specs.Meta.{checked, is_in, is_transactional, is_unresolved}
use Rattle.sdb_record.specs.Parts.{before_record}
use Rattle.sdb_record.specs.Rolls.{IsBaseOf, AreCommitted}
use Rattle.sdb_phases.specs.declared.step.RecoverStep.TheVariants as steps
use Rattle.sdb_phases.specs.declared.step.RecoverPhase.TheVariants as phase
use Rattle.sdb_phases.specs.Recover.{recover_next, row_followed}
use Rattle.sdb_phases.specs.Steps.{CanGet}
use Rattle.sdb_phases.proofs.Public.{by_expiry, by_row, by_rows_recover_rows as by_rows}
use Rattle.sdb_txn.specs.Read.{Kind, Firm, Open, Bad, ReadStage, Asking, Resolving, Ended, answered, kind_of, opened, read_pending_at, read_step, resolved, settle, settle_one}
use Rattle.sdb_txn.specs.Rows.{sort_of}
use Rattle.sdb_txn.specs.Valid.{AreWithin, IsValid, IsPhase}
use Rattle.sdb_txn.proofs.Firm.{open_unresolved}
use Rattle.sdb_txn.proofs.Images.{before_firm, decided_at, forward_firm}
use Rattle.sdb_txn.proofs.Places.{placed_drop, placed_swap}

firm_more : (images : List Record) (b : Record) → AreCommitted images → IsBaseOf b.key b → AreCommitted (images ++ b ∷ [])
firm_more [] b f g = (g, tt)
firm_more (x ∷ xs) b f g = (f.0, firm_more xs b f.1 g)

---- what a row is

pub firm_by : (accepted committed : Bool) (k : Result Meta (List ℕ)) → (if accepted then (if committed then Firm else opened k) else Bad) ≡ Firm → (accepted ≡ true) × (committed ≡ true)
firm_by true true k h = (refl, refl)
firm_by true false (Ok meta) h = absurd (cc)
firm_by true false (Err column) h = absurd (cc)
firm_by false committed k h = absurd (cc)

pub open_by : (accepted committed : Bool) (k : Result Meta (List ℕ)) (meta : Meta) → (if accepted then (if committed then Firm else opened k) else Bad) ≡ Open meta → k ≡ Ok meta
open_by true true k meta h = absurd (cc)
open_by true false (Ok m) meta h = let e : m ≡ meta = cc in ap Ok e
open_by true false (Err column) meta h = absurd (cc)
open_by false committed k meta h = absurd (cc)

---- rows are settled

settle_fine : (q : Request) (images left : List Record) → AreCommitted images → AreWithin q (images ++ left) → IsValid q (settle images left)
settle_fine q images [] f p = (f, subst (AreWithin q) (append-nil images) p)
settle_fine q images (r ∷ left) f p = by (kind_of r) refl (λ g. settle_fine q (images ++ r ∷ []) left (firm_more images r f g) (subst (AreWithin q) (sym (append_assoc images (r ∷ []) left)) p))
  where
    by : (k : Kind) → kind_of r ≡ k → (IsBaseOf r.key r → IsValid q (settle (images ++ r ∷ []) left)) → IsValid q (settle_one k images r left (settle (images ++ r ∷ []) left))
    by Firm e next = let h = firm_by (is_transactional r) (is_in state.Committed r.columns) (checked r.columns) e in next (refl, h.0, h.1)
    by (Open meta) e next = (f, p, open_unresolved r (ap sort_of e), open_by (is_transactional r) (is_in state.Committed r.columns) (checked r.columns) meta e, tt)
    by Bad e next = tt

answered_fine : (q : Request) (r : Reply) → CanGet (Some q) r → IsValid q (answered r)
answered_fine (ask.Get key) (reply.Found None) h = (tt, tt)
answered_fine (ask.Get key) (reply.Found (Some row)) h = settle_fine (ask.Get key) [] (row ∷ []) tt h
answered_fine (ask.Get key) (reply.Rows rows) h = absurd h
answered_fine (ask.Scan span) (reply.Found found) h = absurd h
answered_fine (ask.Scan span) (reply.Rows rows) h = settle_fine (ask.Scan span) [] rows tt h
answered_fine (ask.PutIf rec condition) (reply.Found found) h = absurd h
answered_fine (ask.PutIf rec condition) (reply.Rows rows) h = absurd h
answered_fine (ask.DeleteIf key condition) (reply.Found found) h = absurd h
answered_fine (ask.PutAll batch) (reply.Found found) h = absurd h
answered_fine (ask.DeleteIf key condition) (reply.Rows rows) h = absurd h
answered_fine (ask.PutAll batch) (reply.Rows rows) h = absurd h
answered_fine q reply.Applied h = tt
answered_fine q (reply.NotMet found) h = tt
answered_fine q (reply.NotAll place there) h = tt
answered_fine q reply.Fault h = tt
answered_fine q reply.NoMemory h = tt

---- a recovery goes on

abbrev IsFineNext : Record → RecoverPhase × RecoverStep → Type 0
IsFineNext rec (p, steps.More) = IsPhase p
IsFineNext rec (p, steps.Image None) = Unit {0}
IsFineNext rec (p, steps.Image (Some b)) = IsBaseOf rec.key b
IsFineNext rec (p, s) = Unit {0}

followed_fine : (rec : Record) (meta : Meta) (row : Record) → IsFineNext rec (row_followed meta row)
followed_fine rec meta row = by_row meta row (IsFineNext rec) (λ d says is. decided_at row d says) (λ d says is. tt) (λ column says. tt)

before_fine : (rec : Record) → is_unresolved rec ≡ true → IsFineNext rec (phase.Ended, steps.Image (before_record rec))
before_fine rec loose = by (before_record rec) refl
  where
    by : (o : Option Record) → before_record rec ≡ o → IsFineNext rec (phase.Ended, steps.Image o)
    by None e = tt
    by (Some b) e = before_firm rec b loose e

next_fine : (rec : Record) (meta : Meta) → is_unresolved rec ≡ true → (p : RecoverPhase) (now : ℤ) (r : Reply) → IsPhase p → IsFineNext rec (recover_next rec meta p now r)
next_fine rec meta loose p now r =
    by_rows rec meta now (λ p r n. IsPhase p → IsFineNext rec n)
    (record {
      look_row = λ row h. followed_fine rec meta row;
      look_none = λ h. by_expiry meta now (IsFineNext rec) (λ is. tt) (λ is. tt);
      abort_applied = λ moment h. tt;
      abort_row = λ moment row h. followed_fine rec meta row;
      abort_fault = λ moment h. tt;
      again_row = λ row h. followed_fine rec meta row;
      again_none = λ h. tt;
      forward = λ at r is h. forward_firm rec at loose h;
      back = λ r is h. before_fine rec loose;
      fault = λ p h. tt;
      no_memory = λ p r h. tt;
    }) p r

resolved_fine : (q : Request) (images : List Record) (rec : Record) (meta : Meta) (left : List Record) (n : RecoverPhase × RecoverStep) → AreCommitted images → AreWithin q (images ++ rec ∷ left) → is_unresolved rec ≡ true → checked rec.columns ≡ Ok meta → IsFineNext rec n → IsValid q (resolved images rec meta left n)
resolved_fine q images rec meta left (p, steps.More) f place loose says h = (f, place, loose, says, h)
resolved_fine q images rec meta left (p, steps.Image None) f place loose says h = settle_fine q images left f (placed_drop q images rec left place)
resolved_fine q images rec meta left (p, steps.Image (Some b)) f place loose says h =
    settle_fine q (images ++ b ∷ []) left (firm_more images b f (refl, h.1, h.2)) (subst (AreWithin q) (sym (append_assoc images (b ∷ []) left)) (placed_swap q images rec b left h.0 place))
resolved_fine q images rec meta left (p, steps.Busy id at) f place loose says h = tt
resolved_fine q images rec meta left (p, steps.Faulted) f place loose says h = tt
resolved_fine q images rec meta left (p, steps.BadRecord key) f place loose says h = tt
resolved_fine q images rec meta left (p, steps.NoMemory) f place loose says h = tt

pub step_valid : (q : Request) (s : ReadStage) (now : ℤ) (r : Reply) → IsValid q s → CanGet (read_pending_at q s) r → IsValid q (read_step s now r)
step_valid q Asking now r f h = answered_fine q r h
step_valid q (Resolving images rec meta p left) now r f h =
    resolved_fine q images rec meta left (recover_next rec meta p now r) f.0 f.1 f.2 f.3 (next_fine rec meta f.2 p now r f.4)
step_valid q (Ended s) now r f h = absurd h
