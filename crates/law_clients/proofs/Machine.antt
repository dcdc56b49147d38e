-- The machine of a read steps as the laws of clients say.
use Rattle.std.proofs.Common.{◌≡◌, ℤ, true, false, cond, List, [], ◌∷◌, ◌++◌, Some, None, Result, Ok, Err, refl, sym, ap, ◌∙◌, ℕ}
use Rattle.law_clients.specs.Types.{Access, Meta, Record, RecoverPhase, RecoverStep, Reply}
use Rattle.sdb_types.specs.declared.record.Reply.TheVariants as reply
use Rattle.sdb_types.specs.declared.record.State.TheVariants as state
use Rattle.sdb_record.specs.declared.access.Access.TheVariants as access
use Rattle.sdb_record.specs.Meta.{checked, is_in, is_transactional}
use Rattle.sdb_phases.specs.declared.step.RecoverStep.TheVariants as steps
use Rattle.sdb_phases.specs.Recover.{recover_next}
use Rattle.sdb_txn.specs.declared.read.ReadStep.TheVariants as step
use Rattle.sdb_txn.specs.Read as machine
use Rattle.law_clients.specs.Machine.{abstract_read}
use Rattle.law_clients.specs.ReadAt.{IsKind, after_recovery, read_pending, read_step, settle, settle_one, settle_reply}
use Rattle.sdb_txn.specs.Read.{request_of}

---- rows

opened_kind : (r : Record) (m : Result Meta (List ℕ)) → is_transactional r ≡ true → is_in state.Committed r.columns ≡ false → checked r.columns ≡ m → IsKind r (machine.opened m)
opened_kind r (Ok meta) t i e = (rw (t, i) refl, e)
opened_kind r (Err column) t i e = tt

-- A record is of the kind that it is accepted for.
pub kind_is : (r : Record) → IsKind r (machine.kind_of r)
kind_is r =
    elim (is_transactional r) as (λ t. is_transactional r ≡ t → IsKind r ((cond t (cond (is_in state.Committed r.columns) machine.Firm (machine.opened (checked r.columns))) machine.Bad))) [
      | true ↦ λ t. elim (is_in state.Committed r.columns) as (λ i. is_in state.Committed r.columns ≡ i → IsKind r ((cond i machine.Firm (machine.opened (checked r.columns))))) [
        | true ↦ λ i. (t, i)
        | false ↦ λ i. opened_kind r (checked r.columns) t i refl
      ] refl
      | false ↦ λ t. tt
    ] refl

one_same : (k : machine.Kind) (images : List Record) (r : Record) (left : List Record) (rest : machine.ReadStage) → abstract_read (machine.settle_one k images r left rest) ≡ settle_one k images r left (abstract_read rest)
one_same machine.Firm images r left rest = refl
one_same (machine.Open meta) images r left rest = refl
one_same machine.Bad images r left rest = refl

settle_same : (images left : List Record) → abstract_read (machine.settle images left) ≡ settle images left
settle_same images [] = refl
settle_same images (r ∷ left) = one_same (machine.kind_of r) images r left (machine.settle (images ++ r ∷ []) left) ∙ ap (settle_one (machine.kind_of r) images r left) (settle_same (images ++ r ∷ []) left)

---- replies

answered_same : (r : Reply) → abstract_read (machine.answered r) ≡ settle_reply r
answered_same (reply.Found None) = refl
answered_same (reply.Found (Some r)) = settle_same [] (r ∷ [])
answered_same (reply.Rows rows) = settle_same [] rows
answered_same reply.Applied = refl
answered_same (reply.NotMet found) = refl
answered_same (reply.NotAll place there) = refl
answered_same reply.Fault = refl
answered_same reply.NoMemory = refl

resolved_same : (images : List Record) (rec : Record) (meta : Meta) (left : List Record) (n : RecoverPhase × RecoverStep) → abstract_read (machine.resolved images rec meta left n) ≡ after_recovery images rec meta left n
resolved_same images rec meta left (p, steps.More) = refl
resolved_same images rec meta left (p, steps.Image None) = settle_same images left
resolved_same images rec meta left (p, steps.Image (Some b)) = settle_same (images ++ b ∷ []) left
resolved_same images rec meta left (p, steps.Busy id at) = refl
resolved_same images rec meta left (p, steps.Faulted) = refl
resolved_same images rec meta left (p, steps.BadRecord key) = refl
resolved_same images rec meta left (p, steps.NoMemory) = refl

pub machine_steps : (s : machine.ReadStage) (now : ℤ) (r : Reply) → abstract_read (machine.read_step s now r) ≡ read_step (abstract_read s) now r
machine_steps machine.Asking now r = answered_same r
machine_steps (machine.Resolving images rec meta p left) now r = resolved_same images rec meta left (recover_next rec meta p now r)
machine_steps (machine.Ended step.More) now r = refl
machine_steps (machine.Ended (step.Images images)) now r = refl
machine_steps (machine.Ended (step.Busy key id at)) now r = refl
machine_steps (machine.Ended step.Faulted) now r = refl
machine_steps (machine.Ended (step.BadRecord key)) now r = refl
machine_steps (machine.Ended step.NoMemory) now r = refl

request_same : (a : Access) → request_of a ≡ machine.request_of a
request_same (access.Get key) = refl
request_same (access.Scan span) = refl

pub machine_asks : (a : Access) (s : machine.ReadStage) → machine.read_pending_at (machine.request_of a) s ≡ read_pending a (abstract_read s)
machine_asks a machine.Asking = ap Some (sym (request_same a))
machine_asks a (machine.Resolving images rec meta p left) = refl
machine_asks a (machine.Ended step.More) = refl
machine_asks a (machine.Ended (step.Images images)) = refl
machine_asks a (machine.Ended (step.Busy key id at)) = refl
machine_asks a (machine.Ended step.Faulted) = refl
machine_asks a (machine.Ended (step.BadRecord key)) = refl
machine_asks a (machine.Ended step.NoMemory) = refl
