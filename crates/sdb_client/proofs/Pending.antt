-- A call is pending wherever a read or a COMMIT goes on.
use Rattle.std.proofs.Common.{◌≡◌, ℕ, ℤ, zero, suc, ◌+◌, ◌<◌, ◌≤◌, Bool, true, false, cond, List, [], ◌∷◌, ◌++◌, map, length, slice_get, Option, Some, None, refl, sym, subst, arith}
use Rattle.std.specs.Prelude.{IsSome, nat_lt}
use Rattle.std.specs.Option.{option_map}
use Rattle.std.proofs.lemmas.Bool.Decides.{nat_tests}
use Rattle.std.proofs.lemmas.List.{length-map}
use Rattle.sdb_client.specs.Types.{Check, DecidePhase, DecideStep, Key, Meta, Outcome, PrepareStep, Record, RecoverPhase, RecoverStep, Reply, Request, ValidateStep}
use Rattle.sdb_types.specs.declared.record.Reply.TheVariants as reply
use Rattle.sdb_phases.specs.declared.step.RecoverStep.TheVariants as steps
use Rattle.sdb_phases.specs.Recover.{recover_next}
use Rattle.sdb_phases.specs.declared.step.DecidePhase.TheVariants as phase
use Rattle.sdb_phases.specs.declared.step.DecideStep.TheVariants as decide
use Rattle.sdb_phases.specs.declared.step.Outcome.TheVariants as outcome
use Rattle.sdb_phases.specs.declared.step.PrepareStep.TheVariants as prepare
use Rattle.sdb_phases.specs.declared.step.ValidateStep.TheVariants as validate
use Rattle.sdb_phases.specs.Work.{Work, groups_of, prepares, writes_before}
use Rattle.sdb_phases.specs.Checks.{checks, difference_in}
use Rattle.sdb_phases.specs.Steps.{decide_next, decide_request_at, judged, prepare_step, touched_after, validate_step}
use Rattle.sdb_phases.specs.Commit.{Stage, Preparing, Checking, Deciding, Forward, Stopping, Back, Over, after_abort, after_check, after_decide, after_prepare, back, checking, forward, pending, preparing, step as commit_step}
use Rattle.sdb_phases.proofs.Public.{by_steps, GoesOn, recover_goes, refused_ends, touched_within}
use Rattle.sdb_record.specs.Groups.{grouped, in_groups}
use Rattle.sdb_record.proofs.Public.{in_groups_length}
use Rattle.sdb_txn.specs.Phases.{IsNext, ended_at}
use Rattle.sdb_validate.specs.Inside.{Judges}
use Rattle.sdb_client.specs.Inside.{IsCommitPending}
use Rattle.sdb_txn.specs.declared.read.ReadStep.TheVariants as step
use Rattle.sdb_txn.specs.Read.{Kind, Firm, Open, Bad, ReadStage, Asking, Resolving, Ended, answered, kind_of, read_pending_at, read_result, read_step, resolved, settle, settle_one}

---- reads

one_asks : (q : Request) (k : Kind) (images : List Record) (r : Record) (left : List Record) (rest : ReadStage) → (read_result rest ≡ step.More → IsSome (read_pending_at q rest)) → read_result (settle_one k images r left rest) ≡ step.More → IsSome (read_pending_at q (settle_one k images r left rest))
one_asks q Firm images r left rest h e = h e
one_asks q (Open meta) images r left rest h e = refl
one_asks q Bad images r left rest h e = absurd (cc)

settle_asks : (q : Request) (images left : List Record) → read_result (settle images left) ≡ step.More → IsSome (read_pending_at q (settle images left))
settle_asks q images [] e = absurd (cc)
settle_asks q images (r ∷ left) e = one_asks q (kind_of r) images r left (settle (images ++ r ∷ []) left) (settle_asks q (images ++ r ∷ []) left) e

answered_asks : (q : Request) (r : Reply) → read_result (answered r) ≡ step.More → IsSome (read_pending_at q (answered r))
answered_asks q (reply.Found None) e = absurd (cc)
answered_asks q (reply.Found (Some r)) e = settle_asks q [] (r ∷ []) e
answered_asks q (reply.Rows rows) e = settle_asks q [] rows e
answered_asks q r e = absurd (cc)

resolved_asks : (q : Request) (images : List Record) (rec : Record) (meta : Meta) (left : List Record) (n : RecoverPhase × RecoverStep) → GoesOn rec meta n → read_result (resolved images rec meta left n) ≡ step.More → IsSome (read_pending_at q (resolved images rec meta left n))
resolved_asks q images rec meta left (p, steps.More) h e = h refl
resolved_asks q images rec meta left (p, steps.Image None) h e = settle_asks q images left e
resolved_asks q images rec meta left (p, steps.Image (Some b)) h e = settle_asks q (images ++ b ∷ []) left e
resolved_asks q images rec meta left (p, steps.Busy id at) h e = absurd (cc)
resolved_asks q images rec meta left (p, steps.Faulted) h e = absurd (cc)
resolved_asks q images rec meta left (p, steps.BadRecord key) h e = absurd (cc)
resolved_asks q images rec meta left (p, steps.NoMemory) h e = absurd (cc)

-- a read that goes on has a call pending
pub step_asks : (q : Request) (s : ReadStage) (now : ℤ) (r : Reply) → IsSome (read_pending_at q s) → read_result (read_step s now r) ≡ step.More → IsSome (read_pending_at q (read_step s now r))
step_asks q Asking now r h e = answered_asks q r e
step_asks q (Resolving images rec meta p left) now r h e = resolved_asks q images rec meta left (recover_next rec meta p now r) (recover_goes rec meta p now r) e
step_asks q (Ended s) now r h e = absurd (cc)

---- COMMITs

some_at : {A : Type 0} (xs : List A) (i : ℕ) → i < length xs → IsSome (slice_get xs i)
some_at [] i h = absurd (omega arith)
some_at (x ∷ xs) zero h = refl
some_at (x ∷ xs) (suc i) h = some_at xs i (omega arith)

some_mapped : {A B : Type 0} (f : A → B) (o : Option A) → IsSome o → IsSome (option_map f o)
some_mapped f (Some x) h = refl
some_mapped f None h = h

some_of : {A B : Type 0} (f : A → B) (xs : List A) (i : ℕ) → i < length xs → IsSome (slice_get (map f xs) i)
some_of f xs i h = some_at (map f xs) i (subst (λ (n : ℕ). i < n) (sym (length-map xs f)) h)

pub going_asks : (p : Work) (s : Stage) → IsCommitPending p s → IsSome (pending p s)
going_asks p (Preparing i) h = some_of _ (grouped p.writes) i h
going_asks p (Checking i) h = some_mapped (λ (c : Check). c.request) (slice_get (checks p) i) (some_at (checks p) i h)
going_asks p (Deciding d) h = h
going_asks p (Forward i) h = some_of _ (grouped p.writes) i h
going_asks p (Stopping a n) h = refl
going_asks p (Back a n i) h = some_of _ (in_groups p.writes) i (let first = h.0 in let second = h.1 in omega (arith, in_groups_length p.writes))
going_asks p (Over a) h = absurd h

going_forward : (p : Work) (i : ℕ) → ended_at (forward p i) ≡ None → IsCommitPending p (forward p i)
going_forward p i h =
    elim (nat_lt i (groups_of p)) as (λ b. nat_lt i (groups_of p) ≡ b → ended_at (cond b (Forward i) (Over outcome.Committed)) ≡ None → IsCommitPending p (cond b (Forward i) (Over outcome.Committed))) [
      | true ↦ λ e k. grind (arith, nat_tests, e)
      | false ↦ λ e k. absurd (cc)
    ] refl h

going_back : (p : Work) (a : Outcome) (n i : ℕ) → n ≤ length p.writes → ended_at (back a n i) ≡ None → IsCommitPending p (back a n i)
going_back p a n i most h =
    elim (nat_lt i n) as (λ b. nat_lt i n ≡ b → ended_at (cond b (Back a n i) (Over a)) ≡ None → IsCommitPending p (cond b (Back a n i) (Over a))) [
      | true ↦ λ e k. (grind (arith, nat_tests, e), most)
      | false ↦ λ e k. absurd (cc)
    ] refl h

going_checking : (p : Work) (i : ℕ) → IsCommitPending p (checking p i)
going_checking p i =
    elim (nat_lt i (length (checks p))) as (λ b. nat_lt i (length (checks p)) ≡ b → IsCommitPending p (cond b (Checking i) (Deciding phase.Put))) [
      | true ↦ λ e. grind (arith, nat_tests, e)
      | false ↦ λ e. refl
    ] refl

pub going_first : (p : Work) → IsCommitPending p (preparing p 0)
going_first p =
    elim (nat_lt 0 (groups_of p)) as (λ b. nat_lt 0 (groups_of p) ≡ b → IsCommitPending p (cond b (Preparing 0) (checking p 0))) [
      | true ↦ λ e. grind (arith, nat_tests, e)
      | false ↦ λ e. going_checking p 0
    ] refl

less_of_test : (a b : ℕ) → nat_lt a b ≡ true → a < b
less_of_test a b e = grind (arith, nat_tests, e)

prepare_more : (more : Bool) (q : Option Request) (r : Reply) → prepare_step more q r ≡ prepare.More → more ≡ true
prepare_more true q r e = refl
prepare_more false q (reply.NotMet found) e = absurd (refused_ends q 1 found e)
prepare_more false q (reply.NotAll k found) e = absurd (refused_ends q k found e)
prepare_more false q r e = absurd (cc)

going_prepare : (p : Work) (i n : ℕ) (s : PrepareStep) → n ≤ length p.writes → (s ≡ prepare.More → i + 1 < groups_of p) → IsCommitPending p (after_prepare p i n s)
going_prepare p i n prepare.More most h = h refl
going_prepare p i n prepare.Done most h = going_checking p 0
going_prepare p i n s most h = most

going_check : (p : Work) (i : ℕ) (v : ValidateStep) → (v ≡ validate.More → i + 1 < length (checks p)) → IsCommitPending p (after_check p i v)
going_check p i validate.More h = h refl
going_check p i validate.Valid h = refl
going_check p i v h = omega arith

judged_more : (more : Bool) (o : Option (Key × Option Record)) → judged more o ≡ validate.More → more ≡ true
judged_more true o e = refl
judged_more false None e = absurd (cc)
judged_more false (Some d) e = absurd (cc)

validate_more : (more : Bool) (c : Option Check) (r : Reply) → validate_step more c r ≡ validate.More → more ≡ true
validate_more more c reply.Fault e = absurd (cc)
validate_more more c reply.NoMemory e = absurd (cc)
validate_more more (Some c) reply.Applied e = judged_more more (difference_in c reply.Applied) e
validate_more more (Some c) (reply.NotMet found) e = judged_more more (difference_in c (reply.NotMet found)) e
validate_more more (Some c) (reply.Found found) e = judged_more more (difference_in c (reply.Found found)) e
validate_more more (Some c) (reply.Rows rows) e = judged_more more (difference_in c (reply.Rows rows)) e
validate_more more (Some c) (reply.NotAll place there) e = judged_more more (difference_in c (reply.NotAll place there)) e
validate_more more None r e = absurd (cc)

judges_more : (want v : ValidateStep) → Judges want v → v ≡ validate.More → want ≡ validate.More
judges_more want validate.More h e = sym h
judges_more want v h e = absurd (cc)

abbrev DecideGoes : Work → DecidePhase × DecideStep → Type 0
DecideGoes p (d, decide.More) = IsSome (decide_request_at p.id p.now d)
DecideGoes p (d, a) = Unit {0}

decide_goes : (p : Work) (d : DecidePhase) (r : Reply) → DecideGoes p (decide_next p.id d r)
decide_goes p =
    by_steps p.id (DecideGoes p)
    (record {
      look = refl;
      abort = refl;
      again = refl;
      committed = tt;
      expired = tt;
      faulted = tt;
      unknown = tt;
      bad = tt;
      no_memory = tt;
    })

going_decide : (p : Work) (n : DecidePhase × DecideStep) → DecideGoes p n → ended_at (after_decide p n.0 n.1) ≡ None → IsCommitPending p (after_decide p n.0 n.1)
going_decide p (d, decide.More) h e = h
going_decide p (d, decide.Committed) h e = going_forward p 0 e
going_decide p (d, decide.Expired id) h e = going_back p (outcome.Expired id) (length p.writes) 0 (omega arith) e
going_decide p (d, decide.Faulted) h e = going_back p outcome.Faulted (length p.writes) 0 (omega arith) e
going_decide p (d, decide.Unknown id) h e = absurd (cc)
going_decide p (d, decide.BadRecord key) h e = absurd (cc)
going_decide p (d, decide.NoMemory) h e = omega arith

going_abort : (p : Work) (a : Outcome) (n : ℕ) (r : Reply) → n ≤ length p.writes → ended_at (after_abort a n r) ≡ None → IsCommitPending p (after_abort a n r)
going_abort p a n reply.Applied h e = going_back p a n 0 h e
going_abort p a n (reply.NotMet found) h e = going_back p a n 0 h e
going_abort p a n r h e = absurd (cc)

-- a COMMIT that goes on has a call pending
pub commit_goes : (p : Work) (s : Stage) (r : Reply) (after : Stage) → IsCommitPending p s → IsNext p s r after → ended_at (commit_step p s r) ≡ None → IsCommitPending p after
commit_goes p (Preparing i) r after h is e =
    subst (IsCommitPending p) (sym is) (going_prepare p i (touched_after (slice_get (prepares p) i) (writes_before p i) r) (prepare_step (nat_lt (i + 1) (groups_of p)) (slice_get (prepares p) i) r) (touched_within p i r h)
    (λ k. less_of_test (i + 1) (groups_of p) (prepare_more (nat_lt (i + 1) (groups_of p)) (slice_get (prepares p) i) r k)))
commit_goes p (Checking i) r after h (v, judges, is) e =
    subst (IsCommitPending p) (sym is) (going_check p i v (λ k. less_of_test (i + 1) (length (checks p)) (validate_more (nat_lt (i + 1) (length (checks p))) (slice_get (checks p) i) r (judges_more _ v judges k))))
commit_goes p (Deciding d) r after h is e = subst (IsCommitPending p) (sym is) (going_decide p (decide_next p.id d r) (decide_goes p d r) e)
commit_goes p (Forward i) r after h is e = subst (IsCommitPending p) (sym is) (going_forward p (i + 1) e)
commit_goes p (Stopping a n) r after h is e = subst (IsCommitPending p) (sym is) (going_abort p a n r h e)
commit_goes p (Back a n i) r after h is e = subst (IsCommitPending p) (sym is) (going_back p a n (i + 1) h.1 e)
commit_goes p (Over a) r after h is e = absurd h
