-- The calls of the phases of a COMMIT under way.
use Rattle.std.proofs.Common.{◌≡◌, ◌∙◌, ◌<◌, ◌≤◌, ℕ, zero, suc, ◌+◌, Bool, true, false, List, [], ◌∷◌, length, Option, Some, None, refl, sym, ap, subst, arith}
use Rattle.std.specs.Prelude.{IfSome, IsSome, nat_lt, slice_get, if◌then◌else◌}
use Rattle.std.specs.Option.{option_map}
use Rattle.std.proofs.lemmas.List.{length-map}
use Rattle.sdb_txn.specs.Types.{AbortPhase, Outcome, Reply, Request}
use Rattle.sdb_phases.specs.declared.step.PrepareStep.{PrepareStep}
use Rattle.sdb_phases.specs.declared.step.PrepareStep.TheVariants as prepare
use Rattle.sdb_types.specs.declared.record.Reply.TheVariants as reply
use Rattle.sdb_types.specs.Contents.{IsWellFormed}
use Rattle.sdb_record.specs.Groups.{AreGroups, grouped}
use Rattle.sdb_phases.specs.declared.step.AbortPhase.TheVariants as abort
use Rattle.sdb_phases.specs.Work.{groups_of, prepares, prepares_of, writes_before}
use Rattle.sdb_phases.specs.Steps.{Prepares, abort_request, abort_request_at, prepare_next, prepare_request, prepare_result, prepare_step, touched_after, validate_request, walk_request}
use Rattle.sdb_phases.specs.Commit.{Preparing, Checking, Forward, Back, after_prepare, step}
use Rattle.sdb_phases.proofs.Public.{backs_length, more_applied, touched_within, writes_more}
use Rattle.sdb_txn.specs.declared.commit_phases.Phase.{Phase}
use Rattle.sdb_txn.specs.declared.commit_phases.Phase.TheVariants as phase
use Rattle.sdb_txn.specs.declared.commit_phases.CommitPhases.TheInside.{Inside}
use Rattle.sdb_txn.specs.CommitInside.{IsCommit, IsPreparing, IsReady, abort_stage, stage_of, undo_stage, work_of}
use Rattle.sdb_txn.proofs.Formed.{commit_formed}

---- well-formed calls

pub prepare_formed : (c : Inside) → AreGroups (grouped c.writes) → IsReady phase.Prepare c → IfSome (prepare_request c.prepare) IsWellFormed
prepare_formed c are ready = subst (λ (asks : List Request). IfSome (slice_get asks c.prepare.at) IsWellFormed) (sym ready.0) (commit_formed (work_of c) (Preparing c.prepare.at) are)

pub check_formed : (c : Inside) → IsCommit c → IfSome (validate_request c.validate) IsWellFormed
check_formed c is = subst (λ cs. IfSome (option_map (λ x. x.request) (slice_get cs c.validate.at)) IsWellFormed) (sym is.checks_are) (commit_formed (work_of c) (Checking c.validate.at) is.groups)

pub forward_formed : (c : Inside) → IsCommit c → IfSome (walk_request c.commit) IsWellFormed
forward_formed c is = subst (λ (asks : List Request). IfSome (slice_get asks c.commit.at) IsWellFormed) (sym is.forwards_are) (commit_formed (work_of c) (Forward c.commit.at) is.groups)

pub abort_formed : (c : Inside) (a : Outcome) → IsCommit c → IfSome (abort_request c.abort) IsWellFormed
abort_formed c a is = by c.abort.phase
  where
    back : (b : Bool) → IfSome (if b then slice_get c.abort.asks c.abort.at else None) IsWellFormed
    back true = subst (λ (asks : List Request). IfSome (slice_get asks c.abort.at) IsWellFormed) (sym is.backs_are) (commit_formed (work_of c) (Back a c.abort.upto c.abort.at) is.groups)
    back false = tt

    by : (p : AbortPhase) → IfSome (abort_request_at p c.abort) IsWellFormed
    by abort.Idle = tt
    by abort.Row = subst IsWellFormed (sym is.row_is) tt
    by abort.Rolling = back (nat_lt c.abort.at c.abort.upto)

---- how many are rolled back

pub all_within : (c : Inside) (n : ℕ) → IsCommit c → n ≡ length c.writes → n ≤ length c.abort.asks
all_within c n is all = omega (arith, all, ap length is.backs_are, backs_length (work_of c))

some_within : {A : Type 0} (xs : List A) (i : ℕ) → IsSome (slice_get xs i) → i < length xs
some_within [] i some = absurd (cc)
some_within (x ∷ xs) zero some = omega arith
some_within (x ∷ xs) (suc i) some = omega (arith, some_within xs i some)

---- at a prepare

pub is_preparing : (c : Inside) → IsPreparing (stage_of c.phase c) → c.phase ≡ phase.Prepare
is_preparing c h = by c.phase h
  where
    no_undo : (a : Outcome) (p : AbortPhase) → IsPreparing (undo_stage a p c.abort) → ⊥
    no_undo a abort.Idle h = h
    no_undo a abort.Row h = h
    no_undo a abort.Rolling h = h

    no_abort : (o : Option Outcome) → IsPreparing (abort_stage o c) → ⊥
    no_abort None h = h
    no_abort (Some a) h = no_undo a c.abort.phase h

    by : (p : Phase) → IsPreparing (stage_of p c) → p ≡ phase.Prepare
    by phase.Prepare h = refl
    by phase.Validate h = absurd h
    by phase.Decide h = absurd h
    by phase.Forward h = absurd h
    by phase.Abort h = absurd (no_abort c.answer h)
    by phase.Ended h = absurd h

module _ (c : Inside) (ready : IsReady phase.Prepare c) where
  asks_are : prepare_request c.prepare ≡ slice_get (prepares (work_of c)) c.prepare.at
  asks_are = ap (λ (asks : List Request). slice_get asks c.prepare.at) ready.0

  pub group_within : IsSome (slice_get (prepares (work_of c)) c.prepare.at) → c.prepare.at < groups_of (work_of c)
  group_within some = subst (λ n. c.prepare.at < n) (length-map (grouped c.writes) (prepares_of c.id c.moment)) (some_within (prepares (work_of c)) c.prepare.at some)

  touched_is : (r : Reply) → (prepare_next c.prepare r).touched ≡ touched_after (slice_get (prepares (work_of c)) c.prepare.at) (writes_before (work_of c) c.prepare.at) r
  touched_is r = ap (λ (q : Option Request). touched_after q c.prepare.touched r) asks_are ∙ ap (λ n. touched_after (slice_get (prepares (work_of c)) c.prepare.at) n r) ready.1

  result_is : (r : Reply) → prepare_result c.prepare r ≡ prepare_step (nat_lt (c.prepare.at + 1) (groups_of (work_of c))) (slice_get (prepares (work_of c)) c.prepare.at) r
  result_is r =
      ap (λ (asks : List Request). prepare_step (nat_lt (c.prepare.at + 1) (length asks)) (slice_get asks c.prepare.at) r) ready.0
      ∙ ap (λ n. prepare_step (nat_lt (c.prepare.at + 1) n) (slice_get (prepares (work_of c)) c.prepare.at) r) (length-map (grouped c.writes) (prepares_of c.id c.moment))

  -- what may have accepted effect is no more than what is rolled back
  pub touched_asks : (r : Reply) (n : ℕ) → IsCommit c → IsSome (slice_get (prepares (work_of c)) c.prepare.at) → n ≡ (prepare_next c.prepare r).touched → n ≤ length c.abort.asks
  touched_asks r n is some same = omega (arith, same, touched_is r, touched_within (work_of c) c.prepare.at r (group_within some), ap length is.backs_are, backs_length (work_of c))

  -- where the step leads
  pub step_is : (r : Reply) (s : PrepareStep) (n : ℕ) → s ≡ prepare_result c.prepare r → n ≡ (prepare_next c.prepare r).touched → step (work_of c) (Preparing c.prepare.at) r ≡ after_prepare (work_of c) c.prepare.at n s
  step_is r s n result same = ap (λ m. after_prepare (work_of c) c.prepare.at m (prepare_step (nat_lt (c.prepare.at + 1) (groups_of (work_of c))) (slice_get (prepares (work_of c)) c.prepare.at) r)) (sym (same ∙ touched_is r)) ∙ ap (after_prepare (work_of c) c.prepare.at n) (sym (result ∙ result_is r))

  pub next_ready : (r : Reply) (next : Prepares) → IsSome (slice_get (prepares (work_of c)) c.prepare.at) → prepare.More ≡ prepare_result c.prepare r → next ≡ prepare_next c.prepare r
      → (next.asks ≡ prepares (work_of c)) × (next.at ≡ c.prepare.at + 1) × (next.touched ≡ writes_before (work_of c) next.at)
  next_ready r next some more same =
      let applied = more_applied (nat_lt (c.prepare.at + 1) (length c.prepare.asks)) (prepare_request c.prepare) r (sym more) in
      let is = same ∙ ap (prepare_next c.prepare) applied in
      let at : next.at ≡ c.prepare.at + 1 = ap (λ p. p.at) is in
      (ap (λ p. p.asks) is ∙ ready.0, at, ap (λ p. p.touched) is ∙ touched_is reply.Applied ∙ writes_more (work_of c) c.prepare.at (group_within some) ∙ sym (ap (writes_before (work_of c)) at))
