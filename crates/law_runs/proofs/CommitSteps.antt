-- A COMMIT of a client makes the calls of one over its replies, one after the other; a conflict that a check found may be answered as out of memory.
use Rattle.std.proofs.Common.{◌≡◌, ◌⊎◌, inl, inr, ℕ, ◌+◌, Bool, true, false, List, [], ◌∷◌, ◌++◌, length, Option, Some, None, refl, sym, ap, subst, ◌∙◌}
use Rattle.std.specs.Prelude.{if◌then◌else◌, nat_lt}
use Rattle.law_runs.specs.Types.{Answer, Outcome, Reply, Request, ValidateStep}
use Rattle.sdb_types.specs.declared.record.Reply.TheVariants as reply
use Rattle.sdb_types.specs.Contents.{CanAnswer}
use Rattle.sdb_types.proofs.Public.{clash, none_some, some_is}
use Rattle.sdb_model.specs.declared.answer.Answer.TheVariants as answer
use Rattle.sdb_phases.specs.declared.step.DecidePhase.TheVariants as phase
use Rattle.sdb_phases.specs.declared.step.Outcome.TheVariants as outcome
use Rattle.sdb_phases.specs.declared.step.ValidateStep.TheVariants as validate
use Rattle.sdb_phases.specs.Checks.{checks}
use Rattle.sdb_phases.specs.Commit.{Stage, Preparing, Checking, Deciding, Forward, Stopping, Back, Over, after_abort, after_check, back, checking, out_of_memory, out_of_memory_answer, pending, preparing, step}
use Rattle.sdb_phases.specs.Steps.{CanGet}
use Rattle.sdb_phases.specs.Work.{Work, groups_of}
use Rattle.sdb_validate.specs.Inside.{Judges}
use Rattle.sdb_txn.specs.Phases.{IsNext, ended_at}
use Rattle.sdb_txn.specs.Txn.{progress_of}
use Rattle.sdb_client.specs.Client.{answer_in, next_of}
use Rattle.law_answers.specs.Paths.{Call, EndsIn, Makes, is_over, with_call}
use Rattle.law_answers.proofs.Public.{made_more, made_none, rolls_bad, rolls_committed, rolls_lost, rolls_unknown}
use Rattle.law_runs.specs.CommitPaths.{IsAnswerOf, RollsAs}
use Rattle.sdb_phases.proofs.Public.{starved-pending}

---- a stage, or the same with out of memory in place of a conflict

abbrev pub IsAs : Stage → Stage → Type 0
IsAs t s = (s ≡ t) ⊎ (s ≡ out_of_memory t)

pending_as : (p : Work) (t s : Stage) → IsAs t s → pending p t ≡ pending p s
pending_as p t s (inl e) = ap (pending p) (sym e)
pending_as p t s (inr e) = sym (ap (pending p) e ∙ starved-pending p t)

answer_twice : (a : Outcome) → out_of_memory_answer (out_of_memory_answer a) ≡ out_of_memory_answer a
answer_twice outcome.Committed = refl
answer_twice (outcome.Conflict key found) = refl
answer_twice (outcome.Expired id) = refl
answer_twice outcome.Faulted = refl
answer_twice (outcome.Unknown id) = refl
answer_twice (outcome.BadRecord key) = refl
answer_twice outcome.NoMemory = refl

stage_twice : (t : Stage) → out_of_memory (out_of_memory t) ≡ out_of_memory t
stage_twice (Preparing i) = refl
stage_twice (Checking i) = refl
stage_twice (Deciding d) = refl
stage_twice (Forward i) = refl
stage_twice (Stopping a n) = ap (λ b. Stopping b n) (answer_twice a)
stage_twice (Back a n i) = ap (λ b. Back b n i) (answer_twice a)
stage_twice (Over a) = ap Over (answer_twice a)

as_twice : (t s u : Stage) → IsAs t s → IsAs s u → IsAs t u
as_twice t s u h (inl e) = subst (IsAs t) (sym e) h
as_twice t s u (inl e) (inr f) = inr (f ∙ ap out_of_memory e)
as_twice t s u (inr e) (inr f) = inr (f ∙ ap out_of_memory e ∙ stage_twice t)

back_short : (a : Outcome) (n i : ℕ) → back (out_of_memory_answer a) n i ≡ out_of_memory (back a n i)
back_short a n i = by (nat_lt i n)
  where
    by : (b : Bool) → (if b then Back (out_of_memory_answer a) n i else Over (out_of_memory_answer a)) ≡ out_of_memory (if b then Back a n i else Over a)
    by true = refl
    by false = refl

abort_short : (a : Outcome) (n : ℕ) (r : Reply) → after_abort (out_of_memory_answer a) n r ≡ out_of_memory (after_abort a n r)
abort_short a n reply.Applied = back_short a n 0
abort_short a n (reply.NotMet found) = back_short a n 0
abort_short a n reply.Fault = refl
abort_short a n (reply.Found found) = refl
abort_short a n (reply.Rows rows) = refl
abort_short a n (reply.NotAll place there) = refl
abort_short a n reply.NoMemory = refl

step_short : (p : Work) (t : Stage) (r : Reply) → IsAs (step p t r) (step p (out_of_memory t) r)
step_short p (Preparing i) r = inl refl
step_short p (Checking i) r = inl refl
step_short p (Deciding d) r = inl refl
step_short p (Forward i) r = inl refl
step_short p (Stopping a n) r = inr (abort_short a n r)
step_short p (Back a n i) r = inr (back_short a n (i + 1))
step_short p (Over a) r = inr refl

step_as : (p : Work) (t s : Stage) (r : Reply) → IsAs t s → IsAs (step p t r) (step p s r)
step_as p t s r (inl e) = inl (ap (λ x. step p x r) e)
step_as p t s r (inr e) = subst (λ x. IsAs (step p t r) (step p x r)) (sym e) (step_short p t r)

judged_as : (p : Work) (i : ℕ) (want v : ValidateStep) → Judges want v → IsAs (after_check p i want) (after_check p i v)
judged_as p i want validate.More h = inl (ap (after_check p i) h)
judged_as p i want validate.Valid h = inl (ap (after_check p i) h)
judged_as p i want (validate.Conflict key found) h = inl (ap (after_check p i) h)
judged_as p i want validate.Faulted h = inl (ap (after_check p i) h)
judged_as p i validate.NoMemory validate.NoMemory h = inl refl
judged_as p i (validate.Conflict key found) validate.NoMemory h = inr refl
judged_as p i validate.More validate.NoMemory h = clash (sym h)
judged_as p i validate.Valid validate.NoMemory h = clash (sym h)
judged_as p i validate.Faulted validate.NoMemory h = clash (sym h)

next_as : (p : Work) (s : Stage) (r : Reply) (next : Stage) → IsNext p s r next → IsAs (step p s r) next
next_as p (Preparing i) r next n = inl n
next_as p (Checking i) r next n = subst (IsAs (step p (Checking i) r)) (sym n.2) (judged_as p i _ n.0 n.1)
next_as p (Deciding d) r next n = inl n
next_as p (Forward i) r next n = inl n
next_as p (Stopping a k) r next n = inl n
next_as p (Back a k i) r next n = inl n
next_as p (Over a) r next n = inl n

---- what a COMMIT is answered

given : (o : Outcome) (b : Answer) → Some b ≡ answer_in (next_of (progress_of (Some o))) → IsAnswerOf o b
given outcome.Committed b e = some_is b answer.Committed e
given (outcome.Conflict key found) b e = inl (some_is b (answer.Conflict key found) e)
given (outcome.Expired id) b e = some_is b (answer.Expired id) e
given outcome.Faulted b e = some_is b answer.Faulted e
given (outcome.Unknown id) b e = some_is b (answer.Unknown id) e
given (outcome.BadRecord key) b e = some_is b (answer.BadRecord key) e
given outcome.NoMemory b e = some_is b answer.NoMemory e

given_short : (o : Outcome) (b : Answer) → IsAnswerOf (out_of_memory_answer o) b → IsAnswerOf o b
given_short outcome.Committed b h = h
given_short (outcome.Conflict key found) b h = inr h
given_short (outcome.Expired id) b h = h
given_short outcome.Faulted b h = h
given_short (outcome.Unknown id) b h = h
given_short (outcome.BadRecord key) b h = h
given_short outcome.NoMemory b h = h

-- what has ended so
abbrev OverIn : Stage → Answer → Type 0
OverIn t b = (o : Outcome) × (t ≡ Over o) × IsAnswerOf o b

over_short : (t : Stage) (o : Outcome) (b : Answer) → IsAnswerOf o b → Over o ≡ out_of_memory t → OverIn t b
over_short (Over u) o b h e = (u, refl, given_short u b (subst (λ x. IsAnswerOf x b) (some_is o (out_of_memory_answer u) (ap ended_at e)) h))
over_short (Preparing i) o b h e = absurd (cc)
over_short (Checking i) o b h e = absurd (cc)
over_short (Deciding d) o b h e = absurd (cc)
over_short (Forward i) o b h e = absurd (cc)
over_short (Stopping a n) o b h e = absurd (cc)
over_short (Back a n i) o b h e = absurd (cc)

over_as : (t : Stage) (o : Outcome) (b : Answer) → IsAnswerOf o b → IsAs t (Over o) → OverIn t b
over_as t o b h (inl e) = (o, sym e, h)
over_as t o b h (inr e) = over_short t o b h e

ended_as : (t s : Stage) (b : Answer) → IsAs t s → Some b ≡ answer_in (next_of (progress_of (ended_at s))) → OverIn t b
ended_as t (Over o) b h e = over_as t o b (given o b e) h
ended_as t (Preparing i) b h e = none_some b (sym e)
ended_as t (Checking i) b h e = none_some b (sym e)
ended_as t (Deciding d) b h e = none_some b (sym e)
ended_as t (Forward i) b h e = none_some b (sym e)
ended_as t (Stopping a n) b h e = none_some b (sym e)
ended_as t (Back a n i) b h e = none_some b (sym e)

still_on : (t s : Stage) → IsAs t s → ended_at s ≡ None → is_over t ≡ false
still_on (Over a) s (inl e) none = none_some a (sym none ∙ ap ended_at e)
still_on (Over a) s (inr e) none = none_some (out_of_memory_answer a) (sym none ∙ ap ended_at e)
still_on (Preparing i) s h none = refl
still_on (Checking i) s h none = refl
still_on (Deciding d) s h none = refl
still_on (Forward i) s h none = refl
still_on (Stopping a n) s h none = refl
still_on (Back a n i) s h none = refl

-- what it rolls
pub rolls_as : (p : Work) (calls : List Call) (o : Outcome) (b : Answer) → EndsIn p calls o → IsAnswerOf o b → RollsAs p calls b
rolls_as p calls outcome.Committed b m e = subst (RollsAs p calls) (sym e) (rolls_committed p calls m)
rolls_as p calls (outcome.Conflict key found) b m (inl e) = subst (RollsAs p calls) (sym e) (rolls_lost p calls (outcome.Conflict key found) tt m)
rolls_as p calls (outcome.Conflict key found) b m (inr e) = subst (RollsAs p calls) (sym e) (rolls_lost p calls (outcome.Conflict key found) tt m)
rolls_as p calls (outcome.Expired id) b m e = subst (RollsAs p calls) (sym e) (rolls_lost p calls (outcome.Expired id) tt m)
rolls_as p calls outcome.Faulted b m e = subst (RollsAs p calls) (sym e) (rolls_lost p calls outcome.Faulted tt m)
rolls_as p calls (outcome.Unknown id) b m e = subst (RollsAs p calls) (sym e) (rolls_unknown p calls id m)
rolls_as p calls (outcome.BadRecord key) b m e = subst (RollsAs p calls) (sym e) (rolls_bad p calls key m)
rolls_as p calls outcome.NoMemory b m e = subst (RollsAs p calls) (sym e) (rolls_lost p calls outcome.NoMemory tt m)

---- the calls

-- A COMMIT made these calls, and is at that stage, or has out of memory there in place of a conflict; it hasn't ended.
pub record MakesAs (p : Work) (calls : List Call) (s : Stage) : Type 0 where
  pub stage : Stage
  pub makes : Makes p calls stage
  pub agrees : IsAs stage s
  pub goes_on : is_over stage ≡ false

-- before its first call
pub makes_first : (p : Work) → MakesAs p [] (preparing p 0)
makes_first p = record { stage = preparing p 0; makes = made_none p; agrees = inl refl; goes_on = by (nat_lt 0 (groups_of p)) }
  where
    checks_first : (b : Bool) → is_over (if b then Checking 0 else Deciding phase.Put) ≡ false
    checks_first true = refl
    checks_first false = refl

    by : (b : Bool) → is_over (if b then Preparing 0 else checking p 0) ≡ false
    by true = refl
    by false = checks_first (nat_lt 0 (length (checks p)))

module _ (p : Work) (calls : List Call) (s : Stage) (q : Request) (r : Reply) (pends : pending p s ≡ Some q) (can : CanAnswer q r) (h : MakesAs p calls s) where
  abbrev more : List Call
  more = calls ++ record { request = q; reply = r } ∷ []

  makes_more : Makes p more (step p h.stage r)
  makes_more =
      let here : pending p h.stage ≡ Some q = pending_as p h.stage s h.agrees ∙ pends in
      subst (λ (o : Option Request). Makes p (with_call o r calls) (step p h.stage r)) here (made_more p calls h.stage r h.makes (subst (λ (o : Option Request). CanGet o r) (sym here) can))

  led : IsAs (step p h.stage r) (step p s r)
  led = step_as p h.stage s r h.agrees

  -- it goes on
  pub makes_on : (next : Stage) → IsNext p s r next → ended_at (step p s r) ≡ None → MakesAs p more next
  makes_on next n none = record { stage = step p h.stage r; makes = makes_more; agrees = as_twice (step p h.stage r) (step p s r) next led (next_as p s r next n); goes_on = still_on (step p h.stage r) (step p s r) led none }

  -- it ends
  pub makes_end : (b : Answer) → Some b ≡ answer_in (next_of (progress_of (ended_at (step p s r)))) → (o : Outcome) × EndsIn p more o × IsAnswerOf o b
  makes_end b e = let over = ended_as (step p h.stage r) (step p s r) b led e in (over.0, subst (Makes p more) over.1 makes_more, over.2)
