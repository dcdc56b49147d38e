-- Want of memory in place of a conflict changes no call.
use Rattle.std.proofs.Common.{◌≡◌, ℕ, ◌+◌, true, false, refl, cond}
use Rattle.std.specs.Prelude.{Bool, nat_lt}
use Rattle.sdb_types.specs.declared.record.Reply.{Reply}
use Rattle.sdb_types.specs.declared.record.Reply.TheVariants as reply
use Rattle.sdb_phases.specs.declared.step.Outcome.{Outcome}
use Rattle.sdb_phases.specs.Work.{Work}
use Rattle.sdb_phases.specs.Commit.{Stage, Preparing, Checking, Deciding, Forward, Stopping, Back, Over, pending, step, out_of_memory, out_of_memory_answer, back, has_stopped}

pub starved-pending : (p : Work) (s : Stage) → pending p (out_of_memory s) ≡ pending p s
starved-pending p (Preparing i) = refl
starved-pending p (Checking i) = refl
starved-pending p (Deciding d) = refl
starved-pending p (Forward i) = refl
starved-pending p (Stopping a n) = refl
starved-pending p (Back a n i) = refl
starved-pending p (Over a) = refl

starved-choice : (b : Bool) (x y : Stage) → cond b (out_of_memory x) (out_of_memory y) ≡ out_of_memory (cond b x y)
starved-choice true x y = refl
starved-choice false x y = refl

starved-back : (a : Outcome) (n i : ℕ) → back (out_of_memory_answer a) n i ≡ out_of_memory (back a n i)
starved-back a n i = starved-choice (nat_lt i n) (Back a n i) (Over a)

pub starved-step : (p : Work) (s : Stage) (r : Reply) → has_stopped s ≡ true → step p (out_of_memory s) r ≡ out_of_memory (step p s r)
starved-step p (Preparing i) r is = cc
starved-step p (Checking i) r is = cc
starved-step p (Deciding d) r is = cc
starved-step p (Forward i) r is = cc
starved-step p (Stopping a n) reply.Applied is = starved-back a n 0
starved-step p (Stopping a n) (reply.NotMet found) is = starved-back a n 0
starved-step p (Stopping a n) reply.Fault is = refl
starved-step p (Stopping a n) reply.NoMemory is = refl
starved-step p (Stopping a n) (reply.Found found) is = refl
starved-step p (Stopping a n) (reply.Rows rows) is = refl
starved-step p (Stopping a n) (reply.NotAll place there) is = refl
starved-step p (Back a n i) r is = starved-back a n (i + 1)
starved-step p (Over a) r is = refl

stopped-choice : (b : Bool) (x y : Stage) → has_stopped x ≡ true → has_stopped y ≡ true → has_stopped (cond b x y) ≡ true
stopped-choice true x y h k = h
stopped-choice false x y h k = k

pub stopped-step : (p : Work) (s : Stage) (r : Reply) → has_stopped s ≡ true → has_stopped (step p s r) ≡ true
stopped-step p (Preparing i) r is = cc
stopped-step p (Checking i) r is = cc
stopped-step p (Deciding d) r is = cc
stopped-step p (Forward i) r is = cc
stopped-step p (Stopping a n) reply.Applied is = stopped-choice (nat_lt 0 n) (Back a n 0) (Over a) refl refl
stopped-step p (Stopping a n) (reply.NotMet found) is = stopped-choice (nat_lt 0 n) (Back a n 0) (Over a) refl refl
stopped-step p (Stopping a n) reply.Fault is = refl
stopped-step p (Stopping a n) reply.NoMemory is = refl
stopped-step p (Stopping a n) (reply.Found found) is = refl
stopped-step p (Stopping a n) (reply.Rows rows) is = refl
stopped-step p (Stopping a n) (reply.NotAll place there) is = refl
stopped-step p (Back a n i) r is = stopped-choice (nat_lt (i + 1) n) (Back a n (i + 1)) (Over a) refl refl
stopped-step p (Over a) r is = refl
