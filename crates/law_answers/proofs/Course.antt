-- A COMMIT that nothing stops goes on to Committed.
use Rattle.std.proofs.Common.{◌≡◌, ◌<◌, ◌≤◌, ℕ, ◌+◌, List, [], ◌∷◌, ◌++◌, length, Option, Some, None, Bool, true, false, refl, sym, ap, ◌∙◌, subst, arith, cond}
use Rattle.std.specs.Prelude.{slice_get, nat_lt}
use Rattle.std.specs.Option.{option_map}
use Rattle.std.proofs.lemmas.Bool.Decides.{nat_tests}
use Rattle.std.proofs.lemmas.Option.{slice_get-map}
use Rattle.law_answers.specs.Types.{Check, Key, Outcome, Record, Reply, Request, Write}
use Rattle.sdb_types.specs.declared.record.Reply.TheVariants as reply
use Rattle.sdb_types.specs.Contents.{CanAnswer}
use Rattle.sdb_record.specs.Groups.{grouped}
use Rattle.sdb_phases.specs.declared.step.Outcome.TheVariants as outcome
use Rattle.sdb_phases.specs.declared.step.DecidePhase.TheVariants as phase
use Rattle.sdb_phases.specs.Work.{Work, groups_of, prepares, prepares_of, decide_of, writes_before}
use Rattle.sdb_phases.specs.Checks.{checks, difference_in}
use Rattle.sdb_phases.specs.Steps as small
use Rattle.sdb_phases.specs.Steps.{CanGet}
use Rattle.sdb_phases.specs.Commit.{Stage, Preparing, Checking, Deciding, Forward, Stopping, Back, Over, after, pending, step, preparing, checking, forward, after_prepare, after_check}
use Rattle.sdb_phases.specs.CommitLaws.{AreReplies, exact_calls, reads_of}
use Rattle.law_answers.specs.Paths.{Call, calls_of_path, is_over, with_call}
use Rattle.law_answers.specs.Ends.{HasNoFailure, MakesWell, calls_before, is_served, is_unmet}
use Rattle.law_answers.proofs.PathLists.{get_front, get_last}
use Rattle.law_answers.proofs.PathCalls.{calls_long}
use Rattle.law_answers.proofs.Steps.{no_found, no_rows, one}

-- where it is after so many calls
abbrev Course : Work → ℕ → Stage → Type 0
Course p n (Preparing i) = (n ≡ i) × (i < groups_of p)
Course p n (Checking i) = (n ≡ groups_of p + i) × (i < reads_of p)
Course p n (Deciding phase.Put) = n ≡ groups_of p + reads_of p
Course p n (Deciding d) = ⊥
Course p n (Forward i) = (n ≡ groups_of p + reads_of p + 1 + i) × (i < groups_of p)
Course p n (Stopping a m) = ⊥
Course p n (Back a m i) = ⊥
Course p n (Over outcome.Committed) = n ≡ exact_calls p
Course p n (Over a) = ⊥

by_stage : (p : Work) (n : ℕ) (b : Bool) (x y : Stage) → (b ≡ true → Course p n x) → (b ≡ false → Course p n y) → Course p n (cond b x y)
by_stage p n true x y t f = t refl
by_stage p n false x y t f = f refl

to_checks : (p : Work) (n : ℕ) → n ≡ groups_of p → Course p n (checking p 0)
to_checks p n e = by_stage p n (nat_lt 0 (length (checks p))) (Checking 0) (Deciding phase.Put) (λ t. (omega arith, grind (arith, nat_tests))) (λ f. grind (arith, nat_tests))

to_forward : (p : Work) (n i : ℕ) → n ≡ groups_of p + reads_of p + 1 + i → i ≤ groups_of p → Course p n (forward p i)
to_forward p n i e l = by_stage p n (nat_lt i (groups_of p)) (Forward i) (Over outcome.Committed) (λ t. (e, grind (arith, nat_tests))) (λ f. grind (arith, nat_tests))

begins : (p : Work) → Course p 0 (preparing p 0)
begins p = by_stage p 0 (nat_lt 0 (groups_of p)) (Preparing 0) (checking p 0) (λ t. (refl, grind (arith, nat_tests))) (λ f. to_checks p 0 (grind (arith, nat_tests)))

---- the newest call went well

well_before : (p : Work) (calls : List Call) (c : Call) → HasNoFailure p (calls ++ c ∷ []) → HasNoFailure p calls
well_before p calls c w = record {
  served = λ i d h l. w.served i d (get_front calls (c ∷ []) i d h) l;
  met = λ i d h l. w.met i d (get_front calls (c ∷ []) i d h) l;
  same = λ i k d g h. w.same i k d g (get_front calls (c ∷ []) (groups_of p + i) d h);
}

last_seen : (p : Work) (calls : List Call) (q : Request) (r : Reply) → HasNoFailure p (calls ++ one q r ∷ []) → length calls ≤ groups_of p + reads_of p → is_served r ≡ true
last_seen p calls q r w l = w.served (length calls) (one q r) (get_last calls (one q r)) l

last_met : (p : Work) (calls : List Call) (q : Request) (r : Reply) → HasNoFailure p (calls ++ one q r ∷ []) → length calls ≤ groups_of p + reads_of p → is_unmet r ≡ false
last_met p calls q r w l = w.met (length calls) (one q r) (get_last calls (one q r)) l

last_same : (p : Work) (calls : List Call) (i : ℕ) (k : Check) (q : Request) (r : Reply) → HasNoFailure p (calls ++ one q r ∷ []) → length calls ≡ groups_of p + i → slice_get (checks p) i ≡ Some k → difference_in k r ≡ None
last_same p calls i k q r w e h = w.same i k (one q r) h (ap (slice_get (calls ++ one q r ∷ [])) (sym e) ∙ get_last calls (one q r))

abbrev Next : Work → List Call → Stage → Reply → Type 0
Next p calls s r = CanGet (pending p s) r → HasNoFailure p (with_call (pending p s) r calls) → Course p (length calls + 1) (step p s r)

-- a call gets no reply to a read
record IsPut (q : Request) : Type 0 where
  pub found : (found : Option Record) → CanAnswer q (reply.Found found) → ⊥
  pub rows : (rows : List Record) → CanAnswer q (reply.Rows rows) → ⊥

abbrev NoReads : Option Request → Type 0
NoReads None = Unit {0}
NoReads (Some q) = IsPut q

goes_on : (p : Work) (n i k : ℕ) (q : Option Request) (more : Bool) → n ≡ i → i < groups_of p → more ≡ nat_lt (i + 1) (groups_of p) → Course p (n + 1) (after_prepare p i k (small.prepare_step more q reply.Applied))
goes_on p n i k q true e l is = (omega arith, grind (arith, nat_tests))
goes_on p n i k q false e l is = to_checks p (n + 1) (grind (arith, nat_tests))

prepare_next : (p : Work) (calls : List Call) (i : ℕ) (o : Option Request) (r : Reply) → length calls ≡ i → i < groups_of p → CanGet o r → NoReads o → HasNoFailure p (with_call o r calls)
    → Course p (length calls + 1) (after_prepare p i (small.touched_after o (writes_before p i) r) (small.prepare_step (nat_lt (i + 1) (groups_of p)) o r))
prepare_next p calls i None r e l gets puts w = absurd gets
prepare_next p calls i (Some q) reply.Applied e l gets puts w = goes_on p (length calls) i (writes_before p i + small.puts_of (Some q)) (Some q) (nat_lt (i + 1) (groups_of p)) e l refl
prepare_next p calls i (Some q) (reply.NotMet found) e l gets puts w = let h = last_met p calls q (reply.NotMet found) w (omega arith) in absurd (cc)
prepare_next p calls i (Some q) reply.Fault e l gets puts w = let h = last_seen p calls q reply.Fault w (omega arith) in absurd (cc)
prepare_next p calls i (Some q) reply.NoMemory e l gets puts w = let h = last_seen p calls q reply.NoMemory w (omega arith) in absurd (cc)
prepare_next p calls i (Some q) (reply.Found found) e l gets puts w = absurd (puts.found found gets)
prepare_next p calls i (Some q) (reply.Rows rows) e l gets puts w = absurd (puts.rows rows gets)
prepare_next p calls i (Some q) (reply.NotAll place there) e l gets puts w = let h = last_met p calls q (reply.NotAll place there) w (omega arith) in absurd (cc)

prepared : (p : Work) (calls : List Call) (i : ℕ) (r : Reply) → length calls ≡ i → i < groups_of p → Next p calls (Preparing i) r
prepared p calls i r e l gets w = prepare_next p calls i (slice_get (prepares p) i) r e l gets (subst NoReads (sym (slice_get-map (prepares_of p.id p.now) (grouped p.writes) i)) (no_reads (slice_get (grouped p.writes) i))) w
  where
    no_reads : (o : Option (List Write)) → NoReads (option_map (prepares_of p.id p.now) o)
    no_reads None = tt
    no_reads (Some g) = record { found = no_found p.id p.now g; rows = no_rows p.id p.now g }

judged : (p : Work) (n i : ℕ) (d : Option (Key × Option Record)) (more : Bool) → n ≡ groups_of p + i → i < reads_of p → d ≡ None → more ≡ nat_lt (i + 1) (length (checks p)) → Course p (n + 1) (after_check p i (small.judged more d))
judged p n i None true e l same is = (omega arith, grind (arith, nat_tests))
judged p n i None false e l same is = grind (arith, nat_tests)
judged p n i (Some d) more e l same is = absurd (cc)

check_next : (p : Work) (calls : List Call) (i : ℕ) (o : Option Check) (r : Reply) → slice_get (checks p) i ≡ o → length calls ≡ groups_of p + i → i < reads_of p → CanGet (option_map (λ (c : Check). c.request) o) r → HasNoFailure p (with_call (option_map (λ (c : Check). c.request) o) r calls)
    → Course p (length calls + 1) (after_check p i (small.validate_step (nat_lt (i + 1) (length (checks p))) o r))
check_next p calls i None r h e l gets w = absurd gets
check_next p calls i (Some k) reply.Fault h e l gets w = let s = last_seen p calls k.request reply.Fault w (omega arith) in absurd (cc)
check_next p calls i (Some k) reply.NoMemory h e l gets w = let s = last_seen p calls k.request reply.NoMemory w (omega arith) in absurd (cc)
check_next p calls i (Some k) reply.Applied h e l gets w = judged p (length calls) i (difference_in k reply.Applied) (nat_lt (i + 1) (length (checks p))) e l (last_same p calls i k k.request reply.Applied w e h) refl
check_next p calls i (Some k) (reply.Found found) h e l gets w = judged p (length calls) i (difference_in k (reply.Found found)) (nat_lt (i + 1) (length (checks p))) e l (last_same p calls i k k.request (reply.Found found) w e h) refl
check_next p calls i (Some k) (reply.Rows rows) h e l gets w = judged p (length calls) i (difference_in k (reply.Rows rows)) (nat_lt (i + 1) (length (checks p))) e l (last_same p calls i k k.request (reply.Rows rows) w e h) refl
check_next p calls i (Some k) (reply.NotAll place there) h e l gets w = judged p (length calls) i (difference_in k (reply.NotAll place there)) (nat_lt (i + 1) (length (checks p))) e l (last_same p calls i k k.request (reply.NotAll place there) w e h) refl
check_next p calls i (Some k) (reply.NotMet found) h e l gets w = judged p (length calls) i (difference_in k (reply.NotMet found)) (nat_lt (i + 1) (length (checks p))) e l (last_same p calls i k k.request (reply.NotMet found) w e h) refl

decided : (p : Work) (calls : List Call) (r : Reply) → length calls ≡ groups_of p + reads_of p → Next p calls (Deciding phase.Put) r
decided p calls reply.Applied e gets w = to_forward p (length calls + 1) 0 (omega arith) (omega arith)
decided p calls (reply.NotMet found) e gets w = let h = last_met p calls (decide_of p.id p.now) (reply.NotMet found) w (omega arith) in absurd (cc)
decided p calls reply.Fault e gets w = let h = last_seen p calls (decide_of p.id p.now) reply.Fault w (omega arith) in absurd (cc)
decided p calls reply.NoMemory e gets w = let h = last_seen p calls (decide_of p.id p.now) reply.NoMemory w (omega arith) in absurd (cc)
decided p calls (reply.Found found) e gets w = absurd gets
decided p calls (reply.Rows rows) e gets w = absurd gets
decided p calls (reply.NotAll place there) e gets w = absurd gets

next : (p : Work) (calls : List Call) (s : Stage) (r : Reply) → Course p (length calls) s → Next p calls s r
next p calls (Preparing i) r (e, l) = prepared p calls i r e l
next p calls (Checking i) r (e, l) = check_next p calls i (slice_get (checks p) i) r refl e l
next p calls (Deciding phase.Put) r e = decided p calls r e
next p calls (Deciding phase.Look) r e = absurd e
next p calls (Deciding phase.Abort) r e = absurd e
next p calls (Deciding phase.Again) r e = absurd e
next p calls (Deciding phase.Ended) r e = absurd e
next p calls (Forward i) r (e, l) = λ gets w. to_forward p (length calls + 1) (i + 1) (omega arith) (omega arith)
next p calls (Stopping a m) r e = absurd e
next p calls (Back a m i) r e = absurd e
next p calls (Over a) r e = λ gets w. absurd gets

before : (p : Work) (calls : List Call) (o : Option Request) (r : Reply) → CanGet o r → HasNoFailure p (with_call o r calls) → HasNoFailure p calls
before p calls None r gets w = absurd gets
before p calls (Some q) r gets w = well_before p calls (one q r) w

course_calls : (p : Work) (past : List Reply) → AreReplies p past → HasNoFailure p (calls_of_path p past) → Course p (length past) (after p past)
course_calls p [] correct w = begins p
course_calls p (r ∷ past) correct w =
    let long = calls_long p past correct.0 in
    let here = course_calls p past correct.0 (before p (calls_of_path p past) (pending p (after p past)) r correct.1 w) in
    let there = next p (calls_of_path p past) (after p past) r (subst (λ n. Course p n (after p past)) (sym long) here) correct.1 w in
    subst (λ n. Course p n (step p (after p past) r)) (one_more (length (calls_of_path p past)) long) there
  where
    one_more : (m : ℕ) → m ≡ length past → m + 1 ≡ length (r ∷ past)
    one_more m e = omega arith

---- the laws

puts : (p : Work) (n : ℕ) (s : Stage) → Course p n s → n ≡ groups_of p + reads_of p → pending p s ≡ Some (decide_of p.id p.now)
puts p n (Preparing i) (e, l) at = absurd (omega arith)
puts p n (Checking i) (e, l) at = absurd (omega arith)
puts p n (Deciding phase.Put) e at = refl
puts p n (Deciding phase.Look) e at = absurd e
puts p n (Deciding phase.Abort) e at = absurd e
puts p n (Deciding phase.Again) e at = absurd e
puts p n (Deciding phase.Ended) e at = absurd e
puts p n (Forward i) (e, l) at = absurd (omega arith)
puts p n (Stopping a m) e at = absurd e
puts p n (Back a m i) e at = absurd e
puts p n (Over outcome.Committed) e at = absurd (omega arith)
puts p n (Over (outcome.Conflict key found)) e at = absurd e
puts p n (Over (outcome.Expired id)) e at = absurd e
puts p n (Over outcome.Faulted) e at = absurd e
puts p n (Over (outcome.Unknown id)) e at = absurd e
puts p n (Over (outcome.BadRecord key)) e at = absurd e
puts p n (Over outcome.NoMemory) e at = absurd e

goes_by : (p : Work) (n : ℕ) (s : Stage) → Course p n s → n < exact_calls p → is_over s ≡ false
goes_by p n (Over outcome.Committed) e less = absurd (omega arith)
goes_by p n (Over (outcome.Conflict key found)) e less = absurd e
goes_by p n (Over (outcome.Expired id)) e less = absurd e
goes_by p n (Over outcome.Faulted) e less = absurd e
goes_by p n (Over (outcome.Unknown id)) e less = absurd e
goes_by p n (Over (outcome.BadRecord key)) e less = absurd e
goes_by p n (Over outcome.NoMemory) e less = absurd e
goes_by p n s e less = refl

ends_by : (p : Work) (n : ℕ) (s : Stage) → Course p n s → n ≡ exact_calls p → s ≡ Over outcome.Committed
ends_by p n (Preparing i) (e, l) at = absurd (omega arith)
ends_by p n (Checking i) (e, l) at = absurd (omega arith)
ends_by p n (Deciding phase.Put) e at = absurd (omega arith)
ends_by p n (Deciding phase.Look) e at = absurd e
ends_by p n (Deciding phase.Abort) e at = absurd e
ends_by p n (Deciding phase.Again) e at = absurd e
ends_by p n (Deciding phase.Ended) e at = absurd e
ends_by p n (Forward i) (e, l) at = absurd (omega arith)
ends_by p n (Stopping a m) e at = absurd e
ends_by p n (Back a m i) e at = absurd e
ends_by p n (Over outcome.Committed) e at = refl
ends_by p n (Over (outcome.Conflict key found)) e at = absurd e
ends_by p n (Over (outcome.Expired id)) e at = absurd e
ends_by p n (Over outcome.Faulted) e at = absurd e
ends_by p n (Over (outcome.Unknown id)) e at = absurd e
ends_by p n (Over (outcome.BadRecord key)) e at = absurd e
ends_by p n (Over outcome.NoMemory) e at = absurd e

committed : (p : Work) (n : ℕ) (a : Outcome) → Course p n (Over a) → a ≡ outcome.Committed
committed p n outcome.Committed e = refl
committed p n a e = absurd e

course_made : (p : Work) (calls : List Call) (s : Stage) → MakesWell p calls s → Course p (length calls) s
course_made p calls s k =
    let m = k.makes in
    let at = course_calls p m.past m.correct (subst (HasNoFailure p) (sym m.made) k.well) in
    subst (λ n. Course p n s) (sym (calls_long p m.past m.correct) ∙ ap length m.made) (subst (Course p (length m.past)) m.agrees at)

pub puts_decision : (p : Work) (calls : List Call) (s : Stage) → MakesWell p calls s → length calls ≡ calls_before p → pending p s ≡ Some (decide_of p.id p.now)
puts_decision p calls s m at = puts p (length calls) s (course_made p calls s m) at

pub goes_further : (p : Work) (calls : List Call) (s : Stage) → MakesWell p calls s → length calls < exact_calls p → is_over s ≡ false
goes_further p calls s m less = goes_by p (length calls) s (course_made p calls s m) less

pub ends_well : (p : Work) (calls : List Call) (s : Stage) → MakesWell p calls s → length calls ≡ exact_calls p → s ≡ Over outcome.Committed
ends_well p calls s m at = ends_by p (length calls) s (course_made p calls s m) at

pub commits_well : (p : Work) (calls : List Call) (a : Outcome) → MakesWell p calls (Over a) → a ≡ outcome.Committed
commits_well p calls a m = committed p (length calls) a (course_made p calls (Over a) m)
