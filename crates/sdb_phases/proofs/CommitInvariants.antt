-- Where a COMMIT is, what the replies said.
use Rattle.std.proofs.Common.{◌≡◌, ◌≤◌, ℕ, ◌+◌, ◌&&◌, ◌||◌, List, [], ◌∷◌, length, arith, Option, Some, None, Result, Ok, Err, is_err, refl, sym, subst, true, false, cond, ◌∙◌, ap}
use Rattle.std.specs.Prelude.{Bool, slice_get, nat_lt, ◌<◌}
use Rattle.std.specs.Option.{option_map_or}
use Rattle.std.proofs.lemmas.Bool.Decides.{nat_tests}
use Rattle.sdb_phases.specs.Types.{Decided, Decision, Key, Put, Record, Reply, Request, TxId}
use Rattle.sdb_types.specs.declared.record.Request.TheVariants as ask
use Rattle.sdb_types.specs.declared.record.Reply.TheVariants as reply
use Rattle.sdb_types.specs.Contents.{put_at}
use Rattle.sdb_types.proofs.Public.{and_both, fails_second, or_second as right, same_key_self}
use Rattle.sdb_record.specs.declared.coordinator.Decision.TheVariants as decision
use Rattle.sdb_record.specs.Coordinator.{coordinator_key_of, coordinator_row_of, decision_in, same_decision}
use Rattle.sdb_record.proofs.Public.{decision_itself, row-decision, row-key}
use Rattle.sdb_phases.specs.declared.check.Check.{Check}
use Rattle.sdb_phases.specs.declared.step.Outcome.{Outcome}
use Rattle.sdb_phases.specs.declared.step.Outcome.TheVariants as outcome
use Rattle.sdb_phases.specs.declared.step.ValidateStep.{ValidateStep}
use Rattle.sdb_phases.specs.declared.step.ValidateStep.TheVariants as validate
use Rattle.sdb_phases.specs.declared.step.PrepareStep.TheVariants as prepare
use Rattle.sdb_phases.specs.declared.step.DecideStep.{DecideStep}
use Rattle.sdb_phases.specs.declared.step.DecideStep.TheVariants as steps
use Rattle.sdb_phases.specs.declared.step.DecidePhase.{DecidePhase}
use Rattle.sdb_phases.specs.declared.step.DecidePhase.TheVariants as phase
use Rattle.sdb_phases.specs.Work.{Work, groups_of, prepares, writes_before}
use Rattle.sdb_phases.proofs.Groups.{few_groups, writes_more, writes_within}
use Rattle.sdb_phases.specs.Checks.{checks, difference_in}
use Rattle.sdb_phases.specs.Steps as small
use Rattle.sdb_phases.specs.Steps.{CanGet, step_of_row}
use Rattle.sdb_phases.specs.Commit.{Stage, Preparing, Checking, Deciding, Forward, Stopping, Back, Over, pending, step, after, preparing, checking, forward, back, after_prepare, after_check, after_decide}
use Rattle.sdb_phases.specs.CommitLaws.{IsWork, Seen, seen, item, nothing_seen, AreReplies, StageInvariant, IsCaused, is_unrecorded, may_undo, without_effect, is_more, is_decision, is_row_with, observes_decision, is_malformed, holds_malformed, writes_of, reads_of, most_calls}
use Rattle.sdb_types.specs.Replies.{is_fault}
use Rattle.sdb_types.specs.Order.{same_key}

---- tests

pub left : (a b : Bool) → a ≡ true → (a || b) ≡ true
left true b h = refl
left false b h = cc

no_left : (a b : Bool) → (a || b) ≡ false → b ≡ false
no_left true b h = cc
no_left false b h = h

fails_first : (a b : Bool) → a ≡ false → (a && b) ≡ false
fails_first true b h = cc
fails_first false b h = refl

by_test : (p : Work) (h : Seen) (b : Bool) (x y : Stage) → (b ≡ true → StageInvariant p h x) → (b ≡ false → StageInvariant p h y) → StageInvariant p h (cond b x y)
by_test p h true x y t f = t refl
by_test p h false x y t f = f refl

---- rows

pub at_key : (r : Record) (id : TxId) → r.key ≡ coordinator_key_of id → same_key r.key (coordinator_key_of id) ≡ true
at_key r id e = ap (λ k. same_key k (coordinator_key_of id)) e ∙ same_key_self (coordinator_key_of id)

pub row_says : (id : TxId) (d : Decision) (row : Record) → row.key ≡ coordinator_key_of id → is_decision d (decision_in row) ≡ true → is_row_with id d row ≡ true
row_says id d row key is = and_both (same_key row.key (coordinator_key_of id)) (is_decision d (decision_in row)) (at_key row id key) is

pub row_malformed : (id : TxId) (row : Record) → row.key ≡ coordinator_key_of id → is_err (decision_in row) ≡ true → is_malformed id row ≡ true
row_malformed id row key is = and_both (same_key row.key (coordinator_key_of id)) (is_err (decision_in row)) (at_key row id key) is

-- what is put is what is learned
pub own_row_says : (p : Work) (d : Decision) → IsWork p → is_row_with p.id d (coordinator_row_of p.id d p.now) ≡ true
own_row_says p d is =
    row_says p.id d (coordinator_row_of p.id d p.now) (row-key p.id d p.now) (ap (is_decision d) (row-decision p.id d p.now is.id is.now) ∙ decision_itself d)

---- stages

over : (p : Work) (h : Seen) (a : Outcome) → IsCaused p h a → is_unrecorded h ≡ true → h.calls ≤ most_calls p → StageInvariant p h (Over a)
over p h (outcome.Conflict key found) caused safe most = (safe, most, caused)
over p h (outcome.Expired id) caused safe most = (safe, most, caused)
over p h outcome.Faulted caused safe most = (safe, most, caused)
over p h outcome.NoMemory caused safe most = (safe, most, caused)
over p h outcome.Committed caused safe most = absurd caused
over p h (outcome.Unknown id) caused safe most = absurd caused
over p h (outcome.BadRecord key) caused safe most = absurd caused

-- a cause stays one
caused_still : (p : Work) (h : Seen) (s : Stage) (r : Reply) (a : Outcome) → IsCaused p h a → IsCaused p (item p s h r) a
caused_still p h s r (outcome.Conflict key found) caused = fails_second _ h.passed caused
caused_still p h s r (outcome.Expired id) (same, gone) = (same, right (observes_decision p.id decision.Aborted (pending p s) r) h.aborted gone)
caused_still p h s r outcome.Faulted caused = right (is_fault r) h.faulted caused
caused_still p h s r outcome.NoMemory caused = tt
caused_still p h s r outcome.Committed caused = absurd caused
caused_still p h s r (outcome.Unknown id) caused = absurd caused
caused_still p h s r (outcome.BadRecord key) caused = absurd caused

begins_checking : (p : Work) (h : Seen) → h.calls ≡ groups_of p → h.passed ≡ true → h.put ≡ None → StageInvariant p h (checking p 0)
begins_checking p h calls passed put =
    by_test p h (nat_lt 0 (length (checks p))) (Checking 0) (Deciding phase.Put) (λ t. (omega arith, grind (arith, nat_tests), passed, put)) (λ f. (grind (arith, nat_tests), passed, put))

begins : (p : Work) → StageInvariant p nothing_seen (preparing p 0)
begins p =
    by_test p nothing_seen (nat_lt 0 (groups_of p)) (Preparing 0) (checking p 0) (λ t. (refl, grind (arith, nat_tests), refl, refl)) (λ f. begins_checking p nothing_seen (grind (arith, nat_tests)) refl refl)

prepared : (p : Work) (h : Seen) (i n : ℕ) (more : Bool) (q : Option Request) → StageInvariant p h (Preparing i) → more ≡ nat_lt (i + 1) (groups_of p) → StageInvariant p (item p (Preparing i) h reply.Applied) (after_prepare p i n (small.prepare_step more q reply.Applied))
prepared p h i n true q (calls, within, passed, put) is = (omega arith, grind (arith, nat_tests), passed, put)
prepared p h i n false q (calls, within, passed, put) is = begins_checking p (item p (Preparing i) h reply.Applied) (grind (arith, nat_tests)) passed put

refused_so : (p : Work) (h : Seen) (i n : ℕ) (found : Option Record) (o : Option Put) → h.put ≡ None → h.passed ≡ false → n ≤ writes_of p → h.calls ≤ groups_of p + reads_of p + 1 → StageInvariant p h (after_prepare p i n (option_map_or (λ q. prepare.Conflict q.rec.key found) o prepare.NoMemory))
refused_so p h i n found (Some q) put failed within most = (ap without_effect put, failed, within, most)
refused_so p h i n found None put failed within most = (ap without_effect put, tt, within, most)

refuses : (p : Work) (h : Seen) (i n : ℕ) (q : Option Request) (k : ℕ) (found : Option Record) → h.put ≡ None → h.passed ≡ false → n ≤ writes_of p → h.calls ≤ groups_of p + reads_of p + 1 → StageInvariant p h (after_prepare p i n (small.refused q k found))
refuses p h i n (Some (ask.PutIf rec condition)) k found put failed within most = (ap without_effect put, failed, within, most)
refuses p h i n (Some (ask.Get key)) k found put failed within most = (ap without_effect put, tt, within, most)
refuses p h i n (Some (ask.Scan span)) k found put failed within most = (ap without_effect put, tt, within, most)
refuses p h i n (Some (ask.DeleteIf key condition)) k found put failed within most = (ap without_effect put, tt, within, most)
refuses p h i n (Some (ask.PutAll batch)) k found put failed within most = refused_so p h i n found (put_at batch k) put failed within most
refuses p h i n None k found put failed within most = (ap without_effect put, tt, within, most)

-- the writes of the pending prepare may have accepted effect too
touched_fits : (p : Work) (i : ℕ) → i < groups_of p → writes_before p i + small.puts_of (slice_get (prepares p) i) ≤ writes_of p
touched_fits p i within = subst (λ n. n ≤ writes_of p) (sym (writes_more p i within)) (writes_within p (i + 1))

prepare_step : (p : Work) (h : Seen) (i : ℕ) (r : Reply) → StageInvariant p h (Preparing i) → StageInvariant p (item p (Preparing i) h r) (step p (Preparing i) r)
prepare_step p h i reply.Applied agrees = prepared p h i (writes_before p i + small.puts_of (slice_get (prepares p) i)) (nat_lt (i + 1) (groups_of p)) (slice_get (prepares p) i) agrees refl
prepare_step p h i (reply.NotMet found) (calls, within, passed, put) = refuses p (item p (Preparing i) h (reply.NotMet found)) i (writes_before p i) (slice_get (prepares p) i) 1 found put refl (writes_within p i) (omega arith)
prepare_step p h i reply.Fault (calls, within, passed, put) = (ap without_effect put, refl, touched_fits p i within, omega arith)
prepare_step p h i reply.NoMemory (calls, within, passed, put) = (ap without_effect put, tt, writes_within p i, omega arith)
prepare_step p h i (reply.Found found) (calls, within, passed, put) = (ap without_effect put, tt, writes_within p i, omega arith)
prepare_step p h i (reply.Rows rows) (calls, within, passed, put) = (ap without_effect put, tt, writes_within p i, omega arith)
prepare_step p h i (reply.NotAll k found) (calls, within, passed, put) = refuses p (item p (Preparing i) h (reply.NotAll k found)) i (writes_before p i) (slice_get (prepares p) i) k found put refl (writes_within p i) (omega arith)

-- A check that goes on, or that ends the checks, passed. A conflict is of one that did not, and a fault is that of its call.
pub record Passes (more : Bool) (r : Reply) (s t : ValidateStep) : Type 0 where
  goes_on : s ≡ validate.More → (more ≡ true) × (is_more t ≡ true)
  ends : s ≡ validate.Valid → (more ≡ false) × (is_more t ≡ true)
  fails : (key : Key) (found : Option Record) → s ≡ validate.Conflict key found → is_more t ≡ false
  faults : s ≡ validate.Faulted → is_fault r ≡ true

judges : (more : Bool) (r : Reply) (d : Option (Key × Option Record)) → Passes more r (small.judged more d) (small.judged true d)
judges true r None = record { goes_on = λ e. (refl, refl); ends = λ e. cc; fails = λ key found e. cc; faults = λ e. cc }
judges false r None = record { goes_on = λ e. cc; ends = λ e. (refl, refl); fails = λ key found e. cc; faults = λ e. cc }
judges more r (Some d) = record { goes_on = λ e. cc; ends = λ e. cc; fails = λ key found e. refl; faults = λ e. cc }

ends_it : (more : Bool) (r : Reply) → Passes more r validate.NoMemory validate.NoMemory
ends_it more r = record { goes_on = λ e. cc; ends = λ e. cc; fails = λ key found e. cc; faults = λ e. cc }

passes : (more : Bool) (c : Option Check) (r : Reply) → Passes more r (small.validate_step more c r) (small.validate_step true c r)
passes more c reply.Fault = record { goes_on = λ e. cc; ends = λ e. cc; fails = λ key found e. cc; faults = λ e. refl }
passes more c reply.NoMemory = ends_it more reply.NoMemory
passes more None reply.Applied = ends_it more reply.Applied
passes more None (reply.Found found) = ends_it more (reply.Found found)
passes more None (reply.Rows rows) = ends_it more (reply.Rows rows)
passes more None (reply.NotAll place there) = ends_it more (reply.NotAll place there)
passes more None (reply.NotMet found) = ends_it more (reply.NotMet found)
passes more (Some c) reply.Applied = judges more reply.Applied (difference_in c reply.Applied)
passes more (Some c) (reply.Found found) = judges more (reply.Found found) (difference_in c (reply.Found found))
passes more (Some c) (reply.Rows rows) = judges more (reply.Rows rows) (difference_in c (reply.Rows rows))
passes more (Some c) (reply.NotAll place there) = judges more (reply.NotAll place there) (difference_in c (reply.NotAll place there))
passes more (Some c) (reply.NotMet found) = judges more (reply.NotMet found) (difference_in c (reply.NotMet found))

checked : (p : Work) (h : Seen) (i : ℕ) (r : Reply) (s : ValidateStep) → StageInvariant p h (Checking i) → Passes (nat_lt (i + 1) (length (checks p))) r s (small.validate_step true (slice_get (checks p) i) r) → StageInvariant p (item p (Checking i) h r) (after_check p i s)
checked p h i r validate.More (calls, within, passed, put) so = let (more, ok) = so.goes_on refl in (omega arith, grind (arith, nat_tests), and_both _ _ ok passed, put)
checked p h i r validate.Valid (calls, within, passed, put) so = let (more, ok) = so.ends refl in (grind (arith, nat_tests), and_both _ _ ok passed, put)
checked p h i r (validate.Conflict key found) (calls, within, passed, put) so = (ap without_effect put, fails_first _ _ (so.fails key found refl), omega arith, omega arith)
checked p h i r validate.Faulted (calls, within, passed, put) so = (ap without_effect put, left _ _ (so.faults refl), omega arith, omega arith)
checked p h i r validate.NoMemory (calls, within, passed, put) so = (ap without_effect put, tt, omega arith, omega arith)

check_step : (p : Work) (h : Seen) (i : ℕ) (r : Reply) → StageInvariant p h (Checking i) → StageInvariant p (item p (Checking i) h r) (step p (Checking i) r)
check_step p h i r agrees = checked p h i r (small.validate_step (nat_lt (i + 1) (length (checks p))) (slice_get (checks p) i) r) agrees (passes (nat_lt (i + 1) (length (checks p))) (slice_get (checks p) i) r)

forwarding : (p : Work) (h : Seen) (i : ℕ) → i ≤ groups_of p → h.committed ≡ true → h.calls ≤ groups_of p + reads_of p + 4 + i → (h.faulted ≡ false → h.calls ≡ groups_of p + reads_of p + 1 + i) → StageInvariant p h (forward p i)
forwarding p h i within learned most exact =
    let few = few_groups p in
    by_test p h (nat_lt i (groups_of p)) (Forward i) (Over outcome.Committed) (λ t. (grind (arith, nat_tests), learned, most, exact)) (λ f. (learned, grind (arith, nat_tests), λ none. let e = exact none in grind (arith, nat_tests)))

safe_undo : (h : Seen) → may_undo h ≡ true → is_unrecorded h ≡ true
safe_undo h may = by_flags h.aborted h.stopped (without_effect h.put) may where
  by_flags : (a s w : Bool) → (a || (s && w)) ≡ true → (w || a) ≡ true
  by_flags true s true may = refl
  by_flags true s false may = refl
  by_flags false true w may = left w false may
  by_flags false false w may = cc

backing : (p : Work) (h : Seen) (a : Outcome) (n i : ℕ) → may_undo h ≡ true → IsCaused p h a → i ≤ n → n ≤ writes_of p → h.calls ≤ groups_of p + reads_of p + 4 + i → StageInvariant p h (back a n i)
backing p h a n i may caused in_n within most =
    by_test p h (nat_lt i n) (Back a n i) (Over a) (λ t. (may, caused, grind (arith, nat_tests), within, most)) (λ f. over p h a caused (safe_undo h may) (grind (arith, nat_tests)))

-- an answer that a row ABORTED may give
IsAborted : Work → Seen → DecideStep → Type 0
IsAborted p h (steps.Expired id) = id ≡ p.id
IsAborted p h steps.Faulted = h.faulted ≡ true
IsAborted p h s = ⊥

backs_all : (p : Work) (h : Seen) (d : DecidePhase) (a : DecideStep) → IsAborted p h a → h.aborted ≡ true → h.calls ≤ groups_of p + reads_of p + 4 → StageInvariant p h (after_decide p d a)
unfolding IsAborted
backs_all p h d (steps.Expired id) is gone most = backing p h (outcome.Expired id) (length p.writes) 0 (left h.aborted _ gone) (is, gone) (omega arith) (omega arith) (omega arith)
backs_all p h d steps.Faulted is gone most = backing p h outcome.Faulted (length p.writes) 0 (left h.aborted _ gone) is (omega arith) (omega arith) (omega arith)
backs_all p h d steps.More is gone most = absurd is
backs_all p h d steps.Committed is gone most = absurd is
backs_all p h d (steps.Unknown id) is gone most = absurd is
backs_all p h d (steps.BadRecord key) is gone most = absurd is
backs_all p h d steps.NoMemory is gone most = absurd is

pub record Follows (p : Work) (h : Seen) (v : Result Decided (List ℕ)) : Type 0 where
  forward : is_decision decision.Committed v ≡ true → h.committed ≡ true
  gone : is_decision decision.Aborted v ≡ true → h.aborted ≡ true
  malformed : is_err v ≡ true → h.malformed ≡ true
  most : h.calls ≤ groups_of p + reads_of p + 4
  exact : h.faulted ≡ false → h.calls ≡ groups_of p + reads_of p + 1

follows_one : (p : Work) (h : Seen) (e : Decision) (d : DecidePhase) (a : DecideStep) → IsAborted p h a → (same_decision decision.Committed e ≡ true → h.committed ≡ true) → (same_decision decision.Aborted e ≡ true → h.aborted ≡ true) → h.calls ≤ groups_of p + reads_of p + 4 → (h.faulted ≡ false → h.calls ≡ groups_of p + reads_of p + 1)
    → StageInvariant p h (after_decide p d (elim e [ decision.Committed ↦ steps.Committed | decision.Aborted ↦ a ]))
follows_one p h decision.Committed d a is learned gone most exact = forwarding p h 0 (omega arith) (learned refl) (omega arith) (λ none. let e = exact none in omega arith)
follows_one p h decision.Aborted d a is learned gone most exact = backs_all p h d a is (gone refl) most

follows : (p : Work) (h : Seen) (v : Result Decided (List ℕ)) (d : DecidePhase) (a : DecideStep) → IsAborted p h a → Follows p h v → StageInvariant p h (after_decide p d (step_of_row p.id a v))
follows p h (Err column) d a is f = let most = f.most in (refl, f.malformed refl, omega arith)
follows p h (Ok v) d a is f = follows_one p h v.decision d a is f.forward f.gone f.most f.exact

-- the row that a look or a put found
found_row : (p : Work) (s : Stage) (h : Seen) (r : Reply) (row : Record) → row.key ≡ coordinator_key_of p.id → observes_decision p.id decision.Committed (pending p s) r ≡ is_row_with p.id decision.Committed row → observes_decision p.id decision.Aborted (pending p s) r ≡ is_row_with p.id decision.Aborted row → holds_malformed p.id r ≡ is_malformed p.id row → h.calls + 1 ≤ groups_of p + reads_of p + 4 → ((is_fault r || h.faulted) ≡ false → h.calls + 1 ≡ groups_of p + reads_of p + 1)
    → Follows p (item p s h r) (decision_in row)
found_row p s h r row key committed aborted malformed most exact =
    record {
      forward = λ is. left _ _ (committed ∙ row_says p.id decision.Committed row key is);
      gone = λ is. left _ _ (aborted ∙ row_says p.id decision.Aborted row key is);
      malformed = λ is. malformed ∙ row_malformed p.id row key is;
      most = most;
      exact = exact;
    }

decide_step : (p : Work) (h : Seen) (d : DecidePhase) (r : Reply) → IsWork p → StageInvariant p h (Deciding d) → CanGet (pending p (Deciding d)) r → StageInvariant p (item p (Deciding d) h r) (step p (Deciding d) r)
unfolding IsAborted
decide_step p h phase.Put reply.Applied is (calls, passed, put) gets = forwarding p (item p (Deciding phase.Put) h reply.Applied) 0 (omega arith) (left _ _ (own_row_says p decision.Committed is)) (omega arith) (λ none. omega arith)
decide_step p h phase.Put (reply.NotMet (Some row)) is (calls, passed, put) gets =
    follows p (item p (Deciding phase.Put) h (reply.NotMet (Some row))) (decision_in row) phase.Ended (steps.Expired p.id) refl (found_row p (Deciding phase.Put) h (reply.NotMet (Some row)) row (gets.0 ∙ row-key p.id decision.Committed p.now) refl refl refl (omega arith) (λ none. omega arith))
decide_step p h phase.Put (reply.NotMet None) is agrees gets = cc (gets.1)
decide_step p h phase.Put reply.Fault is (calls, passed, put) gets = (omega arith, refl, refl)
decide_step p h phase.Put reply.NoMemory is (calls, passed, put) gets = (refl, tt, omega arith, omega arith)
decide_step p h phase.Put (reply.Found o) is agrees gets = absurd gets
decide_step p h phase.Put (reply.Rows rows) is agrees gets = absurd gets
decide_step p h phase.Put (reply.NotAll place there) is agrees gets = absurd gets
decide_step p h phase.Look (reply.Found (Some row)) is (calls, faulted, put) gets =
    follows p (item p (Deciding phase.Look) h (reply.Found (Some row))) (decision_in row) phase.Ended (steps.Expired p.id) refl (found_row p (Deciding phase.Look) h (reply.Found (Some row)) row gets refl refl refl (omega arith) (λ none. cc))
decide_step p h phase.Look (reply.Found None) is (calls, faulted, put) gets = (omega arith, faulted, put)
decide_step p h phase.Look reply.Fault is (calls, faulted, put) gets = (refl, put, refl, omega arith)
decide_step p h phase.Look reply.NoMemory is (calls, faulted, put) gets = (refl, put, refl, omega arith)
decide_step p h phase.Look reply.Applied is agrees gets = absurd gets
decide_step p h phase.Look (reply.NotMet o) is agrees gets = absurd gets
decide_step p h phase.Look (reply.Rows rows) is agrees gets = absurd gets
decide_step p h phase.Look (reply.NotAll place there) is agrees gets = absurd gets
decide_step p h phase.Abort reply.Applied is (calls, faulted, put) gets =
    backing p (item p (Deciding phase.Abort) h reply.Applied) outcome.Faulted (length p.writes) 0 (left _ _ (left _ _ (own_row_says p decision.Aborted is))) faulted (omega arith) (omega arith) (omega arith)
decide_step p h phase.Abort (reply.NotMet (Some row)) is (calls, faulted, put) gets =
    follows p (item p (Deciding phase.Abort) h (reply.NotMet (Some row))) (decision_in row) phase.Ended (steps.Expired p.id) refl (found_row p (Deciding phase.Abort) h (reply.NotMet (Some row)) row (gets.0 ∙ row-key p.id decision.Aborted p.now) refl refl refl (omega arith) (λ none. cc))
decide_step p h phase.Abort (reply.NotMet None) is agrees gets = cc (gets.1)
decide_step p h phase.Abort reply.Fault is (calls, faulted, put) gets = (omega arith, refl, put, refl)
decide_step p h phase.Abort reply.NoMemory is (calls, faulted, put) gets = (refl, put, refl, omega arith)
decide_step p h phase.Abort (reply.Found o) is agrees gets = absurd gets
decide_step p h phase.Abort (reply.Rows rows) is agrees gets = absurd gets
decide_step p h phase.Abort (reply.NotAll place there) is agrees gets = absurd gets
decide_step p h phase.Again (reply.Found (Some row)) is (calls, faulted, put, failed) gets =
    follows p (item p (Deciding phase.Again) h (reply.Found (Some row))) (decision_in row) phase.Ended steps.Faulted faulted (found_row p (Deciding phase.Again) h (reply.Found (Some row)) row gets refl refl refl (omega arith) (λ none. cc))
decide_step p h phase.Again (reply.Found None) is (calls, faulted, put, failed) gets = (refl, put, failed, omega arith)
decide_step p h phase.Again reply.Fault is (calls, faulted, put, failed) gets = (refl, put, refl, omega arith)
decide_step p h phase.Again reply.NoMemory is (calls, faulted, put, failed) gets = (refl, put, refl, omega arith)
decide_step p h phase.Again reply.Applied is agrees gets = absurd gets
decide_step p h phase.Again (reply.NotMet o) is agrees gets = absurd gets
decide_step p h phase.Again (reply.Rows rows) is agrees gets = absurd gets
decide_step p h phase.Again (reply.NotAll place there) is agrees gets = absurd gets
decide_step p h phase.Ended r is agrees gets = absurd agrees

forward_step : (p : Work) (h : Seen) (i : ℕ) (r : Reply) → StageInvariant p h (Forward i) → StageInvariant p (item p (Forward i) h r) (step p (Forward i) r)
forward_step p h i r (within, learned, most, exact) =
    forwarding p (item p (Forward i) h r) (i + 1) (omega arith) (right (observes_decision p.id decision.Committed (pending p (Forward i)) r) h.committed learned) (omega arith) (λ none. let e : h.calls ≡ groups_of p + reads_of p + 1 + i = exact (no_left (is_fault r) h.faulted none) in omega arith)

stop_step : (p : Work) (h : Seen) (a : Outcome) (n : ℕ) (r : Reply) → StageInvariant p h (Stopping a n) → CanGet (pending p (Stopping a n)) r → StageInvariant p (item p (Stopping a n) h r) (step p (Stopping a n) r)
stop_step p h a n reply.Applied (safe, caused, within, most) gets = backing p (item p (Stopping a n) h reply.Applied) a n 0 (right _ _ safe) (caused_still p h (Stopping a n) reply.Applied a caused) (omega arith) within (omega arith)
stop_step p h a n (reply.NotMet found) (safe, caused, within, most) gets = backing p (item p (Stopping a n) h (reply.NotMet found)) a n 0 (right _ _ safe) (caused_still p h (Stopping a n) (reply.NotMet found) a caused) (omega arith) within (omega arith)
stop_step p h a n reply.Fault (safe, caused, within, most) gets = over p (item p (Stopping a n) h reply.Fault) a (caused_still p h (Stopping a n) reply.Fault a caused) (left _ _ safe) (omega arith)
stop_step p h a n reply.NoMemory (safe, caused, within, most) gets = over p (item p (Stopping a n) h reply.NoMemory) a (caused_still p h (Stopping a n) reply.NoMemory a caused) (left _ _ safe) (omega arith)
stop_step p h a n (reply.Found o) agrees gets = absurd gets
stop_step p h a n (reply.Rows rows) agrees gets = absurd gets
stop_step p h a n (reply.NotAll place there) agrees gets = absurd gets

undo_stays : (p : Work) (h : Seen) (a : Outcome) (n i : ℕ) (r : Reply) → may_undo h ≡ true → may_undo (item p (Back a n i) h r) ≡ true
undo_stays p h a n i r may = by_flags (observes_decision p.id decision.Aborted (pending p (Back a n i)) r) h.aborted h.stopped (without_effect h.put) may where
  by_flags : (t a s w : Bool) → (a || (s && w)) ≡ true → ((t || a) || (s && w)) ≡ true
  by_flags true a s w may = refl
  by_flags false a s w may = may

back_step : (p : Work) (h : Seen) (a : Outcome) (n i : ℕ) (r : Reply) → StageInvariant p h (Back a n i) → StageInvariant p (item p (Back a n i) h r) (step p (Back a n i) r)
back_step p h a n i r (may, caused, in_n, within, most) = backing p (item p (Back a n i) h r) a n (i + 1) (undo_stays p h a n i r may) (caused_still p h (Back a n i) r a caused) (omega arith) within (omega arith)

stands_step : (p : Work) (h : Seen) (s : Stage) (r : Reply) → IsWork p → StageInvariant p h s → CanGet (pending p s) r → StageInvariant p (item p s h r) (step p s r)
stands_step p h (Preparing i) r is agrees gets = prepare_step p h i r agrees
stands_step p h (Checking i) r is agrees gets = check_step p h i r agrees
stands_step p h (Deciding d) r is agrees gets = decide_step p h d r is agrees gets
stands_step p h (Forward i) r is agrees gets = forward_step p h i r agrees
stands_step p h (Stopping a n) r is agrees gets = stop_step p h a n r agrees gets
stands_step p h (Back a n i) r is agrees gets = back_step p h a n i r agrees
stands_step p h (Over a) r is agrees gets = absurd gets

pub agrees : (p : Work) (past : List Reply) → IsWork p → AreReplies p past → StageInvariant p (seen p past) (after p past)
agrees p [] is correct = begins p
agrees p (r ∷ past) is correct = stands_step p (seen p past) (after p past) r is (agrees p past is correct.0) correct.1
