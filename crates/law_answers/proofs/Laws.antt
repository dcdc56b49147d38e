-- What follows for the calls of a COMMIT from where it is.
use Rattle.std.proofs.Common.{◌≡◌, ◌<◌, ◌≤◌, ◌⊎◌, inl, inr, ℕ, ◌+◌, List, [], ◌∷◌, ◌++◌, length, take, map, Option, Some, true, false, refl, sym, ap, ◌∙◌, subst, arith}
use Rattle.std.specs.Prelude.{Contains, is_some, slice_get}
use Rattle.std.specs.Option.{option_map}
use Rattle.std.proofs.lemmas.List.Elements.{Contains-push_cases}
use Rattle.std.proofs.lemmas.List.{length-map, take-take}
use Rattle.std.proofs.lemmas.Option.{slice_get-map, slice_get_within}
use Rattle.law_answers.specs.Types.{Check, Key, Outcome, Record, Reply, Request, TxId}
use Rattle.sdb_types.specs.declared.record.Reply.TheVariants as reply
use Rattle.sdb_types.proofs.Public.{lt_of}
use Rattle.sdb_phases.specs.declared.step.Outcome.TheVariants as outcome
use Rattle.sdb_phases.specs.declared.step.DecidePhase.TheVariants as phase
use Rattle.sdb_phases.specs.Work.{Work, groups_of, prepares, prepares_of, forwards, forwards_of, backs, back_of, decide_of}
use Rattle.sdb_phases.specs.Checks.{checks}
use Rattle.sdb_phases.specs.Commit.{Stage, Preparing, Checking, Deciding, Forward, Stopping, Back, Over, after, pending}
use Rattle.sdb_phases.specs.CommitLaws.{IsLost, AreReplies, writes_of, reads_of}
use Rattle.sdb_record.specs.Groups.{grouped, in_groups}
use Rattle.sdb_record.proofs.Public.{in_groups_length}
use Rattle.sdb_phases.proofs.Public.{asks_deciding_put, writes_within}
use Rattle.law_answers.specs.Paths.{Call, Asks, Begins, IsAsked, Makes, calls_of_path, is_over, undone}
use Rattle.law_answers.specs.Ends.{HasChangedBy, HasPassed, IsApplied, IsGivenUp, IsLearned, IsPassed, IsPutOutOfMemory, IsReady, IsUndecided, IsUndone, has_committed, is_checked, is_prepared}
use Rattle.law_answers.proofs.PathLists.{get_behind, get_front, get_some, get_take, zip_at}
use Rattle.law_answers.proofs.PathCalls.{at_call}
use Rattle.law_answers.proofs.Touches.{applied, begins_front, begins_here, touches_all}
use Rattle.law_answers.proofs.Goes.{AsksTo, Checked, Ends, Goes, Leads, asks_of}
use Rattle.law_answers.proofs.Steps.{goes, goes_made, undone_is, touches_led}
use Rattle.law_answers.proofs.PathConflicts.{has_moved}

---- rolls

pub rolls_committed : (p : Work) (calls : List Call) → Makes p calls (Over outcome.Committed) → Asks p calls (forwards p)
rolls_committed p calls m =
    let at = goes_made p calls (Over outcome.Committed) m in asks_of p calls (groups_of p) (reads_of p) at.row (forwards p) at.asks

lost_so : (p : Work) (calls : List Call) (a : Outcome) → IsLost a → Ends p calls a → IsUndone p calls
lost_so p calls outcome.Committed lost at = absurd lost
lost_so p calls (outcome.Unknown id) lost at = absurd lost
lost_so p calls (outcome.BadRecord key) lost at = absurd lost
lost_so p calls a lost at = at.rolled

pub rolls_lost : (p : Work) (calls : List Call) (a : Outcome) → IsLost a → Makes p calls (Over a) → IsUndone p calls
rolls_lost p calls a lost m = lost_so p calls a lost (goes_made p calls (Over a) m)

pub rolls_unknown : (p : Work) (calls : List Call) (id : TxId) → Makes p calls (Over (outcome.Unknown id)) → Asks p calls []
rolls_unknown p calls id m =
    let at = goes_made p calls (Over (outcome.Unknown id)) m in asks_of p calls (groups_of p) (reads_of p) at.row [] at.asks

pub rolls_bad : (p : Work) (calls : List Call) (key : Key) → Makes p calls (Over (outcome.BadRecord key)) → Asks p calls []
rolls_bad p calls key m =
    let at = goes_made p calls (Over (outcome.BadRecord key)) m in asks_of p calls (groups_of p) (reads_of p) at.row [] at.asks

pub rolling_forward : (p : Work) (calls : List Call) (i : ℕ) → Makes p calls (Forward i) → Asks p calls (take i (forwards p))
rolling_forward p calls i m =
    let at = goes_made p calls (Forward i) m in asks_of p calls (groups_of p) (reads_of p) at.0.row (take i (forwards p)) at.0.asks

take_front : {A : Type 0} (xs : List A) (n i : ℕ) → i < n → take i (take n xs) ≡ take i xs
take_front xs n i l = take-take i n xs (omega arith)

pub rolling_back : (p : Work) (calls : List Call) (a : Outcome) (n i : ℕ) → Makes p calls (Back a n i) → Asks p calls (take i (undone p calls))
rolling_back p calls a n i m =
    let at = goes_made p calls (Back a n i) m in
    let same : take i (undone p calls) ≡ take i (backs p) = ap (take i) (undone_is p calls n at.0.touches) ∙ take_front (backs p) n i at.1 in
    asks_of p calls at.0.prepared at.0.checked at.0.row (take i (undone p calls)) (subst (AsksTo p calls at.0.prepared at.0.checked at.0.row) (sym same) at.0.asks)

pub next_back : (p : Work) (calls : List Call) (a : Outcome) (n i : ℕ) → Makes p calls (Back a n i) → pending p (Back a n i) ≡ slice_get (undone p calls) i
next_back p calls a n i m =
    let at = goes_made p calls (Back a n i) m in
    sym (ap (λ qs. slice_get qs i) (undone_is p calls n at.0.touches) ∙ get_take (backs p) n i at.1)

---- causes

pub conflict_shown : (p : Work) (calls : List Call) (key : Key) (found : Option Record) → Makes p calls (Over (outcome.Conflict key found)) → HasChangedBy p calls key found
conflict_shown p calls key found m =
    let at = goes_made p calls (Over (outcome.Conflict key found)) m in has_moved p calls key found at.caused.0 at.caused.1 at.caused.2

pub expired_given : (p : Work) (calls : List Call) (id : TxId) → Makes p calls (Over (outcome.Expired id)) → (id ≡ p.id) × IsGivenUp p calls
expired_given p calls id m = let at = goes_made p calls (Over (outcome.Expired id)) m in (at.caused.0, at.caused.1)

pub conflict_unput : (p : Work) (calls : List Call) (key : Key) (found : Option Record) → Makes p calls (Over (outcome.Conflict key found)) → IsUndecided p calls
conflict_unput p calls key found m = let at = goes_made p calls (Over (outcome.Conflict key found)) m in at.caused.3

pub starved_put : (p : Work) (calls : List Call) → Makes p calls (Over outcome.NoMemory) → IsPutOutOfMemory p calls
starved_put p calls m = let at = goes_made p calls (Over outcome.NoMemory) m in at.caused

---- how the calls begin

begins_checked : (p : Work) (i : ℕ) (calls : List Call) → Checked p i calls → Begins p calls
begins_checked p i calls k = begins_here p calls (writes_of p) (touches_all p calls k.done k.whole)

begins_led : (p : Work) (calls : List Call) → Leads p calls → Begins p calls
begins_led p calls l = begins_here p calls (writes_of p) (touches_led p calls l)

begins_over : (p : Work) (calls : List Call) (a : Outcome) → Ends p calls a → Begins p calls
begins_over p calls outcome.Committed at = begins_led p calls at.leads
begins_over p calls (outcome.Unknown id) at = begins_led p calls at.leads
begins_over p calls (outcome.BadRecord key) at = begins_led p calls at.leads
begins_over p calls a at = at.begins

begins_stage : (p : Work) (calls : List Call) (s : Stage) → Goes p calls s → Begins p calls
begins_stage p calls (Preparing i) at = subst (Begins p) (sym at.whole) (begins_front p.id p.now (grouped p.writes) i)
begins_stage p calls (Checking i) at = begins_checked p i calls at.checked
begins_stage p calls (Deciding phase.Put) at = begins_checked p (reads_of p) calls at.checked
begins_stage p calls (Deciding phase.Look) at = begins_led p calls at.0.leads
begins_stage p calls (Deciding phase.Abort) at = begins_led p calls at.0.leads
begins_stage p calls (Deciding phase.Again) at = begins_led p calls at.leads
begins_stage p calls (Deciding phase.Ended) at = absurd at
begins_stage p calls (Forward i) at = begins_led p calls at.0.leads
begins_stage p calls (Stopping a n) at = begins_here p calls n at.touches
begins_stage p calls (Back a n i) at = begins_here p calls n at.0.touches
begins_stage p calls (Over a) at = begins_over p calls a at

pub begins_so : (p : Work) (calls : List Call) (s : Stage) → Makes p calls s → Begins p calls
begins_so p calls s m = begins_stage p calls s (goes_made p calls s m)

---- places

abbrev AppliedAt : Work → List Call → ℕ → Request → Type 0
AppliedAt p calls i q = slice_get calls i ≡ Some (record { request = q; reply = reply.Applied })

applied_get : (qs : List Request) (i : ℕ) (q : Request) → slice_get qs i ≡ Some q → slice_get (map applied qs) i ≡ Some (applied q)
applied_get qs i q h = slice_get-map applied qs i ∙ ap (option_map applied) h

applied_checked : (p : Work) (n : ℕ) (calls : List Call) (i : ℕ) (q : Request) → slice_get (prepares p) i ≡ Some q → Checked p n calls → AppliedAt p calls i q
applied_checked p n calls i q h k =
    ap (λ cs. slice_get cs i) k.whole ∙ get_front (map applied (prepares p)) k.done i (applied q) (applied_get (prepares p) i q h)

applied_led : (p : Work) (calls : List Call) (i : ℕ) (q : Request) → slice_get (prepares p) i ≡ Some q → Leads p calls → AppliedAt p calls i q
applied_led p calls i q h l = ap (λ cs. slice_get cs i) l.whole ∙ get_front l.front l.more i (applied q) (applied_checked p (reads_of p) l.front i q h l.checked)

applied_stage : (p : Work) (calls : List Call) (s : Stage) (i : ℕ) (q : Request) → slice_get (prepares p) i ≡ Some q → is_prepared i s ≡ true → Goes p calls s → AppliedAt p calls i q
applied_stage p calls (Preparing j) i q h is at =
    ap (λ cs. slice_get cs i) at.whole ∙ applied_get (take j (prepares p)) i q (get_take (prepares p) j i (lt_of i j is) ∙ h)
applied_stage p calls (Checking j) i q h is at = applied_checked p j calls i q h at.checked
applied_stage p calls (Deciding phase.Put) i q h is at = applied_checked p (reads_of p) calls i q h at.checked
applied_stage p calls (Deciding phase.Look) i q h is at = applied_led p calls i q h at.0.leads
applied_stage p calls (Deciding phase.Abort) i q h is at = applied_led p calls i q h at.0.leads
applied_stage p calls (Deciding phase.Again) i q h is at = applied_led p calls i q h at.leads
applied_stage p calls (Deciding phase.Ended) i q h is at = absurd at
applied_stage p calls (Forward j) i q h is at = applied_led p calls i q h at.0.leads
applied_stage p calls (Stopping a n) i q h is at = absurd (cc)
applied_stage p calls (Back a n j) i q h is at = absurd (cc)
applied_stage p calls (Over outcome.Committed) i q h is at = applied_led p calls i q h at.leads
applied_stage p calls (Over (outcome.Expired id)) i q h is at = applied_led p calls i q h at.caused.2
applied_stage p calls (Over (outcome.Unknown id)) i q h is at = applied_led p calls i q h at.leads
applied_stage p calls (Over (outcome.BadRecord key)) i q h is at = applied_led p calls i q h at.leads
applied_stage p calls (Over (outcome.Conflict key found)) i q h is at = absurd (cc)
applied_stage p calls (Over outcome.Faulted) i q h is at = absurd (cc)
applied_stage p calls (Over outcome.NoMemory) i q h is at = absurd (cc)

pub prepared_at : (p : Work) (calls : List Call) (s : Stage) (i : ℕ) → Makes p calls s → is_prepared i s ≡ true → IsApplied p calls i
prepared_at p calls s i m is q h = applied_stage p calls s i q h is (goes_made p calls s m)

abbrev PassedAt : Work → List Call → ℕ → Check → Type 0
PassedAt p calls i k = (c : Call) × (slice_get calls (groups_of p + i) ≡ Some c) × IsPassed k c

long_applied : (p : Work) → length (map applied (prepares p)) ≡ groups_of p
long_applied p = length-map (prepares p) applied ∙ length-map (grouped p.writes) (prepares_of p.id p.now)

passed_checked : (p : Work) (n : ℕ) (calls : List Call) (i : ℕ) (k : Check) → i < n → slice_get (checks p) i ≡ Some k → Checked p n calls → PassedAt p calls i k
passed_checked p n calls i k l h d =
    let (c, at, passed) = zip_at IsPassed (take n (checks p)) d.done i k d.passed (get_take (checks p) n i l ∙ h) in
    (c, ap (λ cs. slice_get cs (groups_of p + i)) d.whole ∙ ap (λ m. slice_get (map applied (prepares p) ++ d.done) (m + i)) (sym (long_applied p)) ∙ get_behind (map applied (prepares p)) d.done i ∙ at, passed)

passed_led : (p : Work) (calls : List Call) (i : ℕ) (k : Check) → slice_get (checks p) i ≡ Some k → Leads p calls → PassedAt p calls i k
passed_led p calls i k h l =
    let (c, at, passed) = passed_checked p (reads_of p) l.front i k (slice_get_within (checks p) i k h) h l.checked in
    (c, ap (λ cs. slice_get cs (groups_of p + i)) l.whole ∙ get_front l.front l.more (groups_of p + i) c at, passed)

passed_stage : (p : Work) (calls : List Call) (s : Stage) (i : ℕ) (k : Check) → slice_get (checks p) i ≡ Some k → is_checked i s ≡ true → Goes p calls s → PassedAt p calls i k
passed_stage p calls (Checking j) i k h is at = passed_checked p j calls i k (lt_of i j is) h at.checked
passed_stage p calls (Deciding phase.Put) i k h is at = passed_checked p (reads_of p) calls i k (slice_get_within (checks p) i k h) h at.checked
passed_stage p calls (Deciding phase.Look) i k h is at = passed_led p calls i k h at.0.leads
passed_stage p calls (Deciding phase.Abort) i k h is at = passed_led p calls i k h at.0.leads
passed_stage p calls (Deciding phase.Again) i k h is at = passed_led p calls i k h at.leads
passed_stage p calls (Deciding phase.Ended) i k h is at = absurd at
passed_stage p calls (Forward j) i k h is at = passed_led p calls i k h at.0.leads
passed_stage p calls (Over outcome.Committed) i k h is at = passed_led p calls i k h at.leads
passed_stage p calls (Over (outcome.Expired id)) i k h is at = passed_led p calls i k h at.caused.2
passed_stage p calls (Over (outcome.Unknown id)) i k h is at = passed_led p calls i k h at.leads
passed_stage p calls (Over (outcome.BadRecord key)) i k h is at = passed_led p calls i k h at.leads
passed_stage p calls (Over (outcome.Conflict key found)) i k h is at = absurd (cc)
passed_stage p calls (Over outcome.Faulted) i k h is at = absurd (cc)
passed_stage p calls (Over outcome.NoMemory) i k h is at = absurd (cc)
passed_stage p calls s i k h is at = absurd (cc)

pub checked_at : (p : Work) (calls : List Call) (s : Stage) (i : ℕ) → Makes p calls s → is_checked i s ≡ true → HasPassed p calls i
checked_at p calls s i m is k h = passed_stage p calls s i k h is (goes_made p calls s m)

ready_front : (p : Work) (calls more : List Call) → IsReady p calls → IsReady p (calls ++ more)
ready_front p calls more ready = record {
  prepared = λ i q h. get_front calls more i (record { request = q; reply = reply.Applied }) (ready.prepared i q h);
  checked = λ i k h. let at = ready.checked i k h in (at.0, get_front calls more (groups_of p + i) at.0 at.1, at.2);
}

ready_put : (p : Work) (calls : List Call) → Goes p calls (Deciding phase.Put) → IsReady p calls
ready_put p calls at = record {
  prepared = λ i q h. applied_checked p (reads_of p) calls i q h at.checked;
  checked = λ i k h. passed_checked p (reads_of p) calls i k (slice_get_within (checks p) i k h) h at.checked;
}

-- the call that asked for the put came from there
ready_before : (p : Work) (calls : List Call) (s : Stage) (q : Request) (r : Reply) (c : Call) → Goes p calls s → pending p s ≡ Some q → record { request = q; reply = r } ≡ c → c.request ≡ decide_of p.id p.now → IsReady p calls
ready_before p calls s q r c at asked same is =
    ready_put p calls (subst (Goes p calls) (asks_deciding_put p s (asked ∙ ap (λ (d : Call). Some d.request) same ∙ ap Some is)) at)

ready_past : (p : Work) (past : List Reply) (c : Call) → AreReplies p past → Contains (calls_of_path p past) c → c.request ≡ decide_of p.id p.now → IsReady p (calls_of_path p past)
ready_past p [] c correct = λ among is. none_in among.0 among.1
  where
    none_in : (k : ℕ) → k < 0 → IsReady p []
    none_in k l = absurd (omega arith)
ready_past p (r ∷ past) c correct =
    at_call (λ cs. Contains cs c → c.request ≡ decide_of p.id p.now → IsReady p cs) (pending p (after p past)) r (calls_of_path p past) correct.1
    (λ q e fits among is. ready_front p (calls_of_path p past) (record { request = q; reply = r } ∷ []) (by q e is (ready_past p past c correct.0) (Contains-push_cases (calls_of_path p past) (record { request = q; reply = r }) c among)))
  where
    by : (q : Request) → pending p (after p past) ≡ Some q → c.request ≡ decide_of p.id p.now → (Contains (calls_of_path p past) c → c.request ≡ decide_of p.id p.now → IsReady p (calls_of_path p past)) → Contains (calls_of_path p past) c ⊎ (record { request = q; reply = r } ≡ c) → IsReady p (calls_of_path p past)
    by q e is before (inl among) = before among is
    by q e is before (inr same) = ready_before p (calls_of_path p past) (after p past) q r c (goes p past correct.0) e same is

pub ready_at : (p : Work) (calls : List Call) (s : Stage) → Makes p calls s → IsAsked (decide_of p.id p.now) calls → IsReady p calls
ready_at p calls s m asked = subst (IsReady p) m.made (ready_past p m.past asked.0 m.correct (subst (λ cs. Contains cs asked.0) (sym m.made) asked.1) asked.2)

learned_stage : (p : Work) (calls : List Call) (s : Stage) → has_committed s ≡ true → Goes p calls s → IsLearned p calls
learned_stage p calls (Forward i) is at = at.0.learned
learned_stage p calls (Over outcome.Committed) is at = at.learned
learned_stage p calls (Over (outcome.Expired id)) is at = absurd (cc)
learned_stage p calls (Over (outcome.Unknown id)) is at = absurd (cc)
learned_stage p calls (Over (outcome.BadRecord key)) is at = absurd (cc)
learned_stage p calls (Over (outcome.Conflict key found)) is at = absurd (cc)
learned_stage p calls (Over outcome.Faulted) is at = absurd (cc)
learned_stage p calls (Over outcome.NoMemory) is at = absurd (cc)
learned_stage p calls s is at = absurd (cc)

pub learned_from : (p : Work) (calls : List Call) (s : Stage) → Makes p calls s → has_committed s ≡ true → IsLearned p calls
learned_from p calls s m is = learned_stage p calls s is (goes_made p calls s m)

---- a call is pending until it ends

is_there : {A : Type 0} (xs : List A) (i : ℕ) → i < length xs → is_some (slice_get xs i) ≡ true
is_there xs i l = let (x, h) = get_some xs i l in ap is_some h

asks_stage : (p : Work) (calls : List Call) (s : Stage) → is_over s ≡ false → Goes p calls s → is_some (pending p s) ≡ true
asks_stage p calls (Preparing i) not at = is_there (prepares p) i (subst (λ n. i < n) (sym (length-map (grouped p.writes) (prepares_of p.id p.now))) at.within)
asks_stage p calls (Checking i) not at = let (k, h) = get_some (checks p) i at.within in ap (λ o. is_some (option_map (λ (c : Check). c.request) o)) h
asks_stage p calls (Deciding phase.Put) not at = refl
asks_stage p calls (Deciding phase.Look) not at = refl
asks_stage p calls (Deciding phase.Abort) not at = refl
asks_stage p calls (Deciding phase.Again) not at = refl
asks_stage p calls (Deciding phase.Ended) not at = absurd at
asks_stage p calls (Forward i) not at = is_there (forwards p) i (subst (λ n. i < n) (sym (length-map (grouped p.writes) (forwards_of p.id p.now))) at.1)
asks_stage p calls (Stopping a n) not at = refl
asks_stage p calls (Back a n i) not at = is_there (backs p) i (subst (λ m. i < m) (sym (length-map (in_groups p.writes) (back_of p.id) ∙ in_groups_length p.writes)) (within i n (writes_of p) at.1 (subst (λ k. k ≤ writes_of p) at.0.touches.writes (writes_within p at.0.touches.groups))))
  where
    within : (i n m : ℕ) → i < n → n ≤ m → i < m
    within i n m a b = omega arith
asks_stage p calls (Over a) not at = absurd (cc)

pub asks_on : (p : Work) (calls : List Call) (s : Stage) → Makes p calls s → is_over s ≡ false → is_some (pending p s) ≡ true
asks_on p calls s m not = asks_stage p calls s not (goes_made p calls s m)
