-- What a COMMIT knows stays so while other clients' events come.
use Rattle.std.proofs.Common.{◌≡◌, ◌≢◌, ℕ, ℤ, true, false, List, ◌∷◌, length, Option, Some, None, refl, sym, ap, subst, ◌∙◌, arith, ◌⊎◌, inl, inr}
use Rattle.std.proofs.lemmas.Bool.Decides.{nat_tests}
use Rattle.law_clients.specs.Types.{Event, Key, Outcome, Reply, Request}
use Rattle.sdb_types.proofs.Public.{tests}
use Rattle.sdb_record.specs.declared.coordinator.Decision.TheVariants as decision
use Rattle.sdb_model.specs.declared.event.Event.TheVariants as event
use Rattle.law_protocol.specs.Plan.{Plan}
use Rattle.law_protocol.specs.History.{Action, Other, Begins, Takes, Prepares, Checks, Decides, Aborts, Rolls, Removes, Ends, Stops, ProtocolState, state_after_event, state_after}
use Rattle.law_protocol.specs.History as laws
use Rattle.law_protocol.specs.Lawful.{Labelled, protocol_state, ended, InCommit, IsCallOf, IsKnownCommitted, IsKnownAborted, IsBadRow, IsEnabled}
use Rattle.sdb_phases.specs.Work.{Work, writes_before}
use Rattle.sdb_phases.specs.Checks.{checks}
use Rattle.sdb_phases.specs.declared.step.DecidePhase.TheVariants as phase
use Rattle.sdb_phases.specs.Commit.{Stage, Preparing, Checking, Deciding, Forward, Stopping, Back, Over}
use Rattle.sdb_phases.specs.declared.step.Outcome.TheVariants as outcome
use Rattle.law_clients.specs.Owner.{CommitOk, StageOk, OverOk, AreAcknowledged, AskedTo, UnaskedFrom, CheckedTo}
use Rattle.law_clients.specs.System.{IsBy}
use Rattle.law_clients.specs.Reads.{OpenOk}
use Rattle.law_clients.proofs.Delayed.{IsUnanswered}
use Rattle.law_clients.proofs.Kept.{row_later}

-- an event that is another's plays no part of a transaction, nor stops its client
abbrev pub IsForeign : ℕ → ℕ → Action → Type 0
IsForeign t c (laws.Begins u d) = u ≢ t
IsForeign t c (laws.Takes u) = u ≢ t
IsForeign t c (Prepares u k word) = u ≢ t
IsForeign t c (Checks u i) = u ≢ t
IsForeign t c (Decides u word) = u ≢ t
IsForeign t c (laws.Ends u) = u ≢ t
IsForeign t c (laws.Stops d) = d ≢ c
IsForeign t c action = Unit {0}

-- a part doesn't stop a client
abbrev pub StopsNot : ℕ → Action → Type 0
StopsNot c (Stops d) = d ≢ c
StopsNot c r = Unit {0}

going_same : (c : ℕ) (h : ProtocolState) (r : Action) → StopsNot c r → (state_after_event h r).stopped c ≡ h.stopped c
going_same c h r f = grind (arith, nat_tests)

pub running : (past : List Labelled) (q : Labelled) (c : ℕ) → StopsNot c q.action → (protocol_state (q ∷ past)).stopped c ≡ (protocol_state past).stopped c
running past q c f = by q.ends
  where
    by : (o : Option ℕ) → (ended (state_after_event (protocol_state past) q.action) o).stopped c ≡ (protocol_state past).stopped c
    by None = going_same c (protocol_state past) q.action f
    by (Some u) = going_same c (protocol_state past) q.action f

-- what is said of a transaction and its client is the same
pub record SameFor (t c : ℕ) (h v : ProtocolState) : Type 0 where
  pub begun : v.begun t ≡ h.begun t
  pub owner : v.owner t ≡ h.owner t
  pub is_open : v.is_open t ≡ h.is_open t
  pub stopped : v.stopped c ≡ h.stopped c
  pub accepted : v.accepted t ≡ h.accepted t
  pub stage : v.stage t ≡ h.stage t
  pub asked : (k : Key) → v.asked t k ≡ h.asked t k
  pub answered : (k : Key) → v.answered t k ≡ h.answered t k
  pub checked : (i : ℕ) → v.checked t i ≡ h.checked t i
  pub risked : v.risked t ≡ h.risked t
  pub won : h.won t ≡ true → v.won t ≡ true
  pub dead : h.dead t ≡ true → v.dead t ≡ true
  pub met : h.met t ≡ true → v.met t ≡ true

begun_same : (t c : ℕ) (h : ProtocolState) (r : Action) → IsForeign t c r → (state_after_event h r).begun t ≡ h.begun t
begun_same t c h r f = grind (arith, nat_tests)

owner_same : (t c : ℕ) (h : ProtocolState) (r : Action) → IsForeign t c r → (state_after_event h r).owner t ≡ h.owner t
owner_same t c h r f = grind (arith, nat_tests)

open_same : (t c : ℕ) (h : ProtocolState) (r : Action) → IsForeign t c r → (state_after_event h r).is_open t ≡ h.is_open t
open_same t c h r f = grind (arith, nat_tests)

stopped_same : (t c : ℕ) (h : ProtocolState) (r : Action) → IsForeign t c r → (state_after_event h r).stopped c ≡ h.stopped c
stopped_same t c h r f = grind (arith, nat_tests)

taken_same : (t c : ℕ) (h : ProtocolState) (r : Action) → IsForeign t c r → (state_after_event h r).accepted t ≡ h.accepted t
taken_same t c h r f = grind (arith, nat_tests)

stage_same : (t c : ℕ) (h : ProtocolState) (r : Action) → IsForeign t c r → (state_after_event h r).stage t ≡ h.stage t
stage_same t c h r f = grind (arith, nat_tests)

asked_same : (t c : ℕ) (h : ProtocolState) (r : Action) (k : Key) → IsForeign t c r → (state_after_event h r).asked t k ≡ h.asked t k
asked_same t c h r k f = grind (arith, tests)

told_same : (t c : ℕ) (h : ProtocolState) (r : Action) (k : Key) → IsForeign t c r → (state_after_event h r).answered t k ≡ h.answered t k
told_same t c h r k f = grind (arith, tests)

checked_same : (t c : ℕ) (h : ProtocolState) (r : Action) (i : ℕ) → IsForeign t c r → (state_after_event h r).checked t i ≡ h.checked t i
checked_same t c h r i f = grind (arith, nat_tests)

risked_same : (t c : ℕ) (h : ProtocolState) (r : Action) → IsForeign t c r → (state_after_event h r).risked t ≡ h.risked t
risked_same t c h r f = grind (arith, nat_tests)

won_stays : (t c : ℕ) (h : ProtocolState) (r : Action) → h.won t ≡ true → (state_after_event h r).won t ≡ true
won_stays t c h r w = grind (arith, nat_tests)

pub dead_stays : (t c : ℕ) (h : ProtocolState) (r : Action) → h.dead t ≡ true → (state_after_event h r).dead t ≡ true
dead_stays t c h r w = grind (arith, nat_tests)

met_stays : (t c : ℕ) (h : ProtocolState) (r : Action) → h.met t ≡ true → (state_after_event h r).met t ≡ true
met_stays t c h r w = grind (arith, nat_tests)

same_for : (t c : ℕ) (h : ProtocolState) (r : Action) → IsForeign t c r → SameFor t c h (state_after_event h r)
same_for t c h r f = record {
  begun = begun_same t c h r f;
  owner = owner_same t c h r f;
  is_open = open_same t c h r f;
  stopped = stopped_same t c h r f;
  accepted = taken_same t c h r f;
  stage = stage_same t c h r f;
  asked = λ k. asked_same t c h r k f;
  answered = λ k. told_same t c h r k f;
  checked = λ i. checked_same t c h r i f;
  risked = risked_same t c h r f;
  won = won_stays t c h r;
  dead = dead_stays t c h r;
  met = met_stays t c h r;
}

---- landings

-- A request that lands was asked before, and is answered nothing: the state is the same for each transaction.
module _ (t c : ℕ) (h : ProtocolState) (action : Action) (late : IsUnanswered h action) where
  landed_accepted : ((state_after_event h action).begun t ≡ h.begun t) × ((state_after_event h action).owner t ≡ h.owner t) × ((state_after_event h action).is_open t ≡ h.is_open t) × ((state_after_event h action).stopped c ≡ h.stopped c) × ((state_after_event h action).accepted t ≡ h.accepted t)
  landed_accepted = grind (arith, nat_tests)

  landed_stage : ((state_after_event h action).stage t ≡ h.stage t) × ((state_after_event h action).risked t ≡ h.risked t)
  landed_stage = grind (arith, nat_tests)

  landed_asked : (k : Key) → (state_after_event h action).asked t k ≡ h.asked t k
  landed_asked k = grind (arith, tests)

  landed_answered : (k : Key) → (state_after_event h action).answered t k ≡ h.answered t k
  landed_answered k = grind (arith, tests)

  landed_checked : (i : ℕ) → (state_after_event h action).checked t i ≡ h.checked t i
  landed_checked i = grind (arith, nat_tests)

  pub landed_same : SameFor t c h (state_after_event h action)
  landed_same = record {
    begun = landed_accepted.0;
    owner = landed_accepted.1;
    is_open = landed_accepted.2;
    stopped = landed_accepted.3;
    accepted = landed_accepted.4;
    stage = landed_stage.0;
    asked = landed_asked;
    answered = landed_answered;
    checked = landed_checked;
    risked = landed_stage.1;
    won = won_stays t c h action;
    dead = dead_stays t c h action;
    met = met_stays t c h action;
  }

---- the end of a transaction

closed_open : (t u : ℕ) (h : ProtocolState) → u ≢ t → (state_after h (Ends u)).is_open t ≡ h.is_open t
closed_open t u h ne = grind (arith, nat_tests)

closed_same : (t c : ℕ) (h : ProtocolState) (u : ℕ) → u ≢ t → SameFor t c h (state_after h (Ends u))
closed_same t c h u ne = record {
  begun = refl;
  owner = refl;
  is_open = closed_open t u h ne;
  stopped = refl;
  accepted = refl;
  stage = refl;
  asked = λ k. refl;
  answered = λ k. refl;
  checked = λ i. refl;
  risked = refl;
  won = λ x. x;
  dead = λ x. x;
  met = λ x. x;
}

then_same : (t c : ℕ) (h v w : ProtocolState) → SameFor t c h v → SameFor t c v w → SameFor t c h w
then_same t c h v w a b = record {
  begun = b.begun ∙ a.begun;
  owner = b.owner ∙ a.owner;
  is_open = b.is_open ∙ a.is_open;
  stopped = b.stopped ∙ a.stopped;
  accepted = b.accepted ∙ a.accepted;
  stage = b.stage ∙ a.stage;
  asked = λ k. b.asked k ∙ a.asked k;
  answered = λ k. b.answered k ∙ a.answered k;
  checked = λ i. b.checked i ∙ a.checked i;
  risked = b.risked ∙ a.risked;
  won = λ x. b.won (a.won x);
  dead = λ x. b.dead (a.dead x);
  met = λ x. b.met (a.met x);
}

-- an event that plays another's part, and ends no transaction but another
pub record IsForeignEvent (t c : ℕ) (q : Labelled) : Type 0 where
  pub part : IsForeign t c q.action
  pub ends : (u : ℕ) → q.ends ≡ Some u → u ≢ t

pub event_same : (t c : ℕ) (past : List Labelled) (q : Labelled) → IsForeignEvent t c q → SameFor t c (protocol_state past) (protocol_state (q ∷ past))
event_same t c past q f = by q.ends refl
  where
    by : (o : Option ℕ) → q.ends ≡ o → SameFor t c (protocol_state past) (ended (state_after_event (protocol_state past) q.action) o)
    by None e = same_for t c (protocol_state past) q.action f.part
    by (Some u) e = then_same t c (protocol_state past) (state_after_event (protocol_state past) q.action) (state_after (state_after_event (protocol_state past) q.action) (Ends u)) (same_for t c (protocol_state past) q.action f.part) (closed_same t c (state_after_event (protocol_state past) q.action) u (f.ends u e))

---- what is known

known_later : (plan : ℕ → Plan) (past : List Labelled) (q : Labelled) (t c : ℕ) (m : ℤ) → SameFor t c (protocol_state past) (protocol_state (q ∷ past)) → IsKnownCommitted plan past t m → IsKnownCommitted plan (q ∷ past) t m
known_later plan past q t c m s (inl x) = inl (row_later q past t decision.Committed m x)
known_later plan past q t c m s (inr (inl x)) = inr (inl (s.won x.0, x.1))
known_later plan past q t c m s (inr (inr x)) = inr (inr (s.accepted ∙ x.0, (x.1.0, row_later q past t decision.Committed x.1.0 x.1.1), x.2))

aborted_later : (past : List Labelled) (q : Labelled) (t c : ℕ) → SameFor t c (protocol_state past) (protocol_state (q ∷ past)) → IsKnownAborted past t → IsKnownAborted (q ∷ past) t
aborted_later past q t c s (inl x) = inl (x.0, row_later q past t decision.Aborted x.0 x.1)
aborted_later past q t c s (inr (inl d)) = inr (inl (s.dead d))
aborted_later past q t c s (inr (inr m)) = inr (inr (s.met m.0, s.risked ∙ m.1))

---- the whole

told_later : (p : Work) (c i : ℕ) (h v : ProtocolState) → SameFor p.id.0 c h v → AreAcknowledged h p i → AreAcknowledged v p i
told_later p c i h v s answered j w l at = s.answered w.key ∙ answered j w l at

asked_later : (p : Work) (c i : ℕ) (h v : ProtocolState) → SameFor p.id.0 c h v → AskedTo h p i → AskedTo v p i
asked_later p c i h v s asked j w l at = s.asked w.key ∙ asked j w l at

unasked_later : (p : Work) (c i : ℕ) (h v : ProtocolState) → SameFor p.id.0 c h v → UnaskedFrom h p i → UnaskedFrom v p i
unasked_later p c i h v s un j w l at = s.asked w.key ∙ un j w l at

checked_later : (p : Work) (c i : ℕ) (h v : ProtocolState) → SameFor p.id.0 c h v → CheckedTo h p i → CheckedTo v p i
checked_later p c i h v s checked j l = s.checked j ∙ checked j l

why_later : (past : List Labelled) (q : Labelled) (t c : ℕ) → SameFor t c (protocol_state past) (protocol_state (q ∷ past)) → (IsKnownAborted past t ⊎ ((protocol_state past).risked t ≡ false) ⊎ IsBadRow past t) → (IsKnownAborted (q ∷ past) t ⊎ ((protocol_state (q ∷ past)).risked t ≡ false) ⊎ IsBadRow (q ∷ past) t)
why_later past q t c s (inl a) = inl (aborted_later past q t c s a)
why_later past q t c s (inr (inl r)) = inr (inl (s.risked ∙ r))
why_later past q t c s (inr (inr b)) = inr (inr (record { row = b.row; observed = inr b.observed; key = b.key; bad = b.bad }))

over_later : (plan : ℕ → Plan) (past : List Labelled) (q : Labelled) (p : Work) (a : Outcome) (c : ℕ) → SameFor p.id.0 c (protocol_state past) (protocol_state (q ∷ past)) → OverOk plan past p a → OverOk plan (q ∷ past) p a
over_later plan past q p outcome.Committed c s k = known_later plan past q p.id.0 c p.now s k
over_later plan past q p (outcome.Conflict key found) c s k = why_later past q p.id.0 c s k
over_later plan past q p (outcome.Expired id) c s k = why_later past q p.id.0 c s k
over_later plan past q p outcome.Faulted c s k = why_later past q p.id.0 c s k
over_later plan past q p (outcome.Unknown id) c s k = k
over_later plan past q p (outcome.BadRecord key) c s k = why_later past q p.id.0 c s k
over_later plan past q p outcome.NoMemory c s k = why_later past q p.id.0 c s k

stage_later : (plan : ℕ → Plan) (past : List Labelled) (q : Labelled) (c : ℕ) (p : Work) (s : Stage) → SameFor p.id.0 c (protocol_state past) (protocol_state (q ∷ past)) → StageOk plan past p s → StageOk plan (q ∷ past) p s
stage_later plan past q c p (Preparing i) f ok = (f.stage ∙ ok.0, told_later p c (writes_before p i) (protocol_state past) (protocol_state (q ∷ past)) f ok.1, asked_later p c (writes_before p i) (protocol_state past) (protocol_state (q ∷ past)) f ok.2, unasked_later p c (writes_before p i) (protocol_state past) (protocol_state (q ∷ past)) f ok.3, f.risked ∙ ok.4)
stage_later plan past q c p (Checking i) f ok = (λ e. ok.0 (sym f.stage ∙ e), told_later p c (length p.writes) (protocol_state past) (protocol_state (q ∷ past)) f ok.1, asked_later p c (length p.writes) (protocol_state past) (protocol_state (q ∷ past)) f ok.2, checked_later p c i (protocol_state past) (protocol_state (q ∷ past)) f ok.3, ok.4, f.risked ∙ ok.5)
stage_later plan past q c p (Deciding phase.Put) f ok = (told_later p c (length p.writes) (protocol_state past) (protocol_state (q ∷ past)) f ok.0, asked_later p c (length p.writes) (protocol_state past) (protocol_state (q ∷ past)) f ok.1, checked_later p c (length (checks p)) (protocol_state past) (protocol_state (q ∷ past)) f ok.2, ok.3, f.risked ∙ ok.4)
stage_later plan past q c p (Deciding phase.Look) f ok = asked_later p c (length p.writes) (protocol_state past) (protocol_state (q ∷ past)) f ok
stage_later plan past q c p (Deciding phase.Abort) f ok = asked_later p c (length p.writes) (protocol_state past) (protocol_state (q ∷ past)) f ok
stage_later plan past q c p (Deciding phase.Again) f ok = asked_later p c (length p.writes) (protocol_state past) (protocol_state (q ∷ past)) f ok
stage_later plan past q c p (Deciding phase.Ended) f ok = asked_later p c (length p.writes) (protocol_state past) (protocol_state (q ∷ past)) f ok
stage_later plan past q c p (Forward i) f ok = (asked_later p c (length p.writes) (protocol_state past) (protocol_state (q ∷ past)) f ok.0, known_later plan past q p.id.0 c p.now f ok.1)
stage_later plan past q c p (Stopping a n) f ok = (asked_later p c n (protocol_state past) (protocol_state (q ∷ past)) f ok.0, f.risked ∙ ok.1, ok.2)
stage_later plan past q c p (Back a n i) f ok = (asked_later p c n (protocol_state past) (protocol_state (q ∷ past)) f ok.0, aborted_later past q p.id.0 c f ok.1, ok.2, ok.3)
stage_later plan past q c p (Over a) f ok = over_later plan past q p a c f ok

within_later : (t c : ℕ) (h v : ProtocolState) → SameFor t c h v → InCommit h c t → InCommit v c t
within_later t c h v s ok = record { accepted = s.accepted ∙ ok.accepted; is_open = s.is_open ∙ ok.is_open; owner = s.owner ∙ ok.owner; goes_on = s.stopped ∙ ok.goes_on }

-- An event after which the state is the same for its transaction leaves a COMMIT as it was.
pub commit_later : (plan : ℕ → Plan) (past : List Labelled) (q : Labelled) (c : ℕ) (p : Work) (s : Stage) → SameFor p.id.0 c (protocol_state past) (protocol_state (q ∷ past)) → CommitOk plan past c p s → CommitOk plan (q ∷ past) c p s
commit_later plan past q c p s same ok = record {
  work = ok.work;
  within = within_later p.id.0 c (protocol_state past) (protocol_state (q ∷ past)) same ok.within;
  begun = λ e. ok.begun (sym same.begun ∙ e);
  planned = ok.planned;
  stage = stage_later plan past q c p s same ok.stage;
}

---- whose part an event plays

caller : (d c : ℕ) (e : Event) (q : Request) (r : Reply) → IsBy d e → IsCallOf e c q r → c ≡ d
caller d c e q r by call = subst (IsBy d) call.call by

stopper : (d n : ℕ) (e : Event) → IsBy d e → e ≡ event.Stop n → d ≡ n
stopper d n e by is = sym (subst (IsBy d) is by)

-- A lawful part that another client plays is no part of a transaction of this one, nor stops this one.
pub foreign : (plan : ℕ → Plan) (past : List Labelled) (c d t : ℕ) (e : Event) (r : Action) → (protocol_state past).owner t ≡ c → (protocol_state past).begun t ≢ 0 → d ≢ c → IsBy d e → IsEnabled plan past e r → IsForeign t c r
foreign plan past c d t e Other own begun apart by m = tt
foreign plan past c d t e (Begins u n) own begun apart by m = λ same. begun (ap (protocol_state past).begun (sym same) ∙ m.fresh)
foreign plan past c d t e (Takes u) own begun apart by m = λ same. apart (sym (subst (IsBy d) m.take by) ∙ sym m.owner ∙ ap (protocol_state past).owner same ∙ own)
foreign plan past c d t e (Prepares u ks word) own begun apart by m = λ same. apart (sym (caller d m.client e _ m.r by m.call) ∙ sym m.within.owner ∙ ap (protocol_state past).owner same ∙ own)
foreign plan past c d t e (Checks u i) own begun apart by m = λ same. apart (sym (caller d m.client e m.q m.r by m.call) ∙ sym m.within.owner ∙ ap (protocol_state past).owner same ∙ own)
foreign plan past c d t e (Decides u word) own begun apart by m = λ same. apart (sym (caller d m.client e _ m.r by m.call) ∙ sym m.within.owner ∙ ap (protocol_state past).owner same ∙ own)
foreign plan past c d t e (Aborts u n word) own begun apart by m = tt
foreign plan past c d t e (Rolls u k decision) own begun apart by m = tt
foreign plan past c d t e (Removes k u) own begun apart by m = tt
foreign plan past c d t e (Ends u) own begun apart by m = absurd m
foreign plan past c d t e (Stops n) own begun apart by m = λ same. apart (stopper d n e by m ∙ same)

-- A lawful part that another client plays doesn't stop this one.
pub goes_on : (plan : ℕ → Plan) (past : List Labelled) (c d : ℕ) (e : Event) (r : Action) → d ≢ c → IsBy d e → IsEnabled plan past e r → StopsNot c r
goes_on plan past c d e Other apart by m = tt
goes_on plan past c d e (Begins u n) apart by m = tt
goes_on plan past c d e (Takes u) apart by m = tt
goes_on plan past c d e (Prepares u k word) apart by m = tt
goes_on plan past c d e (Checks u i) apart by m = tt
goes_on plan past c d e (Decides u word) apart by m = tt
goes_on plan past c d e (Aborts u n word) apart by m = tt
goes_on plan past c d e (Rolls u k decision) apart by m = tt
goes_on plan past c d e (Removes k u) apart by m = tt
goes_on plan past c d e (Ends u) apart by m = tt
goes_on plan past c d e (Stops n) apart by m = λ same. apart (stopper d n e by m ∙ same)

-- and an open transaction as it was
pub open_later : (past : List Labelled) (q : Labelled) (c t : ℕ) → SameFor t c (protocol_state past) (protocol_state (q ∷ past)) → OpenOk (protocol_state past) c t → OpenOk (protocol_state (q ∷ past)) c t
open_later past q c t same ok = record {
  fits = ok.fits;
  begun = λ e. ok.begun (sym same.begun ∙ e);
  owner = same.owner ∙ ok.owner;
  is_open = same.is_open ∙ ok.is_open;
  goes_on = same.stopped ∙ ok.goes_on;
  fresh = same.accepted ∙ ok.fresh;
  stage = same.stage ∙ ok.stage;
  unasked = λ k. same.asked k ∙ ok.unasked k;
  safe = same.risked ∙ ok.safe;
}
