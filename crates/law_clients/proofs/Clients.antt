-- A turn of one client leaves what the others know, and what is so of all.
use Rattle.std.proofs.Common.{◌≡◌, ◌≢◌, ℕ, Bool, true, false, List, ◌∷◌, Option, Some, None, refl, sym, ap, subst, ◌∙◌, arith, ◌⊎◌, inl, inr}
use Rattle.std.specs.Prelude.{◌==◌, if◌then◌else◌}
use Rattle.std.proofs.lemmas.Bool.Decides.{nat_tests}
use Rattle.law_clients.specs.Types.{Access, Answer, Event, Meta, Record, RecoverPhase}
use Rattle.sdb_record.specs.declared.coordinator.Decision.TheVariants as decision
use Rattle.sdb_model.specs.declared.answer.Answer.TheVariants as answer
use Rattle.sdb_model.specs.declared.event.Event.TheVariants as event
use Rattle.law_protocol.specs.Plan.{Plan}
use Rattle.law_protocol.specs.History as laws
use Rattle.law_protocol.specs.History.{Action, Begins, ProtocolState, state_after_event, state_after}
use Rattle.law_protocol.specs.Lawful.{Labelled, IsEnabled, MayOccur, MayAnswer, MayDeny, protocol_state, ended, answer_of, is_denial}
use Rattle.sdb_phases.specs.declared.step.RecoverPhase.TheVariants as recovering
use Rattle.law_clients.specs.Reader.{RecoverOk, PhaseOk}
use Rattle.law_clients.specs.ReadAt.{ReadAt, Asking, Resolving, Done, Failed, ReadOk}
use Rattle.law_clients.specs.Vacuum as vacuum
use Rattle.law_clients.specs.Vacuum.{VacuumModel, VacuumModelOk}
use Rattle.law_clients.specs.System.{ClientAt, Resting, Open, Reading, Committing, RunsVacuum, Stopped, ClientOk, Has, is_in_vacuum, Gate, SystemAt, SystemOk, with_client, IsBy}
use Rattle.law_clients.proofs.Kept.{row_later}
use Rattle.law_clients.proofs.Foreign.{SameFor, StopsNot, event_same, commit_later, open_later, foreign, goes_on, running, dead_stays}
use Rattle.law_clients.proofs.Rows.{images_later, image_later, left_later}
use Rattle.law_clients.proofs.Seen.{seen_later}
use Rattle.law_protocol.proofs.Public.{open_before as open_ended}

---- what a client knows stays

pub recover_later : (past : List Labelled) (q : Labelled) (rec : Record) (meta : Meta) (p : RecoverPhase) → RecoverOk past rec meta p → RecoverOk (q ∷ past) rec meta p
recover_later past q rec meta p ok = record { of = ok.of; unresolved = ok.unresolved; observed = inr ok.observed; outside = ok.outside; phase = by p ok.phase }
  where
    gone : (o : Option ℕ) → (protocol_state past).dead meta.id.0 ≡ true → (ended (state_after_event (protocol_state past) q.action) o).dead meta.id.0 ≡ true
    gone None d = dead_stays meta.id.0 0 (protocol_state past) q.action d
    gone (Some u) d = dead_stays meta.id.0 0 (protocol_state past) q.action d

    by : (p : RecoverPhase) → PhaseOk past meta p → PhaseOk (q ∷ past) meta p
    by recovering.Look h = tt
    by (recovering.Abort moment) h = h
    by recovering.Again h = tt
    by (recovering.Forward at) h = (row_later q past meta.id.0 decision.Committed at h.0, h.1)
    by recovering.Back (inl x) = inl (x.0, row_later q past meta.id.0 decision.Aborted x.0 x.1)
    by recovering.Back (inr d) = inr (gone q.ends d)
    by recovering.Ended h = tt

pub read_later : (past : List Labelled) (q : Labelled) (a : Access) (r : ReadAt) → ReadOk past a r → ReadOk (q ∷ past) a r
read_later past q a Asking ok = tt
read_later past q a (Resolving images rec meta p left) ok = (images_later past q images ok.0, recover_later past q rec meta p ok.1, left_later past q left ok.2, ok.3)
read_later past q a (Done images) ok = (images_later past q images ok.0, ok.1)
read_later past q a Failed ok = tt

pub sweep_later : (past : List Labelled) (q : Labelled) (v : VacuumModel) → VacuumModelOk past v → VacuumModelOk (q ∷ past) v
sweep_later past q (vacuum.Scanning span) ok = ok
sweep_later past q (vacuum.Resolving rec meta p left) ok = (recover_later past q rec meta p ok.0, left_later past q left ok.1)
sweep_later past q (vacuum.Removing b left) ok = (image_later past q b ok.0, ok.1, ok.2, left_later past q left ok.3)
sweep_later past q vacuum.Between ok = tt

-- After an event the state is the same for a client's open transaction, and the client hasn't stopped by it.
pub record Spares (past : List Labelled) (d : ℕ) (x : ClientAt) (q : Labelled) : Type 0 where
  pub parts : (t : ℕ) → Has x t → SameFor t d (protocol_state past) (protocol_state (q ∷ past))
  pub goes_on : StopsNot d q.action

-- Such an event leaves what the client knows.
pub client_later : (plan : ℕ → Plan) (past : List Labelled) (d : ℕ) (q : Labelled) (x : ClientAt) → Spares past d x q → ClientOk plan past d x → ClientOk plan (q ∷ past) d x
client_later plan past d q Resting f ok = running past q d f.goes_on ∙ ok
client_later plan past d q (Open id seen) f ok = (open_later past q d id.0 (f.parts id.0 refl) ok.0, seen_later past q seen ok.1)
client_later plan past d q (Reading id seen a r) f ok = (open_later past q d id.0 (f.parts id.0 refl) ok.0, seen_later past q seen ok.1, ok.2, read_later past q a r ok.3)
client_later plan past d q (Committing p s) f ok = commit_later plan past q d p s (f.parts p.id.0 refl) ok
client_later plan past d q (RunsVacuum v) f ok = (running past q d f.goes_on ∙ ok.0, sweep_later past q v ok.1)
client_later plan past d q Stopped f ok = running past q d f.goes_on ∙ ok

-- a client's open transaction is its own, and has begun
pub has_owner : (plan : ℕ → Plan) (past : List Labelled) (d t : ℕ) (x : ClientAt) → ClientOk plan past d x → Has x t → ((protocol_state past).owner t ≡ d) × ((protocol_state past).begun t ≢ 0)
has_owner plan past d t Resting ok h = absurd h
has_owner plan past d t (Open id seen) ok h = subst (λ u. ((protocol_state past).owner u ≡ d) × ((protocol_state past).begun u ≢ 0)) h (ok.0.owner, ok.0.begun)
has_owner plan past d t (Reading id seen a r) ok h = subst (λ u. ((protocol_state past).owner u ≡ d) × ((protocol_state past).begun u ≢ 0)) h (ok.0.owner, ok.0.begun)
has_owner plan past d t (Committing p s) ok h = subst (λ u. ((protocol_state past).owner u ≡ d) × ((protocol_state past).begun u ≢ 0)) h (ok.within.owner, ok.begun)
has_owner plan past d t (RunsVacuum v) ok h = absurd h
has_owner plan past d t Stopped ok h = absurd h

-- Another client's lawful event, which ends no transaction but its own client's, spares a client.
pub others_spared : (plan : ℕ → Plan) (past : List Labelled) (c d : ℕ) (q : Labelled) (x : ClientAt) → c ≢ d → IsBy c q.event → IsEnabled plan past q.event q.action → ((u : ℕ) → q.ends ≡ Some u → (protocol_state past).owner u ≡ c) → ClientOk plan past d x → Spares past d x q
others_spared plan past c d q x apart by may own ok = record {
  parts = λ t h. let o = has_owner plan past d t x ok h in event_same t d past q (record {
    part = foreign plan past d c t q.event q.action o.0 o.1 apart by may;
    ends = λ u e same. apart (sym (own u e) ∙ ap (protocol_state past).owner same ∙ o.0);
  });
  goes_on = goes_on plan past d c q.event q.action apart by may;
}

---- what is so of all

-- an event begins no transaction
abbrev pub BeginsNone : Action → Type 0
BeginsNone (Begins t c) = ⊥
BeginsNone r = Unit {0}

open_before : (h : ProtocolState) (r : Action) (u : ℕ) → BeginsNone r → (state_after_event h r).is_open u ≡ true → h.is_open u ≡ true
open_before h r u b o = grind (arith, nat_tests)

owner_same : (h : ProtocolState) (r : Action) (u : ℕ) → BeginsNone r → (state_after_event h r).owner u ≡ h.owner u
owner_same h r u b = grind (arith, nat_tests)

begun_same : (h : ProtocolState) (r : Action) (u : ℕ) → BeginsNone r → (state_after_event h r).begun u ≡ h.begun u
begun_same h r u b = grind (arith, nat_tests)

stopped_stays : (h : ProtocolState) (r : Action) (c : ℕ) → h.stopped c ≡ true → (state_after_event h r).stopped c ≡ true
stopped_stays h r c s = grind (arith, nat_tests)

-- what an event that begins nothing says
pub record Goes (h v : ProtocolState) : Type 0 where
  pub is_open : (u : ℕ) → v.is_open u ≡ true → h.is_open u ≡ true
  pub owner : (u : ℕ) → v.owner u ≡ h.owner u
  pub begun : (u : ℕ) → v.begun u ≡ h.begun u
  pub stopped : (c : ℕ) → h.stopped c ≡ true → v.stopped c ≡ true

heard_goes : (h : ProtocolState) (r : Action) → BeginsNone r → Goes h (state_after_event h r)
heard_goes h r b = record { is_open = λ u. open_before h r u b; owner = λ u. owner_same h r u b; begun = λ u. begun_same h r u b; stopped = λ c. stopped_stays h r c }

closed_goes : (h : ProtocolState) (u : ℕ) → Goes h (state_after h (laws.Ends u))
closed_goes h u = record { is_open = λ v o. open_ended h.is_open u v o; owner = λ v. refl; begun = λ v. refl; stopped = λ c s. s }

both_go : (h v w : ProtocolState) → Goes h v → Goes v w → Goes h w
both_go h v w a b = record { is_open = λ u o. a.is_open u (b.is_open u o); owner = λ u. b.owner u ∙ a.owner u; begun = λ u. b.begun u ∙ a.begun u; stopped = λ c s. b.stopped c (a.stopped c s) }

pub event_goes : (past : List Labelled) (q : Labelled) → BeginsNone q.action → Goes (protocol_state past) (protocol_state (q ∷ past))
event_goes past q b = by q.ends
  where
    by : (o : Option ℕ) → Goes (protocol_state past) (ended (state_after_event (protocol_state past) q.action) o)
    by None = heard_goes (protocol_state past) q.action b
    by (Some u) = both_go (protocol_state past) (state_after_event (protocol_state past) q.action) (state_after (state_after_event (protocol_state past) q.action) (laws.Ends u)) (heard_goes (protocol_state past) q.action b) (closed_goes (state_after_event (protocol_state past) q.action) u)

-- VACUUM's gate stays shut while nothing begins.
pub gate_goes : (h v : ProtocolState) → Goes h v → Gate h → Gate v
gate_goes h v g gate u o = subst (λ c. v.stopped c ≡ true) (sym (g.owner u)) (g.stopped (h.owner u) (gate u (g.is_open u o)))

pub same_of : (d c : ℕ) → (d == c) ≡ true → c ≡ d
same_of d c t = grind (arith, nat_tests)

pub apart_of : (d c : ℕ) → (d == c) ≡ false → c ≢ d
apart_of d c f e = absurd (grind (arith, nat_tests))

-- a client's event that is enabled may occur
occurs : (plan : ℕ → Plan) (past : List Labelled) (c : ℕ) (e : Event) (r : Action) → IsBy c e → IsEnabled plan past e r → MayOccur plan past e r
occurs plan past c (event.Take d text answered) r by m = m
occurs plan past c (event.Call d store q how reply answered) r by m = m
occurs plan past c (event.Stop d) r by m = m
occurs plan past c (event.Clock moment) r by m = absurd by
occurs plan past c (event.Idle d) r by m = m
occurs plan past c (event.Land number store q how reply) r by m = absurd by
occurs plan past c (event.Alter table column kind altered) r by m = absurd by

-- and one that may occur is enabled
pub enabled : (plan : ℕ → Plan) (past : List Labelled) (c : ℕ) (e : Event) (r : Action) → IsBy c e → MayOccur plan past e r → IsEnabled plan past e r
enabled plan past c (event.Take d text answered) r by m = m
enabled plan past c (event.Call d store q how reply answered) r by m = m
enabled plan past c (event.Stop d) r by m = m
enabled plan past c (event.Clock moment) r by m = absurd by
enabled plan past c (event.Idle d) r by m = m
enabled plan past c (event.Land number store q how reply) r by m = absurd by
enabled plan past c (event.Alter table column kind altered) r by m = absurd by

-- What a turn of a client has to show: its event is its own and lawful, ends nothing but its own and begins nothing; the client
-- knows what it needs where it then is; a transaction of it that stays open is in its hands, and it starts no VACUUM.
pub record Turn (plan : ℕ → Plan) (past : List Labelled) (sys : SystemAt) (c : ℕ) (q : Labelled) (x : ClientAt) : Type 0 where
  pub by : IsBy c q.event
  pub may : IsEnabled plan past q.event q.action
  pub ends : (u : ℕ) → q.ends ≡ Some u → (protocol_state past).owner u ≡ c
  pub begins : BeginsNone q.action
  pub is_known : answer_of q.event ≡ Some answer.Committed → MayAnswer plan past q
  pub denies : (a : Answer) → answer_of q.event ≡ Some a → is_denial a ≡ true → MayDeny past q
  pub knows : ClientOk plan (q ∷ past) c x
  pub holds : (u : ℕ) → Has (sys.clients c) u → (protocol_state (q ∷ past)).is_open u ≡ true → ((protocol_state (q ∷ past)).stopped c ≡ true) ⊎ Has x u
  pub starts : is_in_vacuum x ≡ true → is_in_vacuum (sys.clients c) ≡ true

pub with_here : (sys : SystemAt) (c : ℕ) (x : ClientAt) (P : ℕ → ClientAt → Type 0) (d : ℕ) → P c x → (c ≢ d → P d (sys.clients d)) → P d ((with_client sys c x).clients d)
with_here sys c x P d here there = on (d == c) refl
  where
    on : (b : Bool) → (d == c) ≡ b → P d (if b then x else sys.clients d)
    on true t = subst (λ y. P y x) (same_of d c t) here
    on false f = there (apart_of d c f)

-- Then all is so of all clients.
pub turned : (plan : ℕ → Plan) (past : List Labelled) (sys : SystemAt) (c : ℕ) (q : Labelled) (x : ClientAt) → SystemOk plan past sys → Turn plan past sys c q x → SystemOk plan (q ∷ past) (with_client sys c x)
turned plan past sys c q x ok t = record {
  lawful = (ok.lawful, occurs plan past c q.event q.action t.by t.may, t.is_known, t.denies);
  each = λ d. with_here sys c x (ClientOk plan (q ∷ past)) d t.knows (λ apart. client_later plan past d q (sys.clients d) (others_spared plan past c d q (sys.clients d) apart t.by t.may t.ends (ok.each d)) (ok.each d));
  opened = λ u o. subst (λ d. ((protocol_state (q ∷ past)).stopped d ≡ true) ⊎ Has ((with_client sys c x).clients d) u) (sym (go.owner u)) (opened u o (ok.opened u (go.is_open u o)));
  gate = λ d s. gate_goes (protocol_state past) (protocol_state (q ∷ past)) go (with_here sys c x (λ e y. is_in_vacuum y ≡ true → Gate (protocol_state past)) d (λ s. ok.gate c (t.starts s)) (λ apart s. ok.gate d s) s);
  ids = λ u b. let i = ok.ids u (λ e. b (go.begun u ∙ e)) in record { ordinal = i.ordinal; most = i.most; owner = go.owner u ∙ i.owner };
}
  where
    go : Goes (protocol_state past) (protocol_state (q ∷ past))
    go = event_goes past q t.begins

    opened : (u : ℕ) → (protocol_state (q ∷ past)).is_open u ≡ true → (((protocol_state past).stopped ((protocol_state past).owner u) ≡ true) ⊎ Has (sys.clients ((protocol_state past).owner u)) u) → ((protocol_state (q ∷ past)).stopped ((protocol_state past).owner u) ≡ true) ⊎ Has ((with_client sys c x).clients ((protocol_state past).owner u)) u
    opened u o (inl s) = inl (go.stopped ((protocol_state past).owner u) s)
    opened u o (inr h) = with_here sys c x (λ d y. Has (sys.clients d) u → ((protocol_state (q ∷ past)).stopped d ≡ true) ⊎ Has y u) ((protocol_state past).owner u) (λ h. t.holds u h o) (λ apart h. inr h) h

-- A client may be elsewhere without an event, where it knows what it needs there, its transaction stays in its hands, and it
-- starts VACUUM only while the gate is shut.
pub moved : (plan : ℕ → Plan) (past : List Labelled) (sys : SystemAt) (c : ℕ) (x : ClientAt) → SystemOk plan past sys → ClientOk plan past c x → ((u : ℕ) → Has (sys.clients c) u → Has x u) → (is_in_vacuum x ≡ true → Gate (protocol_state past)) → SystemOk plan past (with_client sys c x)
moved plan past sys c x ok here holds gate = record {
  lawful = ok.lawful;
  each = λ d. with_here sys c x (ClientOk plan past) d here (λ apart. ok.each d);
  opened = λ u o. opened u (ok.opened u o);
  gate = λ d s. with_here sys c x (λ e y. is_in_vacuum y ≡ true → Gate (protocol_state past)) d gate (λ apart s. ok.gate d s) s;
  ids = ok.ids;
}
  where
    opened : (u : ℕ) → (((protocol_state past).stopped ((protocol_state past).owner u) ≡ true) ⊎ Has (sys.clients ((protocol_state past).owner u)) u) → ((protocol_state past).stopped ((protocol_state past).owner u) ≡ true) ⊎ Has ((with_client sys c x).clients ((protocol_state past).owner u)) u
    opened u (inl s) = inl s
    opened u (inr h) = with_here sys c x (λ d y. Has (sys.clients d) u → ((protocol_state past).stopped d ≡ true) ⊎ Has y u) ((protocol_state past).owner u) (λ h. inr (holds u h)) (λ apart h. inr h) h
