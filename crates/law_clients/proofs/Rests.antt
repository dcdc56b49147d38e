-- Events of no client, the start, and what changes without an event.
use Rattle.std.proofs.lemmas.Bool.Decides.{nat_tests}
use Rattle.std.specs.Prelude.{◌==◌, if◌then◌else◌, Contains}
use Rattle.sdb_phases.specs.Work.{Work}
use Rattle.sdb_phases.specs.Commit.{Stage, out_of_memory}
use Rattle.law_clients.proofs.Commit.{starved_commit}
use Rattle.law_clients.specs.Filed.{number}
use Rattle.std.proofs.Common.{◌≡◌, ◌+◌, ℕ, pos, Bool, List, [], ◌∷◌, ◌++◌, Option, Some, None, true, false, length, arith, subst, refl, sym, inl, inr}
use Rattle.law_clients.specs.Types.{Answer, Event, Statement, Table}
use Rattle.sdb_model.specs.declared.answer.Answer.TheVariants as answer
use Rattle.sdb_types.specs.declared.record.Reply.TheVariants as reply
use Rattle.sdb_model.specs.declared.event.Altered.{Altered}
use Rattle.sdb_model.specs.declared.event.Altered.TheVariants as altered
use Rattle.sdb_model.specs.declared.event.Event.TheVariants as event
use Rattle.sdb_model.specs.declared.event.How.TheVariants.{Delayed}
use Rattle.sdb_model.specs.Exec.{Tables}
use Rattle.sdb_model.specs.Transactions.{statements_by}
use Rattle.law_protocol.specs.History.{Other}
use Rattle.law_protocol.specs.Lawful.{Labelled, id, labelled_with, protocol_state}
use Rattle.law_protocol.specs.Plan.{Plan}
use Rattle.sdb_snapshot.specs.Seen.{nothing}
use Rattle.law_clients.specs.Reads.{work_of}
use Rattle.law_clients.specs.Owner.{plan_of}
use Rattle.law_clients.specs.System.{ClientAt, Committing, Gate, Has, IsQuiet, Open, Reading, Resting, RunsVacuum, Stopped, SystemAt, SystemOk, has_open, idle, with_client}
use Rattle.law_clients.proofs.Begin.{begins as system_begins}
use Rattle.law_clients.proofs.Quiet.{quiet_turn}
use Rattle.law_clients.specs.History.{IsOpened, nothing_yet}
use Rattle.law_clients.proofs.Files.{story_starts}
use Rattle.law_clients.proofs.Histories.{executed_more, story_stays}
use Rattle.law_clients.specs.Calls.{call_made}
use Rattle.law_clients.specs.Catalogs.{IsAtRest}
use Rattle.law_clients.specs.Invariant.{AddsAtRest, IsOpenOf, RunInvariant, IsSilent, LandsDelayed}
use Rattle.law_clients.specs.ReadSets.{IsMadeSince}
use Rattle.law_clients.proofs.OtherClients.{kept_apart, preserved}
use Rattle.law_clients.proofs.InvariantReads.{noted_stays, silent_call}
use Rattle.law_clients.proofs.InvariantOwn.{IsPlainRole, plain_apart, plain_counts}
use Rattle.law_clients.proofs.Delayed.{SomeAction, delayed_unanswered, labelled_delayed}
use Rattle.law_clients.proofs.Landings.{land_turn, landed_plain}
use Rattle.law_clients.proofs.Live.{agrees_first}
use Rattle.law_clients.proofs.Small.{nothing_ran}

---- no client's event

-- An event is no statement of a client, and no call.
record IsNoneOf (events : List Event) (c : ℕ) (e : Event) : Type 0 where
  statements : statements_by c (events ++ e ∷ []) ≡ statements_by c events
  calls : call_made c (1 + length events) e ≡ []

module _ (catalog : List Table) (fit : List Table → Tables → Bool) where
  pub invariant_starts : RunInvariant catalog fit [] idle (λ c. None)
  invariant_starts = record {
    plan = plan;
    labelled = [];
    past = [];
    answered = λ c. nothing_yet;
    ran = λ c k. nothing_ran;
    same = refl;
    turned = refl;
    system = system_begins plan;
    stories = λ c. story_starts c;
    clients = λ c. record { ended = λ k f e. absurd (cc (e)); opened = tt; next_state = (tt, refl) };
    as_read = λ c. record { ended = λ k f e. absurd (cc (e)); opened = tt; accepted = tt; made = tt };
    agrees = agrees_first;
    at_rest = tt;
  }
    where
      plan : ℕ → Plan
      plan t = plan_of (work_of (id t) (pos 0) nothing)

  -- An event after which all clients know the same, which begins and takes nothing, and is no statement and no call of a client.
  invariant_passes : (events : List Event) (sys : SystemAt) (doing : ℕ → Option Statement) (q : Labelled) (g : RunInvariant catalog fit events sys doing) → SystemOk g.plan (q ∷ g.past) sys → IsPlainRole q.action → IsAtRest g.past q.event → ((c : ℕ) → IsNoneOf events c q.event) → RunInvariant catalog fit (events ++ q.event ∷ []) sys doing
  invariant_passes events sys doing q g system plain rest none = preserved catalog fit events sys sys doing doing g q (record {
    plan = g.plan;
    answered = g.answered;
    ran = g.ran;
    system = system;
    stories = λ c. story_stays events g.past sys sys c (g.answered c) q (g.stories c) (plain_counts q.action plain) (plain_apart g.past c q.action plain) (record { begun = refl; hold = λ u h. h }) (none c).statements;
    clients = λ c. let kept = kept_apart catalog fit g.plan g.plan events g.past sys q c (g.answered c) (g.ran c) (λ t h. refl) (g.stories c) (plain_apart g.past c q.action plain) (g.clients c).ended (g.clients c).opened in record { ended = kept.0; opened = kept.1; next_state = (g.clients c).next_state };
    as_read = λ c. noted_stays events c q.event (sys.clients c) (g.answered c) (g.ran c) (none c).calls (g.as_read c);
    at_rest = rest;
  })

  pub invariant_rests : (events : List Event) (sys : SystemAt) (doing : ℕ → Option Statement) (e : Event) → IsSilent e → RunInvariant catalog fit events sys doing → RunInvariant catalog fit (events ++ e ∷ []) sys doing
  invariant_rests events sys doing e silent_one g = invariant_passes events sys doing (labelled_with Other e) g (quiet_turn g.plan g.past sys e g.system (quiet e silent_one)) tt (rests e silent_one) (λ c. record { statements = unsaid c e silent_one; calls = silent_call c (1 + length events) e silent_one })
    where
      none_some : ◌≡◌ {A = Option Answer} None (Some answer.Committed) → ⊥
      none_some h = cc

      quiet : (e : Event) → IsSilent e → IsQuiet e
      quiet (event.Clock moment) i = record { quiet = refl; other = λ h. none_some h }
      quiet (event.Idle d) i = record { quiet = refl; other = λ h. none_some h }
      quiet (event.Take d text a) i = absurd i
      quiet (event.Call d store ask how r a) i = absurd i
      quiet (event.Stop d) i = absurd i
      quiet (event.Land number store ask how r) i = absurd i
      quiet (event.Alter table column kind altered) i = absurd i

      rests : (e : Event) → IsSilent e → IsAtRest g.past e
      rests (event.Clock moment) i = tt
      rests (event.Idle d) i = tt
      rests (event.Take d text a) i = tt
      rests (event.Call d store ask how r a) i = tt
      rests (event.Stop d) i = tt
      rests (event.Land number store ask how r) i = tt
      rests (event.Alter table column kind altered) i = absurd i

      unsaid : (c : ℕ) (e : Event) → IsSilent e → statements_by c (events ++ e ∷ []) ≡ statements_by c events
      unsaid c (event.Clock moment) i = executed_more c events (event.Clock moment)
      unsaid c (event.Idle d) i = executed_more c events (event.Idle d)
      unsaid c (event.Take d text a) i = absurd i
      unsaid c (event.Call d store ask how r a) i = absurd i
      unsaid c (event.Stop d) i = absurd i
      unsaid c (event.Land number store ask how r) i = absurd i
      unsaid c (event.Alter table column kind altered) i = absurd i

  -- A column is to be added to a table.
  pub invariant_alters : (events : List Event) (sys : SystemAt) (doing : ℕ → Option Statement) (e : Event) → AddsAtRest sys e → RunInvariant catalog fit events sys doing → RunInvariant catalog fit (events ++ e ∷ []) sys doing
  invariant_alters events sys doing (event.Alter table column kind a) adds g =
      invariant_passes events sys doing (labelled_with Other e) g (quiet_turn g.plan g.past sys e g.system (record { quiet = refl; other = λ h. none_some h })) tt (rests a adds)
      (λ c. record { statements = executed_more c events e; calls = refl })
    where
      e : Event
      e = event.Alter table column kind a

      none_some : ◌≡◌ {A = Option Answer} None (Some answer.Committed) → ⊥
      none_some h = cc

      has_none : (y : ClientAt) (u : ℕ) → Has y u → has_open y ≡ false → ⊥
      has_none Resting u h n = h
      has_none (Open i seen) u h n = cc
      has_none (Reading i seen a s) u h n = cc
      has_none (Committing p s) u h n = cc
      has_none (RunsVacuum v) u h n = h
      has_none Stopped u h n = h

      shut : ((c : ℕ) → has_open (sys.clients c) ≡ false) → Gate (protocol_state g.past)
      shut none u o = elim (g.system.opened u o) [ inl s ↦ s | inr h ↦ absurd (has_none (sys.clients ((protocol_state g.past).owner u)) u h (none ((protocol_state g.past).owner u))) ]

      rests : (b : Altered) → AddsAtRest sys (event.Alter table column kind b) → IsAtRest g.past (event.Alter table column kind b)
      rests altered.Done none = shut none
      rests altered.Open none = tt
      rests (altered.Refused k) none = tt
  invariant_alters events sys doing (event.Clock moment) adds g = absurd adds
  invariant_alters events sys doing (event.Idle d) adds g = absurd adds
  invariant_alters events sys doing (event.Take d text a) adds g = absurd adds
  invariant_alters events sys doing (event.Call d store ask how r a) adds g = absurd adds
  invariant_alters events sys doing (event.Stop d) adds g = absurd adds
  invariant_alters events sys doing (event.Land number store ask how r) adds g = absurd adds

  -- A request lands whose call was delayed.
  pub invariant_lands : (events : List Event) (sys : SystemAt) (doing : ℕ → Option Statement) (e : Event) → LandsDelayed events e → RunInvariant catalog fit events sys doing → RunInvariant catalog fit (events ++ e ∷ []) sys doing
  invariant_lands events sys doing (event.Land number store q how r) late g =
      invariant_passes events sys doing (labelled_with was.action (event.Land number store q how r)) g (land_turn g.plan g.past sys number store q how r was.action g.system was.was) (landed_plain (protocol_state g.past) was.action (delayed_unanswered g.plan g.past q was.action g.system.lawful was.was)) tt
      (λ c. record { statements = executed_more c events (event.Land number store q how r); calls = refl })
    where
      was : SomeAction g.past q
      was = subst (λ past. SomeAction past q) (sym g.turned) (labelled_delayed g.labelled [] late.client late.store q late.answered (subst (λ es. Contains es (event.Call late.client late.store q Delayed reply.Fault late.answered)) g.same late.call))
  invariant_lands events sys doing (event.Clock moment) late g = absurd late
  invariant_lands events sys doing (event.Idle d) late g = absurd late
  invariant_lands events sys doing (event.Take d text a) late g = absurd late
  invariant_lands events sys doing (event.Call d store ask how r a) late g = absurd late
  invariant_lands events sys doing (event.Stop d) late g = absurd late
  invariant_lands events sys doing (event.Alter table column kind altered) late g = absurd late

  ---- without an event

  -- A COMMIT may be out of memory in place of a conflict.
  module _ (events : List Event) (sys : SystemAt) (doing : ℕ → Option Statement) (g : RunInvariant catalog fit events sys doing) (c : ℕ) (p : Work) (s : Stage) (at_commit : sys.clients c ≡ Committing p s) where
    abbrev short : SystemAt
    short = with_client sys c (Committing p (out_of_memory s))

    is : (m k : ℕ) → (m == k) ≡ true → m ≡ k
    is m k e = grind (arith, nat_tests)

    -- a client is where it was, but for the stage
    by_client : (P : ℕ → ClientAt → Type 0) → (P c (Committing p s) → P c (Committing p (out_of_memory s))) → ((d : ℕ) → P d (sys.clients d)) → (d : ℕ) → P d (short.clients d)
    by_client P f all d = on (d == c) refl
      where
        on : (b : Bool) → (d == c) ≡ b → P d (if b then Committing p (out_of_memory s) else sys.clients d)
        on true e = subst (λ k. P k (Committing p (out_of_memory s))) (sym (is d c e)) (f (subst (P c) at_commit (all c)))
        on false e = all d

    pub going_starves : RunInvariant catalog fit events short doing
    going_starves = record {
      plan = g.plan;
      labelled = g.labelled;
      past = g.past;
      answered = g.answered;
      ran = g.ran;
      same = g.same;
      turned = g.turned;
      system = starved_commit g.plan g.past sys c p s (record { ok = g.system; at = at_commit });
      stories = λ d. let story = g.stories d in record { now = story.now; same = story.same; ok = story.ok; rest_ok = story.rest_ok; waits = story.waits; count = story.count; alive = story.alive; filed = story.filed; opened = story.opened; hold = by_client (λ k y. (u : ℕ) → Has y u → IsOpened (g.answered k).rest × (u ≡ number k (length (g.answered k).whole))) (λ h. h) (λ k. (g.stories k).hold) d };
      clients = λ d. let was = g.clients d in record { ended = was.ended; opened = was.opened; next_state = by_client (λ k y. IsOpenOf (doing k) (g.answered k) (g.ran k (length (g.answered k).whole)) y) (λ h. h) (λ k. (g.clients k).next_state) d };
      as_read = λ d. let was = g.as_read d in record { ended = was.ended; opened = was.opened; accepted = was.accepted; made = by_client (λ k y. IsMadeSince events k (g.answered k).waiting y) (λ h. h) (λ k. (g.as_read k).made) d };
      agrees = g.agrees;
      at_rest = g.at_rest;
    }
