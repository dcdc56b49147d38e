-- Whatever event comes, what ties the events to all clients is kept; and what follows of it.
use Rattle.std.proofs.Common.{◌≡◌, ◌<◌, ◌^◌, ◌+◌, ◌==◌, ◌⊎◌, inl, inr, ℕ, zero, suc, ℤ, Bool, true, false, List, [], ◌∷◌, ◌++◌, length, Option, Some, None, refl, sym, ap, subst, ◌∙◌, arith}
use Rattle.std.specs.Prelude.{if◌then◌else◌, ◌||◌, find, is_some, pos, IfSome, Contains}
use Rattle.std.specs.List.{AllByRecursion}
use Rattle.std.specs.Option.{option_and_then}
use Rattle.std.proofs.lemmas.Bool.{eqb-false, eqb-true, ne_eqb}
use Rattle.std.proofs.lemmas.List.{append-nil, append_assoc}
use Rattle.std.proofs.lemmas.List.Elements.{Contains-append_cases, Contains-append_right, Contains-push, Contains-push_cases}
use Rattle.law_answers.specs.Types.{Access, Answer, Event, How, Key, Record, Reply, Request, Table}
use Rattle.sdb_model.specs.declared.answer.Answer.TheVariants as answer
use Rattle.sdb_model.specs.declared.event.Event.TheVariants as event
use Rattle.sdb_model.specs.Rows.{Name}
use Rattle.sdb_model.specs.declared.event.Altered.{Altered}
use Rattle.sdb_model.specs.declared.event.Altered.TheVariants as altered
use Rattle.sdb_model.specs.Calls.{calls_of, clock_at, made_by}
use Rattle.sdb_model.specs.Catalogs.{added, catalog_after}
use Rattle.sdb_model.proofs.Public.{after_more}
use Rattle.sdb_model.specs.ReadSet.{read_set_of}
use Rattle.sdb_model.specs.Sql.{reads_commit}
use Rattle.sdb_model.specs.Causes.{ConflictsAtCommit, IsCaused, IsCommitOf, IsConflict, IsRejected, before}
use Rattle.sdb_model.specs.Exec.{Tables}
use Rattle.sdb_model.specs.Follows.{has_stopped, stops}
use Rattle.sdb_model.specs.Transactions.{Executed, ends, from_begin, id_of, is_conflict, ordinal_of, rest_of, statements_by, statements_of, through_end, with_answer}
use Rattle.sdb_client.specs.Client.{ClientAt as Client, nothing_done}
use Rattle.sdb_client.proofs.Public.{step_of_reply, step_of_text}
use Rattle.law_clients.specs.Turns.{CallReplied, TextExecuted, reply_event, states_after_reply, states_after_text, take_event}
use Rattle.law_answers.specs.Turns.{CauseInvariantAtReply, CauseInvariantAtTake, IsGatedTake, IsStoredReply}
use Rattle.sdb_snapshot.specs.Sets.{WereRead}
use Rattle.law_clients.specs.States.{ClientState, IsReady, doing_of, system_of, with_state}
use Rattle.law_clients.specs.History.{executed_of_take, waiting_of}
use Rattle.law_clients.proofs.Public.{executed_more}
use Rattle.law_clients.specs.Machine.{abstract_read}
use Rattle.law_clients.specs.System.{ClientOk, Open, Reading}
use Rattle.law_clients.specs.Reads.{IsScanOk}
use Rattle.sdb_validate.specs.Rescan.{reads_rise}
use Rattle.law_clients.specs.Invariant.{RunInvariant}
use Rattle.sdb_txn.specs.Read.{ReadAt}
use Rattle.sdb_txn.specs.declared.txn.Doing.TheVariants as doing
use Rattle.sdb_txn.specs.Txn.{TxnAt}
use Rattle.sdb_types.proofs.Public.{all_each as each_any, itself, none_some, or_false, some_is}
use Rattle.law_answers.specs.Invariant.{AddsWithNoneOpen, AnswersHaveCauses, IsAnswered, CauseInvariant, IsCurrent, IsWaiting, Knows, with_stopped}
use Rattle.law_answers.proofs.Calls.{clock_more}
use Rattle.law_answers.proofs.Knowing.{KnowsUnder, knows_still}
use Rattle.law_answers.specs.Counts.{CommitsAreCounted}
use Rattle.law_answers.specs.Views.{AllGiveOwn}
use Rattle.law_answers.specs.Changes.{IsChangedIn, ChangesAtScan, ChangesBy, read_items_of_body}
use Rattle.law_answers.proofs.Counting.{calls_counted}
use Rattle.law_answers.proofs.Lists.{each_in, since_more}
use Rattle.law_answers.proofs.Moving.{IsTaken, IsTold}
use Rattle.law_answers.proofs.ReadSets.{client_is, noted_since, ordinal_is, take_ends, take_open}
use Rattle.law_answers.proofs.Replyings.{replies_known}
use Rattle.law_answers.proofs.Rolled.{records_rolled}
use Rattle.law_answers.proofs.OwnRowsWhole.{rows_shown}
use Rattle.law_answers.proofs.Takings.{takes_known}

---- who has stopped

stopped_more : (c : ℕ) (es : List Event) (e : Event) → has_stopped c (es ++ e ∷ []) ≡ (has_stopped c es || stops c e)
stopped_more c [] e = or_false (stops c e)
stopped_more c (x ∷ es) e = ap (λ b. stops c x || b) (stopped_more c es e) ∙ assoc (stops c x) (has_stopped c es) (stops c e)
  where
    assoc : (a b d : Bool) → (a || (b || d)) ≡ ((a || b) || d)
    assoc true b d = refl
    assoc false b d = refl

stopped_same : (c : ℕ) (es : List Event) (e : Event) → stops c e ≡ false → has_stopped c (es ++ e ∷ []) ≡ has_stopped c es
stopped_same c es e f = stopped_more c es e ∙ ap (λ b. has_stopped c es || b) f ∙ or_false (has_stopped c es)

---- an event that isn't of a client

apart_if : {A : Type 0} (c d : ℕ) (x y : A) → (c ≡ d → ⊥) → (if c == d then x else y) ≡ y
apart_if c d x y n = ap (λ b. if b then x else y) (ne_eqb c d n)

take_apart : (c d : ℕ) (events : List Event) (text : List ℕ) (a : Option Answer) → (d ≡ c → ⊥) → statements_by c (events ++ event.Take d text a ∷ []) ≡ statements_by c events
take_apart c d events text a n = executed_more c events (event.Take d text a) ∙ apart_if d c (statements_by c events ++ executed_of_take events text a ∷ []) (statements_by c events) n

call_apart : (c d : ℕ) (events : List Event) (store : Name) (q : Request) (how : How) (r : Reply) (a : Option Answer) → (d ≡ c → ⊥) → statements_by c (events ++ event.Call d store q how r a ∷ []) ≡ statements_by c events
call_apart c d events store q how r None n = executed_more c events (event.Call d store q how r None)
call_apart c d events store q how r (Some a) n = executed_more c events (event.Call d store q how r (Some a)) ∙ apart_if d c (with_answer (statements_by c events) (1 + length events) a) (statements_by c events) n

call_unmade : (c d n : ℕ) (store : Name) (q : Request) (how : How) (r : Reply) (a : Option Answer) → (d ≡ c → ⊥) → made_by c (n, event.Call d store q how r a) ≡ None
call_unmade c d n store q how r a apart = apart_if d c (Some (record { at = n; store = store; request = q; how = how; reply = r })) None apart

turned_number : (c d : ℕ) → (d == c) ≡ false → c ≡ d → ⊥
turned_number c d f e = eqb-false d c f (sym e)

---- one client

-- What is known of a client; while it goes on, its open transaction runs under the catalog of the moment.
abbrev KnowsNow : List Table → List Event → ℕ → ClientState → Type 0
KnowsNow catalog events c s = (k : Knows catalog events c s.client) × (s.stopped ≡ false → IsCurrent catalog events s.client.txn k.under)

known_now : (catalog : List Table) (events : List Event) (now : ℤ) (states : ℕ → ClientState) → CauseInvariant catalog events now states → (c : ℕ) → KnowsNow catalog events c (states c)
known_now catalog events now states ex c = (ex.each c, ex.current c)

-- an event that adds no column leaves the catalog
catalog_stays : (catalog : List Table) (events : List Event) (e : Event) → ((ts : List Table) → added ts e ≡ ts) → catalog_after catalog (events ++ e ∷ []) ≡ catalog_after catalog events
catalog_stays catalog events e quiet = after_more catalog events e ∙ quiet (catalog_after catalog events)

-- and so a transaction that runs under it
runs_on : (catalog : List Table) (events : List Event) (e : Event) (o : Option TxnAt) (under next : List Table) → catalog_after catalog (events ++ e ∷ []) ≡ catalog_after catalog events → next ≡ under → IsCurrent catalog events o under → IsCurrent catalog (events ++ e ∷ []) o next
runs_on catalog events e None under next same is runs = tt
runs_on catalog events e (Some t) under next same is runs = is ∙ runs ∙ sym same

module _ (catalog : List Table) (events : List Event) (e : Event) where
  -- with an event that isn't of the client
  still_known : (c : ℕ) (s : ClientState) → statements_by c (events ++ e ∷ []) ≡ statements_by c events → made_by c (1 + length events, e) ≡ None → (catalog_after catalog (events ++ e ∷ []) ≡ catalog_after catalog events) ⊎ (s.stopped ≡ false → s.client.txn ≡ None) → KnowsNow catalog events c s → KnowsNow catalog (events ++ e ∷ []) c s
  still_known c s says makes quiet k = (z.0, runs quiet)
    where
      z : KnowsUnder catalog (events ++ e ∷ []) c s.client k.0.under
      z = knows_still catalog c events e s.client says makes k.0

      runs : (catalog_after catalog (events ++ e ∷ []) ≡ catalog_after catalog events) ⊎ (s.stopped ≡ false → s.client.txn ≡ None) → s.stopped ≡ false → IsCurrent catalog (events ++ e ∷ []) s.client.txn z.0.under
      runs (inl same) goes = runs_on catalog events e s.client.txn k.0.under z.0.under same z.1 (k.1 goes)
      runs (inr none) goes = subst (λ (o : Option TxnAt). IsCurrent catalog (events ++ e ∷ []) o z.0.under) (sym (none goes)) tt

  module _ (states : ℕ → ClientState) (c : ℕ) (d : Client) where
    -- with one client moved by the event, and the others as they were
    moved_all : ((ts : List Table) → added ts e ≡ ts) → ((x : ℕ) → KnowsNow catalog events x (states x)) → KnowsNow catalog (events ++ e ∷ []) c (record { client = d; stopped = false }) → ((x : ℕ) → (c ≡ x → ⊥) → statements_by x (events ++ e ∷ []) ≡ statements_by x events) → ((x : ℕ) → (c ≡ x → ⊥) → made_by x (1 + length events, e) ≡ None)
        → (x : ℕ) → KnowsNow catalog (events ++ e ∷ []) x (with_state states c d x)
    moved_all quiet all own says makes x = by (x == c) refl
      where
        by : (b : Bool) → (x == c) ≡ b → KnowsNow catalog (events ++ e ∷ []) x (if b then record { client = d; stopped = false } else states x)
        by true t = subst (λ n. KnowsNow catalog (events ++ e ∷ []) n (record { client = d; stopped = false })) (sym (eqb-true x c t)) own
        by false f = still_known x (states x) (says x (turned_number c x f)) (makes x (turned_number c x f)) (inl (catalog_stays catalog events e quiet)) (all x)

    -- and none stops
    none_stops : ((x : ℕ) → has_stopped x events ≡ (states x).stopped) → (states c).stopped ≡ false → ((x : ℕ) → stops x e ≡ false) → (x : ℕ) → has_stopped x (events ++ e ∷ []) ≡ (with_state states c d x).stopped
    none_stops all goes no_stop x = stopped_same x events e (no_stop x) ∙ by (x == c) refl
      where
        by : (b : Bool) → (x == c) ≡ b → has_stopped x events ≡ (if b then record { client = d; stopped = false } else states x).stopped
        by true t = all x ∙ ap (λ n. (states n).stopped) (eqb-true x c t) ∙ goes
        by false f = all x

-- what an open transaction has read and written is what its COMMIT goes by
going_taken : (catalog : List Table) (fit : List Table → Tables → Bool) (es : List Event) (states : ℕ → ClientState) (g : RunInvariant catalog fit es (system_of states) (doing_of states)) (c : ℕ) → IsReady states c → (t : TxnAt) → (states c).client.txn ≡ Some t → IsTaken t.seen
going_taken catalog fit es states g c ready t some = record { answered = record { reads = ok.1.reads; found = ok.1.found; as_read = ok.1.as_read }; kept = ok.1.kept; rises = each_any (IsScanOk g.past) (λ x. reads_rise x.found ≡ true) t.seen.scans (λ x h. h.0) ok.1.scans }
  where
    idle : t.doing ≡ doing.Idle
    idle = subst (λ (o : Option TxnAt). IfSome o (λ u. u.doing ≡ doing.Idle)) some ready.idle.still

    here : (system_of states).clients c ≡ Open t.id t.seen
    here = rw (ready.goes_on, ready.idle.free, some, idle) refl

    ok : ClientOk g.plan g.past c (Open t.id t.seen)
    ok = subst (ClientOk g.plan g.past c) here (g.system.each c)

pub takes_all : (catalog : List Table) (t : TextExecuted) (events : List Event) → IsGatedTake catalog events t → CauseInvariantAtTake catalog t events t.states → CauseInvariantAtTake catalog t (events ++ take_event t ∷ []) (states_after_text t)
takes_all catalog t events may ex = record {
  clock = clock_more events (take_event t) ∙ ex.clock;
  stopped = none_stops catalog events (take_event t) t.states t.client t.after ex.stopped t.ready.goes_on (λ n. refl);
  each = λ x. (all x).0;
  current = λ x. (all x).1;
}
  where
    own : KnowsUnder catalog (events ++ take_event t ∷ []) t.client t.after t.q.catalog
    own = takes_known catalog t.q events may.current t.states ex t.client t.ready may.gate t.moment t.of_data.is (λ u some. going_taken catalog may.reached.fit may.reached.events t.states may.reached.running t.client t.ready u some) t.of_data.apart t.text t.numbered t.result t.after t.few (step_of_text t.q t.text (t.states t.client).client t.result t.after t.takes)

    runs : (o : Option TxnAt) → IsCurrent catalog (events ++ take_event t ∷ []) o own.0.under
    runs None = tt
    runs (Some u) = own.1 ∙ may.current ∙ sym (catalog_stays catalog events (take_event t) (λ ts. refl))

    all : (x : ℕ) → KnowsNow catalog (events ++ take_event t ∷ []) x (states_after_text t x)
    all = moved_all catalog events (take_event t) t.states t.client t.after (λ ts. refl) (known_now catalog events t.q.now t.states ex) (own.0, λ goes. runs t.after.txn) (λ n apart. take_apart n t.client events t.text t.result apart) (λ n apart. refl)

-- what a client that reads has read says what is noted, and it had read what it wrote
pub invariant_serial : {catalog : List Table} {fit : List Table → Tables → Bool} {es : List Event} (states : ℕ → ClientState) (g : RunInvariant catalog fit es (system_of states) (doing_of states)) (c : ℕ) → (states c).stopped ≡ false → (states c).client.vacuum ≡ None → {t : TxnAt} {a : Access} {x : ReadAt} → (states c).client.txn ≡ Some t → t.doing ≡ doing.Read a x → IsTold t.seen × WereRead t.seen.read_set t.seen.writes
invariant_serial states g c goes_on free {t} {a} {x} some reads = (record { reads = ok.1.reads; found = ok.1.found; as_read = ok.1.as_read }, ok.1.kept.read)
  where
    here : (system_of states).clients c ≡ Reading t.id t.seen a (abstract_read x.stage)
    here = rw (goes_on, free, some, reads) refl

    ok : ClientOk g.plan g.past c (Reading t.id t.seen a (abstract_read x.stage))
    ok = subst (ClientOk g.plan g.past c) here (g.system.each c)

pub replies_all : (catalog : List Table) (r : CallReplied) (events : List Event) → IsStoredReply catalog events r → CauseInvariantAtReply catalog r events r.states → CauseInvariantAtReply catalog r (events ++ reply_event r ∷ []) (states_after_reply r)
replies_all catalog r events may ex = record {
  clock = clock_more events (reply_event r) ∙ ex.clock;
  stopped = none_stops catalog events (reply_event r) r.states r.call.client r.after ex.stopped r.called.waiting.goes_on (λ n. refl);
  each = λ x. (all x).0;
  current = λ x. (all x).1;
}
  where
    own : (k : Knows catalog (events ++ reply_event r ∷ []) r.call.client r.after) × IfSome r.after.txn (λ t. k.under ≡ r.catalog)
    own = replies_known catalog r.catalog events may.current r.states r.call ex r.called may.about r.of_data.apart (λ free t a x some reads. invariant_serial r.states may.reached.running r.call.client r.called.waiting.goes_on free some reads) r.of_data.is may.stored r.result r.after (step_of_reply (r.states r.call.client).client r.call.request r.call.reply r.call.now r.called.waiting.pending r.result r.after r.answered)

    runs : (o : Option TxnAt) → IfSome o (λ t. own.0.under ≡ r.catalog) → IsCurrent catalog (events ++ reply_event r ∷ []) o own.0.under
    runs None h = tt
    runs (Some t) h = h ∙ may.current ∙ sym (catalog_stays catalog events (reply_event r) (λ ts. refl))

    all : (x : ℕ) → KnowsNow catalog (events ++ reply_event r ∷ []) x (states_after_reply r x)
    all = moved_all catalog events (reply_event r) r.states r.call.client r.after (λ ts. refl) (known_now catalog events r.call.now r.states ex) (own.0, λ goes. runs r.after.txn own.1) (λ n other. call_apart n r.call.client events r.call.store r.call.request r.call.how r.call.reply r.result other) (λ n other. call_unmade n r.call.client (1 + length events) r.call.store r.call.request r.call.how r.call.reply r.result other)

---- the other events

-- with each client as it was
module _ (catalog : List Table) (events : List Event) (e : Event) (now next : ℤ) (states : ℕ → ClientState) (ex : CauseInvariant catalog events now states) where
  pub stays_all : clock_at (events ++ e ∷ []) (length (events ++ e ∷ [])) ≡ next → ((c : ℕ) → stops c e ≡ false) → ((c : ℕ) → statements_by c (events ++ e ∷ []) ≡ statements_by c events) → ((c : ℕ) → made_by c (1 + length events, e) ≡ None)
      → ((c : ℕ) → (catalog_after catalog (events ++ e ∷ []) ≡ catalog_after catalog events) ⊎ ((states c).stopped ≡ false → (states c).client.txn ≡ None)) → CauseInvariant catalog (events ++ e ∷ []) next states
  stays_all clock stops says makes quiet = record {
    clock = clock;
    stopped = λ c. stopped_same c events e (stops c) ∙ ex.stopped c;
    each = λ c. (all c).0;
    current = λ c. (all c).1;
  }
    where
      all : (c : ℕ) → KnowsNow catalog (events ++ e ∷ []) c (states c)
      all c = still_known catalog events e c (states c) (says c) (makes c) (quiet c) (known_now catalog events now states ex c)

pub stops_all : (catalog : List Table) (events : List Event) (now : ℤ) (states : ℕ → ClientState) (c : ℕ) → CauseInvariant catalog events now states → CauseInvariant catalog (events ++ event.Stop c ∷ []) now (with_stopped states c)
stops_all catalog events now states c ex = record { clock = clock_more events (event.Stop c) ∙ ex.clock; stopped = stopped; each = λ x. (all x).0; current = λ x. (all x).1 }
  where
    stopped : (x : ℕ) → has_stopped x (events ++ event.Stop c ∷ []) ≡ (with_stopped states c x).stopped
    stopped x = stopped_more x events (event.Stop c) ∙ by (x == c) refl
      where
        or_true : (b : Bool) → (b || true) ≡ true
        or_true true = refl
        or_true false = refl

        by : (b : Bool) → (x == c) ≡ b → (has_stopped x events || stops x (event.Stop c)) ≡ (if b then record { client = (states c).client; stopped = true } else states x).stopped
        by true t = ap (λ n. has_stopped x events || (c == n)) (eqb-true x c t) ∙ ap (λ b. has_stopped x events || b) (itself c) ∙ or_true (has_stopped x events)
        by false f = ap (λ b. has_stopped x events || b) (ne_eqb c x (turned_number c x f)) ∙ or_false (has_stopped x events) ∙ ex.stopped x

    still : (n : ℕ) → KnowsNow catalog (events ++ event.Stop c ∷ []) n (states n)
    still n = still_known catalog events (event.Stop c) n (states n) (executed_more n events (event.Stop c)) refl (inl (catalog_stays catalog events (event.Stop c) (λ ts. refl))) (known_now catalog events now states ex n)

    clash_goes : {A : Type 0} → ◌≡◌ {A = Bool} true false → A
    clash_goes e = absurd (cc)

    all : (x : ℕ) → KnowsNow catalog (events ++ event.Stop c ∷ []) x (with_stopped states c x)
    all x = by (x == c) refl
      where
        by : (b : Bool) → (x == c) ≡ b → KnowsNow catalog (events ++ event.Stop c ∷ []) x (if b then record { client = (states c).client; stopped = true } else states x)
        by true t = subst (λ n. KnowsNow catalog (events ++ event.Stop c ∷ []) n (record { client = (states c).client; stopped = true })) (sym (eqb-true x c t)) ((still c).0, λ goes. clash_goes goes)
        by false f = still x

pub clock_all : (catalog : List Table) (events : List Event) (now moment : ℤ) (states : ℕ → ClientState) → CauseInvariant catalog events now states → CauseInvariant catalog (events ++ event.Clock moment ∷ []) moment states
clock_all catalog events now moment states ex =
    stays_all catalog events (event.Clock moment) now moment states ex (clock_more events (event.Clock moment)) (λ c. refl) (λ c. executed_more c events (event.Clock moment)) (λ c. refl) (λ c. inl (catalog_stays catalog events (event.Clock moment) (λ ts. refl)))

pub idles_all : (catalog : List Table) (events : List Event) (now : ℤ) (states : ℕ → ClientState) (c : ℕ) → CauseInvariant catalog events now states → CauseInvariant catalog (events ++ event.Idle c ∷ []) now states
idles_all catalog events now states c ex =
    stays_all catalog events (event.Idle c) now now states ex (clock_more events (event.Idle c) ∙ ex.clock) (λ d. refl) (λ d. executed_more d events (event.Idle c)) (λ d. refl) (λ d. inl (catalog_stays catalog events (event.Idle c) (λ ts. refl)))

pub lands_all : {catalog : List Table} {events : List Event} {now : ℤ} {states : ℕ → ClientState} (number : ℕ) (store : Name) (q : Request) (how : How) (r : Reply) → CauseInvariant catalog events now states → CauseInvariant catalog (events ++ event.Land number store q how r ∷ []) now states
lands_all {catalog} {events} {now} {states} number store q how r ex =
    stays_all catalog events landed now now states ex (clock_more events landed ∙ ex.clock) (λ c. refl) (λ c. executed_more c events landed) (λ c. refl) (λ c. inl (catalog_stays catalog events landed (λ ts. refl)))
  where
    landed : Event
    landed = event.Land number store q how r

-- A column is added where no client that goes on has a transaction open, or it isn't.
pub alters_all : (catalog : List Table) (events : List Event) (now : ℤ) (states : ℕ → ClientState) (e : Event) → AddsWithNoneOpen states e → CauseInvariant catalog events now states → CauseInvariant catalog (events ++ e ∷ []) now states
alters_all catalog events now states (event.Alter table column kind a) adds ex =
    stays_all catalog events altering now now states ex (clock_more events altering ∙ ex.clock) (λ c. refl) (λ c. executed_more c events altering) (λ c. refl) (by a adds)
  where
    altering : Event
    altering = event.Alter table column kind a

    by : (b : Altered) → AddsWithNoneOpen states (event.Alter table column kind b) → (c : ℕ) → (catalog_after catalog (events ++ event.Alter table column kind b ∷ []) ≡ catalog_after catalog events) ⊎ ((states c).stopped ≡ false → (states c).client.txn ≡ None)
    by altered.Done none c = inr (none c)
    by altered.Open none c = inl (catalog_stays catalog events (event.Alter table column kind altered.Open) (λ ts. refl))
    by (altered.Refused k) none c = inl (catalog_stays catalog events (event.Alter table column kind (altered.Refused k)) (λ ts. refl))
alters_all catalog events now states (event.Clock moment) adds ex = absurd adds
alters_all catalog events now states (event.Idle d) adds ex = absurd adds
alters_all catalog events now states (event.Take d text a) adds ex = absurd adds
alters_all catalog events now states (event.Call d store ask how r a) adds ex = absurd adds
alters_all catalog events now states (event.Stop d) adds ex = absurd adds
alters_all catalog events now states (event.Land number store ask how r) adds ex = absurd adds

pub starts_all : (catalog : List Table) (states : ℕ → ClientState) → ((c : ℕ) → states c ≡ record { client = nothing_done c; stopped = false }) → CauseInvariant catalog [] (pos 0) states
starts_all catalog states fresh = record {
  clock = refl;
  stopped = λ c. sym (ap (λ (h : ClientState). h.stopped) (fresh c));
  each = λ c. (all c).0;
  current = λ c. (all c).1;
}
  where
    positive : 0 < 2 ^ 64
    positive = omega arith

    none_begins : (n : ℕ) → from_begin n [] ≡ []
    none_begins zero = refl
    none_begins (suc k) = refl

    no_commits : (c : ℕ) → CommitsAreCounted [] c []
    no_commits c n begin body s tail since goes reads = absurd (let e : [] ≡ begin ∷ (body ++ s ∷ tail) = sym (none_begins n) ∙ since in cc)

    none_told : (c : ℕ) → AllGiveOwn catalog [] c []
    none_told c n begin body s tail a since goes is = absurd (let e : [] ≡ begin ∷ (body ++ s ∷ tail) = sym (none_begins n) ∙ since in cc)

    nothing : (c : ℕ) → Knows catalog [] c (nothing_done c)
    nothing c = record { entries = []; waiting = None; under = catalog; asked = tt; same = refl; answered = tt; waits = tt; moved = tt; number = refl; begun = refl; small = positive; agrees = (refl, refl); counted = record { answered = tt; commits = no_commits c; paired = tt; as_read = tt; waits = tt }; filled = tt; fits = tt; stored = tt; rolled = record { answered = tt; waits = tt }; shows = record { given_own = none_told c; sees_own = tt } }

    all : (c : ℕ) → KnowsNow catalog [] c (states c)
    all c = subst (λ (h : ClientState). KnowsNow catalog [] c h) (sym (fresh c)) (nothing c, λ goes. tt)

---- what follows

answered_said : (catalog : List Table) (events : List Event) (c : ℕ) (h : Client) (k : Knows catalog events c h) (s : Executed) → Contains (statements_by c events) s → IsAnswered catalog events c s ⊎ IsWaiting catalog events c (is_some h.vacuum) s
answered_said catalog events c h k s has = either (Contains-append_cases k.entries (waiting_of k.waiting) s (subst (λ ss. Contains ss s) k.same has))
  where
    last : (o : Option Executed) → IfSome o (IsWaiting catalog events c (is_some h.vacuum)) → Contains (waiting_of o) s → IsWaiting catalog events c (is_some h.vacuum) s
    last None w x = absurd (none x)
      where
        none : Contains {X = Executed} [] s → ⊥
        none y = absurd (omega (arith, y.1))
    last (Some w) waits x = only (Contains-push_cases [] w s x)
      where
        none : Contains {X = Executed} [] s → ⊥
        none y = absurd (omega (arith, y.1))

        only : Contains [] s ⊎ (w ≡ s) → IsWaiting catalog events c (is_some h.vacuum) s
        only (inl y) = absurd (none y)
        only (inr e) = subst (IsWaiting catalog events c (is_some h.vacuum)) e waits

    either : Contains k.entries s ⊎ Contains (waiting_of k.waiting) s → IsAnswered catalog events c s ⊎ IsWaiting catalog events c (is_some h.vacuum) s
    either (inl x) = inl (each_in (IsAnswered catalog events c) k.entries s k.answered x)
    either (inr x) = inr (last k.waiting k.waits x)

---- scans that were answered Conflict

ends_first : (body : List Executed) (s : Executed) (tail : List Executed) → AllByRecursion (λ x. ends x ≡ false) body → ends s ≡ true → find ends (body ++ s ∷ tail) ≡ Some s
ends_first [] s tail all over = ap (λ b. if b then Some s else find ends tail) over
ends_first (x ∷ xs) s tail all over = ap (λ b. if b then Some x else find ends (xs ++ s ∷ tail)) all.0 ∙ ends_first xs s tail all.1 over

through_last : (body : List Executed) (s : Executed) (tail : List Executed) → AllByRecursion (λ x. ends x ≡ false) body → ends s ≡ true → through_end (body ++ s ∷ tail) ≡ body ++ s ∷ []
through_last [] s tail all over = ap (λ b. if b then s ∷ [] else s ∷ through_end tail) over
through_last (x ∷ xs) s tail all over = ap (λ b. if b then x ∷ [] else x ∷ through_end (xs ++ s ∷ tail)) all.0 ∙ ap (λ r. x ∷ r) (through_last xs s tail all.1 over)

module _ (catalog : List Table) (events : List Event) (c : ℕ) (h : Client) (k : Knows catalog events c h) (s : Executed) (key : Key) (found : Option Record) (m : IsChangedIn events c k.entries s key found) where
  -- since its BEGIN, with the statement that waits
  since_all_said : (tail : List Executed) × (from_begin m.n (statements_by c events) ≡ m.begin ∷ (m.body ++ s ∷ tail))
  since_all_said = by k.waiting (ap (from_begin m.n) k.same)
    where
      by : (o : Option Executed) → from_begin m.n (statements_by c events) ≡ from_begin m.n (k.entries ++ waiting_of o) → (tail : List Executed) × (from_begin m.n (statements_by c events) ≡ m.begin ∷ (m.body ++ s ∷ tail))
      by None e = (m.tail, e ∙ ap (from_begin m.n) (append-nil k.entries) ∙ m.since)
      by (Some w) e = (m.tail ++ w ∷ [], e ∙ since_more m.n k.entries w m.begin (m.body ++ s ∷ m.tail) m.since ∙ ap (λ r. m.begin ∷ r) (append_assoc m.body (s ∷ m.tail) (w ∷ [])))

  noted_is : read_set_of events (id_of c m.n) ≡ read_items_of_body events c m.body
  noted_is =
      noted_since events c m.n m.begin (m.body ++ s ∷ since_all_said.0) m.small since_all_said.1
      ∙ ap (read_items_of_body events c) (take_open m.body (s ∷ since_all_said.0) m.goes_on ∙ ap (λ r. m.body ++ r) (take_ends s since_all_said.0 m.over) ∙ append-nil m.body)

  is_in : Contains (statements_of events (id_of c m.n)) s
  is_in = subst (λ ss. Contains ss s) (sym statements) (Contains-append_right m.body (s ∷ []) s (Contains-push [] s))
    where
      statements : statements_of events (id_of c m.n) ≡ m.body ++ s ∷ []
      statements =
          ap (λ d. through_end (rest_of (from_begin (ordinal_of (id_of c m.n)) (statements_by d events)))) (client_is c m.n m.small)
          ∙ ap (λ i. through_end (rest_of (from_begin i (statements_by c events)))) (ordinal_is c m.n m.small)
          ∙ ap (λ ss. through_end (rest_of ss)) since_all_said.1
          ∙ through_last m.body s since_all_said.0 m.goes_on m.over

  commit_is : reads_commit s.text ≡ true → IsCommitOf events c s (id_of c m.n)
  commit_is t = (
    client_is c m.n m.small,
    ap (λ ss. option_and_then (λ (x : Executed). if reads_commit x.text then Some x else None) (find ends (rest_of ss))) (ap (λ d. from_begin (ordinal_of (id_of c m.n)) (statements_by d events)) (client_is c m.n m.small) ∙ ap (λ i. from_begin i (statements_by c events)) (ordinal_is c m.n m.small) ∙ since_all_said.1)
        ∙ ap (option_and_then (λ (x : Executed). if reads_commit x.text then Some x else None)) (ends_first m.body s since_all_said.0 m.goes_on m.over)
        ∙ ap (λ b. if b then Some s else None) t,
  )

  moved_by : (b : Bool) → reads_commit s.text ≡ b → ChangesBy b (id_of c m.n) (calls_of events c s) (read_items_of_body events c m.body) key found → IsConflict events c s key found
  moved_by true e h = (id_of c m.n, inl (commit_is e, subst (λ ns. ConflictsAtCommit (calls_of events c s) ns (id_of c m.n) key found) (sym noted_is) h))
  moved_by false e h = (id_of c m.n, inr ((client_is c m.n m.small, is_in), e, subst (λ ns. ChangesAtScan (calls_of events c s) ns key found) (sym noted_is) h))

  moved_is : IsConflict events c s key found
  moved_is = moved_by (reads_commit s.text) refl m.why

scans_moved : (catalog : List Table) (events : List Event) (now : ℤ) (states : ℕ → ClientState) → CauseInvariant catalog events now states → (c : ℕ) (s : Executed) (key : Key) (found : Option Record) → Contains (statements_by c events) s → s.answer ≡ Some (answer.Conflict key found) → IsConflict events c s key found
scans_moved catalog events now states ex c s key found has is = by (answered_or (Contains-append_cases k.entries (waiting_of k.waiting) s (subst (λ ss. Contains ss s) k.same has)))
  where
    k : Knows catalog events c (states c).client
    k = ex.each c

    unanswered : (o : Option Executed) → IfSome o (IsWaiting catalog events c (is_some (states c).client.vacuum)) → Contains (waiting_of o) s → ⊥
    unanswered None w x = absurd (omega (arith, x.1))
    unanswered (Some w) waits x = only (Contains-push_cases [] w s x)
      where
        only : Contains [] s ⊎ (w ≡ s) → ⊥
        only (inl y) = absurd (omega (arith, y.1))
        only (inr e) = none_some (answer.Conflict key found) (sym waits.unanswered ∙ ap (λ (y : Executed). y.answer) e ∙ is)

    answered_or : Contains k.entries s ⊎ Contains (waiting_of k.waiting) s → Contains k.entries s
    answered_or (inl x) = x
    answered_or (inr x) = absurd (unanswered k.waiting k.waits x)

    by : Contains k.entries s → IsConflict events c s key found
    by x = moved_is catalog events c (states c).client k s key found (each_in (λ y. (z : Key) (f : Option Record) → y.answer ≡ Some (answer.Conflict z f) → IsChangedIn events c k.entries y z f) k.entries s k.moved x key found is)

---- all answers

-- what is so of Conflict, and of each other answer
by_conflict : (P : Answer → Type 0) (a : Answer) → ((key : Key) (found : Option Record) → a ≡ answer.Conflict key found → P a) → (is_conflict (Some a) ≡ false → P a) → P a
by_conflict P (answer.Conflict key found) moved other = moved key found refl
by_conflict P a moved other = other refl

pub explained : (catalog : List Table) (events : List Event) (now : ℤ) (states : ℕ → ClientState) → CauseInvariant catalog events now states → AnswersHaveCauses catalog events
explained catalog events now states ex = record {
  caused = record {
    caused = λ c s a has is. by_conflict (IsCaused catalog events c s) a (λ key found same. subst (IsCaused catalog events c s) (sym same) (scans_moved catalog events now states ex c s key found has (is ∙ ap Some same))) (λ plain. caused_by c s a is plain (answered_said catalog events c (states c).client (ex.each c) s has));
    rejected = λ c s a has away. turned_by c s a away (answered_said catalog events c (states c).client (ex.each c) s has);
  };
  counted = calls_counted catalog events now states ex;
  rolled = records_rolled catalog events now states ex;
  observed = rows_shown catalog events now states ex;
}
  where
    caused_by : (c : ℕ) (s : Executed) (a : Answer) → s.answer ≡ Some a → is_conflict (Some a) ≡ false → IsAnswered catalog events c s ⊎ IsWaiting catalog events c (is_some (states c).client.vacuum) s → IsCaused catalog events c s a
    caused_by c s a is plain (inl k) =
        let same : k.given ≡ a = some_is k.given a (sym k.is ∙ is) in
        subst (IsCaused catalog events c s) same (k.caused (ap (λ (x : Answer). is_conflict (Some x)) same ∙ plain))
    caused_by c s a is plain (inr w) = none_some a (sym w.unanswered ∙ is)

    turned_by : (c : ℕ) (s : Executed) (a : Answer) → IsRejected catalog (before s events) c s.text a → IsAnswered catalog events c s ⊎ IsWaiting catalog events c (is_some (states c).client.vacuum) s → (s.reached ≡ s.accepted) × ((s.answer ≡ Some a) ⊎ (s.answer ≡ Some answer.NoMemory))
    turned_by c s a away (inl k) = k.rejected a away
    turned_by c s a away (inr w) = absurd (w.stays a away)
