-- At each event the actions agree with the texts about who is open.
use Rattle.std.proofs.Common.{◌≡◌, ◌≤◌, ◌<◌, ◌+◌, ◌*◌, ◌/◌, ◌%◌, ◌^◌, ℕ, zero, suc, Bool, true, false, List, [], ◌∷◌, ◌++◌, length, take, Option, Some, None, IfSome, refl, sym, ap, subst, ◌∙◌, arith, ◌⊎◌, inl, inr}
use Rattle.std.specs.Prelude.{find, fold}
use Rattle.std.specs.List.{AllByRecursion}
use Rattle.std.specs.Option.{option_map}
use Rattle.std.proofs.lemmas.Bool.{eqb-false}
use Rattle.std.proofs.lemmas.Bool.Decides.{nat_tests}
use Rattle.std.proofs.lemmas.List.{append-nil, length-append, take_all, take-append-le}
use Rattle.law_clients.specs.Types.{Event, Statement, Table, TxId}
use Rattle.sdb_model.specs.Exec.{Tables}
use Rattle.sdb_model.specs.Follows.{has_stopped, stops}
use Rattle.sdb_model.specs.Transactions.{Executed, begins, begun, client_of, ending, ends, first_of, from_begin, ordinal_of, rest_of, statements_by}
use Rattle.law_protocol.specs.Explained.{events_of, newest_first}
use Rattle.law_protocol.specs.Faithful.{AgreesOnOpen, AreLive}
use Rattle.law_protocol.specs.Plan.{Plan}
use Rattle.law_protocol.specs.History.{Action, Other, Begins, Takes, Prepares, Checks, Decides, Aborts, Rolls, Removes, Ends, Stops, IsLive}
use Rattle.law_protocol.specs.Lawful.{IsEnabled, IsLawful, Labelled, MayOccur, id, protocol_state}
use Rattle.law_protocol.proofs.Public.{occurs_by}
use Rattle.law_clients.specs.System.{ClientAt, ClientOk, Committing, Has, Open, Reading, Resting, RunsVacuum, Stopped, SystemAt, SystemOk}
use Rattle.law_clients.specs.Filed.{number}
use Rattle.law_clients.specs.History.{AllStories, ClientHistory, HistoryInvariant, IsOpened, waiting_of, with_answered}
use Rattle.law_clients.specs.Invariant.{ClientInvariant, IsClosed, IsOpenOf}
use Rattle.law_clients.specs.Left.{Execution}
use Rattle.law_clients.specs.Sought.{Sought}
use Rattle.law_clients.specs.Story.{Closed, Finished, IsEndedTxn, IsRest, Opened, Rest, saids_of, statements_in, txn_ended_at}
use Rattle.law_clients.proofs.Begin.{accepted_numbered}
use Rattle.law_clients.proofs.Delayed.{delayed_unanswered}
use Rattle.law_clients.proofs.Faith.{beyond, says}
use Rattle.law_clients.proofs.Files.{no_first, story_files, unanswered_begins, unanswered_comes}
use Rattle.law_clients.proofs.Foreign.{StopsNot, running}
use Rattle.law_clients.proofs.InvariantOwn.{settled_gap, settled_inside, settled_over}
use Rattle.law_clients.proofs.Landings.{stops_none}
use Rattle.law_clients.proofs.Places.{ends_at, finished_ok, none_is, past_is, since, story_kept, story_same}
use Rattle.law_clients.proofs.Seeking.{said_with}
use Rattle.sdb_types.proofs.Public.{clash, none_some, or_neither}

---- which clients have stopped

-- an event that is no stop of a client doesn't stop it
enabled_stops : (plan : ℕ → Plan) (past : List Labelled) (e : Event) (c : ℕ) (r : Action) → stops c e ≡ false → IsEnabled plan past e r → StopsNot c r
enabled_stops plan past e c Other none m = tt
enabled_stops plan past e c (Begins t d) none m = tt
enabled_stops plan past e c (Takes t) none m = tt
enabled_stops plan past e c (Prepares t ks word) none m = tt
enabled_stops plan past e c (Checks t i) none m = tt
enabled_stops plan past e c (Decides t word) none m = tt
enabled_stops plan past e c (Aborts t n word) none m = tt
enabled_stops plan past e c (Rolls t ks d) none m = tt
enabled_stops plan past e c (Removes k t) none m = tt
enabled_stops plan past e c (Ends t) none m = tt
enabled_stops plan past e c (Stops d) none m = eqb-false d c (sym (ap (stops c) m) ∙ none)

occurring_stops : (plan : ℕ → Plan) (past : List Labelled) (e : Event) (c : ℕ) (r : Action) → IsLawful plan past → stops c e ≡ false → MayOccur plan past e r → StopsNot c r
occurring_stops plan past e c r lawful none may = elim (occurs_by plan past e r may) [
  | inl m ↦ enabled_stops plan past e c r none m
  | inr x ↦ stops_none (protocol_state past) c r (delayed_unanswered plan past x.request r lawful x.was)
]

lawful_before : (plan : ℕ → Plan) (labelled older : List Labelled) → IsLawful plan (fold (λ newer x. x ∷ newer) older labelled) → IsLawful plan older
lawful_before plan [] older lawful = lawful
lawful_before plan (p ∷ labelled) older lawful = (lawful_before plan labelled (p ∷ older) lawful).0

runs_from : (plan : ℕ → Plan) (c : ℕ) (labelled older : List Labelled) → IsLawful plan (fold (λ newer x. x ∷ newer) older labelled) → (protocol_state older).stopped c ≡ false → has_stopped c (events_of labelled) ≡ false → (protocol_state (fold (λ newer x. x ∷ newer) older labelled)).stopped c ≡ false
runs_from plan c [] older lawful was none = was
runs_from plan c (p ∷ labelled) older lawful was none =
    let l = lawful_before plan labelled (p ∷ older) lawful in
    let n = or_neither (stops c p.event) (has_stopped c (events_of labelled)) none in
    runs_from plan c labelled (p ∷ older) lawful (running older p c (occurring_stops plan older p.event c p.action l.0 n.0 l.1) ∙ was) n.1

-- a client that hasn't stopped by the texts hasn't by the actions
runs_still : (plan : ℕ → Plan) (labelled : List Labelled) (c : ℕ) → IsLawful plan (newest_first labelled) → has_stopped c (events_of labelled) ≡ false → (protocol_state (newest_first labelled)).stopped c ≡ false
runs_still plan labelled c lawful none = runs_from plan c labelled [] lawful refl none

---- which transactions are open

-- what ended a transaction of a story
finished_ends : (x : Sought) (f : Finished) → txn_ended_at x.whole x.k ≡ Some f → ending x.events x.id ≡ Some f.last
finished_ends x f e =
    let r = since x.whole (statements_in x.rest) x.k f x.finished e in
    let ok = finished_ok x.whole x.k f x.finished e in
    ap (λ (ss : List Executed). find ends (rest_of ss)) (ap (λ n. from_begin n (statements_by (client_of x.id) x.events)) x.ordinal ∙ ap (from_begin (suc x.k)) x.same ∙ r.1) ∙ ends_at f.body f.last r.0 ok.body ok.last

-- One that began and has not ended is the last of its client, and open.
open_last : (x : Sought) (began : ℕ) → IsRest x.rest → begun x.events x.id ≡ Some began → ending x.events x.id ≡ None → (x.k ≡ length x.whole) × IsOpened x.rest
open_last x began ok at unended = by (txn_ended_at x.whole x.k) refl
  where
    side : (k n : ℕ) → n ≤ k → (k ≡ n) ⊎ (n < k)
    side k n l = grind (arith, nat_tests)

    by_rest : (r : Rest) → x.rest ≡ r → length x.whole ≤ x.k → (x.k ≡ length x.whole) × IsOpened r
    by_rest (Closed gap) e low =
        let o = none_is x.events x.id x.whole gap x.k (said_with x (Closed gap) e) x.ordinal low x.finished (subst IsRest e ok) in
        none_some began (sym o.0 ∙ at)
    by_rest (Opened gap b body) e low = elim (side x.k (length x.whole) low) [
      | inl same ↦ (same, tt)
      | inr later ↦ (
          let o = past_is x.events x.id x.whole gap b body x.k (said_with x (Opened gap b body) e) x.ordinal later x.finished (subst IsRest e ok) in
          none_some began (sym o.0 ∙ at)
          )
    ]

    by : (o : Option Finished) → txn_ended_at x.whole x.k ≡ o → (x.k ≡ length x.whole) × IsOpened x.rest
    by (Some f) e = none_some f.last (sym unended ∙ finished_ends x f e)
    by None e = by_rest x.rest refl (beyond x.whole x.k e)

-- Where a statement waits that begins no transaction, one that is open with it is open without it.
settled_open : (x : ClientHistory) (w : Executed) → begins w ≡ false → IsOpened (with_answered x w).rest → IsOpened x.rest × (length (with_answered x w).whole ≡ length x.whole)
settled_open x w plain opened = by x.rest refl
  where
    by_end : (gap : List Executed) (b : Executed) (body : List Executed) (t : Bool) → x.rest ≡ Opened gap b body → ends w ≡ t → IsOpened x.rest × (length (with_answered x w).whole ≡ length x.whole)
    by_end gap b body true e n = absurd (subst (λ (y : ClientHistory). IsOpened y.rest) (settled_over x w gap b body e n) opened)
    by_end gap b body false e n = (subst IsOpened (sym e) tt, ap (λ (y : ClientHistory). length y.whole) (settled_inside x w gap b body e n))

    by : (r : Rest) → x.rest ≡ r → IsOpened x.rest × (length (with_answered x w).whole ≡ length x.whole)
    by (Closed gap) e = absurd (subst (λ (y : ClientHistory). IsOpened y.rest) (settled_gap x w gap e plain) opened)
    by (Opened gap b body) e = by_end gap b body (ends w) e refl

-- A transaction that is open by the texts is the open one of its client's history.
open_in : (events : List Event) (past : List Labelled) (sys : SystemAt) (i : TxId) (x : ClientHistory) (k began : ℕ) → HistoryInvariant events past sys (client_of i) x → ordinal_of i ≡ suc k → begun events i ≡ Some began → ending events i ≡ None → IsOpened x.rest × (k ≡ length x.whole)
open_in events past sys i x k began story ordinal at unended = by x.waiting refl
  where
    last_in : (y : ClientHistory) → statements_by (client_of i) events ≡ saids_of y.whole ++ statements_in y.rest → AllByRecursion IsEndedTxn y.whole → IsRest y.rest → (k ≡ length y.whole) × IsOpened y.rest
    last_in y same finished rest = open_last (record { events = events; id = i; whole = y.whole; rest = y.rest; k = k; same = same; ordinal = ordinal; finished = finished }) began rest at unended

    by : (o : Option Executed) → x.waiting ≡ o → IsOpened x.rest × (k ≡ length x.whole)
    by None e =
        let r = last_in x (story.same ∙ ap (λ o. (saids_of x.whole ++ statements_in x.rest) ++ waiting_of o) e ∙ append-nil (saids_of x.whole ++ statements_in x.rest)) story.ok story.rest_ok in
        (r.1, r.0)
    by (Some w) e =
        let unanswered : w.answer ≡ None = subst (λ o. IfSome o (λ (s : Executed). s.answer ≡ None)) e story.waits in
        let kept = story_kept x.whole x.rest w story.ok story.rest_ok (unanswered_comes x.rest w unanswered) in
        let r = last_in (with_answered x w) (story.same ∙ ap (λ o. (saids_of x.whole ++ statements_in x.rest) ++ waiting_of o) e ∙ sym (story_same x.whole x.rest w)) kept.whole kept.rest in
        let s = settled_open x w (unanswered_begins w unanswered) r.1 in
        (s.0, r.0 ∙ s.1)

closed_opened : {A : Type 0} (r : Rest) → IsClosed r → IsOpened r → A
closed_opened (Closed gap) closed opened = absurd opened
closed_opened (Opened gap b body) closed opened = absurd closed

-- The open transaction of a client that hasn't stopped is open by the actions.
client_live : (plan : ℕ → Plan) (past : List Labelled) (c t : ℕ) (x : ClientHistory) (doing : Option Statement) (r : Execution) (y : ClientAt) → ClientOk plan past c y → IsOpenOf doing x r y → IsOpened x.rest → ((u : ℕ) → Has y u → u ≡ t) → (protocol_state past).stopped c ≡ false → IsLive (protocol_state past) t
client_live plan past c t x doing r Resting ok is opened hold runs = closed_opened x.rest is.0 opened
client_live plan past c t x doing r (Open i seen) ok is opened hold runs = subst (IsLive (protocol_state past)) (hold i.0 refl) (ok.0.is_open, ap (protocol_state past).stopped ok.0.owner ∙ ok.0.goes_on)
client_live plan past c t x doing r (Reading i seen a s) ok is opened hold runs = subst (IsLive (protocol_state past)) (hold i.0 refl) (ok.0.is_open, ap (protocol_state past).stopped ok.0.owner ∙ ok.0.goes_on)
client_live plan past c t x doing r (Committing p s) ok is opened hold runs = subst (IsLive (protocol_state past)) (hold p.id.0 refl) (ok.within.is_open, ap (protocol_state past).stopped ok.within.owner ∙ ok.within.goes_on)
client_live plan past c t x doing r (RunsVacuum v) ok is opened hold runs = closed_opened x.rest is.0 opened
client_live plan past c t x doing r Stopped ok is opened hold runs = clash (sym ok ∙ runs)

-- What is open by the texts is open by the actions, and began at the same event.
live_now : (catalog : List Table) (fit : List Table → Tables → Bool) (plan : ℕ → Plan) (events : List Event) (past : List Labelled) (sys : SystemAt) (doing : ℕ → Option Statement) (answered : ℕ → ClientHistory) (ran : ℕ → ℕ → Execution)
    → SystemOk plan past sys → AllStories events past sys answered → ((c : ℕ) → ClientInvariant catalog fit plan past c (doing c) (sys.clients c) (answered c) (ran c)) → ((c : ℕ) → has_stopped c events ≡ false → (protocol_state past).stopped c ≡ false) → AreLive events past
live_now catalog fit plan events past sys doing answered ran ok stories clients runs t began at unended on = (
  (says events past t (λ c. story_files plan events past sys c (answered c) ok (stories c)) (λ c accepted. no_first plan past sys c ok accepted)).begun began at,
  by (t % 2 ^ 64) refl,
)
  where
    client : ℕ
    client = t / 2 ^ 64

    whole : (t o : ℕ) → t % 2 ^ 64 ≡ o → t / 2 ^ 64 * 2 ^ 64 + o ≡ t
    whole t o e = omega (arith, e)

    by : (o : ℕ) → t % 2 ^ 64 ≡ o → IsLive (protocol_state past) t
    by zero e = none_some began (sym (ap (λ m. option_map (λ (s : Executed). s.accepted) (first_of (from_begin m (statements_by (t / 2 ^ 64) events)))) e) ∙ at)
    by (suc k) e =
        let o = open_in events past sys (id t) (answered client) k began (stories client) e at unended in
        client_live plan past client t (answered client) (doing client) (ran client (length (answered client).whole)) (sys.clients client) (ok.each client) (clients client).next_state o.0
        (λ u h. ((stories client).hold u h).1 ∙ ap (number client) (sym o.1) ∙ whole t (suc k) e) (runs client on)

---- at each event

-- before the first
pub agrees_first : AgreesOnOpen []
agrees_first = record { live = λ n low. at_none n; owned = λ t accepted. absurd (cc (accepted)) }
  where
    none_begun : (k : ℕ) → from_begin k [] ≡ []
    none_begun zero = refl
    none_begun (suc k) = refl

    none_live : AreLive [] []
    none_live t began at unended on = none_some began (sym (ap (λ (ss : List Executed). option_map (λ (s : Executed). s.accepted) (first_of ss)) (none_begun (t % 2 ^ 64))) ∙ at)

    at_none : (n : ℕ) → AreLive (events_of (take n [])) (newest_first (take n []))
    at_none zero = none_live
    at_none (suc n) = none_live

-- after one more
agrees_more : (labelled : List Labelled) (q : Labelled) → AgreesOnOpen labelled → AreLive (events_of (labelled ++ q ∷ [])) (newest_first (labelled ++ q ∷ []))
    → ((t : ℕ) → (protocol_state (newest_first (labelled ++ q ∷ []))).accepted t ≡ true → (protocol_state (newest_first (labelled ++ q ∷ []))).owner t ≡ client_of (id t)) → AgreesOnOpen (labelled ++ q ∷ [])
agrees_more labelled q agrees live owned = record {
  live = λ n low. elim (side n (length labelled)) [
    | inl before ↦ subst (λ (ps : List Labelled). AreLive (events_of ps) (newest_first ps)) (sym (take-append-le n labelled (q ∷ []) before)) (agrees.live n before)
    | inr now ↦ subst (λ (ps : List Labelled). AreLive (events_of ps) (newest_first ps)) (sym (take_all n (labelled ++ q ∷ []) (all n now))) live
  ];
  owned = owned;
}
  where
    side : (n k : ℕ) → (n ≤ k) ⊎ (k < n)
    side n k = grind (arith, nat_tests)

    all : (n : ℕ) → length labelled < n → length (labelled ++ q ∷ []) ≤ n
    all n l = omega (arith, l, length-append labelled (q ∷ []))

-- after one more, from what holds then of the rules, the histories and the clients
pub agrees_then : (catalog : List Table) (fit : List Table → Tables → Bool) (plan : ℕ → Plan) (events : List Event) (labelled : List Labelled) (q : Labelled) (past : List Labelled) (sys : SystemAt) (doing : ℕ → Option Statement) (answered : ℕ → ClientHistory) (ran : ℕ → ℕ → Execution)
    → events ≡ events_of (labelled ++ q ∷ []) → past ≡ newest_first (labelled ++ q ∷ []) → AgreesOnOpen labelled
    → SystemOk plan past sys → AllStories events past sys answered → ((c : ℕ) → ClientInvariant catalog fit plan past c (doing c) (sys.clients c) (answered c) (ran c)) → AgreesOnOpen (labelled ++ q ∷ [])
agrees_then catalog fit plan events labelled q past sys doing answered ran same turned agrees ok stories clients = agrees_more labelled q agrees
    (subst (λ ps. AreLive (events_of (labelled ++ q ∷ [])) ps) turned (subst (λ es. AreLive es past) same (live_now catalog fit plan events past sys doing answered ran ok stories clients runs)))
    (subst (λ ps. (t : ℕ) → (protocol_state ps).accepted t ≡ true → (protocol_state ps).owner t ≡ client_of (id t)) turned (λ t accepted. (accepted_numbered plan past sys t ok accepted).owner))
  where
    runs : (c : ℕ) → has_stopped c events ≡ false → (protocol_state past).stopped c ≡ false
    runs c none = subst (λ ps. (protocol_state ps).stopped c ≡ false) (sym turned) (runs_still plan (labelled ++ q ∷ []) c (subst (IsLawful plan) turned ok.lawful) (ap (has_stopped c) (sym same) ∙ none))
