-- A turn of one client leaves what is so of the others, and of its transactions that ended.
use Rattle.std.proofs.Common.{◌≡◌, ◌≢◌, ℕ, Bool, true, false, List, [], ◌∷◌, ◌++◌, ◌+◌, length, Option, Some, refl, sym, ap, ◌∙◌, subst, arith}
use Rattle.std.specs.Prelude.{◌==◌, fold, if◌then◌else◌}
use Rattle.std.proofs.lemmas.Bool.Decides.{nat_tests}
use Rattle.law_clients.specs.Types.{Event, Statement, Table}
use Rattle.sdb_model.specs.Exec.{Tables}
use Rattle.sdb_model.specs.Transactions.{Executed}
use Rattle.law_protocol.specs.Explained.{events_of, newest_first}
use Rattle.law_protocol.specs.History.{at}
use Rattle.law_protocol.specs.Lawful.{Labelled, protocol_state}
use Rattle.law_protocol.specs.Plan.{Plan}
use Rattle.law_clients.specs.System.{IsBy, SamePlans, SystemAt, SystemOk}
use Rattle.law_clients.specs.Catalogs.{IsAtRest, catalog_at_begin}
use Rattle.law_clients.proofs.Catalogs.{begin_same, by_rest}
use Rattle.law_clients.proofs.Seen.{seen_later}
use Rattle.law_clients.specs.Filed.{number}
use Rattle.law_clients.specs.Left.{Execution}
use Rattle.law_clients.specs.Story.{Closed, Finished, Opened, Rest, txn_ended_at}
use Rattle.law_clients.specs.History.{AllStories, IsApart, IsOpened, OthersUnchanged, HistoryInvariant, ClientHistory, HistoryStep, begun_in, with_history}
use Rattle.law_clients.proofs.Clients.{enabled}
use Rattle.law_clients.proofs.Histories.{SameOf, apart_at, opened_counts, others_apart, within}
use Rattle.law_clients.proofs.HistoryTurns.{stories_turn}
use Rattle.law_clients.specs.Invariant.{ClientInvariant, EndedOk, IsOpenOf, InsideOk, RunInvariant, OpenedOk, RanOk}
use Rattle.law_clients.specs.ReadSets.{ReadSetsOfClient}
use Rattle.law_clients.proofs.InvariantReads.{noted_stays, other_call}
use Rattle.law_clients.proofs.Live.{agrees_then}

---- lists of events

events_more : (labelled : List Labelled) (q : Labelled) → events_of (labelled ++ q ∷ []) ≡ events_of labelled ++ q.event ∷ []
events_more [] q = refl
events_more (p ∷ labelled) q = ap (λ es. p.event ∷ es) (events_more labelled q)

newest_from : (older labelled : List Labelled) (q : Labelled) → fold (λ newer x. x ∷ newer) older (labelled ++ q ∷ []) ≡ q ∷ fold (λ newer x. x ∷ newer) older labelled
newest_from older [] q = refl
newest_from older (p ∷ labelled) q = newest_from (p ∷ older) labelled q

newest_more : (labelled : List Labelled) (q : Labelled) → newest_first (labelled ++ q ∷ []) ≡ q ∷ newest_first labelled
newest_more labelled q = newest_from [] labelled q

---- one transaction, later

pub inside_later : (catalog : List Table) (fit : Tables → Bool) (past : List Labelled) (q : Labelled) (inside : List Executed) (r : Execution) → InsideOk catalog fit past inside r → InsideOk catalog fit (q ∷ past) inside r
inside_later catalog fit past q inside r ok = record { seen = seen_later past q r.seen ok.seen; body = ok.body; executed = ok.executed }

pub ran_later : (catalog : List Table) (fit : List Table → Tables → Bool) (plan next : ℕ → Plan) (past : List Labelled) (q : Labelled) (t : ℕ) (inside : List Executed) (r : Execution) → SamePlans plan next past → SameOf t (protocol_state past) (protocol_state (q ∷ past)) → RanOk catalog fit plan past t inside r → RanOk catalog fit next (q ∷ past) t inside r
ran_later catalog fit plan next past q t inside r same s ok = record {
  inside = subst (λ ts. InsideOk ts (fit ts) (q ∷ past) inside r) (sym (begin_same catalog q past t s.begun)) (inside_later (catalog_at_begin catalog past t) (fit (catalog_at_begin catalog past t)) past q inside r ok.inside);
  planned = λ h. let was : (protocol_state past).accepted t ≡ true = sym s.accepted ∙ h in sym (same t was) ∙ ok.planned was;
}

---- the transactions of a client, later

pub ended_later : (catalog : List Table) (fit : List Table → Tables → Bool) (plan next : ℕ → Plan) (past : List Labelled) (q : Labelled) (c : ℕ) (whole : List Finished) (ran : ℕ → Execution) → SamePlans plan next past → ((k : ℕ) (f : Finished) → txn_ended_at whole k ≡ Some f → SameOf (number c k) (protocol_state past) (protocol_state (q ∷ past))) → EndedOk catalog fit plan past c whole ran → EndedOk catalog fit next (q ∷ past) c whole ran
ended_later catalog fit plan next past q c whole ran same s ok k f e = ran_later catalog fit plan next past q (number c k) f.body (ran k) same (s k f e) (ok k f e)

pub opened_later : (catalog : List Table) (fit : List Table → Tables → Bool) (plan next : ℕ → Plan) (past : List Labelled) (q : Labelled) (t : ℕ) (rest : Rest) (r : Execution) → SamePlans plan next past → (IsOpened rest → SameOf t (protocol_state past) (protocol_state (q ∷ past))) → OpenedOk catalog fit plan past t rest r → OpenedOk catalog fit next (q ∷ past) t rest r
opened_later catalog fit plan next past q t (Closed gap) r same s ok = tt
opened_later catalog fit plan next past q t (Opened gap b body) r same s ok = ran_later catalog fit plan next past q t body r same (s tt) ok

-- an event that is apart from a client's transactions leaves what is so of each
pub kept_apart : (catalog : List Table) (fit : List Table → Tables → Bool) (plan next : ℕ → Plan) (events : List Event) (past : List Labelled) (sys : SystemAt) (q : Labelled) (c : ℕ) (x : ClientHistory) (ran : ℕ → Execution) → SamePlans plan next past → HistoryInvariant events past sys c x → IsApart past c q.action
    → EndedOk catalog fit plan past c x.whole ran → OpenedOk catalog fit plan past (number c (length x.whole)) x.rest (ran (length x.whole))
    → EndedOk catalog fit next (q ∷ past) c x.whole ran × OpenedOk catalog fit next (q ∷ past) (number c (length x.whole)) x.rest (ran (length x.whole))
kept_apart catalog fit plan next events past sys q c x ran same story apart ended opened = (
  ended_later catalog fit plan next past q c x.whole ran same (λ k f e. apart_at events past sys c x q k story apart (within x.whole k f (begun_in x.rest) e)) ended,
  opened_later catalog fit plan next past q (number c (length x.whole)) x.rest (ran (length x.whole)) same (λ o. apart_at events past sys c x q (length x.whole) story apart (opened_counts (length x.whole) x.rest o)) opened,
)

---- one event more

-- What holds after one event more: the rules and what all know, each client's history, its transactions, and what these have read.
pub record Preserved (catalog : List Table) (fit : List Table → Tables → Bool) (events : List Event) (sys next : SystemAt) (doing runs : ℕ → Option Statement) (g : RunInvariant catalog fit events sys doing) (q : Labelled) : Type 0 where
  pub plan : ℕ → Plan
  pub answered : ℕ → ClientHistory
  pub ran : ℕ → ℕ → Execution
  pub system : SystemOk plan (q ∷ g.past) next
  pub stories : AllStories (events ++ q.event ∷ []) (q ∷ g.past) next answered
  pub clients : (c : ℕ) → ClientInvariant catalog fit plan (q ∷ g.past) c (runs c) (next.clients c) (answered c) (ran c)
  pub as_read : (c : ℕ) → ReadSetsOfClient (events ++ q.event ∷ []) c (next.clients c) (answered c) (ran c)
  pub at_rest : IsAtRest g.past q.event

-- the invariant then
pub preserved : (catalog : List Table) (fit : List Table → Tables → Bool) (events : List Event) (sys next : SystemAt) (doing runs : ℕ → Option Statement) (g : RunInvariant catalog fit events sys doing) (q : Labelled) → Preserved catalog fit events sys next doing runs g q → RunInvariant catalog fit (events ++ q.event ∷ []) next runs
preserved catalog fit events sys next doing runs g q p = record {
  plan = p.plan;
  labelled = g.labelled ++ q ∷ [];
  past = q ∷ g.past;
  answered = p.answered;
  ran = p.ran;
  same = same;
  turned = newest;
  system = p.system;
  stories = p.stories;
  clients = p.clients;
  as_read = p.as_read;
  agrees = agrees_then catalog fit p.plan (events ++ q.event ∷ []) g.labelled q (q ∷ g.past) next runs p.answered p.ran same newest g.agrees p.system p.stories p.clients;
  at_rest = (g.at_rest, p.at_rest);
}
  where
    same : events ++ q.event ∷ [] ≡ events_of (g.labelled ++ q ∷ [])
    same = ap (λ es. es ++ q.event ∷ []) g.same ∙ sym (events_more g.labelled q)

    newest : q ∷ g.past ≡ newest_first (g.labelled ++ q ∷ [])
    newest = ap (λ ps. q ∷ ps) g.turned ∙ sym (newest_more g.labelled q)

---- a turn

-- What one turn of a client owes: the rules and what all know, its story, its own transactions, and what these have read.
pub record Turn (catalog : List Table) (fit : List Table → Tables → Bool) (events : List Event) (sys next : SystemAt) (doing : ℕ → Option Statement) (g : RunInvariant catalog fit events sys doing) (c : ℕ) (d : Option Statement) (q : Labelled) : Type 0 where
  pub plan : ℕ → Plan
  pub x : ClientHistory
  pub ran : ℕ → Execution
  pub same : SamePlans g.plan plan g.past
  pub system : SystemOk plan (q ∷ g.past) next
  pub by : IsBy c q.event
  pub others : OthersUnchanged c sys next
  pub story : HistoryStep events g.past q next c x
  pub own : ClientInvariant catalog fit plan (q ∷ g.past) c d (next.clients c) x ran
  pub as_read : ReadSetsOfClient (events ++ q.event ∷ []) c (next.clients c) x ran

pub turned : (catalog : List Table) (fit : List Table → Tables → Bool) (events : List Event) (sys next : SystemAt) (doing : ℕ → Option Statement) (g : RunInvariant catalog fit events sys doing) (c : ℕ) (d : Option Statement) (q : Labelled) → Turn catalog fit events sys next doing g c d q → RunInvariant catalog fit (events ++ q.event ∷ []) next (at doing c d)
turned catalog fit events sys next doing g c d q t = preserved catalog fit events sys next doing (at doing c d) g q (record {
  plan = t.plan;
  answered = with_history g.answered c t.x;
  ran = at g.ran c t.ran;
  system = t.system;
  stories = stories_turn t.plan events g.past sys next c q g.answered t.x t.system t.by t.others g.stories t.story;
  clients = λ e. on e (e == c) refl;
  as_read = λ e. noted_on e (e == c) refl;
  at_rest = by_rest g.past c q.event t.by;
})
  where
    is : (e c : ℕ) → (e == c) ≡ true → c ≡ e
    is e c h = grind (arith, nat_tests)

    isnt : (e c : ℕ) → (e == c) ≡ false → e ≢ c
    isnt e c h k = absurd (grind (arith, nat_tests))

    other : (e : ℕ) → e ≢ c → ClientInvariant catalog fit t.plan (q ∷ g.past) e (doing e) (next.clients e) (g.answered e) (g.ran e)
    other e n =
        let was = g.clients e in
        let kept = kept_apart catalog fit g.plan t.plan events g.past sys q e (g.answered e) (g.ran e) t.same (g.stories e) (others_apart t.plan g.past e c q (λ h. n (sym h)) t.by (enabled t.plan g.past c q.event q.action t.by t.system.lawful.1)) was.ended was.opened in
        record { ended = kept.0; opened = kept.1; next_state = subst (IsOpenOf (doing e) (g.answered e) (g.ran e (length (g.answered e).whole))) (sym (t.others.clients e n)) was.next_state }

    on : (e : ℕ) (b : Bool) → (e == c) ≡ b → ClientInvariant catalog fit t.plan (q ∷ g.past) e (if b then d else doing e) (next.clients e) (if b then t.x else g.answered e) (if b then t.ran else g.ran e)
    on e true h = subst (λ z. ClientInvariant catalog fit t.plan (q ∷ g.past) z d (next.clients z) t.x t.ran) (is e c h) t.own
    on e false h = other e (isnt e c h)

    noted_on : (e : ℕ) (b : Bool) → (e == c) ≡ b → ReadSetsOfClient (events ++ q.event ∷ []) e (next.clients e) (if b then t.x else g.answered e) (if b then t.ran else g.ran e)
    noted_on e true h = subst (λ z. ReadSetsOfClient (events ++ q.event ∷ []) z (next.clients z) t.x t.ran) (is e c h) t.as_read
    noted_on e false h = subst (λ z. ReadSetsOfClient (events ++ q.event ∷ []) e z (g.answered e) (g.ran e)) (sym (t.others.clients e (isnt e c h))) (noted_stays events e q.event (sys.clients e) (g.answered e) (g.ran e) (other_call e c (1 + length events) q.event (λ k. isnt e c h (sym k)) t.by) (g.as_read e))
