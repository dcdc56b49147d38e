-- Each event keeps a client's story, and a story files what the client said.
use Rattle.std.proofs.Common.{◌≡◌, ◌≢◌, ◌<◌, ◌+◌, ℕ, zero, suc, false, List, [], ◌∷◌, ◌++◌, length, Option, Some, None, refl, sym, ap, subst, ◌∙◌, arith, inr}
use Rattle.std.specs.Prelude.{if◌then◌else◌, ◌==◌, fold}
use Rattle.std.specs.List.{enumerate_from}
use Rattle.std.proofs.lemmas.List.Sums.{fold-append}
use Rattle.std.proofs.lemmas.Bool.Decides.{nat_tests}
use Rattle.sdb_model.specs.declared.event.Event.{Event}
use Rattle.sdb_model.specs.declared.event.Event.TheVariants as event
use Rattle.sdb_model.specs.Transactions.{statements_by, statements_after, with_answer, numbered}
use Rattle.law_protocol.specs.Plan.{Plan}
use Rattle.law_protocol.specs.History as laws
use Rattle.law_protocol.specs.History.{Action, Other, Begins, Takes, ProtocolState, state_after_event}
use Rattle.law_protocol.specs.Lawful.{Labelled, IsEnabled, protocol_state, ended}
use Rattle.law_clients.specs.System.{SystemAt, IsBy}
use Rattle.law_clients.proofs.Foreign.{IsForeign, foreign}
use Rattle.law_clients.specs.Story.{Finished, Rest, Closed, Opened, txn_ended_at}
use Rattle.law_clients.specs.Filed.{number, IsFiledAt}
use Rattle.law_clients.specs.History.{ClientHistory, begun_in, count_of, OpenFiled, IsOpened, HasBegun, HistoryInvariant, IsNotOf, IsApart, KeepsTxns, IsCounted}
use Rattle.sdb_types.proofs.Public.{length_more}

---- one event more

pub numbers_more : (n : ℕ) (es : List Event) (e : Event) → enumerate_from n (es ++ e ∷ []) ≡ enumerate_from n es ++ (n + length es, e) ∷ []
numbers_more n [] e = ap (λ m. (m, e) ∷ []) (sym (plus n))
  where
    plus : (n : ℕ) → n + 0 ≡ n
    plus n = omega arith
numbers_more n (x ∷ es) e = ap (λ r. (n, x) ∷ r) (numbers_more (n + 1) es e ∙ ap (λ m. enumerate_from (n + 1) es ++ (m, e) ∷ []) (plus n (length es)))
  where
    plus : (n m : ℕ) → (n + 1) + m ≡ n + suc m
    plus n m = omega arith

pub executed_more : (c : ℕ) (es : List Event) (e : Event) → statements_by c (es ++ e ∷ []) ≡ statements_after c (statements_by c es) (1 + length es, e)
executed_more c es e = ap (fold (statements_after c) []) (numbers_more 1 es e) ∙ fold-append (statements_after c) [] (numbered es) ((1 + length es, e) ∷ [])

counted : (h : ProtocolState) (r : Action) → IsCounted r → (state_after_event h r).now ≡ h.now + 1
counted h r c = grind (arith, nat_tests)

ended_now : (h : ProtocolState) (o : Option ℕ) → (ended h o).now ≡ h.now
ended_now h None = refl
ended_now h (Some t) = refl

pub now_more : (events : List Event) (past : List Labelled) (q : Labelled) (e : Event) → IsCounted q.action → (protocol_state past).now ≡ length events → (protocol_state (q ∷ past)).now ≡ length (events ++ e ∷ [])
now_more events past q e c now = ended_now (state_after_event (protocol_state past) q.action) q.ends ∙ counted (protocol_state past) q.action c ∙ ap (λ n. n + 1) now ∙ sym (length_more events e)

---- what is filed stays

pub record SameOf (t : ℕ) (h v : ProtocolState) : Type 0 where
  pub begun : v.begun t ≡ h.begun t
  pub owner : v.owner t ≡ h.owner t
  pub accepted : v.accepted t ≡ h.accepted t
  pub accepted_at : v.accepted_at t ≡ h.accepted_at t

same_begun : (h : ProtocolState) (r : Action) (t : ℕ) → IsNotOf t r → (state_after_event h r).begun t ≡ h.begun t
same_begun h r t n = grind (arith, nat_tests)

same_owner : (h : ProtocolState) (r : Action) (t : ℕ) → IsNotOf t r → (state_after_event h r).owner t ≡ h.owner t
same_owner h r t n = grind (arith, nat_tests)

same_taken : (h : ProtocolState) (r : Action) (t : ℕ) → IsNotOf t r → (state_after_event h r).accepted t ≡ h.accepted t
same_taken h r t n = grind (arith, nat_tests)

same_taken_at : (h : ProtocolState) (r : Action) (t : ℕ) → IsNotOf t r → (state_after_event h r).accepted_at t ≡ h.accepted_at t
same_taken_at h r t n = grind (arith, nat_tests)

pub same_of : (past : List Labelled) (q : Labelled) (t : ℕ) → IsNotOf t q.action → SameOf t (protocol_state past) (protocol_state (q ∷ past))
same_of past q t n = by q.ends
  where
    by : (o : Option ℕ) → SameOf t (protocol_state past) (ended (state_after_event (protocol_state past) q.action) o)
    by None = record { begun = same_begun (protocol_state past) q.action t n; owner = same_owner (protocol_state past) q.action t n; accepted = same_taken (protocol_state past) q.action t n; accepted_at = same_taken_at (protocol_state past) q.action t n }
    by (Some u) = record { begun = same_begun (protocol_state past) q.action t n; owner = same_owner (protocol_state past) q.action t n; accepted = same_taken (protocol_state past) q.action t n; accepted_at = same_taken_at (protocol_state past) q.action t n }

pub filed_later : (past : List Labelled) (q : Labelled) (t : ℕ) (f : Finished) → SameOf t (protocol_state past) (protocol_state (q ∷ past)) → IsFiledAt past t f → IsFiledAt (q ∷ past) t f
filed_later past q t f s filed = record {
  begun = s.begun ∙ filed.begun;
  accepted = λ h. let x = filed.accepted (sym s.accepted ∙ h) in (x.0, x.1 ∙ sym s.accepted_at);
  answered = λ a. inr (filed.answered a);
  denied = λ a statements_by denial h. inr (filed.denied a statements_by denial (sym s.accepted ∙ h));
  unknown = filed.unknown;
}

pub begun_later : (past : List Labelled) (q : Labelled) (c k : ℕ) → SameOf (number c k) (protocol_state past) (protocol_state (q ∷ past)) → HasBegun past c k → HasBegun (q ∷ past) c k
begun_later past q c k s h = record { begun = λ e. h.begun (sym s.begun ∙ e); owner = s.owner ∙ h.owner; client = h.client; ordinal = h.ordinal }

pub within : (fs : List Finished) (k : ℕ) (f : Finished) (n : ℕ) → txn_ended_at fs k ≡ Some f → k < length fs + n
within [] k f n e = absurd (cc)
within (g ∷ fs) zero f n e = positive (length fs) n
  where
    positive : (m n : ℕ) → 0 < suc m + n
    positive m n = omega arith
within (g ∷ fs) (suc k) f n e = more k (length fs) n (within fs k f n e)
  where
    more : (k m n : ℕ) → k < m + n → suc k < suc m + n
    more k m n l = omega arith

-- the event is apart from each that has begun
pub apart_at : (events : List Event) (past : List Labelled) (sys : SystemAt) (c : ℕ) (x : ClientHistory) (q : Labelled) (k : ℕ) → HistoryInvariant events past sys c x → IsApart past c q.action → k < count_of x → SameOf (number c k) (protocol_state past) (protocol_state (q ∷ past))
apart_at events past sys c x q k story apart l = let h = story.alive k l in same_of past q (number c k) (apart (number c k) h.owner h.begun)

pub open_later : (past : List Labelled) (q : Labelled) (c : ℕ) (x : ClientHistory) (r : Rest) → (IsOpened r → SameOf (number c (length x.whole)) (protocol_state past) (protocol_state (q ∷ past))) → OpenFiled past c x r → OpenFiled (q ∷ past) c x r
open_later past q c x (Closed gap) s ok = tt
open_later past q c x (Opened gap b body) s ok = let same = s tt in (same.begun ∙ ok.0, λ h. let w = ok.1 (sym same.accepted ∙ h) in (w.0, w.1, w.2, w.3 ∙ sym same.accepted_at))

pub opened_counts : (m : ℕ) (r : Rest) → IsOpened r → m < m + begun_in r
opened_counts m (Closed gap) o = absurd o
opened_counts m (Opened gap b body) o = omega arith

-- An event that says nothing of a client, and is apart from its transactions, leaves its story.
pub story_stays : (events : List Event) (past : List Labelled) (sys next : SystemAt) (c : ℕ) (x : ClientHistory) (q : Labelled) → HistoryInvariant events past sys c x → IsCounted q.action → IsApart past c q.action → KeepsTxns c sys next → statements_by c (events ++ q.event ∷ []) ≡ statements_by c events → HistoryInvariant (events ++ q.event ∷ []) (q ∷ past) next c x
story_stays events past sys next c x q story counts apart keeps nothing = record {
  now = now_more events past q q.event counts story.now;
  same = nothing ∙ story.same;
  ok = story.ok;
  rest_ok = story.rest_ok;
  waits = story.waits;
  count = keeps.begun ∙ story.count;
  alive = λ k l. begun_later past q c k (apart_at events past sys c x q k story apart l) (story.alive k l);
  filed = λ k f e. filed_later past q (number c k) f (apart_at events past sys c x q k story apart (within x.whole k f (begun_in x.rest) e)) (story.filed k f e);
  opened = open_later past q c x x.rest (λ o. apart_at events past sys c x q (length x.whole) story apart (opened_counts (length x.whole) x.rest o)) story.opened;
  hold = λ t h. story.hold t (keeps.hold t h);
}

---- what says nothing of a client

-- another client's lawful event is apart from its transactions
pub others_apart : (plan : ℕ → Plan) (past : List Labelled) (c d : ℕ) (q : Labelled) → d ≢ c → IsBy d q.event → IsEnabled plan past q.event q.action → IsApart past c q.action
others_apart plan past c d q apart by may t owner begun = by_role q.action (foreign plan past c d t q.event q.action owner begun apart by may)
  where
    by_role : (r : Action) → IsForeign t c r → IsNotOf t r
    by_role Other f = tt
    by_role (Begins u e) f = f
    by_role (Takes u) f = f
    by_role (laws.Prepares u k word) f = tt
    by_role (laws.Checks u i) f = tt
    by_role (laws.Decides u word) f = tt
    by_role (laws.Aborts u m word) f = tt
    by_role (laws.Rolls u k e) f = tt
    by_role (laws.Removes k u) f = tt
    by_role (laws.Ends u) f = tt
    by_role (laws.Stops e) f = tt

-- and says nothing of it
pub others_silent : (events : List Event) (c d : ℕ) (e : Event) → d ≢ c → IsBy d e → statements_by c (events ++ e ∷ []) ≡ statements_by c events
others_silent events c d e apart by = executed_more c events e ∙ silent e by
  where
    other : (b : ℕ) → b ≡ d → (b == c) ≡ false
    other b e = subst (λ y. (y == c) ≡ false) (sym e) (differ d c apart)
      where
        differ : (m n : ℕ) → m ≢ n → (m == n) ≡ false
        differ m n h = grind (arith, nat_tests)

    silent : (e : Event) → IsBy d e → statements_after c (statements_by c events) (1 + length events, e) ≡ statements_by c events
    silent (event.Take b text a) by = ap (λ t. if t then statements_by c events ++ record { accepted = 1 + length events; text = text; answer = a; reached = 1 + length events } ∷ [] else statements_by c events) (other b by)
    silent (event.Call b store q how r None) by = refl
    silent (event.Call b store q how r (Some a)) by = ap (λ t. if t then with_answer (statements_by c events) (1 + length events) a else statements_by c events) (other b by)
    silent (event.Stop b) by = refl
    silent (event.Clock moment) by = refl
    silent (event.Idle b) by = refl
    silent (event.Land number store q how r) by = absurd by
    silent (event.Alter table column kind altered) by = absurd by
