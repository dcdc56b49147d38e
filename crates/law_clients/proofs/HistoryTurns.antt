-- A turn of one client keeps all stories.
use Rattle.std.proofs.Common.{◌≡◌, ◌≢◌, ◌+◌, ℕ, Bool, true, false, List, [], ◌∷◌, ◌++◌, map, Some, refl, sym, ap, subst, ◌∙◌, arith}
use Rattle.std.specs.Prelude.{◌==◌, if◌then◌else◌, filter}
use Rattle.std.proofs.lemmas.Bool.Decides.{nat_tests}
use Rattle.law_clients.specs.Types.{Answer, Event, Statement}
use Rattle.sdb_model.specs.Sql.{Reads}
use Rattle.sdb_model.specs.Serial.{AreRead}
use Rattle.sdb_model.specs.Transactions.{Executed, body, is_effective}
use Rattle.law_protocol.specs.Plan.{Plan}
use Rattle.law_protocol.specs.History as laws
use Rattle.law_protocol.specs.History.{Action, Other, Begins, Takes}
use Rattle.law_protocol.specs.Lawful.{Labelled, IsEnabled, id}
use Rattle.law_clients.specs.System.{ClientAt, SystemAt, SystemOk, Has, IsBy, with_begun, with_client}
use Rattle.law_clients.specs.Left.{Execution, BodyIsExecuted}
use Rattle.law_clients.specs.BodyTexts.{BodyExecuted}
use Rattle.law_clients.specs.History.{ClientHistory, HistoryInvariant, HistoryStep, AllStories, OthersUnchanged, IsCounted, with_history}
use Rattle.law_clients.proofs.Clients.{enabled}
use Rattle.law_clients.proofs.Histories.{story_stays, others_apart, others_silent}
use Rattle.std.proofs.lemmas.List.{append-nil as no_more}
use Rattle.sdb_types.proofs.Public.{map_last as told_more}

differ : (m n : ℕ) → m ≢ n → (m == n) ≡ false
differ m n h = grind (arith, nat_tests)

lawful_counts : (plan : ℕ → Plan) (past : List Labelled) (e : Event) (r : Action) → IsEnabled plan past e r → IsCounted r
lawful_counts plan past e Other m = tt
lawful_counts plan past e (Begins t c) m = tt
lawful_counts plan past e (Takes t) m = tt
lawful_counts plan past e (laws.Prepares t k word) m = tt
lawful_counts plan past e (laws.Checks t i) m = tt
lawful_counts plan past e (laws.Decides t word) m = tt
lawful_counts plan past e (laws.Aborts t n word) m = tt
lawful_counts plan past e (laws.Rolls t k d) m = tt
lawful_counts plan past e (laws.Removes k t) m = tt
lawful_counts plan past e (laws.Ends t) m = absurd m
lawful_counts plan past e (laws.Stops c) m = tt

other_story : (plan : ℕ → Plan) (events : List Event) (past : List Labelled) (sys next : SystemAt) (c d : ℕ) (q : Labelled) (x : ClientHistory) → SystemOk plan (q ∷ past) next → IsBy c q.event → OthersUnchanged c sys next → d ≢ c → HistoryInvariant events past sys d x → HistoryStep events past q next d x
other_story plan events past sys next c d q x ok by others apart story =
    let may = enabled plan past c q.event q.action by ok.lawful.1 in
    story_stays events past sys next d x q story (lawful_counts plan past q.event q.action may) (others_apart plan past d c q (λ e. apart (sym e)) by may)
    (record { begun = others.begun d apart; hold = λ t h. subst (λ y. Has y t) (others.clients d apart) h })
    (others_silent events d c q.event (λ e. apart (sym e)) by)

-- Where a turn leaves all so of all clients, and its own client's story goes on, all stories go on.
pub stories_turn : (plan : ℕ → Plan) (events : List Event) (past : List Labelled) (sys next : SystemAt) (c : ℕ) (q : Labelled) (answered : ℕ → ClientHistory) (x : ClientHistory) → SystemOk plan (q ∷ past) next → IsBy c q.event → OthersUnchanged c sys next → AllStories events past sys answered → HistoryStep events past q next c x → AllStories (events ++ q.event ∷ []) (q ∷ past) next (with_history answered c x)
stories_turn plan events past sys next c q answered x ok by others stories own d = on (d == c) refl
  where
    same : (d c : ℕ) → (d == c) ≡ true → c ≡ d
    same d c t = grind (arith, nat_tests)

    apart : (d c : ℕ) → (d == c) ≡ false → d ≢ c
    apart d c f e = absurd (grind (arith, nat_tests))

    on : (b : Bool) → (d == c) ≡ b → HistoryInvariant (events ++ q.event ∷ []) (q ∷ past) next d (if b then x else answered d)
    on true t = subst (λ y. HistoryInvariant (events ++ q.event ∷ []) (q ∷ past) next y x) (same d c t) own
    on false f = other_story plan events past sys next c d q (answered d) ok by others (apart d c f) (stories d)

-- with one client standing elsewhere, or with a transaction more of it
pub client_stands : (sys : SystemAt) (c : ℕ) (x : ClientAt) → OthersUnchanged c sys (with_client sys c x)
client_stands sys c x = record { clients = λ d n. ap (λ b. if b then x else sys.clients d) (differ d c n); begun = λ d n. refl }

pub begun_stands : (sys : SystemAt) (c : ℕ) (x : ClientAt) → OthersUnchanged c sys (with_begun sys c x)
begun_stands sys c x = record { clients = λ d n. ap (λ b. if b then x else sys.clients d) (differ d c n); begun = λ d n. ap (λ b. if b then sys.begun c + 1 else sys.begun d) (differ d c n) }

---- what bodies said

filter_more : (ss : List Executed) (s : Executed) → filter is_effective (ss ++ s ∷ []) ≡ filter is_effective ss ++ (if is_effective s then s ∷ [] else [])
filter_more [] s = by (is_effective s)
  where
    by : (b : Bool) → (if b then s ∷ [] else []) ≡ (if b then s ∷ [] else [])
    by b = refl
filter_more (x ∷ ss) s = by (is_effective x) (filter_more ss s)
  where
    by : (b : Bool) → filter is_effective (ss ++ s ∷ []) ≡ filter is_effective ss ++ (if is_effective s then s ∷ [] else []) → (if b then x ∷ filter is_effective (ss ++ s ∷ []) else filter is_effective (ss ++ s ∷ [])) ≡ (if b then x ∷ filter is_effective ss else filter is_effective ss) ++ (if is_effective s then s ∷ [] else [])
    by true ih = ap (λ r. x ∷ r) ih
    by false ih = ih

read_more : (ss : List Executed) (body : List Statement) (s : Executed) (statement : Statement) → AreRead ss body → Reads s.text statement → AreRead (ss ++ s ∷ []) (body ++ statement ∷ [])
read_more [] [] s statement all here = (here, tt)
read_more [] (b ∷ bs) s statement all here = absurd all
read_more (x ∷ ss) [] s statement all here = absurd all
read_more (x ∷ ss) (b ∷ bs) s statement all here = (all.0, read_more ss bs s statement all.1 here)

-- A statement that changed nothing adds nothing.
pub said_nothing_more : (ss : List Executed) (s : Executed) (r : Execution) → BodyExecuted ss r → is_effective s ≡ false → BodyExecuted (ss ++ s ∷ []) r
said_nothing_more ss s r ok idle = record { read = subst (λ xs. AreRead xs r.body) (sym same) ok.read; answered = ap (map (λ (x : Executed). x.answer)) same ∙ ok.answered }
  where
    same : filter is_effective (ss ++ s ∷ []) ≡ filter is_effective ss
    same = filter_more ss s ∙ ap (λ b. filter is_effective ss ++ (if b then s ∷ [] else [])) idle ∙ no_more (filter is_effective ss)

-- One that changed something is one statement more.
pub said_one_more : (ss : List Executed) (s : Executed) (r next : Execution) (statement : Statement) (a : Answer) → BodyExecuted ss r → is_effective s ≡ true → Reads s.text statement → s.answer ≡ Some a → next.body ≡ r.body ++ statement ∷ [] → next.answers ≡ r.answers ++ a ∷ [] → BodyExecuted (ss ++ s ∷ []) next
said_one_more ss s r next statement a ok effective reads answer body answers = record {
  read = subst (AreRead (filter is_effective (ss ++ s ∷ []))) (sym body) (subst (λ xs. AreRead xs (r.body ++ statement ∷ [])) (sym same) (read_more (filter is_effective ss) r.body s statement ok.read reads));
  answered = ap (map (λ (x : Executed). x.answer)) same ∙ told_more (λ (x : Executed). x.answer) (filter is_effective ss) s ∙ ap (λ xs. xs ++ s.answer ∷ []) ok.answered ∙ ap (λ o. map Some r.answers ++ o ∷ []) answer ∙ sym (told_more Some r.answers a) ∙ ap (map Some) (sym answers);
}
  where
    same : filter is_effective (ss ++ s ∷ []) ≡ filter is_effective ss ++ s ∷ []
    same = filter_more ss s ∙ ap (λ b. filter is_effective ss ++ (if b then s ∷ [] else [])) effective

-- What was said inside of a transaction is said of its body.
pub body_is_said : (events : List Event) (t : ℕ) (ss : List Executed) (r : Execution) → body events (id t) ≡ filter is_effective ss → BodyExecuted ss r → BodyIsExecuted events t r
body_is_said events t ss r is ok = record { read = subst (λ xs. AreRead xs r.body) (sym is) ok.read; answered = ap (map (λ (x : Executed). x.answer)) is ∙ ok.answered }
