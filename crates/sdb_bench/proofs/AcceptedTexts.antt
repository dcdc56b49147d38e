-- Where events follow a script, each client has accepted the texts of its statements in their order.
use Rattle.std.proofs.Common.{◌≡◌, ℕ, zero, suc, ◌+◌, Bool, true, false, cond, List, [], ◌∷◌, ◌++◌, map, take, length, Option, Some, None, refl, sym, ap, subst, ◌∙◌, arith, append-nil}
use Rattle.std.specs.Prelude.{MatchBool, ◌==◌, slice_get, count_by}
use Rattle.std.proofs.lemmas.List.Sums.{sum_by-append, sum_by-cons}
use Rattle.sdb_bench.specs.Types.{Act, Answer, Event, How, Move, Reply, Request, Script, ScriptClient}
use Rattle.sdb_model.specs.declared.event.Event.TheVariants as event
use Rattle.sdb_model.specs.declared.script.Act.TheVariants as act
use Rattle.sdb_model.specs.declared.script.Move.TheVariants as move
use Rattle.sdb_model.specs.Follows.{AreOfMoves, AreStepsOf, Follows, IsActed, IsCallOf, IsHowOfDelay, IsHowOfDiscard, IsHowOfLose, IsHowOfStep, IsLanding, IsOfMove, IsRest, IsStep, IsTakeOf, has_work, in_flight, is_pending, takes_of, is_take_of, texts_of}
use Rattle.sdb_model.specs.Transactions.{Executed, statements_by, statements_after, with_answer}
use Rattle.sdb_types.proofs.Public.{assoc, by_test, eq_of, map_last, none_some, some_is}
use Rattle.law_clients.proofs.Public.{executed_more}

abbrev pub taken_texts : List Executed → List (List ℕ)
taken_texts = map (λ s. s.text)

-- the texts that each client has accepted are the first of its script
abbrev pub AreTaken : List ScriptClient → List Event → Type 0
AreTaken clients past = (c : ℕ) → taken_texts (statements_by c past) ≡ take (takes_of c past) (texts_of clients c)

-- a text that is accepted is its client's next one
abbrev pub MayCome : List ScriptClient → List Event → Event → Type 0
MayCome clients past (event.Take c text answer) = slice_get (texts_of clients c) (takes_of c past) ≡ Some text
MayCome clients past _ = Unit {0}

---- one event

take_next : (xs : List (List ℕ)) (k : ℕ) (x : List ℕ) → slice_get xs k ≡ Some x → take (k + 1) xs ≡ take k xs ++ x ∷ []
take_next [] k x e = none_some x e
take_next (y ∷ ys) zero x e = ap (λ (z : List ℕ). z ∷ []) (some_is y x e)
take_next (y ∷ ys) (suc k) x e =
    let more : suc k + 1 ≡ suc (k + 1) = omega arith in
    ap (λ (n : ℕ). take n (y ∷ ys)) more ∙ ap (λ (zs : List (List ℕ)). y ∷ zs) (take_next ys k x e)

abbrev pub one_if : Bool → ℕ
one_if b = cond b 1 0

counted_more : (p : Event → Bool) (es : List Event) (e : Event) → count_by p (es ++ e ∷ []) ≡ count_by p es + one_if (p e)
counted_more p es e =
    let both : count_by p (es ++ e ∷ []) ≡ count_by p es + count_by p (e ∷ []) = sum_by-append (λ (x : Event). cond (p x) 1 0) es (e ∷ []) in
    let last : count_by p (e ∷ []) ≡ one_if (p e) + count_by p [] = sum_by-cons (λ (x : Event). cond (p x) 1 0) e [] in
    let none : count_by p [] ≡ 0 = refl in
    both ∙ ap (λ (n : ℕ). count_by p es + n) (last ∙ ap (λ (n : ℕ). one_if (p e) + n) none ∙ omega arith)

taken_more : (c : ℕ) (es : List Event) (e : Event) → takes_of c (es ++ e ∷ []) ≡ takes_of c es + one_if (is_take_of c e)
taken_more c es e = counted_more (is_take_of c) es e

same_texts : (ss : List Executed) (n : ℕ) (a : Answer) → taken_texts (with_answer ss n a) ≡ taken_texts ss
same_texts [] n a = refl
same_texts (s ∷ []) n a = refl
same_texts (s ∷ t ∷ ss) n a = ap (λ (xs : List (List ℕ)). s.text ∷ xs) (same_texts (t ∷ ss) n a)

plain : (n : ℕ) → n ≡ n + 0
plain n = omega arith

-- the texts of a client after one event
event_more : (clients : List ScriptClient) (c : ℕ) (past : List Event) (n : ℕ) (e : Event) → MayCome clients past e
    → taken_texts (statements_by c past) ≡ take (takes_of c past) (texts_of clients c)
    → taken_texts (statements_after c (statements_by c past) (n, e)) ≡ take (takes_of c past + one_if (is_take_of c e)) (texts_of clients c)
event_more clients c past n (event.Take d text answer) may h =
    let s : Executed = record { accepted = n; text = text; answer = answer; reached = n } in
    by_test (d == c)
    (λ t.
    let here : slice_get (texts_of clients c) (takes_of c past) ≡ Some text = subst (λ (x : ℕ). slice_get (texts_of clients x) (takes_of x past) ≡ Some text) (eq_of d c t) may in
    rw t (map_last (λ (x : Executed). x.text) (statements_by c past) s ∙ ap (λ (ts : List (List ℕ)). ts ++ text ∷ []) h ∙ sym (take_next (texts_of clients c) (takes_of c past) text here)))
    (λ t. rw t (h ∙ ap (λ (m : ℕ). take m (texts_of clients c)) (plain (takes_of c past))))
event_more clients c past n (event.Call d store q how r (Some a)) may h =
    by_test (d == c)
    (λ t. rw t (same_texts (statements_by c past) n a ∙ h ∙ ap (λ (m : ℕ). take m (texts_of clients c)) (plain (takes_of c past))))
    (λ t. rw t (h ∙ ap (λ (m : ℕ). take m (texts_of clients c)) (plain (takes_of c past))))
event_more clients c past n (event.Call d store q how r None) may h = h ∙ ap (λ (m : ℕ). take m (texts_of clients c)) (plain (takes_of c past))
event_more clients c past n (event.Stop d) may h = h ∙ ap (λ (m : ℕ). take m (texts_of clients c)) (plain (takes_of c past))
event_more clients c past n (event.Clock d) may h = h ∙ ap (λ (m : ℕ). take m (texts_of clients c)) (plain (takes_of c past))
event_more clients c past n (event.Alter table column kind altered) may h = h ∙ ap (λ (m : ℕ). take m (texts_of clients c)) (plain (takes_of c past))
event_more clients c past n (event.Idle d) may h = h ∙ ap (λ (m : ℕ). take m (texts_of clients c)) (plain (takes_of c past))
event_more clients c past n (event.Land k store q how r) may h = h ∙ ap (λ (m : ℕ). take m (texts_of clients c)) (plain (takes_of c past))

one_more : (clients : List ScriptClient) (past : List Event) (e : Event) → MayCome clients past e → AreTaken clients past → AreTaken clients (past ++ e ∷ [])
one_more clients past e may h c =
    ap taken_texts (executed_more c past e)
    ∙ event_more clients c past (1 + length past) e may (h c)
    ∙ ap (λ (m : ℕ). take m (texts_of clients c)) (sym (taken_more c past e))

---- the events of a move

step_may : (clients : List ScriptClient) (c : ℕ) (allowed : How → Reply → Type 0) (past : List Event) (e : Event) (works waits : Bool)
    → MatchBool works (MatchBool waits (IsCallOf c allowed e) (IsTakeOf clients c past e)) (e ≡ event.Idle c) → MayCome clients past e
step_may clients c allowed past (event.Call d store q how r a) true true h = tt
step_may clients c allowed past (event.Take d text a) true true h = absurd h
step_may clients c allowed past (event.Stop d) true true h = absurd h
step_may clients c allowed past (event.Clock d) true true h = absurd h
step_may clients c allowed past (event.Alter table column kind altered) true true h = absurd h
step_may clients c allowed past (event.Idle d) true true h = absurd h
step_may clients c allowed past (event.Land k store q how r) true true h = absurd h
step_may clients c allowed past (event.Take d text a) true false h = subst (λ (x : ℕ). slice_get (texts_of clients x) (takes_of x past) ≡ Some text) (sym h.0) h.1
step_may clients c allowed past (event.Call d store q how r a) true false h = tt
step_may clients c allowed past (event.Stop d) true false h = tt
step_may clients c allowed past (event.Clock d) true false h = tt
step_may clients c allowed past (event.Alter table column kind altered) true false h = tt
step_may clients c allowed past (event.Idle d) true false h = tt
step_may clients c allowed past (event.Land k store q how r) true false h = tt
step_may clients c allowed past e false waits h = subst (MayCome clients past) (sym h) tt

stepped : (clients : List ScriptClient) (c : ℕ) (allowed : How → Reply → Type 0) (past : List Event) (e : Event) → IsStep clients c allowed past e → AreTaken clients past → AreTaken clients (past ++ e ∷ [])
stepped clients c allowed past e h = one_more clients past e (step_may clients c allowed past e (has_work clients c past) (is_pending c past) h)

-- a landing takes no text
landing_may : (clients : List ScriptClient) (k : ℕ) (past : List Event) (e : Event) (asked : Option Request) → IsLanding k asked e → MayCome clients past e
landing_may clients k past e None h = subst (MayCome clients past) (sym h) tt
landing_may clients k past (event.Take c text answer) (Some q) h = absurd h
landing_may clients k past (event.Call c store q how r a) (Some asked) h = tt
landing_may clients k past (event.Stop c) (Some q) h = tt
landing_may clients k past (event.Clock moment) (Some q) h = tt
landing_may clients k past (event.Alter table column kind altered) (Some q) h = tt
landing_may clients k past (event.Idle c) (Some q) h = tt
landing_may clients k past (event.Land n store q how r) (Some asked) h = tt

acted : (script : Script) (a : Act) (past : List Event) (e : Event) → IsActed script a past e → AreTaken script.clients past → AreTaken script.clients (past ++ e ∷ [])
acted script (act.Step c) past e h = stepped script.clients c IsHowOfStep past e h
acted script (act.Lose c) past e h = stepped script.clients c IsHowOfLose past e h
acted script (act.Discard c) past e h = stepped script.clients c IsHowOfDiscard past e h
acted script (act.Delay c) past e h = stepped script.clients c IsHowOfDelay past e h
acted script (act.Land k) past e h = one_more script.clients past e (landing_may script.clients k past e (in_flight k past) h)
acted script (act.Stop c) past e h = one_more script.clients past e (subst (MayCome script.clients past) (sym h) tt)
acted script (act.Clock m) past e h = one_more script.clients past e (subst (MayCome script.clients past) (sym h) tt)
acted script (act.Alter table column kind) past e h = one_more script.clients past e (subst (MayCome script.clients past) (sym h.1) tt)

steps_taken : (clients : List ScriptClient) (c : ℕ) (past es : List Event) → AreStepsOf clients c past es → AreTaken clients past → AreTaken clients (past ++ es)
steps_taken clients c past [] h t = subst (AreTaken clients) (sym (append-nil past)) t
steps_taken clients c past (e ∷ es) h t = subst (AreTaken clients) (assoc past (e ∷ []) es) (steps_taken clients c (past ++ e ∷ []) es h.1 (stepped clients c IsHowOfStep past e h.0 t))

rest_taken : (clients : List ScriptClient) (c : ℕ) (past es : List Event) → IsRest clients c past es → AreTaken clients past → AreTaken clients (past ++ es)
rest_taken clients c past [] h t = subst (AreTaken clients) (sym (append-nil past)) t
rest_taken clients c past (e ∷ es) (d, turn, step, rest) t =
    subst (AreTaken clients) (assoc past (e ∷ []) es) (rest_taken clients (d + 1) (past ++ e ∷ []) es rest (stepped clients d IsHowOfStep past e step t))

move_taken : (script : Script) (m : Move) (past es : List Event) → IsOfMove script m past es → AreTaken script.clients past → AreTaken script.clients (past ++ es)
move_taken script (move.Act a) past es (e, one, h) t = subst (λ (xs : List Event). AreTaken script.clients (past ++ xs)) (sym one) (acted script a past e h t)
move_taken script (move.Repeat c times) past es h t = steps_taken script.clients c past es h.1 t
move_taken script move.Rest past es h t = rest_taken script.clients 1 past es h t

moves_taken : (script : Script) (ms : List Move) (past es : List Event) → AreOfMoves script ms past es → AreTaken script.clients past → AreTaken script.clients (past ++ es)
moves_taken script [] past es h t = subst (AreTaken script.clients) (sym (ap (λ (xs : List Event). past ++ xs) h ∙ append-nil past)) t
moves_taken script (m ∷ ms) past es (front, back, whole, moved, rest) t =
    subst (AreTaken script.clients) (assoc past front back ∙ ap (λ (xs : List Event). past ++ xs) (sym whole)) (moves_taken script ms (past ++ front) back rest (move_taken script m past front moved t))

pub all_taken : (script : Script) (es : List Event) → Follows script es → AreTaken script.clients es
all_taken script es h = moves_taken script script.moves [] es h (λ c. refl)
