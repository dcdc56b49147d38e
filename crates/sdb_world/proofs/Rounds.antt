-- Turns and moves, one after the other.
use Rattle.std.proofs.Common.{◌≡◌, ◌⊎◌, inl, inr, ℕ, zero, suc, ◌+◌, ◌<◌, ◌≤◌, false, List, [], ◌∷◌, ◌++◌, length, take, Some, Result, refl, sym, ap, subst, ◌∙◌, arith, append_assoc, add-one}
use Rattle.std.specs.Prelude.{OnOk, slice_get}
use Rattle.std.proofs.lemmas.List.{append-nil, length-append}
use Rattle.sdb_world.specs.Types.{Act, Event, Move, Script, ScriptClient}
use Rattle.sdb_model.specs.declared.script.Act.TheVariants as act
use Rattle.sdb_model.specs.declared.script.Move.TheVariants as move
use Rattle.sdb_model.specs.Follows.{AllIdle, AreOfMoves, AreStepsOf, IsHowOfStep, IsOfMove, IsRest, IsStep, IsTurn, end_of, has_work}
use Rattle.sdb_stores.specs.Views.{Attached}
use Rattle.sdb_contents.proofs.Public.{take_suc}
use Rattle.law_runs.specs.World.{WorldAt}
use Rattle.sdb_world.specs.Step.{AreSteps, CanAct, CanMove, HasActed, HasMadeMove, IsNumber, IsOne}
use Rattle.sdb_world.proofs.Goes.{come_as}
use Rattle.sdb_world.proofs.Takings.{on_ok}

---- who is idle

up_to : (a b : ℕ) → a ≤ b → (a < b) ⊎ (a ≡ b)
up_to zero zero h = inr refl
up_to zero (suc b) h = inl (omega arith)
up_to (suc a) zero h = absurd (omega arith)
up_to (suc a) (suc b) h = elim (up_to a b (omega (arith, h))) [
  | inl l ↦ inl (omega (arith, l))
  | inr e ↦ inr (ap suc e)
]

-- none is among none
pub idle_none : (clients : List ScriptClient) (past : List Event) (low : ℕ) → AllIdle clients past low low
idle_none clients past low d among = absurd (omega (arith, among.0, among.1))

-- one client more
pub idle_more : (clients : List ScriptClient) (past : List Event) (low c : ℕ) → AllIdle clients past low c → has_work clients c past ≡ false → AllIdle clients past low (c + 1)
idle_more clients past low c before none d among = elim (up_to d c (omega (arith, among.1))) [
  | inl less ↦ before d (among.0, less)
  | inr same ↦ subst (λ (n : ℕ). has_work clients n past ≡ false) (sym same) none
]

-- those up to a lower number
pub idle_up_to : (clients : List ScriptClient) (past : List Event) (low high c : ℕ) → high ≤ c → AllIdle clients past low c → AllIdle clients past low high
idle_up_to clients past low high c h none d among = none d (among.0, omega (arith, among.1, h))

split_at : (a b : ℕ) → (a < b) ⊎ (b ≤ a)
split_at zero zero = inr (omega arith)
split_at zero (suc b) = inl (omega arith)
split_at (suc a) zero = inr (omega arith)
split_at (suc a) (suc b) = elim (split_at a b) [
  | inl l ↦ inl (omega (arith, l))
  | inr g ↦ inr (omega (arith, g))
]

-- those up to a number, and those from it on
pub idle_all : (clients : List ScriptClient) (past : List Event) (low from high : ℕ) → AllIdle clients past from high → AllIdle clients past low from → AllIdle clients past low high
idle_all clients past low from high later early d among = elim (split_at d from) [
  | inl less ↦ early d (among.0, less)
  | inr more ↦ later d (more, among.1)
]

-- the client whose turn it is has a number
pub turn_number : (clients : List ScriptClient) (past : List Event) (from c : ℕ) → 0 < from → from ≤ end_of clients → IsTurn clients past from c → (0 < c) × (c ≤ length clients)
turn_number clients past from c low high turn = elim turn.1 [
  | inl here ↦ (omega (arith, low, here.0.0), omega (arith, here.0.1))
  | inr round ↦ (omega (arith, round.0.0), omega (arith, round.0.1, high))
]

---- steps and rounds

-- a step of one client, at equal clients and events
step_at : (clients later : List ScriptClient) (c : ℕ) (then now : List Event) (e : Event) → later ≡ clients → now ≡ then → IsStep later c IsHowOfStep now e → IsStep clients c IsHowOfStep then e
step_at clients later c then now e same at step = subst (λ (xs : List Event). IsStep clients c IsHowOfStep xs e) at (subst (λ (cs : List ScriptClient). IsStep cs c IsHowOfStep now e) same step)

turn_at : (clients later : List ScriptClient) (from c : ℕ) (then now : List Event) → later ≡ clients → now ≡ then → IsTurn later now from c → IsTurn clients then from c
turn_at clients later from c then now same at turn = subst (λ (xs : List Event). IsTurn clients xs from c) at (subst (λ (cs : List ScriptClient). IsTurn cs now from c) same turn)

-- steps of one client, and more of them
pub steps_on : (clients : List ScriptClient) (c : ℕ) (past es more : List Event) → AreStepsOf clients c past es → AreStepsOf clients c (past ++ es) more → AreStepsOf clients c past (es ++ more)
steps_on clients c past [] more h k = subst (λ (xs : List Event). AreStepsOf clients c xs more) (append-nil past) k
steps_on clients c past (e ∷ es) more h k = (h.0, steps_on clients c (past ++ e ∷ []) es more h.1 (subst (λ (xs : List Event). AreStepsOf clients c xs more) (sym (append_assoc past (e ∷ []) es)) k))

-- so many steps, and one more
pub steps_more : (clients : List ScriptClient) (later : Script) (c i : ℕ) (past now es more : List Event) → later.clients ≡ clients → now ≡ past ++ es → AreSteps clients c i past es → IsOne later (act.Step c) now more → AreSteps clients c (i + 1) past (es ++ more)
steps_more clients later c i past now es more same at h k =
    let step : IsStep clients c IsHowOfStep (past ++ es) k.event = step_at clients later.clients c (past ++ es) now k.event same at k.acted in
    let count : length more ≡ 1 = ap length k.lone in
    record {
      count = omega (arith, length-append es more, h.count, count);
      steps = steps_on clients c past es more h.steps (subst (λ (xs : List Event). AreStepsOf clients c (past ++ es) xs) (sym k.lone) (step, tt));
    }

-- What is left of a rest, where a client's turn is next: whatever rests then rests from the start.
abbrev pub Rests : List ScriptClient → List Event → List Event → ℕ → Type 0
Rests clients past es from = (more : List Event) → IsRest clients from (past ++ es) more → IsRest clients 1 past (es ++ more)

pub rests_first : (clients : List ScriptClient) (past : List Event) → Rests clients past [] 1
rests_first clients past more h = subst (λ (xs : List Event). IsRest clients 1 xs more) (append-nil past) h

-- one step more
pub rests_more : (clients : List ScriptClient) (past es : List Event) (from client : ℕ) (e : Event) → Rests clients past es from → IsTurn clients (past ++ es) from client → IsStep clients client IsHowOfStep (past ++ es) e → Rests clients past (es ++ e ∷ []) (client + 1)
rests_more clients past es from client e before turn step more h =
    subst (λ (xs : List Event). IsRest clients 1 past xs) (sym (append_assoc es (e ∷ []) more))
    (before (e ∷ more) (client, turn, step, subst (λ (xs : List Event). IsRest clients (client + 1) xs more) (sym (append_assoc past es (e ∷ []))) h))

-- the step of the client whose turn it is
pub rests_on : (clients : List ScriptClient) (later : Script) (from c : ℕ) (past now es more : List Event) → later.clients ≡ clients → now ≡ past ++ es → Rests clients past es from → IsTurn later.clients now from c → IsOne later (act.Step c) now more → Rests clients past (es ++ more) (c + 1)
rests_on clients later from c past now es more same at before turn k =
    subst (λ (xs : List Event). Rests clients past (es ++ xs) (c + 1)) (sym k.lone)
    (rests_more clients past es from c k.event before (turn_at clients later.clients from c (past ++ es) now same at turn) (step_at clients later.clients c (past ++ es) now k.event same at k.acted))

-- none has work
pub rests_end : (clients : List ScriptClient) (past es : List Event) (from : ℕ) → Rests clients past es from → AllIdle clients (past ++ es) 1 (end_of clients) → IsRest clients 1 past es
rests_end clients past es from before none = subst (λ (xs : List Event). IsRest clients 1 past xs) (append-nil es) (before [] none)

-- none has work, at equal clients and events
pub rests_all : (clients later : List ScriptClient) (from : ℕ) (past now es : List Event) → later ≡ clients → now ≡ past ++ es → Rests clients past es from → AllIdle later now 1 (end_of later) → IsRest clients 1 past es
rests_all clients later from past now es same at before none =
    rests_end clients past es from before (subst (λ (xs : List Event). AllIdle clients xs 1 (end_of clients)) at (subst (λ (cs : List ScriptClient). AllIdle cs now 1 (end_of cs)) same none))

---- moves

pub can_act : (script : Script) (m : Move) (a : Act) → m ≡ move.Act a → CanMove script m → CanAct script a
can_act script m a e can = subst (λ (x : Move). CanMove script x) e can

pub can_repeat : (script : Script) (m : Move) (c times : ℕ) → m ≡ move.Repeat c times → CanMove script m → IsNumber script c
can_repeat script m c times e can = subst (λ (x : Move). CanMove script x) e can

-- what an act gives is of the move that is that act
pub act_moved : {T E : Type 0} (m : Move) (a : Act) (r : Result T E) (old new : Attached) (w v : WorldAt) → m ≡ move.Act a → OnOk r (HasActed a old new w v) → OnOk r (HasMadeMove m old new w v)
act_moved m a r old new w v is acted =
    on_ok r acted (λ h. subst (λ (x : Move). HasMadeMove x old new w v) (sym is) (come_as (IsOne w.script a w.events) (IsOfMove w.script (move.Act a) w.events) old new w v h (λ es came one. (one.event, one.lone, one.acted))))

pub moved_on : (script : Script) (ms : List Move) (m : Move) (past es more : List Event) → AreOfMoves script ms past es → IsOfMove script m (past ++ es) more → AreOfMoves script (ms ++ m ∷ []) past (es ++ more)
moved_on script [] m past es more h k =
    subst (λ (xs : List Event). AreOfMoves script (m ∷ []) past (xs ++ more)) (sym h)
    (more, [], sym (append-nil more), subst (λ (xs : List Event). IsOfMove script m xs more) (ap (λ (xs : List Event). past ++ xs) h ∙ append-nil past) k, refl)
moved_on script (x ∷ xs) m past es more (front, back, same, first, rest) k = (
  front,
  back ++ more,
  ap (λ (ys : List Event). ys ++ more) same ∙ append_assoc front back more,
  first,
  moved_on script xs m (past ++ front) back more rest (subst (λ (ys : List Event). IsOfMove script m ys more) (ap (λ (ys : List Event). past ++ ys) same ∙ sym (append_assoc past front back)) k),
)

-- the first i moves and the next
pub moves_more : (script : Script) (ms : List Move) (i : ℕ) (m : Move) (past es more : List Event) → slice_get ms i ≡ Some m → AreOfMoves script (take i ms) past es → IsOfMove script m (past ++ es) more → AreOfMoves script (take (suc i) ms) past (es ++ more)
moves_more script ms i m past es more here h k = subst (λ (xs : List Move). AreOfMoves script xs past (es ++ more)) (sym (take_suc ms i m here)) (moved_on script (take i ms) m past es more h k)

-- the next move, at equal scripts and events
pub follows_more : (script later : Script) (i : ℕ) (m : Move) (past now es more : List Event) → later ≡ script → now ≡ past ++ es → slice_get later.moves i ≡ Some m → AreOfMoves script (take i script.moves) past es → IsOfMove later m now more
    → AreOfMoves script (take (i + 1) script.moves) past (es ++ more)
follows_more script later i m past now es more same at here h k =
    subst (λ (n : ℕ). AreOfMoves script (take n script.moves) past (es ++ more)) (sym (add-one i))
    (moves_more script script.moves i m past es more (subst (λ (x : Script). slice_get x.moves i ≡ Some m) same here) h
    (subst (λ (xs : List Event). IsOfMove script m xs more) at (subst (λ (x : Script). IsOfMove x m now more) same k)))
