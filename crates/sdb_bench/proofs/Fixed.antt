-- No event of a bench adds a column: its tables stay.
use Rattle.std.proofs.Common.{◌≡◌, ℕ, ◌+◌, Bool, true, false, List, [], ◌∷◌, ◌++◌, take, drop, Option, None, refl, sym, ap, subst, ◌∙◌}
use Rattle.std.specs.Prelude.{MatchBool}
use Rattle.std.specs.List.{AllByRecursion, cons_option}
use Rattle.sdb_types.proofs.Public.{append_all}
use Rattle.sdb_bench.specs.Types.{Act, Event, How, Move, Reply, Script, ScriptClient, Table}
use Rattle.sdb_model.specs.declared.event.Altered.TheVariants as altered
use Rattle.sdb_model.specs.declared.event.Event.TheVariants as event
use Rattle.sdb_model.specs.declared.script.Act.TheVariants as act
use Rattle.sdb_model.specs.declared.script.Move.TheVariants as move
use Rattle.sdb_model.specs.Catalogs.{added, catalog_after}
use Rattle.sdb_model.specs.Follows.{AreOfMoves, AreStepsOf, IsCallOf, IsHowOfStep, IsOfMove, IsRest, IsStep, IsTakeOf, has_work, is_pending}
use Rattle.sdb_model.specs.Serial.{Step, addition, additions}
use Rattle.sdb_bench.specs.Script.{IsOfNine}
use Rattle.law_clients.proofs.Public.{drop_all, take_all}

abbrev pub AddsNone : Event → Type 0
AddsNone e = addition e ≡ None

---- the events of a move

step_adds_none : (clients : List ScriptClient) (c : ℕ) (allowed : How → Reply → Type 0) (past : List Event) (e : Event) (works waits : Bool)
    → MatchBool works (MatchBool waits (IsCallOf c allowed e) (IsTakeOf clients c past e)) (e ≡ event.Idle c) → AddsNone e
step_adds_none clients c allowed past (event.Call d store q how r a) works waits h = refl
step_adds_none clients c allowed past (event.Take d text a) works waits h = refl
step_adds_none clients c allowed past (event.Stop d) works waits h = refl
step_adds_none clients c allowed past (event.Clock d) works waits h = refl
step_adds_none clients c allowed past (event.Idle d) works waits h = refl
step_adds_none clients c allowed past (event.Land k store q how r) works waits h = refl
step_adds_none clients c allowed past (event.Alter table column kind altered) true true h = absurd h
step_adds_none clients c allowed past (event.Alter table column kind altered) true false h = absurd h
step_adds_none clients c allowed past (event.Alter table column kind altered) false waits h = subst AddsNone (sym h) refl

stepped : (clients : List ScriptClient) (c : ℕ) (allowed : How → Reply → Type 0) (past : List Event) (e : Event) → IsStep clients c allowed past e → AddsNone e
stepped clients c allowed past e h = step_adds_none clients c allowed past e (has_work clients c past) (is_pending c past) h

steps_add_none : (clients : List ScriptClient) (c : ℕ) (past es : List Event) → AreStepsOf clients c past es → AllByRecursion AddsNone es
steps_add_none clients c past [] h = tt
steps_add_none clients c past (e ∷ es) h = (stepped clients c IsHowOfStep past e h.0, steps_add_none clients c (past ++ e ∷ []) es h.1)

rest_adds_none : (clients : List ScriptClient) (c : ℕ) (past es : List Event) → IsRest clients c past es → AllByRecursion AddsNone es
rest_adds_none clients c past [] h = tt
rest_adds_none clients c past (e ∷ es) (d, turn, step, rest) = (stepped clients d IsHowOfStep past e step, rest_adds_none clients (d + 1) (past ++ e ∷ []) es rest)

move_adds_none : (script : Script) (m : Move) (past es : List Event) → IsOfNine m → IsOfMove script m past es → AllByRecursion AddsNone es
move_adds_none script (move.Act (act.Step c)) past es nine (e, one, h) = subst (AllByRecursion AddsNone) (sym one) (stepped script.clients c IsHowOfStep past e h, tt)
move_adds_none script (move.Act (act.Lose c)) past es nine h = absurd nine
move_adds_none script (move.Act (act.Discard c)) past es nine h = absurd nine
move_adds_none script (move.Act (act.Delay c)) past es nine h = absurd nine
move_adds_none script (move.Act (act.Land k)) past es nine h = absurd nine
move_adds_none script (move.Act (act.Stop c)) past es nine h = absurd nine
move_adds_none script (move.Act (act.Clock moment)) past es nine h = absurd nine
move_adds_none script (move.Act (act.Alter table column kind)) past es nine h = absurd nine
move_adds_none script (move.Repeat c times) past es nine h = steps_add_none script.clients c past es h.1
move_adds_none script move.Rest past es nine h = rest_adds_none script.clients 1 past es h

pub moves_add_none : (script : Script) (ms : List Move) (past es : List Event) → AllByRecursion IsOfNine ms → AreOfMoves script ms past es → AllByRecursion AddsNone es
moves_add_none script [] past es nine h = subst (AllByRecursion AddsNone) (sym h) tt
moves_add_none script (m ∷ ms) past es nine (front, back, whole, moved, rest) =
    subst (AllByRecursion AddsNone) (sym whole) (append_all AddsNone front back (move_adds_none script m past front nine.0 moved) (moves_add_none script ms (past ++ front) back nine.1 rest))

---- what they add

none_added : (es : List Event) → AllByRecursion AddsNone es → additions es ≡ []
none_added [] h = refl
none_added (e ∷ es) h = ap (λ (o : Option Step). cons_option o (additions es)) h.0 ∙ none_added es h.1

pub none_later : (events : List Event) (n : ℕ) → AllByRecursion AddsNone events → additions (drop n events) ≡ []
none_later events n h = none_added (drop n events) (drop_all AddsNone n events h)

pub none_between : (events : List Event) (n m : ℕ) → AllByRecursion AddsNone events → additions (drop n (take m events)) ≡ []
none_between events n m h = none_later (take m events) n (take_all AddsNone m events h)

same_added : (ts : List Table) (e : Event) → AddsNone e → added ts e ≡ ts
same_added ts (event.Alter table column kind altered.Done) h = absurd cc
same_added ts (event.Alter table column kind altered.Open) h = refl
same_added ts (event.Alter table column kind (altered.Refused k)) h = refl
same_added ts (event.Take client text answer) h = refl
same_added ts (event.Call client store q how r answer) h = refl
same_added ts (event.Stop client) h = refl
same_added ts (event.Clock moment) h = refl
same_added ts (event.Idle client) h = refl
same_added ts (event.Land number store q how r) h = refl

pub same_tables : (ts : List Table) (es : List Event) → AllByRecursion AddsNone es → catalog_after ts es ≡ ts
same_tables ts [] h = refl
same_tables ts (e ∷ es) h = ap (λ (us : List Table). catalog_after us es) (same_added ts e h.0) ∙ same_tables ts es h.1
