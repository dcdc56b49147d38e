-- Events that follow a script tell no fault of a call that was seen, and answer no other call than one that was seen.
use Rattle.std.proofs.Common.{◌≡◌, ◌⊎◌, inl, inr, ℕ, ◌+◌, Bool, true, false, List, [], ◌∷◌, ◌++◌, Option, Some, None, refl, sym, ap, subst, ◌∙◌, arith}
use Rattle.std.specs.Prelude.{◌==◌, ◌&&◌, if◌then◌else◌, nat_le, nat_lt, Contains, MatchBool}
use Rattle.std.specs.List.{AllByRecursion, cons_option, enumerate_from, filter_map}
use Rattle.law_answers.specs.Types.{Act, Event, How, Move, Reply, Request, Script, ScriptClient}
use Rattle.sdb_types.specs.declared.record.Reply.TheVariants as reply
use Rattle.sdb_types.specs.Replies.{is_fault, is_answered}
use Rattle.sdb_types.proofs.Public.{append_all, clash, none_some, one_of, some_is}
use Rattle.sdb_model.specs.declared.event.Event.TheVariants as event
use Rattle.sdb_model.specs.declared.event.How.TheVariants.{Seen, Lost, Discarded, Delayed, Broken}
use Rattle.sdb_model.specs.declared.script.Act.TheVariants as act
use Rattle.sdb_model.specs.declared.script.Move.TheVariants as move
use Rattle.sdb_model.specs.Calls.{StoreCall, calls_by, calls_of, end_of, made_by}
use Rattle.sdb_model.specs.Counted.{is_seen}
use Rattle.sdb_model.specs.Follows.{AreOfMoves, AreStepsOf, Follows, IsActed, IsCallOf, IsHowOfDelay, IsHowOfDiscard, IsHowOfLose, IsHowOfStep, IsLanding, IsOfMove, IsRest, IsStep, IsTakeOf, has_work, in_flight, is_pending}
use Rattle.sdb_model.specs.Transactions.{Executed}
use Rattle.law_answers.specs.Counts.{SeenAreNoFaults}
use Rattle.law_answers.specs.Rolled.{AnsweredWereSeen}
use Rattle.law_answers.proofs.Lists.{kept_in}

-- a call that was seen was answered no fault, and one that was answered was seen
abbrev HowFits : How → Reply → Type 0
HowFits how r = (is_seen how ≡ true → is_fault r ≡ false) × (is_answered r ≡ true → how ≡ Seen)

abbrev EventFits : Event → Type 0
EventFits (event.Call c store q how r a) = HowFits how r
EventFits e = Unit {0}

faulted : (how : How) (r : Reply) → is_seen how ≡ false → r ≡ reply.Fault → HowFits how r
faulted how r unseen f = (λ s. clash (sym s ∙ unseen), λ a. clash (sym a ∙ ap is_answered f))

fits_step : (how : How) (r : Reply) → IsHowOfStep how r → HowFits how r
fits_step Seen r h = (λ s. h, λ a. refl)
fits_step Broken r h = faulted Broken r refl h
fits_step Lost r h = absurd h
fits_step Discarded r h = absurd h
fits_step Delayed r h = absurd h

fits_lose : (how : How) (r : Reply) → IsHowOfLose how r → HowFits how r
fits_lose Seen r h = (λ s. ap is_fault h, λ a. refl)
fits_lose Broken r h = faulted Broken r refl h
fits_lose Lost r h = faulted Lost r refl h
fits_lose Discarded r h = absurd h
fits_lose Delayed r h = absurd h

fits_discard : (how : How) (r : Reply) → IsHowOfDiscard how r → HowFits how r
fits_discard how r h = subst (λ (x : How). HowFits x r) (sym h.0) (faulted Discarded r refl h.1)

fits_delay : (how : How) (r : Reply) → IsHowOfDelay how r → HowFits how r
fits_delay how r h = subst (λ (x : How). HowFits x r) (sym h.0) (faulted Delayed r refl h.1)

---- the events of moves

call_fits : (c : ℕ) (allowed : How → Reply → Type 0) (fit : (how : How) (r : Reply) → allowed how r → HowFits how r) (e : Event) → IsCallOf c allowed e → EventFits e
call_fits c allowed fit (event.Take d text a) h = absurd h
call_fits c allowed fit (event.Call d store q how r a) h = fit how r h.1
call_fits c allowed fit (event.Stop d) h = absurd h
call_fits c allowed fit (event.Clock moment) h = absurd h
call_fits c allowed fit (event.Idle d) h = absurd h
call_fits c allowed fit (event.Alter table column kind altered) h = absurd h
call_fits c allowed fit (event.Land number store q how r) h = absurd h

take_fits : (clients : List ScriptClient) (c : ℕ) (past : List Event) (e : Event) → IsTakeOf clients c past e → EventFits e
take_fits clients c past (event.Take d text a) h = tt
take_fits clients c past (event.Call d store q how r a) h = absurd h
take_fits clients c past (event.Stop d) h = absurd h
take_fits clients c past (event.Clock moment) h = absurd h
take_fits clients c past (event.Idle d) h = absurd h
take_fits clients c past (event.Alter table column kind altered) h = absurd h
take_fits clients c past (event.Land number store q how r) h = absurd h

step_fits : (clients : List ScriptClient) (c : ℕ) (allowed : How → Reply → Type 0) (fit : (how : How) (r : Reply) → allowed how r → HowFits how r) (past : List Event) (e : Event) → IsStep clients c allowed past e → EventFits e
step_fits clients c allowed fit past e = by (has_work clients c past)
  where
    busy : (b : Bool) → MatchBool b (IsCallOf c allowed e) (IsTakeOf clients c past e) → EventFits e
    busy true h = call_fits c allowed fit e h
    busy false h = take_fits clients c past e h

    by : (b : Bool) → MatchBool b (MatchBool (is_pending c past) (IsCallOf c allowed e) (IsTakeOf clients c past e)) (e ≡ event.Idle c) → EventFits e
    by true h = busy (is_pending c past) h
    by false h = subst EventFits (sym h) tt

-- what lands is no call of a client
landing_fits : (k : ℕ) (late : Option Request) (e : Event) → IsLanding k late e → EventFits e
landing_fits k None e h = subst EventFits (sym h) tt
landing_fits k (Some q) (event.Take c text a) h = absurd h
landing_fits k (Some q) (event.Call c store asked how r a) h = absurd h
landing_fits k (Some q) (event.Stop c) h = absurd h
landing_fits k (Some q) (event.Clock moment) h = absurd h
landing_fits k (Some q) (event.Idle c) h = absurd h
landing_fits k (Some q) (event.Alter table column kind altered) h = absurd h
landing_fits k (Some q) (event.Land number store asked how r) h = tt

acted_fits : (script : Script) (a : Act) (past : List Event) (e : Event) → IsActed script a past e → EventFits e
acted_fits script (act.Step c) past e h = step_fits script.clients c IsHowOfStep fits_step past e h
acted_fits script (act.Lose c) past e h = step_fits script.clients c IsHowOfLose fits_lose past e h
acted_fits script (act.Discard c) past e h = step_fits script.clients c IsHowOfDiscard fits_discard past e h
acted_fits script (act.Delay c) past e h = step_fits script.clients c IsHowOfDelay fits_delay past e h
acted_fits script (act.Land k) past e h = landing_fits k (in_flight k past) e h
acted_fits script (act.Stop c) past e h = subst EventFits (sym h) tt
acted_fits script (act.Clock moment) past e h = subst EventFits (sym h) tt
acted_fits script (act.Alter table column kind) past e h = subst EventFits (sym h.1) tt

steps_fit : (clients : List ScriptClient) (c : ℕ) (past es : List Event) → AreStepsOf clients c past es → AllByRecursion EventFits es
steps_fit clients c past [] h = tt
steps_fit clients c past (e ∷ es) h = (step_fits clients c IsHowOfStep fits_step past e h.0, steps_fit clients c (past ++ e ∷ []) es h.1)

rest_fits : (clients : List ScriptClient) (from : ℕ) (past es : List Event) → IsRest clients from past es → AllByRecursion EventFits es
rest_fits clients from past [] h = tt
rest_fits clients from past (e ∷ es) h = (step_fits clients h.0 IsHowOfStep fits_step past e h.2, rest_fits clients (h.0 + 1) (past ++ e ∷ []) es h.3)

move_fits : (script : Script) (m : Move) (past es : List Event) → IsOfMove script m past es → AllByRecursion EventFits es
move_fits script (move.Act a) past es h = subst (AllByRecursion EventFits) (sym h.1) (acted_fits script a past h.0 h.2, tt)
move_fits script (move.Repeat c times) past es h = steps_fit script.clients c past es h.1
move_fits script move.Rest past es h = rest_fits script.clients 1 past es h

moves_fit : (script : Script) (ms : List Move) (past es : List Event) → AreOfMoves script ms past es → AllByRecursion EventFits es
moves_fit script [] past es h = subst (AllByRecursion EventFits) (sym h) tt
moves_fit script (m ∷ ms) past es h = subst (AllByRecursion EventFits) (sym h.2) (append_all EventFits h.0 h.1 (move_fits script m past h.0 h.3) (moves_fit script ms (past ++ h.0) h.1 h.4))

---- the calls among them

event_made : (c n : ℕ) (e : Event) (m : StoreCall) → EventFits e → made_by c (n, e) ≡ Some m → HowFits m.how m.reply
event_made c n (event.Take x text a) m fits made = none_some m made
event_made c n (event.Call x store q how r a) m fits made = by (x == c) made
  where
    by : (t : Bool) → (if t then Some (record { at = n; store = store; request = q; how = how; reply = r }) else None) ≡ Some m → HowFits m.how m.reply
    by true k = subst (λ (y : StoreCall). HowFits y.how y.reply) (some_is _ m k) fits
    by false k = none_some m k
event_made c n (event.Stop x) m fits made = none_some m made
event_made c n (event.Clock moment) m fits made = none_some m made
event_made c n (event.Idle x) m fits made = none_some m made
event_made c n (event.Alter table column kind altered) m fits made = none_some m made
event_made c n (event.Land number store q how r) m fits made = none_some m made

calls_fit : (c n : ℕ) (es : List Event) (m : StoreCall) → AllByRecursion EventFits es → Contains (filter_map (made_by c) (enumerate_from n es)) m → HowFits m.how m.reply
calls_fit c n [] m fits has = absurd (omega (arith, has.1))
calls_fit c n (e ∷ es) m fits has = by (made_by c (n, e)) refl has (λ among. calls_fit c (n + 1) es m fits.1 among)
  where
    by : (o : Option StoreCall) → made_by c (n, e) ≡ o → Contains (cons_option o (filter_map (made_by c) (enumerate_from (n + 1) es))) m → (Contains (filter_map (made_by c) (enumerate_from (n + 1) es)) m → HowFits m.how m.reply) → HowFits m.how m.reply
    by None k h later = later h
    by (Some x) k h later = first (one_of x m (filter_map (made_by c) (enumerate_from (n + 1) es)) h)
      where
        first : (x ≡ m) ⊎ Contains (filter_map (made_by c) (enumerate_from (n + 1) es)) m → HowFits m.how m.reply
        first (inl same) = event_made c n e m fits.0 (k ∙ ap Some same)
        first (inr among) = later among

said_fit : (script : Script) (events : List Event) → Follows script events → (c : ℕ) (s : Executed) (m : StoreCall) → Contains (calls_of events c s) m → HowFits m.how m.reply
said_fit script events follows c s m among = calls_fit c 1 events m (moves_fit script script.moves [] events follows) (kept_in (λ (x : StoreCall). nat_lt s.accepted x.at && nat_le x.at (end_of events s)) (calls_by events c) m among)

pub seen_no_faults : (script : Script) (events : List Event) → Follows script events → SeenAreNoFaults events
seen_no_faults script events follows c s m has among = (said_fit script events follows c s m among).0

pub answered_seen : (script : Script) (events : List Event) → Follows script events → AnsweredWereSeen events
answered_seen script events follows c s m has among = (said_fit script events follows c s m among).1
