-- The tests on events tell the fields of `ProtocolState`.
use Rattle.std.proofs.Common.{◌≡◌, ◌≢◌, ℕ, zero, suc, ◌+◌, Bool, true, false, List, [], ◌∷◌, Option, Some, None, refl, sym, ap, ◌∙◌, arith}
use Rattle.std.specs.Prelude.{◌&&◌, ◌||◌, ◌==◌, ◌↔◌, not, find, if◌then◌else◌}
use Rattle.std.specs.Option.{option_map_or, option_map}
use Rattle.check_protocol.specs.Types.{Key, TxId}
use Rattle.law_protocol.specs.History.{ProtocolState, state_after_event, Stage, Preparing, Checking, Deciding, is_yes, is_met, is_out_of_memory_ack, state_after}
use Rattle.law_protocol.specs.Lawful.{protocol_state, ended}
use Rattle.check_protocol.specs.declared.labelled.Action.{Action}
use Rattle.check_protocol.specs.declared.labelled.Action.TheVariants as action
use Rattle.check_protocol.specs.declared.labelled.Labelled.{Labelled}
use Rattle.check_protocol.specs.Values.{action_of, all_labelled, ack_of}
use Rattle.check_protocol.specs.Started.{is_begin_of, owner_in, is_take_of, is_prepare_of, is_applied, is_check_of, is_stage_of, is_decision, is_risk_of, is_win_of, is_death_of, is_meeting_of, is_stop_of, is_end_of, touches, opens, begun_in, owner_of, open_in, stopped_in, commit_started_in, asked_in, acknowledged_in, checked_in, staged_in, deciding_in, risked_in, won_in, dead_in, met_in}
use Rattle.check_protocol.proofs.Lists.{if_or}
use Rattle.sdb_types.proofs.Public.{clash}
use Rattle.sdb_types.specs.Order.{has_key}

-- a test of a pair of conditions
and_or : (a b x : Bool) → (if a && b then true else x) ≡ ((a && b) || x)
and_or a b x = if_or (a && b) x

and_end : (a x : Bool) → (a || x) ≡ ((a && true) || x)
and_end true x = refl
and_end false x = refl

none_end : (a x : Bool) → x ≡ ((a && false) || x)
none_end true x = refl
none_end false x = refl

---- fields that an end leaves as they were

module _ {X : Type 0} (field : ProtocolState → X) (still : (h : ProtocolState) (t : ℕ) → field (state_after h (Rattle.law_protocol.specs.History.Ends t)) ≡ field h) where
  pub past_end : (h : ProtocolState) (o : Option ℕ) → field (ended h o) ≡ field h
  past_end h None = refl
  past_end h (Some t) = still h t

---- accepted

taken_step : (h : ProtocolState) (r : Action) (u : ℕ) → (state_after_event h (action_of r)).accepted u ≡ (is_take_of u r || h.accepted u)
taken_step h (action.Takes t) u = if_or (u == t.0) (h.accepted u)
taken_step h _ u = refl

pub taken_is : (past : List Labelled) (u : ℕ) → (protocol_state (all_labelled past)).accepted u ≡ commit_started_in past u
taken_is [] u = refl
taken_is (p ∷ past) u =
    past_end (λ h. h.accepted u) (λ h t. refl) (state_after_event (protocol_state (all_labelled past)) (action_of p.action)) (option_map (λ t. t.0) p.ends)
    ∙ taken_step (protocol_state (all_labelled past)) p.action u
    ∙ ap (λ b. is_take_of u p.action || b) (taken_is past u)

---- asked

asked_step : (h : ProtocolState) (r : Action) (u : ℕ) (q : Key) → (state_after_event h (action_of r)).asked u q ≡ (is_prepare_of u q r || h.asked u q)
asked_step h (action.Prepares t ks w) u q = if_or (u == t.0 && has_key ks q) (h.asked u q)
asked_step h _ u q = refl

pub asked_is : (past : List Labelled) (u : ℕ) (q : Key) → (protocol_state (all_labelled past)).asked u q ≡ asked_in past u q
asked_is [] u q = refl
asked_is (p ∷ past) u q =
    past_end (λ h. h.asked u q) (λ h t. refl) (state_after_event (protocol_state (all_labelled past)) (action_of p.action)) (option_map (λ t. t.0) p.ends)
    ∙ asked_step (protocol_state (all_labelled past)) p.action u q
    ∙ ap (λ b. is_prepare_of u q p.action || b) (asked_is past u q)

---- checked

checked_step : (h : ProtocolState) (r : Action) (u j : ℕ) → (state_after_event h (action_of r)).checked u j ≡ (is_check_of u j r || h.checked u j)
checked_step h (action.Checks t i) u j = if_or (u == t.0 && j == i) (h.checked u j)
checked_step h _ u j = refl

pub checked_is : (past : List Labelled) (u j : ℕ) → (protocol_state (all_labelled past)).checked u j ≡ checked_in past u j
checked_is [] u j = refl
checked_is (p ∷ past) u j =
    past_end (λ h. h.checked u j) (λ h t. refl) (state_after_event (protocol_state (all_labelled past)) (action_of p.action)) (option_map (λ t. t.0) p.ends)
    ∙ checked_step (protocol_state (all_labelled past)) p.action u j
    ∙ ap (λ b. is_check_of u j p.action || b) (checked_is past u j)

risk_by : (w : Rattle.law_protocol.specs.History.Ack) (f : ℕ → Bool) (t u : ℕ) → (if is_out_of_memory_ack w then f else Rattle.law_protocol.specs.History.at f t true) u ≡ ((u == t && not (is_out_of_memory_ack w)) || f u)
risk_by Rattle.law_protocol.specs.History.Yes f t u = if_or (u == t) (f u) ∙ and_end (u == t) (f u)
risk_by Rattle.law_protocol.specs.History.No f t u = if_or (u == t) (f u) ∙ and_end (u == t) (f u)
risk_by Rattle.law_protocol.specs.History.NoAck f t u = if_or (u == t) (f u) ∙ and_end (u == t) (f u)
risk_by Rattle.law_protocol.specs.History.OutOfMemory f t u = none_end (u == t) (f u)

yes_by : (b : Bool) (f : ℕ → Bool) (t u : ℕ) → (if b then Rattle.law_protocol.specs.History.at f t true else f) u ≡ ((u == t && b) || f u)
yes_by true f t u = if_or (u == t) (f u) ∙ and_end (u == t) (f u)
yes_by false f t u = none_end (u == t) (f u)

---- risked

risked_step : (h : ProtocolState) (r : Action) (u : ℕ) → (state_after_event h (action_of r)).risked u ≡ (is_risk_of u r || h.risked u)
risked_step h (action.Decides t w) u = risk_by (ack_of w) h.risked t.0 u
risked_step h _ u = refl

pub risked_is : (past : List Labelled) (u : ℕ) → (protocol_state (all_labelled past)).risked u ≡ risked_in past u
risked_is [] u = refl
risked_is (p ∷ past) u =
    past_end (λ h. h.risked u) (λ h t. refl) (state_after_event (protocol_state (all_labelled past)) (action_of p.action)) (option_map (λ t. t.0) p.ends)
    ∙ risked_step (protocol_state (all_labelled past)) p.action u
    ∙ ap (λ b. is_risk_of u p.action || b) (risked_is past u)

---- won

won_step : (h : ProtocolState) (r : Action) (u : ℕ) → (state_after_event h (action_of r)).won u ≡ (is_win_of u r || h.won u)
won_step h (action.Decides t w) u = yes_by (is_yes (ack_of w)) h.won t.0 u
won_step h _ u = refl

pub won_is : (past : List Labelled) (u : ℕ) → (protocol_state (all_labelled past)).won u ≡ won_in past u
won_is [] u = refl
won_is (p ∷ past) u =
    past_end (λ h. h.won u) (λ h t. refl) (state_after_event (protocol_state (all_labelled past)) (action_of p.action)) (option_map (λ t. t.0) p.ends)
    ∙ won_step (protocol_state (all_labelled past)) p.action u
    ∙ ap (λ b. is_win_of u p.action || b) (won_is past u)

---- dead

dead_step : (h : ProtocolState) (r : Action) (u : ℕ) → (state_after_event h (action_of r)).dead u ≡ (is_death_of u r || h.dead u)
dead_step h (action.Aborts t m w) u = yes_by (is_yes (ack_of w)) h.dead t.0 u
dead_step h _ u = refl

pub dead_is : (past : List Labelled) (u : ℕ) → (protocol_state (all_labelled past)).dead u ≡ dead_in past u
dead_is [] u = refl
dead_is (p ∷ past) u =
    past_end (λ h. h.dead u) (λ h t. refl) (state_after_event (protocol_state (all_labelled past)) (action_of p.action)) (option_map (λ t. t.0) p.ends)
    ∙ dead_step (protocol_state (all_labelled past)) p.action u
    ∙ ap (λ b. is_death_of u p.action || b) (dead_is past u)

---- met

met_step : (h : ProtocolState) (r : Action) (u : ℕ) → (state_after_event h (action_of r)).met u ≡ (is_meeting_of u r || h.met u)
met_step h (action.Decides t w) u = yes_by (is_met (ack_of w)) h.met t.0 u
met_step h (action.Aborts t m w) u = yes_by (is_met (ack_of w)) h.met t.0 u
met_step h _ u = refl

pub met_is : (past : List Labelled) (u : ℕ) → (protocol_state (all_labelled past)).met u ≡ met_in past u
met_is [] u = refl
met_is (p ∷ past) u =
    past_end (λ h. h.met u) (λ h t. refl) (state_after_event (protocol_state (all_labelled past)) (action_of p.action)) (option_map (λ t. t.0) p.ends)
    ∙ met_step (protocol_state (all_labelled past)) p.action u
    ∙ ap (λ b. is_meeting_of u p.action || b) (met_is past u)

---- stopped

stopped_step : (h : ProtocolState) (r : Action) (c : ℕ) → (state_after_event h (action_of r)).stopped c ≡ (is_stop_of c r || h.stopped c)
stopped_step h (action.Stops d) c = if_or (c == d) (h.stopped c)
stopped_step h _ c = refl

pub stopped_is : (past : List Labelled) (c : ℕ) → (protocol_state (all_labelled past)).stopped c ≡ stopped_in past c
stopped_is [] c = refl
stopped_is (p ∷ past) c =
    past_end (λ h. h.stopped c) (λ h t. refl) (state_after_event (protocol_state (all_labelled past)) (action_of p.action)) (option_map (λ t. t.0) p.ends)
    ∙ stopped_step (protocol_state (all_labelled past)) p.action c
    ∙ ap (λ b. is_stop_of c p.action || b) (stopped_is past c)

---- begun

abbrev pub is_zero : ℕ → Bool
is_zero zero = true
is_zero (suc n) = false

pub zero_is : (n : ℕ) → is_zero n ≡ true → n ≡ 0
zero_is zero h = refl
zero_is (suc n) h = clash (sym h)

begin_by : (b : Bool) (now before : ℕ) → not (is_zero (if b then now + 1 else before)) ≡ (b || not (is_zero before))
begin_by true now before = ap (λ n. not (is_zero n)) (more now)
  where
    more : (n : ℕ) → n + 1 ≡ suc n
    more n = omega arith
begin_by false now before = refl

begun_step : (h : ProtocolState) (r : Action) (u : ℕ) → not (is_zero ((state_after_event h (action_of r)).begun u)) ≡ (is_begin_of u r || not (is_zero (h.begun u)))
begun_step h (action.Begins t c) u = begin_by (u == t.0) h.now (h.begun u)
begun_step h _ u = refl

pub begun_is : (past : List Labelled) (u : ℕ) → not (is_zero ((protocol_state (all_labelled past)).begun u)) ≡ begun_in past u
begun_is [] u = refl
begun_is (p ∷ past) u =
    past_end (λ h. not (is_zero (h.begun u))) (λ h t. refl) (state_after_event (protocol_state (all_labelled past)) (action_of p.action)) (option_map (λ t. t.0) p.ends)
    ∙ begun_step (protocol_state (all_labelled past)) p.action u
    ∙ ap (λ b. is_begin_of u p.action || b) (begun_is past u)

---- of the newest that matters

-- what the newest item that passes says, with one more item first
newest : {X A : Type 0} (f : X → Bool) (g : X → A) (y : X) (ys : List X) (d : A) → option_map_or g (find f (y ∷ ys)) d ≡ (if f y then g y else option_map_or g (find f ys) d)
newest {X = X} f g y ys d = by (f y) (find f ys)
  where
    by : (b : Bool) (o : Option X) → option_map_or g (if b then Some y else o) d ≡ (if b then g y else option_map_or g o d)
    by true o = refl
    by false o = refl

owner_step : (h : ProtocolState) (r : Action) (u : ℕ) → (state_after_event h (action_of r)).owner u ≡ (if is_begin_of u r then owner_in r else h.owner u)
owner_step h (action.Begins t c) u = refl
owner_step h _ u = refl

pub owner_is : (past : List Labelled) (u : ℕ) → (protocol_state (all_labelled past)).owner u ≡ owner_of past u
owner_is [] u = refl
owner_is (p ∷ past) u =
    past_end (λ h. h.owner u) (λ h t. refl) (state_after_event (protocol_state (all_labelled past)) (action_of p.action)) (option_map (λ t. t.0) p.ends)
    ∙ owner_step (protocol_state (all_labelled past)) p.action u
    ∙ ap (λ n. if is_begin_of u p.action then owner_in p.action else n) (owner_is past u)
    ∙ sym (newest (λ (x : Labelled). is_begin_of u x.action) (λ x. owner_in x.action) p past 0)

told_by : (a y x : Bool) → (if a then y else x) ≡ (if a then y else x)
told_by a y x = refl

told_step : (h : ProtocolState) (r : Action) (u : ℕ) (q : Key) → (state_after_event h (action_of r)).answered u q ≡ (if is_prepare_of u q r then is_applied r else h.answered u q)
told_step h (action.Prepares t ks w) u q = refl
told_step h _ u q = refl

pub told_is : (past : List Labelled) (u : ℕ) (q : Key) → (protocol_state (all_labelled past)).answered u q ≡ acknowledged_in past u q
told_is [] u q = refl
told_is (p ∷ past) u q =
    past_end (λ h. h.answered u q) (λ h t. refl) (state_after_event (protocol_state (all_labelled past)) (action_of p.action)) (option_map (λ t. t.0) p.ends)
    ∙ told_step (protocol_state (all_labelled past)) p.action u q
    ∙ ap (λ n. if is_prepare_of u q p.action then is_applied p.action else n) (told_is past u q)
    ∙ sym (newest (λ (x : Labelled). is_prepare_of u q x.action) (λ x. is_applied x.action) p past false)

abbrev pub is_deciding : Stage → Bool
is_deciding Preparing = false
is_deciding Checking = false
is_deciding Deciding = true

abbrev pub is_later : Stage → Bool
is_later Preparing = false
is_later Checking = true
is_later Deciding = true

moved : {A : Type 0} (g : Stage → A) (b : Bool) (x y : Stage) → g (if b then x else y) ≡ (if b then g x else g y)
moved g true x y = refl
moved g false x y = refl

deciding_step : (h : ProtocolState) (r : Action) (u : ℕ) → is_deciding ((state_after_event h (action_of r)).stage u) ≡ (if is_stage_of u r then is_decision r else is_deciding (h.stage u))
deciding_step h (action.Checks t i) u = moved is_deciding (u == t.0) Checking (h.stage u)
deciding_step h (action.Decides t w) u = moved is_deciding (u == t.0) Deciding (h.stage u)
deciding_step h _ u = refl

pub deciding_is : (past : List Labelled) (u : ℕ) → is_deciding ((protocol_state (all_labelled past)).stage u) ≡ deciding_in past u
deciding_is [] u = refl
deciding_is (p ∷ past) u =
    past_end (λ h. is_deciding (h.stage u)) (λ h t. refl) (state_after_event (protocol_state (all_labelled past)) (action_of p.action)) (option_map (λ t. t.0) p.ends)
    ∙ deciding_step (protocol_state (all_labelled past)) p.action u
    ∙ ap (λ n. if is_stage_of u p.action then is_decision p.action else n) (deciding_is past u)
    ∙ sym (newest (λ (x : Labelled). is_stage_of u x.action) (λ x. is_decision x.action) p past false)

staged_step : (h : ProtocolState) (r : Action) (u : ℕ) → is_later ((state_after_event h (action_of r)).stage u) ≡ (is_stage_of u r || is_later (h.stage u))
staged_step h (action.Checks t i) u = moved is_later (u == t.0) Checking (h.stage u) ∙ if_or (u == t.0) (is_later (h.stage u))
staged_step h (action.Decides t w) u = moved is_later (u == t.0) Deciding (h.stage u) ∙ if_or (u == t.0) (is_later (h.stage u))
staged_step h _ u = refl

pub staged_is : (past : List Labelled) (u : ℕ) → is_later ((protocol_state (all_labelled past)).stage u) ≡ staged_in past u
staged_is [] u = refl
staged_is (p ∷ past) u =
    past_end (λ h. is_later (h.stage u)) (λ h t. refl) (state_after_event (protocol_state (all_labelled past)) (action_of p.action)) (option_map (λ t. t.0) p.ends)
    ∙ staged_step (protocol_state (all_labelled past)) p.action u
    ∙ ap (λ b. is_stage_of u p.action || b) (staged_is past u)

---- open

open_role : (h : ProtocolState) (r : Action) (u : ℕ) → (state_after_event h (action_of r)).is_open u ≡ (if is_end_of u r || is_begin_of u r then is_begin_of u r else h.is_open u)
open_role h (action.Begins t c) u = by (u == t.0)
  where
    by : (b : Bool) → (if b then true else h.is_open u) ≡ (if b then b else h.is_open u)
    by true = refl
    by false = refl
open_role h (action.Ends t) u = by (u == t.0)
  where
    by : (b : Bool) → (if b then false else h.is_open u) ≡ (if b || false then false else h.is_open u)
    by true = refl
    by false = refl
open_role h _ u = refl

open_end : (h : ProtocolState) (o : Option TxId) (u : ℕ) (a b before : Bool) → h.is_open u ≡ (if a then b else before)
    → (ended h (option_map (λ t. t.0) o)).is_open u ≡ (if option_map_or (λ t. u == t.0) o false || a then not (option_map_or (λ t. u == t.0) o false) && b else before)
open_end h None u a b before e = e
open_end h (Some t) u a b before e = by (u == t.0)
  where
    by : (c : Bool) → (if c then false else h.is_open u) ≡ (if c || a then not c && b else before)
    by true = refl
    by false = e

pub open_is : (past : List Labelled) (u : ℕ) → (protocol_state (all_labelled past)).is_open u ≡ open_in past u
open_is [] u = refl
open_is (p ∷ past) u =
    open_end (state_after_event (protocol_state (all_labelled past)) (action_of p.action)) p.ends u (is_end_of u p.action || is_begin_of u p.action) (is_begin_of u p.action) ((protocol_state (all_labelled past)).is_open u) (open_role (protocol_state (all_labelled past)) p.action u)
    ∙ ap (λ n. if touches u p then opens u p else n) (open_is past u)
    ∙ sym (newest (touches u) (opens u) p past false)

---- in the words of the law

pub fresh_tells : (past : List Labelled) (u : ℕ) → (begun_in past u ≡ false) ↔ ((protocol_state (all_labelled past)).begun u ≡ 0)
fresh_tells past u = (λ h. zero_is ((protocol_state (all_labelled past)).begun u) (turned (is_zero ((protocol_state (all_labelled past)).begun u)) (begun_is past u ∙ h)), λ e. sym (begun_is past u) ∙ ap (λ n. not (is_zero n)) e)
  where
    turned : (b : Bool) → not b ≡ false → b ≡ true
    turned true h = refl
    turned false h = clash h

pub preparing_tells : (past : List Labelled) (u : ℕ) → (staged_in past u ≡ false) ↔ ((protocol_state (all_labelled past)).stage u ≡ Preparing)
preparing_tells past u = (λ h. by ((protocol_state (all_labelled past)).stage u) (staged_is past u ∙ h), λ e. sym (staged_is past u) ∙ ap is_later e)
  where
    by : (s : Stage) → is_later s ≡ false → s ≡ Preparing
    by Preparing h = refl
    by Checking h = clash h
    by Deciding h = clash h

pub deciding_tells : (past : List Labelled) (u : ℕ) → (deciding_in past u ≡ false) ↔ ((protocol_state (all_labelled past)).stage u ≢ Deciding)
deciding_tells past u = (λ h e. clash (sym (ap is_deciding e) ∙ deciding_is past u ∙ h), λ f. sym (deciding_is past u) ∙ by ((protocol_state (all_labelled past)).stage u) f)
  where
    by : (s : Stage) → s ≢ Deciding → is_deciding s ≡ false
    by Preparing f = refl
    by Checking f = refl
    by Deciding f = absurd (f refl)
