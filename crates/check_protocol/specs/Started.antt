-- Tests on a list of events, newest first, that give the fields of the law's `ProtocolState`.
use Rattle.std.specs.Prelude.{ℕ, Bool, true, false, not, ◌&&◌, ◌||◌, ◌==◌, List, find}
use Rattle.std.specs.Option.{option_map_or}
use Rattle.std.specs.List.{list_any}
use Rattle.sdb_types.specs.declared.key.Key.{Key}
use Rattle.sdb_types.specs.Order.{has_key}
use Rattle.law_protocol.specs.History.{is_yes, is_met, is_out_of_memory_ack}
use Rattle.check_protocol.specs.declared.labelled.Action.{Action}
use Rattle.check_protocol.specs.declared.labelled.Action.TheVariants as action
use Rattle.check_protocol.specs.declared.labelled.Labelled.{Labelled}
use Rattle.check_protocol.specs.declared.labelled.Sign.{Sign}
use Rattle.check_protocol.specs.declared.labelled.Sign.TheVariants as sign
use Rattle.check_protocol.specs.Values.{ack_of}

---- single parts

abbrev pub is_begin_of : ℕ → Action → Bool
is_begin_of u (action.Begins t c) = u == t.0
is_begin_of u _ = false

abbrev pub owner_in : Action → ℕ
owner_in (action.Begins t c) = c
owner_in _ = 0

abbrev pub is_take_of : ℕ → Action → Bool
is_take_of u (action.Takes t) = u == t.0
is_take_of u _ = false

abbrev pub is_prepare_of : ℕ → Key → Action → Bool
is_prepare_of u q (action.Prepares t ks w) = u == t.0 && has_key ks q
is_prepare_of u q _ = false

abbrev pub is_applied : Action → Bool
is_applied (action.Prepares t ks w) = is_yes (ack_of w)
is_applied _ = false

abbrev pub is_check_of : ℕ → ℕ → Action → Bool
is_check_of u j (action.Checks t i) = u == t.0 && j == i
is_check_of u j _ = false

-- a check or the put of COMMITTED
abbrev pub is_stage_of : ℕ → Action → Bool
is_stage_of u (action.Checks t i) = u == t.0
is_stage_of u (action.Decides t w) = u == t.0
is_stage_of u _ = false

abbrev pub is_decision : Action → Bool
is_decision (action.Decides t w) = true
is_decision _ = false

abbrev pub is_risk_of : ℕ → Action → Bool
is_risk_of u (action.Decides t w) = u == t.0 && not (is_out_of_memory_ack (ack_of w))
is_risk_of u _ = false

abbrev pub is_win_of : ℕ → Action → Bool
is_win_of u (action.Decides t w) = u == t.0 && is_yes (ack_of w)
is_win_of u _ = false

abbrev pub is_death_of : ℕ → Action → Bool
is_death_of u (action.Aborts t moment w) = u == t.0 && is_yes (ack_of w)
is_death_of u _ = false

abbrev pub is_meeting_of : ℕ → Action → Bool
is_meeting_of u (action.Decides t w) = u == t.0 && is_met (ack_of w)
is_meeting_of u (action.Aborts t moment w) = u == t.0 && is_met (ack_of w)
is_meeting_of u _ = false

abbrev pub is_stop_of : ℕ → Action → Bool
is_stop_of c (action.Stops d) = c == d
is_stop_of c _ = false

abbrev pub is_end_of : ℕ → Action → Bool
is_end_of u (action.Ends t) = u == t.0
is_end_of u _ = false

abbrev pub ends_with : ℕ → Labelled → Bool
ends_with u p = option_map_or (λ t. u == t.0) p.ends false

-- it begins or ends the transaction
abbrev pub touches : ℕ → Labelled → Bool
touches u p = ends_with u p || (is_end_of u p.action || is_begin_of u p.action)

-- and leaves it open
abbrev pub opens : ℕ → Labelled → Bool
opens u p = not (ends_with u p) && is_begin_of u p.action

-- an event is one that is looked for
abbrev pub has_sign : Sign → Labelled → Bool
has_sign (sign.Begin t) p = is_begin_of t.0 p.action
has_sign (sign.Touch t) p = touches t.0 p
has_sign (sign.Take t) p = is_take_of t.0 p.action
has_sign (sign.Prepare t k) p = is_prepare_of t.0 k.now p.action
has_sign (sign.Check t i) p = is_check_of t.0 i p.action
has_sign (sign.Stage t) p = is_stage_of t.0 p.action
has_sign (sign.Risk t) p = is_risk_of t.0 p.action
has_sign (sign.Win t) p = is_win_of t.0 p.action
has_sign (sign.Death t) p = is_death_of t.0 p.action
has_sign (sign.Meeting t) p = is_meeting_of t.0 p.action
has_sign (sign.Stop c) p = is_stop_of c p.action

---- lists of them, newest first

abbrev pub begun_in : List Labelled → ℕ → Bool
begun_in past u = list_any (λ p. is_begin_of u p.action) past

abbrev pub owner_of : List Labelled → ℕ → ℕ
owner_of past u = option_map_or (λ p. owner_in p.action) (find (λ p. is_begin_of u p.action) past) 0

abbrev pub open_in : List Labelled → ℕ → Bool
open_in past u = option_map_or (opens u) (find (touches u) past) false

abbrev pub stopped_in : List Labelled → ℕ → Bool
stopped_in past c = list_any (λ p. is_stop_of c p.action) past

abbrev pub commit_started_in : List Labelled → ℕ → Bool
commit_started_in past u = list_any (λ p. is_take_of u p.action) past

abbrev pub asked_in : List Labelled → ℕ → Key → Bool
asked_in past u q = list_any (λ p. is_prepare_of u q p.action) past

abbrev pub acknowledged_in : List Labelled → ℕ → Key → Bool
acknowledged_in past u q = option_map_or (λ p. is_applied p.action) (find (λ p. is_prepare_of u q p.action) past) false

abbrev pub checked_in : List Labelled → ℕ → ℕ → Bool
checked_in past u j = list_any (λ p. is_check_of u j p.action) past

abbrev pub staged_in : List Labelled → ℕ → Bool
staged_in past u = list_any (λ p. is_stage_of u p.action) past

abbrev pub deciding_in : List Labelled → ℕ → Bool
deciding_in past u = option_map_or (λ p. is_decision p.action) (find (λ p. is_stage_of u p.action) past) false

abbrev pub risked_in : List Labelled → ℕ → Bool
risked_in past u = list_any (λ p. is_risk_of u p.action) past

abbrev pub won_in : List Labelled → ℕ → Bool
won_in past u = list_any (λ p. is_win_of u p.action) past

abbrev pub dead_in : List Labelled → ℕ → Bool
dead_in past u = list_any (λ p. is_death_of u p.action) past

abbrev pub met_in : List Labelled → ℕ → Bool
met_in past u = list_any (λ p. is_meeting_of u p.action) past
