-- A trace beside the events, newest first, and what was done.
use Rattle.std.specs.Prelude.{◌≡◌, ℕ, Bool, false, not, ◌&&◌, List, [], ◌∷◌, Option, Some, None}
use Rattle.law_protocol.specs.Types.{Condition, Event, Key, Place}
use Rattle.sdb_types.specs.Contents.{holds}
use Rattle.sdb_model.specs.Events.{StoreContents, Effect, stored_at}
use Rattle.law_protocol.specs.Plan.{Plan}
use Rattle.law_protocol.specs.Changed.{Change, changes_in}
use Rattle.law_protocol.specs.History.{Ends, History, start, happens, state_after}
use Rattle.law_protocol.specs.Lawful.{Labelled}

-- what the stores held last
abbrev pub closing : List StoreContents → List (List StoreContents) → List StoreContents
closing opening [] = opening
closing opening (s ∷ ss) = s

-- What the stores hold after each event is made by the event's effect from what they held before.
abbrev pub IsTraced : List Place → List StoreContents → List Labelled → List (List StoreContents) → Type 0
IsTraced places opening [] [] = Unit {0}
IsTraced places opening [] (s ∷ ss) = ⊥
IsTraced places opening (p ∷ past) [] = ⊥
IsTraced places opening (p ∷ past) (s ∷ ss) = IsTraced places opening past ss × Effect places p.event (closing opening ss) s

-- nothing is at any key
abbrev pub StartsEmpty : List Place → List StoreContents → Type 0
StartsEmpty places opening = (k : Key) → stored_at places opening k ≡ None

-- A write took effect where its condition held before it and fails after it: what the protocol puts or removes never meets
-- the condition of its own put.
abbrev pub takes_effect_at : List Place → Key → Condition → List StoreContents → List StoreContents → Bool
takes_effect_at places k c before now = holds c (stored_at places before k) && not (holds c (stored_at places now k))

-- All of the changes that a request asks for take effect, or none: the first tells.
abbrev pub take_effect : List Place → List Change → List StoreContents → List StoreContents → Bool
take_effect places [] before now = false
take_effect places (c ∷ cs) before now = takes_effect_at places c.key c.condition before now

abbrev pub has_effect : List Place → Event → List StoreContents → List StoreContents → Bool
has_effect places e before now = take_effect places (changes_in e) before now

abbrev pub after_end : (ℕ → Plan) → History → Option ℕ → History
after_end plan w None = w
after_end plan w (Some t) = record w { protocol = state_after w.protocol (Ends t) }

-- what the events did, over a trace
abbrev pub history : (ℕ → Plan) → List Place → List StoreContents → List Labelled → List (List StoreContents) → History
history plan places opening [] ss = start
history plan places opening (p ∷ past) [] = start
history plan places opening (p ∷ past) (s ∷ ss) = after_end plan (happens plan (history plan places opening past ss) p.action (has_effect places p.event (closing opening ss) s)) p.ends
