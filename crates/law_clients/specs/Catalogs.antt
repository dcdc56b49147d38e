-- The tables of a run after the events so far, and those under which a transaction runs. Lists have the newest event first.
use Rattle.std.specs.Prelude.{ℕ, nat_lt, if◌then◌else◌, List, [], ◌∷◌, length}
use Rattle.law_clients.specs.Types.{Event, Table}
use Rattle.sdb_model.specs.declared.event.Altered.TheVariants as altered
use Rattle.sdb_model.specs.declared.event.Event.TheVariants as event
use Rattle.sdb_model.specs.Catalogs.{added}
use Rattle.law_protocol.specs.Lawful.{Labelled, protocol_state}
use Rattle.law_clients.specs.System.{Gate}

-- the tables after the events so far
abbrev pub catalog_now : List Table → List Labelled → List Table
catalog_now catalog [] = catalog
catalog_now catalog (p ∷ past) = added (catalog_now catalog past) p.event

-- the tables after the first n of them
abbrev pub catalog_upto : List Table → List Labelled → ℕ → List Table
catalog_upto catalog [] n = catalog
catalog_upto catalog (p ∷ past) n = if nat_lt (length past) n then catalog_now catalog (p ∷ past) else catalog_upto catalog past n

-- the tables when a transaction began
abbrev pub catalog_at_begin : List Table → List Labelled → ℕ → List Table
catalog_at_begin catalog past t = catalog_upto catalog past ((protocol_state past).begun t)

-- the tables at its point
abbrev pub catalog_at_point : List Table → List Labelled → ℕ → List Table
catalog_at_point catalog past t = catalog_upto catalog past ((protocol_state past).point t)

-- A column is added while no transaction is open of a client that hasn't stopped.
abbrev pub IsAtRest : List Labelled → Event → Type 0
IsAtRest past (event.Alter table column kind altered.Done) = Gate (protocol_state past)
IsAtRest past e = Unit {0}

-- so was each
abbrev pub AreAtRest : List Labelled → Type 0
AreAtRest [] = Unit {0}
AreAtRest (p ∷ past) = AreAtRest past × IsAtRest past p.event
