-- How a store is made over a connection.
use Rattle.std.specs.Prelude.{◌≡◌, ◌⊎◌, ℕ, [], Result, Ok, Err}
use Rattle.sqlite.specs.declared.error.Error.{Error}
use Rattle.sqlite.specs.Store.{Ghosts}
use Rattle.sqlite.specs.Held.{Held as Connected, state}
use Rattle.sdb_sqlite.specs.declared.refused.KeptRefused.{KeptRefused}
use Rattle.sdb_sqlite.specs.declared.refused.KeptRefused.TheVariants.{Database, NoMemory}
use Rattle.sdb_sqlite.specs.declared.refused.Stopped.{Stopped}
use Rattle.sdb_sqlite.specs.declared.refused.Stopped.TheVariants as stopped
use Rattle.sdb_sqlite.specs.Stopping.{stopped_by}
use Rattle.sdb_sqlite.specs.Statements.{make_table, make_index}
use Rattle.sdb_sqlite.specs.Database.{IsBlank}
use Rattle.sdb_sqlite.specs.Asked.{Ran}

-- The table and its index were made, or were there.
pub record IsMade {S : Type 0} (g : Ghosts S) (old new : Connected S) : Type 0 where
  pub mid : Connected S
  pub rows : ℕ
  pub table : Ran g make_table [] old mid (Ok rows)
  pub more : ℕ
  pub index : Ran g make_index [] mid new (Ok more)

-- why none is made, by the error of a statement
abbrev pub refused_by : Stopped → KeptRefused
refused_by stopped.NoMemory = NoMemory
refused_by stopped.Refused = Database
refused_by stopped.Unfit = Database
refused_by stopped.Foreign = Database
refused_by stopped.Tied = Database

-- One of the statements that make the table was refused, for that error.
abbrev pub IsRefusedBy : {S : Type 0} → Ghosts S → Connected S → Error → Type 0
IsRefusedBy {S} g old e =
    ((new : Connected S) × Ran g make_table [] old new (Err e)) ⊎ ((mid : Connected S) × (rows : ℕ) × Ran g make_table [] old mid (Ok rows) × (new : Connected S) × Ran g make_index [] mid new (Err e))

abbrev pub IsNotMade : {S : Type 0} → Ghosts S → Connected S → KeptRefused → Type 0
IsNotMade g old refused = (e : Error) × IsRefusedBy g old e × (refused ≡ refused_by (stopped_by e))

-- Over a new database none is made, for that reason.
abbrev pub IsRefusedIn : {S : Type 0} → Ghosts S → KeptRefused → Type 0
IsRefusedIn {S} g refused = (new : Connected S) × IsBlank (state g new) × IsNotMade g new refused

abbrev pub Makes : {S : Type 0} → Ghosts S → Connected S → Connected S → Result ℕ Error → Type 0
Makes g old new (Ok more) = IsMade g old new
Makes g old new (Err e) = IsRefusedBy g old e
