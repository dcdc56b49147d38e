-- The namespaces of places.
use Rattle.std.specs.Prelude.{◌≡◌, ℕ, Bool, List}
use Rattle.sdb_types.specs.declared.place.Place.{Place}
use Rattle.sdb_script.specs.Begun.{is_placed}

-- these are the namespaces that are placed
abbrev pub HasNamespaces : List Place → (List ℕ → Bool) → Type 0
HasNamespaces places has = (ns : List ℕ) → has ns ≡ is_placed places ns
