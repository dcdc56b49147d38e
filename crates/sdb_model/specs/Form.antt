-- Parts of the text of a script.
use Rattle.std.specs.Prelude.{ℕ, Bool, ◌&&◌, ◌==◌, nat_le, if◌then◌else◌, List, [], ◌∷◌, ◌++◌, length, codes}
use Rattle.sdb_types.specs.Identifier.{is_identifier}
use Rattle.sdb_types.specs.declared.place.Place.{Place}
use Rattle.sdb_model.specs.declared.script.Script.{Script}

---- lines

abbrev pub onto_first : ℕ → List (List ℕ) → List (List ℕ)
onto_first b [] = (b ∷ []) ∷ []
onto_first b (l ∷ ls) = (b ∷ l) ∷ ls

-- the lines of a text, each without its LF; the last LF may be missing
abbrev pub lines_of : List ℕ → List (List ℕ)
lines_of [] = []
lines_of (b ∷ bs) = if b == 10 then [] ∷ lines_of bs else onto_first b (lines_of bs)

---- clients

abbrev pub client_line : List ℕ → List ℕ
client_line name = codes "client " ++ name

-- a client's name: an identifier of at most 64 bytes
abbrev pub is_client_name : List ℕ → Bool
is_client_name name = nat_le (length name) 64 && is_identifier name

-- a script with these places
abbrev pub script_with_places : Script → List Place → Script
script_with_places script places = record { places = places; catalog = script.catalog; clients = script.clients; moves = script.moves }
