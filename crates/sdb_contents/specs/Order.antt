-- The order of some transactions by their points.
use Rattle.std.specs.Prelude.{ℕ, Bool, false, ◌==◌, nat_lt, if◌then◌else◌, List, [], ◌∷◌, Option}
use Rattle.std.specs.Option.{option_map_or}
use Rattle.sdb_contents.specs.Types.{Point, TxId}

-- what is found is this transaction
abbrev pub is_of : TxId → Option TxId → Bool
is_of id found = option_map_or (λ t. t.0 == id.0) found false

-- of points, each that is later than n and than those kept before it
abbrev pub rising_from : ℕ → List Point → List Point
rising_from n [] = []
rising_from n (p ∷ ps) = if nat_lt n p.event then p ∷ rising_from p.event ps else rising_from n ps
