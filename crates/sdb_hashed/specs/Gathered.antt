-- What parts hold together.
use Rattle.std.specs.Prelude.{◌≡◌, Bool, false, List, [], ◌∷◌, ◌++◌, Option, Some, None, IsSome, if◌then◌else◌}
use Rattle.std.specs.Option.{option_map}
use Rattle.std.specs.Map.{lookup}
use Rattle.std.specs.FinMap.{entries, from_entries, get}
use Rattle.sdb_hashed.specs.Types.{Key, Pair}
use Rattle.sdb_types.specs.Order.{key_cmp}
use Rattle.sdb_types.specs.Contents.{Contents}

-- the entries of all parts
abbrev pub gathered : {K V : Type 0} → (V → Contents) → List (K × V) → List (Key × List Pair)
gathered f [] = []
gathered f (e ∷ es) = gathered f es ++ entries (f e.1)

-- the map of all entries
abbrev pub contents_of_all : {K V : Type 0} → (V → Contents) → List (K × V) → Contents
contents_of_all f es = from_entries {R = key_cmp} (gathered f es)

-- what a part has at a key, which is nothing where there is no such part
abbrev pub in_part : Option Contents → Key → Option (List Pair)
in_part None key = None
in_part (Some m) key = get m key

-- what the part s holds, if there is one
abbrev pub part_at : {K V : Type 0} → (K → K → Bool) → (V → Contents) → List (K × V) → K → Option Contents
part_at same f es s = option_map f (lookup (same s) es)

-- Each part holds keys of its own alone.
abbrev pub HasOwnKeys : {K V : Type 0} → (K → K → Bool) → (Key → K) → (V → Contents) → List (K × V) → Type 0
HasOwnKeys {K} same part f es = (s : K) (key : Key) → same s (part key) ≡ false → in_part (part_at same f es s) key ≡ None

-- fs has m as the part named at, and the other parts of es
abbrev pub ChangesAt : {K V : Type 0} → (K → K → Bool) → (V → Contents) → K → Contents → List (K × V) → List (K × V) → Type 0
ChangesAt {K} same f at m es fs = (s : K) → part_at same f fs s ≡ (if same at s then Some m else part_at same f es s)

-- The rows are the part of that name among all: they have what all have at the keys of that part, and no other key.
pub record IsPartOf {K : Type 0} (part : Key → K) (name : K) (rows all : Contents) : Type 0 where
  pub own : (key : Key) → part key ≡ name → get rows key ≡ get all key
  pub alone : (key : Key) → IsSome (get rows key) → part key ≡ name
