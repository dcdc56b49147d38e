-- Words of a line: numerals, names, and what may follow a word.
use Rattle.std.specs.Prelude.{◌≡◌, ℕ, Bool, true, false, ◌&&◌, ◌||◌, not, ◌==◌, if◌then◌else◌, List, [], ◌∷◌, length, Option, Some, None}
use Rattle.std.specs.List.{list_all}
use Rattle.sdb_model.specs.SqlTokens.{is_digit, digits_value}

-- digits, of which the first isn't 0 but in 0 itself
abbrev pub is_numeral : List ℕ → Bool
is_numeral [] = false
is_numeral (c ∷ cs) = (is_digit c && list_all is_digit cs) && (not (c == 48) || length cs == 0)

-- A word says this number, in decimal.
abbrev pub Counts : List ℕ → ℕ → Type 0
Counts word n = (is_numeral word ≡ true) × (digits_value word ≡ n)

-- the number that a word says, however large
abbrev pub numeral_in : List ℕ → Option ℕ
numeral_in word = if is_numeral word then Some (digits_value word) else None
