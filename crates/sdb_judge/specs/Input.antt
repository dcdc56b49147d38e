-- Where the report begins in a text that is a script and the report of it.
use Rattle.std.specs.Prelude.{◌≡◌, ℕ, zero, suc, ◌==◌, ◌<◌, Bool, true, false, ◌&&◌, List, [], ◌++◌, ◌⊎◌, length, drop, codes, Option, Some, None, slice_get}
use Rattle.std.specs.List.{starts_with}

-- the first line of each report
abbrev pub title : List ℕ
title = codes "scalardb report 1\n"

abbrev pub is_lf : Option ℕ → Bool
is_lf None = false
is_lf (Some b) = b == 10

-- a line begins at this place
abbrev pub begins_line : List ℕ → ℕ → Bool
begins_line text zero = true
begins_line text (suc i) = is_lf (slice_get text i)

-- the title of a report is a line here
abbrev pub is_title_at : List ℕ → ℕ → Bool
is_title_at text i = begins_line text i && starts_with ◌==◌ (drop i text) title

-- Two parts of a text: the second begins at the first line that is the title of a report. It is empty where there is none.
pub record IsSplit (text before report : List ℕ) : Type 0 where
  pub parts : text ≡ before ++ report
  pub here : (report ≡ []) ⊎ (is_title_at text (length before) ≡ true)
  pub first : (i : ℕ) → i < length before → is_title_at text i ≡ false
