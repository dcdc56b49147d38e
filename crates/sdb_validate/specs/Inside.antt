-- The representation of the checks of a COMMIT, and what they answer.
use Rattle.std.specs.Prelude.{◌≡◌, true, ℕ, ◌+◌, List}
use Rattle.std.specs.List.{list_all}
use Rattle.sdb_validate.specs.Types.{Check, ValidateStep}
use Rattle.sdb_phases.specs.declared.step.ValidateStep.TheVariants as validate
use Rattle.sdb_phases.specs.Steps.{may_starve}
use Rattle.sdb_validate.specs.Merge.{target_rises}

-- what each rescan is to find is in key order
abbrev pub AreOrdered : List Check → Type 0
AreOrdered checks = list_all (λ c. target_rises c.target) checks ≡ true

-- It answers what the step says. Out of memory may be answered in place of a conflict alone, whose key is copied.
abbrev pub Judges : ValidateStep → ValidateStep → Type 0
Judges want validate.NoMemory = may_starve want ≡ true
Judges want s = s ≡ want

-- the next check where another is pending, and else the place after the last
abbrev pub place_after : (at count : ℕ) → ValidateStep → ℕ
place_after at count validate.More = at + 1
place_after at count s = count
