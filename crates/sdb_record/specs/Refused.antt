-- What a refusal says.
use Rattle.std.specs.Prelude.{◌≡◌, ℕ, List, Result, Err, IsErr}
use Rattle.sdb_record.specs.declared.meta.MetaRefused.{MetaRefused}
use Rattle.sdb_record.specs.declared.meta.MetaRefused.TheVariants.{BadMeta, NoMemory}

abbrev pub IfBad : MetaRefused → (List ℕ → Type 0) → Type 0
IfBad (BadMeta name) P = P name
IfBad NoMemory P = Unit {0}

-- A refusal is that of a check which failed, and names the column; out of memory may be returned in its place.
abbrev pub Refuses : {A : Type 0} → Result A (List ℕ) → MetaRefused → Type 0
Refuses checked (BadMeta name) = checked ≡ Err name
Refuses checked NoMemory = IsErr checked
