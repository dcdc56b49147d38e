-- What was read of an input, and what was written of a text.
use Rattle.std.specs.Prelude.{◌≡◌, ℕ, ◌<◌, ◌≤◌, List, ◌++◌, length, Option}
use Rattle.sdb_types.specs.Bytes.{Takes, Appends, IsAtEnd}
use Rattle.sdb_app.specs.declared.streams.Input.{Input}
use Rattle.sdb_app.specs.declared.streams.Input.TheVariants as input

-- All bytes up to the end, which are no more than the limit; or more bytes than the limit.
abbrev pub IsRead : ℕ → Option (List ℕ) → Option (List ℕ) → Input → Type 0
IsRead limit old new (input.Whole bytes) = Takes bytes.items old new × IsAtEnd new × (length bytes.items ≤ limit)
IsRead limit old new (input.Longer bytes) = Takes bytes.items old new × (limit < length bytes.items)

-- The start of a text was written, and this is what is left of it.
pub record IsWriting (text : List ℕ) (old new : Option (List ℕ)) (left : List ℕ) : Type 0 where
  pub put : List ℕ
  pub appended : Appends put old new
  pub whole : put ++ left ≡ text
