-- What was read of the input.
use Rattle.std.specs.Prelude.{◌≡◌, ◌<◌, ◌≤◌, ℕ, List, length}
use Rattle.sdb_types.specs.Bytes.{IsAtEnd, Takes}
use Rattle.sdb_model.specs.declared.script.Which.{Which}
use Rattle.sdb_model.specs.declared.script.Which.TheVariants.{InputBytes}
use Rattle.sdb_script.specs.Lines.{most_bytes}
use Rattle.sdb_script.specs.Whole.{last_line}
use Rattle.sdb_app.specs.Ends.{Stream}

-- All of the input was read, to its end, and is this text, no longer than an input may be.
pub record IsInput (input rest : Stream) (text : List ℕ) : Type 0 where
  pub accepted : Takes text input.bytes rest.bytes
  pub ended : IsAtEnd rest.bytes
  pub small : length text ≤ most_bytes

-- More bytes were read than an input may have, the first too many of them in this line.
pub record IsInputLong (input rest : Stream) (n : ℕ) (which : Which) : Type 0 where
  pub text : List ℕ
  pub accepted : Takes text input.bytes rest.bytes
  pub long : most_bytes < length text
  pub line : n ≡ last_line text
  pub limit : which ≡ InputBytes
