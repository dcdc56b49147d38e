-- Bytes that were read of a source and not used yet.
use Rattle.std.specs.Prelude.{ℕ, List, ◌++◌, take, drop, Option, option_map}
use Rattle.sdb_shell.specs.declared.bytes.Bytes.{Bytes}

-- the bytes that were read and not used
abbrev pub ahead : Bytes → List ℕ
ahead b = drop b.at (take b.end b.piece)

-- what is left with them, where what the source has left is known
abbrev pub left : Bytes → Option (List ℕ) → Option (List ℕ)
left b remaining = option_map (λ rest. ahead b ++ rest) remaining
