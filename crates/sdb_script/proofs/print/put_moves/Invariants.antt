use Rattle.std.proofs.Common.{◌≡◌, ◌++◌, take, flat_map}
use Rattle.std.specs.String.{string_bytes}
use Rattle.sdb_script.specs.Printed.{move_text}
use Rattle.sdb_script.proofs.print.put_moves.Given as goal

abbrev pub invariant-loop-m : goal.invariant-loop-m
invariant-loop-m l = string_bytes l.out ≡ string_bytes l.initial.out ++ flat_map move_text (take l.m-index l.moves)
