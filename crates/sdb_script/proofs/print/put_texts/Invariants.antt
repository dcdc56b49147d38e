use Rattle.std.proofs.Common.{◌≡◌, ◌++◌, take, flat_map}
use Rattle.std.specs.String.{string_bytes}
use Rattle.sdb_script.specs.Printed.{statement_text}
use Rattle.sdb_script.proofs.print.put_texts.Given as goal

abbrev pub invariant-loop-text : goal.invariant-loop-text
invariant-loop-text l = string_bytes l.out ≡ string_bytes l.initial.out ++ flat_map statement_text (take l.text-index l.texts)
