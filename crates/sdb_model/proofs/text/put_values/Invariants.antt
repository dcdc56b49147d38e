use Rattle.std.proofs.Common.{◌≡◌, ◌++◌, take, codes}
use Rattle.std.specs.List.{flat_map}
use Rattle.std.specs.String.{string_bytes}
use Rattle.sdb_model.specs.Texts.{value_text_of}
use Rattle.sdb_model.proofs.text.put_values.Given as goal

abbrev pub invariant-loop-value : goal.invariant-loop-value
invariant-loop-value l = string_bytes l.out ≡ string_bytes l.initial.out ++ flat_map (λ y. codes "," ++ value_text_of y) (take l.value-index l.rest)
