use Rattle.std.proofs.Common.{◌≡◌, ◌++◌, take, codes}
use Rattle.std.specs.List.{flat_map}
use Rattle.std.specs.String.{string_bytes}
use Rattle.sdb_model.specs.Texts.{record_text_of}
use Rattle.sdb_model.proofs.report.put_records.Given as goal

abbrev pub invariant-loop-there : goal.invariant-loop-there
invariant-loop-there l = string_bytes l.out ≡ string_bytes l.initial.out ++ flat_map (λ r. codes " " ++ record_text_of r) (take l.there-index l.records)
