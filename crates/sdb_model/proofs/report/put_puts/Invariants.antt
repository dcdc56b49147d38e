use Rattle.std.proofs.Common.{◌≡◌, ◌++◌, take, codes}
use Rattle.std.specs.List.{flat_map}
use Rattle.std.specs.String.{string_bytes}
use Rattle.sdb_model.specs.Report.{put_text_of}
use Rattle.sdb_model.proofs.report.put_puts.Given as goal

abbrev pub invariant-loop-put : goal.invariant-loop-put
invariant-loop-put l = string_bytes l.out ≡ string_bytes l.initial.out ++ flat_map (λ p. codes " " ++ put_text_of p) (take l.put-index l.puts)
