use Rattle.std.proofs.Common.{◌≡◌, ◌+◌, drop}
use Rattle.std.specs.Option.{option_map}
use Rattle.csv.specs.Records.{fields_of}
use Rattle.sdb_data.specs.Tables.{bad_place}
use Rattle.sdb_data.proofs.read.find_bad.Given as goal

abbrev pub invariant-loop-place : goal.invariant-loop-place
invariant-loop-place l = option_map (λ i. l.place + i) (bad_place (drop l.place l.heads) (drop l.place (fields_of l.fields))) ≡ bad_place l.heads (fields_of l.fields)
