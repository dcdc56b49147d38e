use Rattle.std.proofs.Common.{◌≡◌, take}
use Rattle.std.specs.Prelude.{filter}
use Rattle.sdb_types.specs.Contents.{in_span}
use Rattle.sdb_hashed.proofs.bucket.records_in.Given as goal

abbrev pub invariant-loop-rec : goal.invariant-loop-rec
invariant-loop-rec l = l.found ≡ filter (λ r. in_span l.span r.key) (take l.rec-index l.records)
