use Rattle.std.proofs.Common.{◌≡◌, drop, not}
use Rattle.std.specs.Prelude.{filter}
use Rattle.sdb_record.specs.Among.{is_written}
use Rattle.sdb_validate.proofs.checks.unpaired.Given as goal

abbrev pub invariant-loop-i : goal.invariant-loop-i
invariant-loop-i l = filter (λ r. not (is_written l.own r.key)) (drop l.i l.reads) ≡ filter (λ r. not (is_written l.own r.key)) l.reads
