use Rattle.std.proofs.Common.{◌≡◌, ◌++◌, take, not}
use Rattle.std.specs.Prelude.{map, filter}
use Rattle.sdb_phases.specs.Checks.{check_of_read}
use Rattle.sdb_validate.proofs.checks.put_rereads.Given as goal
use Rattle.sdb_record.specs.Among.{is_written}

abbrev pub invariant-loop-read : goal.invariant-loop-read
invariant-loop-read l = l.checks ≡ l.initial.checks ++ map check_of_read (filter (λ r. not (is_written l.own r.key)) (take l.read-index l.reads))
