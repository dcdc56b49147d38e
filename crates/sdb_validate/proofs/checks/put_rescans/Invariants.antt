use Rattle.std.proofs.Common.{◌≡◌, ◌++◌, take}
use Rattle.std.specs.Prelude.{map}
use Rattle.sdb_phases.specs.Checks.{check_of_scan}
use Rattle.sdb_validate.proofs.checks.put_rescans.Given as goal

abbrev pub invariant-loop-scan : goal.invariant-loop-scan
invariant-loop-scan l = l.checks ≡ l.initial.checks ++ map (check_of_scan l.own) (take l.scan-index l.scans)
