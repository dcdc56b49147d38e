use Rattle.std.proofs.Common.{◌≡◌, drop}
use Rattle.std.specs.List.{list_all}
use Rattle.check_protocol.specs.Rules.{is_valid_found}
use Rattle.check_protocol.proofs.commit.is_fine_scan.Given as goal

abbrev pub invariant-loop-read : goal.invariant-loop-read
invariant-loop-read l = list_all (is_valid_found l.observed l.scan) (drop l.read-index l.found) ≡ list_all (is_valid_found l.observed l.scan) l.found
