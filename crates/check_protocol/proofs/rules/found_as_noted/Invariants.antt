use Rattle.std.proofs.Common.{◌≡◌, drop}
use Rattle.std.specs.List.{list_all}
use Rattle.check_protocol.specs.Rules.{is_as_read}
use Rattle.check_protocol.proofs.rules.found_as_noted.Given as goal

abbrev pub invariant-loop-read : goal.invariant-loop-read
invariant-loop-read l = list_all (λ r. is_as_read l.writes l.scan l.rows r.key) (drop l.read-index l.found) ≡ list_all (λ r. is_as_read l.writes l.scan l.rows r.key) l.found
