use Rattle.std.proofs.Common.{◌≡◌, drop}
use Rattle.std.specs.List.{list_all}
use Rattle.check_protocol.specs.Rules.{is_as_read}
use Rattle.check_protocol.proofs.rules.rows_as_noted.Given as goal

abbrev pub invariant-loop-row : goal.invariant-loop-row
invariant-loop-row l = list_all (λ r. is_as_read l.writes l.scan l.rows r.key) (drop l.row-index l.rows) ≡ list_all (λ r. is_as_read l.writes l.scan l.rows r.key) l.rows
