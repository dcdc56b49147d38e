use Rattle.std.proofs.Common.{◌≡◌, drop}
use Rattle.check_protocol.specs.Observed.{with_rows}
use Rattle.check_protocol.proofs.records.add_rows.Given as goal

abbrev pub invariant-loop-row : goal.invariant-loop-row
invariant-loop-row l = with_rows l.rows (drop l.row-index l.rows) l.found ≡ with_rows l.rows l.rows l.initial.found
