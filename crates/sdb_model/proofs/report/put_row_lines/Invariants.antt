use Rattle.std.proofs.Common.{◌≡◌, ◌++◌, take}
use Rattle.std.specs.List.{flat_map}
use Rattle.std.specs.String.{string_bytes}
use Rattle.sdb_model.specs.Report.{row_line}
use Rattle.sdb_model.proofs.report.put_row_lines.Given as goal

abbrev pub invariant-loop-row : goal.invariant-loop-row
invariant-loop-row l = string_bytes l.out ≡ string_bytes l.initial.out ++ flat_map row_line (take l.row-index l.rows)
