use Rattle.std.proofs.Common.{◌≡◌, ◌++◌, take}
use Rattle.std.specs.List.{flat_map}
use Rattle.std.specs.String.{string_bytes}
use Rattle.sdb_model.specs.Report.{table_lines}
use Rattle.sdb_model.proofs.report.put_dumps.Given as goal

abbrev pub invariant-loop-dump : goal.invariant-loop-dump
invariant-loop-dump l = string_bytes l.out ≡ string_bytes l.initial.out ++ flat_map table_lines (take l.dump-index l.dumps)
