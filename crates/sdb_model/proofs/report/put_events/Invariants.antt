use Rattle.std.proofs.Common.{◌≡◌, ◌+◌, ◌++◌, drop}
use Rattle.std.specs.String.{string_bytes}
use Rattle.sdb_model.specs.Report.{event_lines}
use Rattle.sdb_model.proofs.report.put_events.Given as goal

abbrev pub invariant-loop-i : goal.invariant-loop-i
invariant-loop-i l = string_bytes l.out ++ event_lines (l.i + 1) (drop l.i l.events) ≡ string_bytes l.fn.out ++ event_lines 1 l.events
