use Rattle.std.proofs.Common.{◌≤◌, ◌+◌, ◌++◌, drop}
use Rattle.std.specs.String.{string_bytes}
use Rattle.sdb_model.specs.Report.{event_lines}
use Rattle.sdb_app.specs.Streams.{IsWriting}
use Rattle.sdb_app.proofs.written.write_events.Given as goal

abbrev pub invariant-loop-i : goal.invariant-loop-i
invariant-loop-i g l = record {
  writing : IsWriting (string_bytes l.fn.held ++ event_lines 1 l.events) (g.W.Sink.written l.fn.output) (g.W.Sink.written l.output) (string_bytes l.held ++ event_lines (l.i + 1) (drop l.i l.events));
  later : g.W.Sink.faults l.fn.output ≤ g.W.Sink.faults l.output;
}
