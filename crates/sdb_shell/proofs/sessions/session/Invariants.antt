use Rattle.std.proofs.Common.{◌<◌, ◌≤◌, length}
use Rattle.sdb_contents.specs.Board.{GoOn}
use Rattle.sdb_shell.specs.Ahead.{left}
use Rattle.sdb_shell.specs.Session.{IsSoFar}
use Rattle.sdb_shell.proofs.sessions.session.Given as goal

-- the lines so far were answered
abbrev pub invariant-loop-n : goal.invariant-loop-n
invariant-loop-n g l = record {
  some : 0 < length (g.S.Registry.state l.stores).views;
  reads : g.R.Source.faults l.fn.input ≤ g.R.Source.faults l.input;
  writes : g.W.Sink.faults l.fn.output ≤ g.W.Sink.faults l.output;
  goes : GoOn (g.S.Registry.state l.fn.stores) (g.S.Registry.state l.stores);
  so : IsSoFar l.catalog (g.S.Registry.state l.fn.stores) (g.S.Registry.state l.stores) (g.C.Clock.answered l.fn.clock) (g.C.Clock.answered l.clock) (g.I.Ids.answered l.fn.ids) (g.I.Ids.answered l.ids) (g.W.Sink.written l.fn.output) (g.W.Sink.written l.output) (g.R.Source.remaining l.fn.input) (left l.bytes (g.R.Source.remaining l.input)) l.bytes.used l.n l.session;
}
