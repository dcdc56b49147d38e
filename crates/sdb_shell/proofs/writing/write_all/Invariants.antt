use Rattle.std.proofs.Common.{◌≤◌, ◌-◌, take, length}
use Rattle.sdb_types.specs.Bytes.{Appends}
use Rattle.sdb_shell.proofs.writing.write_all.Given as goal

-- what was written so far is the prefix of the text
abbrev pub invariant-loop-at : goal.invariant-loop-at
invariant-loop-at g l = record {
  inside : l.at ≤ length l.bytes;
  prefix : Appends (take l.at l.bytes) (g.W.Sink.written l.fn.sink) (g.W.Sink.written l.sink);
  later : g.W.Sink.faults l.fn.sink ≤ g.W.Sink.faults l.sink;
}

abbrev pub decreases-loop-at : goal.decreases-loop-at
decreases-loop-at g l = length l.bytes - l.at
