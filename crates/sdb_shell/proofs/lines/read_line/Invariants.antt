use Rattle.std.proofs.Common.{◌≡◌, ◌≤◌, ◌+◌, false, length}
use Rattle.sdb_types.specs.Bytes.{Takes}
use Rattle.sdb_shell.specs.Ahead.{left}
use Rattle.sdb_shell.specs.Lines.{has_lf}
use Rattle.sdb_shell.proofs.lines.read_line.Given as goal

-- these bytes of the line were read so far
abbrev pub invariant-loop : goal.invariant-loop
invariant-loop g l = record {
  accepted : Takes l.line.items (left l.fn.bytes (g.R.Source.remaining l.fn.source)) (left l.bytes (g.R.Source.remaining l.source));
  one : has_lf l.line.items ≡ false;
  many : length l.line.items ≡ l.counter;
  used : l.bytes.used ≡ l.fn.bytes.used + length l.line.items;
  later : g.R.Source.faults l.fn.source ≤ g.R.Source.faults l.source;
}
