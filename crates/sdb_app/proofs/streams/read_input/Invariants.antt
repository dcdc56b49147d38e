use Rattle.std.proofs.Common.{◌≤◌, ◌≡◌, ◌-◌, ◌+◌, length, vec_len}
use Rattle.sdb_types.specs.Bytes.{Takes}
use Rattle.sdb_app.proofs.streams.read_input.Given as goal

-- what was read so far is the prefix of what was left
abbrev pub invariant-loop-piece : goal.invariant-loop-piece
invariant-loop-piece g l = record {
  front : Takes l.bytes.items (g.R.Source.remaining l.fn.source) (g.R.Source.remaining l.source);
  piece : length l.piece ≡ 4096;
  later : g.R.Source.faults l.fn.source ≤ g.R.Source.faults l.source;
}

abbrev pub decreases-loop-piece : goal.decreases-loop-piece
decreases-loop-piece g l = l.limit + 1 - vec_len l.bytes
