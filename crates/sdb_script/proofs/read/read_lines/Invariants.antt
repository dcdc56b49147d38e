use Rattle.std.proofs.Common.{◌≡◌, ◌+◌, ◌≤◌, length}
use Rattle.sdb_model.specs.Form.{lines_of}
use Rattle.sdb_script.specs.Begun.{nothing}
use Rattle.sdb_script.specs.Reading.{read_from}
use Rattle.sdb_script.proofs.read.read_lines.Given as goal

abbrev pub invariant-loop-rest : goal.invariant-loop-rest
invariant-loop-rest l = record {
  same : read_from l.stores l.number l.drafting (lines_of l.rest) ≡ read_from l.stores 1 nothing (lines_of l.bytes);
  count : l.number + length (lines_of l.rest) ≡ length (lines_of l.bytes) + 1;
  small : l.number + length l.rest ≤ length l.bytes + 1;
}

abbrev pub decreases-loop-rest : goal.decreases-loop-rest
decreases-loop-rest l = length l.rest
