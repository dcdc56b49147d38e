use Rattle.std.proofs.Common.{◌≡◌, ◌++◌}
use Rattle.sdb_types.specs.Contents.{rows_among}
use Rattle.sdb_ordered.proofs.SpanLemmas.{LiesFrom}
use Rattle.sdb_ordered.proofs.tree.rows_of.Given as goal

abbrev pub invariant-loop-key : goal.invariant-loop-key
invariant-loop-key l = record {
  answered : l.found ++ rows_among l.span l.key-iterator ≡ rows_among l.span l.rows.entries;
  agrees : LiesFrom l.span l.key-iterator;
}
