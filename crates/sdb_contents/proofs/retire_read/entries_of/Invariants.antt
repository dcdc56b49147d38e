use Rattle.std.proofs.Common.{◌≡◌, [], take, map}
use Rattle.sdb_contents.specs.Moving.{FollowMoving}
use Rattle.sdb_catalog.specs.Rows.{row_of}
use Rattle.sdb_contents.proofs.retire_read.entries_of.Given as goal

abbrev pub invariant-loop-row : goal.invariant-loop-row
invariant-loop-row l = record {
  rows : take l.row-index l.rows ≡ map row_of l.entries;
  follow : FollowMoving l.names l.from l.to [] l.entries;
}
