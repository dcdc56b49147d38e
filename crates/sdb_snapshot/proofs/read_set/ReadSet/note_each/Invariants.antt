use Rattle.std.proofs.Common.{◌≡◌, drop}
use Rattle.sdb_snapshot.specs.Sets.{StartsWith}
use Rattle.sdb_snapshot.specs.Reads.{with_images}
use Rattle.sdb_snapshot.proofs.read_set.ReadSet.note_each.Given as goal

abbrev pub invariant-loop-rec : goal.invariant-loop-rec
invariant-loop-rec l = record {
  answered : with_images l.self (drop l.rec-index l.records) ≡ with_images l.initial.self l.records;
  front : StartsWith l.initial.self l.self;
}
