use Rattle.std.proofs.Common.{◌≡◌, drop}
use Rattle.sdb_snapshot.specs.Sets.{StartsWith}
use Rattle.sdb_snapshot.specs.Opened.{with_news}
use Rattle.sdb_snapshot.proofs.write_set.WriteSet.open_each.Given as goal

abbrev pub invariant-loop-keyed : goal.invariant-loop-keyed
invariant-loop-keyed l = record {
  answered : with_news l.read_set l.self (drop l.keyed-index l.changes) ≡ with_news l.read_set l.initial.self l.changes;
  front : StartsWith l.initial.self l.self;
}
