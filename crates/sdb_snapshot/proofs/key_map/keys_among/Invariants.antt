use Rattle.std.proofs.Common.{◌≡◌, ◌++◌}
use Rattle.sdb_ordered.proofs.Public.{LiesFrom}
use Rattle.sdb_snapshot.specs.Places.{keys_among}
use Rattle.sdb_snapshot.proofs.key_map.keys_among.Given as goal

abbrev pub invariant-loop-key : goal.invariant-loop-key
invariant-loop-key l = record {
  answered : l.found ++ keys_among l.span l.key-iterator ≡ keys_among l.span l.places.entries;
  agrees : LiesFrom l.span l.key-iterator;
}
