use Rattle.std.proofs.Common.{◌≡◌, ◌<◌, ◌%◌, sum, take}
use Rattle.sdb_shards.proofs.homes.remainder.Given as goal

abbrev pub invariant-loop-byte : goal.invariant-loop-byte
invariant-loop-byte l = record {
  is : l.left ≡ sum (take l.byte-index l.bytes) % l.boxes;
  small : l.left < l.boxes;
}
