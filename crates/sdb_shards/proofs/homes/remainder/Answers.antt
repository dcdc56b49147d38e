use Rattle.std.proofs.lemmas.Nat.{mod_below}
use Rattle.sdb_shards.proofs.Fitting.{sum_more}
use Rattle.sdb_shards.proofs.homes.remainder.Goals as goal

pub loop-byte-preserved : goal.loop-byte-preserved
loop-byte-preserved c = record {
  is = sum_more c.args.bytes.now c.loop-byte.byte-index c.loop-byte.left c.args.boxes c.loop-byte-test.true c.loop-byte.invariant.is;
  small = mod_below _ c.args.boxes c.requires;
}
