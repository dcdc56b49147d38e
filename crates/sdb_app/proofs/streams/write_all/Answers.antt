use Rattle.std.proofs.Common.{arith, length-drop, length, drop, ◌-◌}
use Rattle.std.proofs.lemmas.List.{length-take}
use Rattle.sdb_types.proofs.Public.{appends_piece}
use Rattle.sdb_app.proofs.streams.write_all.Goals as goal

pub loop-at-preserved : goal.loop-at-preserved
loop-at-preserved g c =
    let h = c.in_ok-n.ensures in
    record {
      inside = omega (arith, h.fits.1, length-take (length c.args.bytes.now - c.loop-at.at) (drop c.loop-at.at c.args.bytes.now), length-drop c.loop-at.at c.args.bytes.now);
      prefix = appends_piece c.args.bytes.now c.loop-at.at c.in_ok-n.n _ _ _ c.loop-at.invariant.prefix h.appended;
      later = omega (arith, h.later);
    }
