use Rattle.std.proofs.Common.{List, map, ap, ◌∙◌, sym}
use Rattle.std.specs.Vec.Iter.{into_iter_items}
use Rattle.sdb_record.specs.declared.write.Write.{Write}
use Rattle.sdb_snapshot.specs.Opened.{with_laids}
use Rattle.sdb_snapshot.proofs.Places.{key_of, keys_laid}
use Rattle.sdb_snapshot.proofs.write_set.lay_each.Goals as goal

pub loop-keyed-preserved : goal.loop-keyed-preserved
loop-keyed-preserved c = (
  tt,
  tt,
  ap (λ (ws : List Write). with_laids ws (into_iter_items c.next.new.self)) c.lay.ensures
      ∙ sym (ap (with_laids c.loop-keyed.writes.items) c.in-Some.ensures.steps.0) ∙ c.loop-keyed.invariant.2,
  c.loop-keyed.invariant.3 ∙ sym (keys_laid c.loop-keyed.writes.items c.in-Some.keyed) ∙ ap (map key_of) (sym c.lay.ensures),
)
