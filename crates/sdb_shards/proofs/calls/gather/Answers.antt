use Rattle.std.proofs.Common.{◌≡◌, ap, arith, refl, ◌∙◌}
use Rattle.std.specs.BTreeMap.{get}
use Rattle.sdb_types.specs.Order.{key_cmp}
use Rattle.sdb_types.specs.Contents.{rows_in}
use Rattle.sdb_shards.specs.Boxes.{held_at, held_in}
use Rattle.sdb_shards.specs.Homes.{home_of}
use Rattle.sdb_shards.proofs.Listing.{all_gathered, none_gathered, one_gathered}
use Rattle.sdb_shards.proofs.Risen.{grown_then, none_failed, then_stopped}
use Rattle.sdb_shards.proofs.calls.gather.Goals as goal

pub loop-at-init : goal.loop-at-init
loop-at-init c = record {
  held = refl;
  below = omega arith;
  grown = none_failed c.args.boxes.now;
  gathered = none_gathered c.args.span.now (home_of (get key_cmp c.args.moved.now) c.len-count.result) (held_in c.args.boxes.now) c.new-all.result c.new-all.ensures;
}

pub loop-at-preserved : goal.loop-at-preserved
loop-at-preserved c = record {
  held = c.rows_at.ensures.held ∙ c.loop-at.invariant.held;
  below = omega (arith, c.loop-at-test.true);
  grown = grown_then c.args.boxes.now c.loop-at.boxes c.rows_at.new.boxes c.loop-at.invariant.grown c.rows_at.ensures.grown;
  gathered = one_gathered c.args.span.now (home_of (get key_cmp c.args.moved.now) c.len-count.result) (held_in c.args.boxes.now) c.loop-at.at c.loop-at.all c.add_own.new.all c.in_ok-rows.rows
      (c.in_ok-rows.ensures.rows ∙ ap (λ ms. rows_in c.args.span.now (held_at ms c.loop-at.at)) c.loop-at.invariant.held) c.in_ok-add_own.ensures c.loop-at.invariant.gathered;
}

pub returns-clause-rows : goal.returns-clause-rows
returns-clause-rows c =
    c.in_ok-list.ensures
    ∙ all_gathered c.args.span.now c.args.moved.now c.args.boxes.now c.len-count.result c.loop-at.at c.loop-at.all c.requires c.len-count.ensures (omega (arith, c.loop-at.invariant.below, c.loop-at-test.false)) c.loop-at.invariant.gathered
