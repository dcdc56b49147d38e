use Rattle.std.proofs.Common.{ap, sym, ◌∙◌}
use Rattle.std.specs.Prelude.{◌==◌, filter}
use Rattle.std.specs.BTreeMap.{get}
use Rattle.sdb_types.specs.Order.{key_cmp}
use Rattle.sdb_hashed.specs.Put.{with_rows}
use Rattle.sdb_shards.specs.Homes.{home_of}
use Rattle.sdb_shards.proofs.Listing.{left_out, put_own}
use Rattle.sdb_shards.proofs.calls.add_own.Goals as goal

pub loop-rec-preserved-in-Continue-branch-2 : goal.loop-rec-preserved-in-Continue-branch-2
loop-rec-preserved-in-Continue-branch-2 c =
    ap (with_rows (filter (λ r. home_of (get key_cmp c.args.moved.now) c.args.boxes r.key == c.args.at) c.pop.new.self.items)) c.in_ok-insert.ensures.ok
    ∙ put_own (λ r. home_of (get key_cmp c.args.moved.now) c.args.boxes r.key == c.args.at) c.pop.new.self.items c.loop-rec.left.items c.in-Some.rec c.loop-rec.all c.in-Some.ensures.items (sym c.in_ok-own.ensures ∙ c.if-own.true)
    ∙ c.loop-rec.invariant

pub loop-rec-preserved : goal.loop-rec-preserved
loop-rec-preserved c =
    left_out (λ r. home_of (get key_cmp c.args.moved.now) c.args.boxes r.key == c.args.at) c.pop.new.self.items c.loop-rec.left.items c.in-Some.rec c.loop-rec.all c.in-Some.ensures.items (sym c.in_ok-own.ensures ∙ c.if-own.false)
    ∙ c.loop-rec.invariant
