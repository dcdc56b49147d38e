use Rattle.std.proofs.Common.{◌≡◌, ◌+◌, take, refl}
use Rattle.sdb_model.specs.Follows.{AreOfMoves, IsOfMove}
use Rattle.sdb_contents.proofs.Public.{goes_more, goes_none, some_more}
use Rattle.sdb_world.proofs.Broken.{breaks_more, breaks_none}
use Rattle.sdb_world.proofs.Goes.{come_more, come_none}
use Rattle.sdb_world.proofs.Rounds.{follows_more}
use Rattle.sdb_world.proofs.world.World.follow.Goals as goal

pub loop-i-init : goal.loop-i-init
loop-i-init g c = record {
  some = c.requires.some;
  world = c.requires.world;
  goes = goes_none (g.R.Registry.state c.args.stores.now);
  broken = breaks_none c.args.self.now.events (g.R.Registry.state c.args.stores.now).views;
  come = come_none (AreOfMoves c.args.self.now.script (take 0 c.args.self.now.script.moves) c.args.self.now.events) (g.R.Registry.state c.args.stores.now) c.args.self.now refl;
}

pub returns-in_err-make-clause-goes : goal.returns-in_err-make-clause-goes
returns-in_err-make-clause-goes g c = goes_more _ _ _ c.loop-i.invariant.goes c.in_err-make.ensures.goes

pub loop-i-preserved : goal.loop-i-preserved
loop-i-preserved g c =
    let before = c.loop-i.invariant in
    let script = c.args.self.now.script in
    let past = c.args.self.now.events in
    let later = c.loop-i.self.script in
    let now = c.loop-i.self.events in
    let i = c.loop-i.i in
    let made = c.in_ok-made.made in
    let same : later ≡ script = before.come.gone.script in
    let done = c.in_ok-make.ensures in
    record {
      some = some_more _ _ done.goes.names before.some;
      world = done.world;
      goes = goes_more _ _ _ before.goes done.goes;
      broken = breaks_more c.args.self.now.events c.loop-i.self.events c.make.new.self.events (g.R.Registry.state c.args.stores.now) (g.R.Registry.state c.loop-i.stores) (g.R.Registry.state c.make.new.stores) before.broken done.goes done.broken;
      come = come_more (AreOfMoves script (take i script.moves) past) (IsOfMove later made now) (AreOfMoves script (take (i + 1) script.moves) past)
          (g.R.Registry.state c.args.stores.now) (g.R.Registry.state c.loop-i.stores) (g.R.Registry.state c.make.new.stores)
          c.args.self.now c.loop-i.self c.make.new.self before.goes before.come done.come
          (λ es more at h k. follows_more script later i made past now es more same at c.in_ok-made.ensures h k);
    }
