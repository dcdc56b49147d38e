use Rattle.std.proofs.Common.{◌≡◌, ◌+◌, ℕ, refl, sym, ap, subst, arith}
use Rattle.sdb_model.specs.declared.script.Act.TheVariants as act
use Rattle.sdb_model.specs.declared.script.Script.{Script}
use Rattle.sdb_contents.proofs.Public.{goes_more, goes_none, some_more}
use Rattle.sdb_world.specs.Step.{AreSteps, HasCome, IsNumber, IsOne}
use Rattle.sdb_world.proofs.Broken.{breaks_more, breaks_none}
use Rattle.sdb_world.proofs.Goes.{come_more, come_none}
use Rattle.sdb_world.proofs.Rounds.{steps_more}
use Rattle.sdb_world.proofs.world.World.repeat.Goals as goal

pub loop-init : goal.loop-init
loop-init g c = record {
  some = c.requires.some;
  world = c.requires.world;
  goes = goes_none (g.R.Registry.state c.args.stores.now);
  broken = breaks_none c.args.self.now.events (g.R.Registry.state c.args.stores.now).views;
  come = come_none (AreSteps c.args.self.now.script.clients c.args.client 0 c.args.self.now.events) (g.R.Registry.state c.args.stores.now) c.args.self.now (record { count = refl; steps = tt });
}

pub go-requires-clause-client : goal.go-requires-clause-client
go-requires-clause-client g c = subst (λ (x : Script). IsNumber x c.args.client) (sym c.loop.invariant.come.gone.script) c.requires.client

pub returns-in_err-go-clause-goes : goal.returns-in_err-go-clause-goes
returns-in_err-go-clause-goes g c = goes_more _ _ _ c.loop.invariant.goes c.in_err-go.ensures.goes

pub loop-preserved : goal.loop-preserved
loop-preserved g c =
    let before = c.loop.invariant in
    let script = c.args.self.now.script in
    let past = c.args.self.now.events in
    let later = c.loop.self.script in
    let now = c.loop.self.events in
    let same : later ≡ script = before.come.gone.script in
    let done = c.in_ok-go.ensures in
    record {
      some = some_more _ _ done.goes.names before.some;
      world = done.world;
      goes = goes_more _ _ _ before.goes done.goes;
      broken = breaks_more c.args.self.now.events c.loop.self.events c.go.new.self.events (g.R.Registry.state c.args.stores.now) (g.R.Registry.state c.loop.stores) (g.R.Registry.state c.go.new.stores) before.broken done.goes done.broken;
      come = come_more (AreSteps script.clients c.args.client c.loop.counter past) (IsOne later (act.Step c.args.client) now) (AreSteps script.clients c.args.client (c.loop.counter + 1) past) (g.R.Registry.state c.args.stores.now) (g.R.Registry.state c.loop.stores) (g.R.Registry.state c.go.new.stores)
          c.args.self.now c.loop.self c.go.new.self before.goes before.come done.acted
          (λ es more at h k. steps_more script.clients later c.args.client c.loop.counter past now es more (ap (λ (x : Script). x.clients) same) at h k);
    }

pub returns-clause-come : goal.returns-clause-come
returns-clause-come g c =
    let all : c.loop.counter ≡ c.args.times = omega (arith, c.loop.auto.counter-end, c.loop-test.false) in
    subst (λ (n : ℕ). HasCome (AreSteps c.args.self.now.script.clients c.args.client n c.args.self.now.events)
    (g.R.Registry.state c.args.stores.now) (g.R.Registry.state c.loop.stores) c.args.self.now c.loop.self)
    all c.loop.invariant.come
