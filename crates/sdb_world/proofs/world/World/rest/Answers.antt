use Rattle.std.proofs.Common.{◌≡◌, ◌≤◌, ◌+◌, List, sym, ap, subst, arith}
use Rattle.sdb_world.specs.Types.{Event, Script}
use Rattle.sdb_model.specs.declared.script.Act.TheVariants as act
use Rattle.sdb_model.specs.Follows.{IsRest, end_of}
use Rattle.sdb_contents.proofs.Public.{goes_more, some_more}
use Rattle.sdb_world.specs.Step.{IsOne}
use Rattle.sdb_world.proofs.Broken.{breaks_more}
use Rattle.sdb_world.proofs.Goes.{come_as, come_more}
use Rattle.sdb_world.proofs.Rounds.{Rests, rests_all, rests_on, turn_number}
use Rattle.sdb_world.proofs.world.World.rest.Goals as goal

pub returns-in-None-clause-come : goal.returns-in-None-clause-come
returns-in-None-clause-come g c =
    let before = c.loop.invariant in
    let script = c.args.self.now.script in
    let past = c.args.self.now.events in
    let later = c.loop.self.script in
    let now = c.loop.self.events in
    let same : later ≡ script = before.come.gone.script in
    come_as (λ (es : List Event). Rests script.clients past es c.loop.from) (IsRest script.clients 1 past)
    (g.R.Registry.state c.args.stores.now) (g.R.Registry.state c.loop.stores) c.args.self.now c.loop.self before.come
    (λ es at h. rests_all script.clients later.clients c.loop.from past now es (ap (λ (x : Script). x.clients) same) at h c.in-None.ensures.none)

pub returns-in_err-go-in-Some-clause-goes : goal.returns-in_err-go-in-Some-clause-goes
returns-in_err-go-in-Some-clause-goes g c = goes_more _ _ _ c.loop.invariant.goes c.in_err-go-in-Some.ensures.goes

pub loop-preserved : goal.loop-preserved
loop-preserved g c =
    let before = c.loop.invariant in
    let script = c.args.self.now.script in
    let past = c.args.self.now.events in
    let later = c.loop.self.script in
    let now = c.loop.self.events in
    let same : later ≡ script = before.come.gone.script in
    let done = c.in_ok-go-in-Some.ensures in
    let client = c.in-Some.client in
    let turn = c.in-Some.ensures.some in
    let number = turn_number later.clients now c.loop.from client before.low before.high turn in
    record {
      some = some_more _ _ done.goes.names before.some;
      world = done.world;
      low = omega arith;
      high = subst (λ (x : Script). client + 1 ≤ end_of x.clients) (sym done.acted.gone.script) (omega (arith, number.1));
      goes = goes_more _ _ _ before.goes done.goes;
      broken = breaks_more c.args.self.now.events c.loop.self.events c.go.new.self.events (g.R.Registry.state c.args.stores.now) (g.R.Registry.state c.loop.stores) (g.R.Registry.state c.go.new.stores) before.broken done.goes done.broken;
      come = come_more (λ (es : List Event). Rests script.clients past es c.loop.from) (IsOne later (act.Step client) now) (λ (es : List Event). Rests script.clients past es (client + 1))
          (g.R.Registry.state c.args.stores.now) (g.R.Registry.state c.loop.stores) (g.R.Registry.state c.go.new.stores)
          c.args.self.now c.loop.self c.go.new.self before.goes before.come done.acted
          (λ es more at h k. rests_on script.clients later c.loop.from client past now es more (ap (λ (x : Script). x.clients) same) at h turn k);
    }
