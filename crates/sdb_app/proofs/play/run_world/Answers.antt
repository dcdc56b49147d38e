use Rattle.std.proofs.Common.{subst, sym}
use Rattle.std.proofs.lemmas.Result.{IfOk-from_err}
use Rattle.sdb_model.specs.declared.script.Script.{Script}
use Rattle.sdb_contents.proofs.Public.{goes_more, goes_none, some_more}
use Rattle.sdb_world.specs.Ran.{HasNotRun, IsOddAtEnd}
use Rattle.sdb_world.specs.Step.{CanFollow}
use Rattle.sdb_app.specs.declared.status.Status.TheVariants as status
use Rattle.sdb_app.proofs.Headline.{passed_on, stops_after, stops_both}
use Rattle.sdb_app.proofs.Following.{broken_played, err_both, executed_played, explained_played, none_played, odd_played, ok_both, read_played, run_played}
use Rattle.sdb_shell.proofs.Public.{map_ok}
use Rattle.sdb_app.proofs.play.run_world.Goals as goal

---- a world for which there is no memory

pub returns-in_err-world-clause-follows : goal.returns-in_err-world-clause-follows
returns-in_err-world-clause-follows g c = IfOk-from_err c.from_residual.result _ c.from_residual.ensures.0

pub returns-in_err-world-clause-executed : goal.returns-in_err-world-clause-executed
returns-in_err-world-clause-executed g c = IfOk-from_err c.from_residual.result _ c.from_residual.ensures.0

pub returns-in_err-world-clause-fits : goal.returns-in_err-world-clause-fits
returns-in_err-world-clause-fits g c = IfOk-from_err c.from_residual.result _ c.from_residual.ensures.0

pub returns-in_err-world-clause-broken : goal.returns-in_err-world-clause-broken
returns-in_err-world-clause-broken g c = IfOk-from_err c.from_residual.result _ c.from_residual.ensures.0

pub returns-in_err-world-clause-explained : goal.returns-in_err-world-clause-explained
returns-in_err-world-clause-explained g c = IfOk-from_err c.from_residual.result _ c.from_residual.ensures.0

pub returns-in_err-world-clause-read : goal.returns-in_err-world-clause-read
returns-in_err-world-clause-read g c = IfOk-from_err c.from_residual.result _ c.from_residual.ensures.0

pub returns-in_err-world-clause-run : goal.returns-in_err-world-clause-run
returns-in_err-world-clause-run g c = IfOk-from_err c.from_residual.result _ c.from_residual.ensures.0

pub returns-in_err-world-clause-goes : goal.returns-in_err-world-clause-goes
returns-in_err-world-clause-goes g c = goes_none (g.R.Registry.state c.args.stores.now)

pub returns-in_err-world-clause-err : goal.returns-in_err-world-clause-err
returns-in_err-world-clause-err g c = passed_on _ c.from_residual.result status.NoMemory c.from_residual.ensures.1 tt

---- a script that memory ran out for

pub returns-in_err-follow-clause-follows : goal.returns-in_err-follow-clause-follows
returns-in_err-follow-clause-follows g c = IfOk-from_err c.from_residual-in_err-follow.result _ c.from_residual-in_err-follow.ensures.0

pub returns-in_err-follow-clause-executed : goal.returns-in_err-follow-clause-executed
returns-in_err-follow-clause-executed g c = IfOk-from_err c.from_residual-in_err-follow.result _ c.from_residual-in_err-follow.ensures.0

pub returns-in_err-follow-clause-fits : goal.returns-in_err-follow-clause-fits
returns-in_err-follow-clause-fits g c = IfOk-from_err c.from_residual-in_err-follow.result _ c.from_residual-in_err-follow.ensures.0

pub returns-in_err-follow-clause-broken : goal.returns-in_err-follow-clause-broken
returns-in_err-follow-clause-broken g c = IfOk-from_err c.from_residual-in_err-follow.result _ c.from_residual-in_err-follow.ensures.0

pub returns-in_err-follow-clause-explained : goal.returns-in_err-follow-clause-explained
returns-in_err-follow-clause-explained g c = IfOk-from_err c.from_residual-in_err-follow.result _ c.from_residual-in_err-follow.ensures.0

pub returns-in_err-follow-clause-read : goal.returns-in_err-follow-clause-read
returns-in_err-follow-clause-read g c = IfOk-from_err c.from_residual-in_err-follow.result _ c.from_residual-in_err-follow.ensures.0

pub returns-in_err-follow-clause-run : goal.returns-in_err-follow-clause-run
returns-in_err-follow-clause-run g c = IfOk-from_err c.from_residual-in_err-follow.result _ c.from_residual-in_err-follow.ensures.0

pub returns-in_err-follow-clause-goes : goal.returns-in_err-follow-clause-goes
returns-in_err-follow-clause-goes g c = c.follow.ensures.goes

pub returns-in_err-follow-clause-err : goal.returns-in_err-follow-clause-err
returns-in_err-follow-clause-err g c = passed_on _ c.from_residual-in_err-follow.result status.NoMemory c.from_residual-in_err-follow.ensures.1 tt

---- an outcome, or why there is none

pub returns-clause-run : goal.returns-clause-run
returns-clause-run g c =
    let before = c.in_ok-world.ensures in
    let made = c.in_ok-follow.ensures in
    let old = g.R.Registry.state c.args.stores.now in
    let mid = g.R.Registry.state c.follow.new.stores in
    map_ok _ _ c.ended.result
    (λ o. run_played c.args.script c.in_ok-world.world c.follow.new.self old mid before.script before.events before.initial made.come made.goes (g.R.Registry.state c.ended.new.stores) o) c.ended.ensures.run

pub returns-clause-read : goal.returns-clause-read
returns-clause-read g c =
    let before = c.in_ok-world.ensures in
    let made = c.in_ok-follow.ensures in
    let old = g.R.Registry.state c.args.stores.now in
    let mid = g.R.Registry.state c.follow.new.stores in
    let new = g.R.Registry.state c.ended.new.stores in
    ok_both _ _ _ c.ended.result c.ended.ensures.events c.ended.ensures.read (λ o is read. read_played c.args.script c.in_ok-world.world c.follow.new.self old mid before.script before.events made.come made.goes new o is read)

pub returns-clause-explained : goal.returns-clause-explained
returns-clause-explained g c =
    let before = c.in_ok-world.ensures in
    let made = c.in_ok-follow.ensures in
    let old = g.R.Registry.state c.args.stores.now in
    let mid = g.R.Registry.state c.follow.new.stores in
    map_ok _ _ c.ended.result (λ o. explained_played c.args.script c.in_ok-world.world c.follow.new.self old mid before.script before.events before.initial made.come made.goes o.events) c.ended.ensures.explained

pub returns-clause-executed : goal.returns-clause-executed
returns-clause-executed g c =
    let before = c.in_ok-world.ensures in
    map_ok _ _ c.ended.result (λ o. executed_played (g.R.Registry.state c.args.stores.now) (g.R.Registry.state c.follow.new.stores) c.args.script c.in_ok-world.world c.follow.new.self before.script before.events before.initial c.in_ok-follow.ensures.come o.events) c.ended.ensures.events

pub returns-clause-fits : goal.returns-clause-fits
returns-clause-fits g c = c.ended.ensures.fits

pub returns-clause-broken : goal.returns-clause-broken
returns-clause-broken g c =
    let old = g.R.Registry.state c.args.stores.now in
    let mid = g.R.Registry.state c.follow.new.stores in
    let new = g.R.Registry.state c.ended.new.stores in
    map_ok _ _ c.ended.result (λ o. broken_played c.in_ok-world.world c.follow.new.self old mid new o.events c.in_ok-world.ensures.events c.in_ok-follow.ensures.broken c.ended.ensures.goes) c.ended.ensures.events

pub returns-clause-goes : goal.returns-clause-goes
returns-clause-goes g c = goes_more _ _ _ c.in_ok-follow.ensures.goes c.ended.ensures.goes

pub returns-clause-err : goal.returns-clause-err
returns-clause-err g c =
    let before = c.in_ok-world.ensures in
    let made = c.in_ok-follow.ensures in
    let old = g.R.Registry.state c.args.stores.now in
    let mid = g.R.Registry.state c.follow.new.stores in
    let new = g.R.Registry.state c.ended.new.stores in
    let script = c.args.script in
    err_both _ _ _ c.ended.result c.ended.ensures.bad c.ended.ensures.err
    (λ s odd unplayed. stops_after old mid new.views _ _ _ _ s made.goes
    (λ key both. record {
      odd = odd_played script c.in_ok-world.world c.follow.new.self old mid before.script before.events made.come made.goes new key both.0;
      foreign = none_played script c.in_ok-world.world c.follow.new.self old mid before.script before.events before.initial made.come made.goes both.1;
    }) (λ key never. never)
    (stops_both mid.views new.views _ _ (λ key. IsOddAtEnd c.follow.new.self mid new key × HasNotRun c.follow.new.self mid) (λ key. ⊥) s (λ key o n. (o, n)) odd unplayed))

---- what the calls require

pub new-requires : goal.new-requires
new-requires g c = record { playable = c.requires.playable }

pub follow-requires-clause-some : goal.follow-requires-clause-some
follow-requires-clause-some g c = c.requires.some

pub follow-requires-clause-world : goal.follow-requires-clause-world
follow-requires-clause-world g c = c.in_ok-world.ensures.world

pub follow-requires-clause-can : goal.follow-requires-clause-can
follow-requires-clause-can g c = subst (λ (s : Script). CanFollow s) (sym c.in_ok-world.ensures.script) c.requires.can

pub ended-requires-clause-some : goal.ended-requires-clause-some
ended-requires-clause-some g c = some_more (g.R.Registry.state c.args.stores.now).views (g.R.Registry.state c.follow.new.stores).views c.in_ok-follow.ensures.goes.names c.requires.some

pub ended-requires-clause-world : goal.ended-requires-clause-world
ended-requires-clause-world g c = c.in_ok-follow.ensures.world
