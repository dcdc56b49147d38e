use Rattle.std.proofs.Common.{List, ◌<◌, length, subst, sym}
use Rattle.sdb_stores.specs.Views.{StoreView as Counted}
use Rattle.sdb_contents.proofs.Public.{goes_more, some_more}
use Rattle.sdb_app.specs.Run.{IsBadFound}
use Rattle.sdb_app.proofs.Headline.{kept_after, stops_after, stops_as, fit_script, outcome_is, ready_after, found_bad, found_first}
use Rattle.sdb_app.proofs.Following.{err_then, ok_seven}
use Rattle.sdb_app.proofs.play.play.Goals as goal

---- places for which there is no memory

pub returns-in-Err-clause-kept : goal.returns-in-Err-clause-kept
returns-in-Err-clause-kept g c = kept_after (g.R.Registry.state c.args.stores.now) (g.R.Registry.state c.route_all.new.stores) (g.R.Registry.state c.be_empty.new.stores) c.route_all.ensures.stores c.route_all.ensures.where_known c.be_empty.ensures.goes

---- a look for records that stopped

pub returns-in-Err-clause-err : goal.returns-in-Err-clause-err
returns-in-Err-clause-err g c =
    let old = g.R.Registry.state c.args.stores.now in
    let mid = g.R.Registry.state c.route_all.new.stores in
    let left = g.R.Registry.state c.be_empty.new.stores in
    stops_as old.views mid.views left.views _ _ _ _ c.in-Err.status c.route_all.ensures.stores (λ key never. absurd never)
    (λ key found. found_first c.args.script old mid left key c.in-Ok.ensures.places c.route_all.ensures.stores c.route_all.ensures.where_known
    (λ all. fit_script c.args.script old mid c.in-Ok.ensures.places c.route_all.ensures.stores c.requires.places c.requires.some c.requires.distinct c.route_all.ensures.where_known all) found)
    c.in-Err.ensures.err

---- an outcome, or why there is none

pub returns-in-Ok-be_empty-clause-made : goal.returns-in-Ok-be_empty-clause-made
returns-in-Ok-be_empty-clause-made g c =
    let old = g.R.Registry.state c.args.stores.now in
    let mid = g.R.Registry.state c.route_all.new.stores in
    let then = g.R.Registry.state c.be_empty.new.stores in
    let ran = c.run_world.ensures in
    ok_seven _ _ _ _ _ _ _ _ c.run_world.result ran.follows ran.executed ran.broken ran.read ran.run ran.explained ran.fits
    (λ o follows executed broken read run explained fits. outcome_is c.args.script old mid then (g.R.Registry.state c.run_world.new.stores) o c.in-Ok.ensures.places c.route_all.ensures.stores c.route_all.ensures.where_known c.in-Ok-be_empty.ensures.goes ran.goes
    (λ all. fit_script c.args.script old mid c.in-Ok.ensures.places c.route_all.ensures.stores c.requires.places c.requires.some c.requires.distinct c.route_all.ensures.where_known all) c.in-Ok-be_empty.ensures.empty c.in-Ok-be_empty.ensures.none c.in-Ok-be_empty.ensures.still follows executed broken read run explained c.requires.playable c.requires.lines fits)

pub returns-in-Ok-be_empty-clause-err : goal.returns-in-Ok-be_empty-clause-err
returns-in-Ok-be_empty-clause-err g c =
    let old = g.R.Registry.state c.args.stores.now in
    let mid = g.R.Registry.state c.route_all.new.stores in
    let then = g.R.Registry.state c.be_empty.new.stores in
    let new = g.R.Registry.state c.run_world.new.stores in
    let empty = c.in-Ok-be_empty.ensures in
    let script = c.args.script in
    err_then _ _ c.run_world.result
    (λ s h. stops_as old.views mid.views new.views (IsBadFound script old new.views) (IsBadFound script old new.views) (λ key. ⊥) _ s c.route_all.ensures.stores (λ key x. x) (λ key never. absurd never)
    (stops_after mid then new.views _ (IsBadFound script old new.views) (λ key. ⊥) (λ key. ⊥) s empty.goes
    (λ key bad. found_bad script old mid then new key c.in-Ok.ensures.places c.route_all.ensures.where_known empty.goes c.run_world.ensures.goes
    (λ all.
    let fit = fit_script script old mid c.in-Ok.ensures.places c.route_all.ensures.stores c.requires.places c.requires.some c.requires.distinct c.route_all.ensures.where_known all in
    ready_after script mid then c.in-Ok.ensures.places empty.goes fit (empty.empty fit) (empty.still fit)) bad)
    (λ key never. never) h)) c.run_world.ensures.err

pub returns-in-Ok-be_empty-clause-kept : goal.returns-in-Ok-be_empty-clause-kept
returns-in-Ok-be_empty-clause-kept g c =
    kept_after (g.R.Registry.state c.args.stores.now) (g.R.Registry.state c.route_all.new.stores) (g.R.Registry.state c.run_world.new.stores) c.route_all.ensures.stores c.route_all.ensures.where_known
    (goes_more (g.R.Registry.state c.route_all.new.stores) (g.R.Registry.state c.be_empty.new.stores) (g.R.Registry.state c.run_world.new.stores) c.in-Ok-be_empty.ensures.goes c.run_world.ensures.goes)

---- what the calls require

pub route_all-requires-clause-none : goal.route_all-requires-clause-none
route_all-requires-clause-none g c = c.requires.unplaced

pub route_all-requires-clause-fit : goal.route_all-requires-clause-fit
route_all-requires-clause-fit g c = c.requires.places

pub be_empty-requires : goal.be_empty-requires
be_empty-requires g c = record { some = subst (λ (ss : List Counted). 0 < length ss) (sym c.route_all.ensures.stores) c.requires.some }

pub run_world-requires-clause-some : goal.run_world-requires-clause-some
run_world-requires-clause-some g c =
    some_more (g.R.Registry.state c.route_all.new.stores).views (g.R.Registry.state c.be_empty.new.stores).views c.in-Ok-be_empty.ensures.goes.names
    (subst (λ (ss : List Counted). 0 < length ss) (sym c.route_all.ensures.stores) c.requires.some)

pub run_world-requires-clause-playable : goal.run_world-requires-clause-playable
run_world-requires-clause-playable g c = c.requires.playable

pub run_world-requires-clause-can : goal.run_world-requires-clause-can
run_world-requires-clause-can g c = c.requires.can
