use Rattle.std.proofs.Common.{◌≡◌, ◌∙◌, ap, length, subst, sym}
use Rattle.std.specs.Prelude.{◌-◌}
use Rattle.sdb_stores.specs.Views.{names_of}
use Rattle.sdb_model.specs.declared.script.Script.{Script}
use Rattle.sdb_model.specs.Plain.{HasLines}
use Rattle.sdb_client.specs.Execution.{IsPlayable}
use Rattle.sdb_world.specs.Step.{CanFollow}
use Rattle.sdb_bench.proofs.Public.{bench_lines}
use Rattle.sdb_app.specs.Bench.{bench_over, name_at}
use Rattle.sdb_app.specs.Run.{CanBePlaced, IsReportable, StopsRun}
use Rattle.sdb_app.proofs.BenchPlayable.{benched_on, followable, placed_over, playable}
use Rattle.sdb_shell.proofs.Public.{map_ok}
use Rattle.sdb_app.proofs.bench.bench.Goals as goal

pub play-requires-clause-playable : goal.play-requires-clause-playable
play-requires-clause-playable g c = subst (λ (s : Script). IsPlayable s) (sym c.in-Ok.ensures) (playable c.args.n _ _)

pub play-requires-clause-lines : goal.play-requires-clause-lines
play-requires-clause-lines g c =
    let names = c.args.names.now in
    subst (λ (s : Script). HasLines s) (sym c.in-Ok.ensures) (bench_lines c.args.n (name_at names 0) (name_at names (length names - 1)))

pub play-requires-clause-can : goal.play-requires-clause-can
play-requires-clause-can g c = subst (λ (s : Script). CanFollow s) (sym c.in-Ok.ensures) (followable c.args.n _ _)

pub play-requires-clause-places : goal.play-requires-clause-places
play-requires-clause-places g c =
    let names = names_of (g.S.Registry.state c.args.stores.now).views in
    let same : c.in-Ok.script ≡ bench_over c.args.n names = c.in-Ok.ensures ∙ ap (bench_over c.args.n) c.requires.names in
    subst (λ (s : Script). CanBePlaced names s.places) (sym same) (placed_over c.args.n (g.S.Registry.state c.args.stores.now).views c.requires.some)

pub returns-in-Ok-play-clause-answered : goal.returns-in-Ok-play-clause-answered
returns-in-Ok-play-clause-answered g c =
    let old = g.S.Registry.state c.args.stores.now in
    let new = g.S.Registry.state c.play.new.stores in
    let names = names_of old.views in
    let same : c.in-Ok.script ≡ bench_over c.args.n names = c.in-Ok.ensures ∙ ap (bench_over c.args.n) c.requires.names in
    let made = subst (λ (s : Script). IsReportable s old new.views c.in-Ok-play.outcome) same c.in-Ok-play.ensures.made in
    map_ok _ _ c.text_of.result (λ text is. benched_on c.args.n old new.views c.in-Ok-play.outcome text made is (λ first last opening closing run. c.runs_are_even.ensures c.args.n first last opening closing c.in-Ok-play.outcome run)) c.text_of.ensures.ok

pub returns-in-Err-clause-err : goal.returns-in-Err-clause-err
returns-in-Err-clause-err g c =
    let old = g.S.Registry.state c.args.stores.now in
    let same : c.in-Ok.script ≡ bench_over c.args.n (names_of old.views) = c.in-Ok.ensures ∙ ap (bench_over c.args.n) c.requires.names in
    subst (λ (s : Script). StopsRun s old (g.S.Registry.state c.play.new.stores).views c.in-Err.status) same c.in-Err.ensures.err
