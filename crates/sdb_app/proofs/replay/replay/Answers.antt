use Rattle.std.proofs.Common.{List, ℕ, refl, subst, sym}
use Rattle.sdb_report.proofs.Public.{one_text_of}
use Rattle.sdb_app.specs.Ends.{stream, work_of}
use Rattle.sdb_app.specs.Run.{CanBePlaced, IsScriptRead}
use Rattle.sdb_app.specs.Run.StopsReplay.{Unplayed}
use Rattle.sdb_app.proofs.Playable.{followable, of_lines, placeable, playable}
use Rattle.sdb_app.proofs.Following.{err_then}
use Rattle.sdb_shell.proofs.Public.{map_ok}
use Rattle.sdb_app.proofs.replay.replay.Goals as goal

pub play-requires-clause-playable : goal.play-requires-clause-playable
play-requires-clause-playable g c = playable c.args.names.now _ c.in-Ok.script c.in-Ok.ensures.read.form

pub play-requires-clause-can : goal.play-requires-clause-can
play-requires-clause-can g c = followable c.args.names.now _ c.in-Ok.script c.in-Ok.ensures.read.form

pub play-requires-clause-places : goal.play-requires-clause-places
play-requires-clause-places g c = subst (λ (ns : List (List ℕ)). CanBePlaced ns c.in-Ok.script.places) c.requires.names (placeable c.args.names.now _ c.in-Ok.script c.in-Ok.ensures.read.form)

pub play-requires-clause-lines : goal.play-requires-clause-lines
play-requires-clause-lines g c = of_lines c.args.names.now _ c.in-Ok.script c.in-Ok.ensures.read.form

pub returns-in-Ok-clause-answered : goal.returns-in-Ok-clause-answered
returns-in-Ok-clause-answered g c =
    let work = work_of g.S.Registry.state (stream g.R.Source.remaining g.R.Source.faults) c.args.stores.now c.play.new.stores c.args.input.now c.read_input_script.new.input in
    let read = subst (λ (ns : List (List ℕ)). IsScriptRead ns work.input.bytes work.rest.bytes c.in-Ok.script) c.requires.names c.in-Ok.ensures.read in
    map_ok _ _ c.play.result
    (λ o made. record { script = c.in-Ok.script; read = read; outcome = o; made = made; text = refl; only = λ all other plain same. one_text_of other o plain (made.correct all).plain (sym same) })
    c.play.ensures.made

pub returns-in-Ok-clause-err : goal.returns-in-Ok-clause-err
returns-in-Ok-clause-err g c =
    let work = work_of g.S.Registry.state (stream g.R.Source.remaining g.R.Source.faults) c.args.stores.now c.play.new.stores c.args.input.now c.read_input_script.new.input in
    let read = subst (λ (ns : List (List ℕ)). IsScriptRead ns work.input.bytes work.rest.bytes c.in-Ok.script) c.requires.names c.in-Ok.ensures.read in
    err_then _ _ c.play.result (λ s cause. Unplayed c.in-Ok.script read cause) c.play.ensures.err
