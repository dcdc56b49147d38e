use Rattle.std.proofs.Common.{List, ℕ, subst}
use Rattle.std.specs.Prelude.{map}
use Rattle.std.specs.String.{string_bytes}
use Rattle.sdb_words.specs.Commands.{AreWordsOf}
use Rattle.sdb_app.specs.Ends.{ends, stream, views}
use Rattle.sdb_app.specs.Promise.HasEnded.{OfCommand}
use Rattle.sdb_app.proofs.Keeping.{answers_once, kept_words}
use Rattle.sdb_app.proofs.Promising.{ended_before}
use Rattle.sdb_app.proofs.program.run.Goals as goal

pub returns-clause-ended : goal.returns-clause-ended
returns-clause-ended g c =
    let words = map string_bytes c.args.words.now in
    let are = subst (λ (ns : List (List ℕ)). AreWordsOf ns c.in-Ok-command_in.command words) c.in-Ok.ensures.names c.in-Ok-command_in.ensures.ok in
    let run = ends (views g.S.Registry.state (stream g.R.Source.remaining g.R.Source.faults) (stream g.W.Sink.written g.W.Sink.faults) g.C.Clock.answered g.I.Ids.answered) c.clear_places.new.self c.perform.new.stores c.args.input.now c.perform.new.input c.args.output.now c.perform.new.output c.args.clock.now c.perform.new.clock c.args.ids.now c.perform.new.ids in
    ended_before words (g.S.Registry.state c.args.stores.now) run (record { same = c.clear_places.ensures.cleared.views; where_known = c.clear_places.ensures.cleared.where_known }) c.perform.result
    (OfCommand c.in-Ok-command_in.command are c.perform.ensures.ended)

pub returns-clause-kept : goal.returns-clause-kept
returns-clause-kept g c =
    let words = map string_bytes c.args.words.now in
    let are = subst (λ (ns : List (List ℕ)). AreWordsOf ns c.in-Ok-command_in.command words) c.in-Ok.ensures.names c.in-Ok-command_in.ensures.ok in
    kept_words words c.in-Ok-command_in.command (g.S.Registry.state c.args.stores.now) (g.S.Registry.state c.clear_places.new.self) (g.S.Registry.state c.perform.new.stores) c.clear_places.ensures.cleared.views c.clear_places.ensures.cleared.where_known are c.perform.ensures.kept

pub perform-requires-clause-once : goal.perform-requires-clause-once
perform-requires-clause-once g c =
    let words = map string_bytes c.args.words.now in
    let are = subst (λ (ns : List (List ℕ)). AreWordsOf ns c.in-Ok-command_in.command words) c.in-Ok.ensures.names c.in-Ok-command_in.ensures.ok in
    answers_once _ c.in-Ok-command_in.command words are
