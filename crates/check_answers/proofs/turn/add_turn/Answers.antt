use Rattle.std.proofs.Common.{sym, subst, ◌++◌, ◌∷◌, []}
use Rattle.sdb_contents.specs.Commits.{executed_of}
use Rattle.check_answers.specs.Turns.{AreTurns}
use Rattle.check_answers.proofs.TurnLaws.{turns_more}
use Rattle.check_answers.proofs.turn.add_turn.Goals as goal

pub returns : goal.returns
returns c past a =
    subst (AreTurns c.args.events.now c.args.client (past ++ executed_of c.args.executed.now ∷ [])) (sym c.in_ok-push.ensures.ok)
    (turns_more c.args.events.now c.args.client past c.args.turns.now (executed_of c.args.executed.now) c.in_ok-turn.turn a c.in_ok-turn.ensures)
