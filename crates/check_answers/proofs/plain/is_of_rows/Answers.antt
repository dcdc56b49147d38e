use Rattle.std.proofs.Common.{ap, sym, ◌∙◌}
use Rattle.sdb_model.specs.Follows.{is_open}
use Rattle.sdb_contents.specs.Commits.{executed_of}
use Rattle.check_answers.proofs.ReadLaws.{of_rows, not_rows}
use Rattle.check_answers.proofs.plain.is_of_rows.Goals as goal

pub returns-then-is_select : goal.returns-then-is_select
returns-then-is_select c =
    of_rows c.args.events.now c.args.client (executed_of c.args.executed.now) c.in_ok-statement.statement c.in_ok-statement.ensures c.in_ok-inside.inside (sym c.is_select.ensures ∙ c.if-is_select.true) (c.in_ok-inside.ensures ∙ ap (λ past. is_open past c.args.client) c.before-then-is_select.ensures)

pub returns : goal.returns
returns c = not_rows c.args.events.now c.args.client (executed_of c.args.executed.now) c.in_ok-statement.statement c.in_ok-statement.ensures (sym c.is_select.ensures ∙ c.if-is_select.false)
