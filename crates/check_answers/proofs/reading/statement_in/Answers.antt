use Rattle.std.proofs.Common.{Some, ap, sym, subst, ◌∙◌}
use Rattle.sdb_model.specs.Sql.{Reads}
use Rattle.sdb_sqltext.specs.Answers.{refusal_of}
use Rattle.check_protocol.proofs.Public.{none_some}
use Rattle.check_answers.proofs.reading.statement_in.Goals as goal
use Rattle.sdb_types.proofs.Public.{some_is}

pub returns-in-Ok : goal.returns-in-Ok
returns-in-Ok c st = (
  λ h. ap Some (c.in-Ok.ensures.accepted st (subst (λ x. Reads x st) (sym c.as_str.ensures) h)),
  λ e. subst (λ x. Reads x st) c.as_str.ensures (subst (Reads c.as_str.result.now) (some_is c.in-Ok.statement st e) c.in-Ok.ensures.read),
)

pub returns-in-Err-NotAStatement : goal.returns-in-Err-NotAStatement
returns-in-Err-NotAStatement c st = (
  λ h. none_some (sym (c.in-Err-NotAStatement.ensures.accepted st (subst (λ x. Reads x st) (sym c.as_str.ensures) h)) ∙ ap refusal_of c.in-Err-NotAStatement.field-0-is),
  λ e. none_some e,
)
