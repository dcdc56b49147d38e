-- A statement that is read from its text is accepted as itself.
use Rattle.std.proofs.Common.{◌≡◌, Result, Ok, Err, ap}
use Rattle.sdb_shell.specs.Types.{Refusal, Statement}
use Rattle.sdb_model.specs.declared.statement.Statement.TheVariants as statement
use Rattle.sdb_model.specs.Sql.{Reads, statement_text_of}
use Rattle.sdb_sqltext.proofs.Public.{not_both, one_statement, statement_read}
use Rattle.sdb_client.specs.Client.{Parses}
use Rattle.sdb_shell.specs.Groups.{IsParsedAsItself}

pub taken_as_itself : (st : Statement) → Reads (statement_text_of st) st → IsParsedAsItself st
taken_as_itself st r = λ e h. by e.says h
  where
    by : (x : Result Statement Refusal) → Parses (statement_text_of st) x → x ≡ Ok st
    by (Ok s) k = ap Ok (one_statement (statement_text_of st) s st k r)
    by (Err f) k = absurd (not_both (statement_text_of st) st f r k)

pub begin_read : Reads (statement_text_of statement.Begin) statement.Begin
begin_read = statement_read statement.Begin tt (tt, tt)

pub commit_read : Reads (statement_text_of statement.Commit) statement.Commit
commit_read = statement_read statement.Commit tt (tt, tt)

pub rollback_read : Reads (statement_text_of statement.Rollback) statement.Rollback
rollback_read = statement_read statement.Rollback tt (tt, tt)
