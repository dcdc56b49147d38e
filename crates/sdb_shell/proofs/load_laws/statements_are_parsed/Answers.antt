use Rattle.sdb_types.proofs.Public.{all_each}
use Rattle.sdb_model.specs.declared.statement.Statement.TheVariants as statement
use Rattle.sdb_shell.specs.Groups.{IsParsedAsItself}
use Rattle.sdb_shell.specs.Statements.{load_of, row_statement, rows_after, select_all}
use Rattle.sdb_shell.proofs.Itself.{begin_read, commit_read, rollback_read, taken_as_itself}
use Rattle.sdb_shell.proofs.ReadAgain.{IsReadAgain, rows_read, select_read}
use Rattle.sdb_shell.proofs.load_laws.statements_are_parsed.Goals as goal

pub returns-clause-rows : goal.returns-clause-rows
returns-clause-rows c = λ t m rows is short read.
    all_each (IsReadAgain (load_of t m rows)) (λ row. IsParsedAsItself (row_statement (load_of t m rows) row)) (rows_after rows) (λ row again. taken_as_itself (row_statement (load_of t m rows) row) again) (rows_read t m rows is short read)

pub returns-clause-select : goal.returns-clause-select
returns-clause-select c = λ t short. taken_as_itself (select_all t) (select_read t short)

pub returns-clause-begin : goal.returns-clause-begin
returns-clause-begin c = taken_as_itself statement.Begin begin_read

pub returns-clause-commit : goal.returns-clause-commit
returns-clause-commit c = taken_as_itself statement.Commit commit_read

pub returns-clause-rollback : goal.returns-clause-rollback
returns-clause-rollback c = taken_as_itself statement.Rollback rollback_read
