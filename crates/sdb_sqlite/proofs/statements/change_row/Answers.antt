use Rattle.sdb_sqlite.proofs.statements.change_row.Goals as goal

pub returns : goal.returns
returns g c = record { runs = λ clean. rw (c.params-to_sql.ensures, c.params-to_sql-2.ensures) at (c.execute.ensures.runs clean); limit = c.execute.ensures.survives.limit }
