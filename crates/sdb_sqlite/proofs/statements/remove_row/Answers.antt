use Rattle.sdb_sqlite.proofs.statements.remove_row.Goals as goal

pub returns : goal.returns
returns g c = record { runs = λ clean. rw c.params-to_sql.ensures at (c.execute.ensures.runs clean); limit = c.execute.ensures.survives.limit }
