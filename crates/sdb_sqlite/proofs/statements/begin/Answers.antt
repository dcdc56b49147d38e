use Rattle.sdb_sqlite.proofs.statements.begin.Goals as goal

pub returns : goal.returns
returns g c = record { runs = λ clean. c.execute.ensures.runs clean; limit = c.execute.ensures.survives.limit }
