use Rattle.std.proofs.Common.{inl, inr, ℕ, [], Ok, Err, Result}
use Rattle.sqlite.specs.declared.error.Error.{Error}
use Rattle.sqlite.specs.Store.{Ghosts}
use Rattle.sqlite.specs.Held.{Held as Connected}
use Rattle.sdb_sqlite.specs.Statements as text
use Rattle.sdb_sqlite.specs.Asked.{Ran}
use Rattle.sdb_sqlite.specs.Making.{Makes}
use Rattle.sdb_sqlite.proofs.statements.make_table.Goals as goal

made : {S : Type 0} (g : Ghosts S) (old mid new : Connected S) (rows : ℕ) (r : Result ℕ Error) → Ran g text.make_table [] old mid (Ok rows) → Ran g text.make_index [] mid new r → Makes g old new r
made g old mid new rows (Ok more) first second = record { mid = mid; rows = rows; table = first; more = more; index = second }
made g old mid new rows (Err e) first second = inr (mid, rows, first, new, second)

pub returns-in-Ok : goal.returns-in-Ok
returns-in-Ok g c =
    made g.S.Store c.args.connection.now c.execute.new.self c.execute-in-Ok.new.self _ c.execute-in-Ok.result
    (record { runs = λ clean. c.in-Ok.ensures.runs clean; limit = c.in-Ok.ensures.survives.limit })
    (record { runs = λ clean. c.execute-in-Ok.ensures.runs clean; limit = c.execute-in-Ok.ensures.survives.limit })

pub returns-in-Err : goal.returns-in-Err
returns-in-Err g c = inl (c.execute.new.self, record { runs = λ clean. c.in-Err.ensures.runs clean; limit = c.in-Err.ensures.survives.limit })
