use Rattle.std.proofs.Common.{[], ◌∷◌}
use Rattle.sqlite.specs.declared.types.Value.TheVariants.{Blob}
use Rattle.sdb_sqlite.specs.Statements as text
use Rattle.sdb_sqlite.proofs.Columns.{asked_of}
use Rattle.sdb_sqlite.proofs.statements.body_at.Goals as goal

pub returns : goal.returns
returns g c =
    asked_of g.S.Store text.get_body (Blob c.args.key.now ∷ []) c.args.connection.now c.query_all.new.self c.query_all.result
    (λ clean. rw c.params-to_sql.ensures at (c.query_all.ensures.ok clean)) (λ clean. rw c.params-to_sql.ensures at (c.query_all.ensures.err clean)) c.query_all.ensures.survives.limit
