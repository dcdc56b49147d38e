use Rattle.std.proofs.Common.{◌∙◌, [], ◌∷◌, ◌++◌, List, ap, take}
use Rattle.sdb_schema.specs.declared.table.Table.{Table}
use Rattle.sdb_catalog.proofs.Writes.{table_more}
use Rattle.sdb_catalog.proofs.write.tables_of.Goals as goal

pub loop-i-preserved : goal.loop-i-preserved
loop-i-preserved c =
    table_more c.args.catalog.now c.push.new.self c.loop-i.i c.table_at.result.now c.table_at.ensures
    (c.in_ok-push.ensures.ok ∙ ap (λ (l : List Table). l ++ c.in_ok-copy.field-0 ∷ []) c.loop-i.invariant ∙ ap (λ (t : Table). take c.loop-i.i c.args.catalog.now ++ t ∷ []) c.in_ok-copy.ensures)
