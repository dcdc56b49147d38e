use Rattle.std.proofs.Common.{ap, List, ◌∙◌}
use Rattle.sdb_schema.specs.declared.table.Column.{Column}
use Rattle.sdb_schema.specs.declared.table.Table.{Table}
use Rattle.sdb_schema.specs.Table.{is_table, put_column}
use Rattle.sdb_schema.proofs.Grown.{grown_is_table}
use Rattle.sdb_schema.proofs.table.Table.with_column.Goals as goal

pub returns-clause-table : goal.returns-clause-table
returns-clause-table c = λ h.
    let old = c.args.self.now in
    ap (λ (t : Table). is_table (record { name = t.name; columns = c.put.new.columns; partition = t.partition; clustering = t.clustering; indexed = t.indexed })) c.in_ok-table.ensures
    ∙ ap (λ (cs : List Column). is_table (record { name = old.name; columns = cs; partition = old.partition; clustering = old.clustering; indexed = old.indexed }))
    (c.in_ok-put.ensures.ok ∙ ap (λ (x : Column). put_column x c.in_ok-table.table.columns) c.in_ok-copy.ensures ∙ ap (λ (t : Table). put_column c.args.column.now t.columns) c.in_ok-table.ensures)
    ∙ grown_is_table old c.args.column.now h c.in_ok-check.ensures.allowed c.requires c.as_str-text.ensures.named
