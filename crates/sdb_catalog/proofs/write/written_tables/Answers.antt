use Rattle.std.proofs.Common.{◌∙◌, ap}
use Rattle.std.specs.List.{list_all}
use Rattle.sdb_schema.specs.declared.table.Table.{Table}
use Rattle.sdb_schema.specs.Table.{rises}
use Rattle.sdb_catalog.proofs.Writes.{all_written, written_rise}
use Rattle.sdb_catalog.proofs.write.written_tables.Goals as goal

pub returns-clause-tables : goal.returns-clause-tables
returns-clause-tables c =
    all_written c.args.catalog.now c.in_ok-tables.tables c.as_slice.result.now c.insert.new.self c.in_ok-own.own c.count_below-place.result c.in_ok-insert.ensures.ok c.count_below-place.ensures c.as_slice.ensures c.in_ok-tables.ensures.tables c.in_ok-own.ensures

pub returns-clause-columns : goal.returns-clause-columns
returns-clause-columns c =
    ap (list_all (λ (t : Table). rises t.columns)) (all_written c.args.catalog.now c.in_ok-tables.tables c.as_slice.result.now c.insert.new.self c.in_ok-own.own c.count_below-place.result c.in_ok-insert.ensures.ok c.count_below-place.ensures c.as_slice.ensures c.in_ok-tables.ensures.tables c.in_ok-own.ensures)
    ∙ written_rise c.args.catalog.now c.in_ok-tables.ensures.catalog
