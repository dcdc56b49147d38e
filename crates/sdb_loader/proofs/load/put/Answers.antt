use Rattle.std.proofs.Common.{◌∙◌, ap, arith, Err}
use Rattle.sdb_loader.proofs.Order.{with_table-end, not_known}
use Rattle.sdb_loader.proofs.load.put.Goals as goal

pub unreachable-requires : goal.unreachable-requires
unreachable-requires c =
    not_known c.args.catalog.now c.args.table c.requires.above (c.add.ensures.known.0 (c.in-Err-Known.is ∙ ap Err c.in-Err-Known.field-0-is))

pub unreachable-requires-in-Err-TooMany : goal.unreachable-requires-in-Err-TooMany
unreachable-requires-in-Err-TooMany c =
    let full = c.add.ensures.too_many.0 (c.in-Err-TooMany.is ∙ ap Err c.in-Err-TooMany.field-0-is) in
    omega (arith, full.1)

pub returns-in-Ok-clause-ok : goal.returns-in-Ok-clause-ok
returns-in-Ok-clause-ok c = c.in-Ok.ensures.ok ∙ with_table-end c.args.catalog.now c.args.table c.requires.above
