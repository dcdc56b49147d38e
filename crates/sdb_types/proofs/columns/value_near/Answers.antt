use Rattle.std.proofs.Common.{ap, sym, ◌∙◌}
use Rattle.std.specs.Option.{option_copied}
use Rattle.sdb_types.proofs.ColumnMap.{column-near}
use Rattle.sdb_types.proofs.columns.value_near.Goals as goal

pub returns-in-Some : goal.returns-in-Some
returns-in-Some c =
    sym (column-near c.args.name.now c.args.pairs.now c.args.place _ c.requires (sym c.value_at.ensures ∙ ap option_copied c.in-Some.is))
