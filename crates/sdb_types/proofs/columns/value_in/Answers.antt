use Rattle.std.proofs.Common.{ap, ◌∙◌, drop}
use Rattle.sdb_types.specs.Columns.{first_value}
use Rattle.sdb_types.proofs.ColumnMap.{column-at_place}
use Rattle.sdb_types.proofs.columns.value_in.Goals as goal

pub returns : goal.returns
returns c =
    c.value_at.ensures
    ∙ ap (λ n. first_value c.args.name.now (drop n c.args.pairs.now)) c.place_of.ensures
    ∙ column-at_place c.args.name.now c.args.pairs.now c.requires
