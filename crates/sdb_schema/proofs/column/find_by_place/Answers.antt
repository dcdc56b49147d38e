use Rattle.std.proofs.Common.{ap, ◌∙◌, drop}
use Rattle.sdb_schema.specs.Sought.{first_named}
use Rattle.sdb_schema.proofs.Sought.{found-at_place}
use Rattle.sdb_schema.proofs.column.find_by_place.Goals as goal

pub returns : goal.returns
returns c =
    c.named_at.ensures
    ∙ ap (λ n. first_named c.args.name.now (drop n c.args.columns.now)) c.place_of.ensures
    ∙ found-at_place c.args.name.now c.args.columns.now c.requires
