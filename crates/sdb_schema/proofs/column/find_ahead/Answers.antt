use Rattle.std.proofs.Common.{drop, sym, ap, ◌∙◌}
use Rattle.std.specs.Option.{option_copied}
use Rattle.sdb_schema.specs.Sought.{first_named}
use Rattle.sdb_schema.proofs.Sought.{found-at_place, found-near}
use Rattle.sdb_schema.proofs.column.find_ahead.Goals as goal

pub returns-in-Some : goal.returns-in-Some
returns-in-Some c = sym (found-near c.args.name.now c.args.columns.now _ c.in-Some.column.now c.requires (sym c.named_at.ensures ∙ ap option_copied c.in-Some.is))

pub returns : goal.returns
returns c =
    let columns = c.args.columns.now in
    c.named_at-2.ensures ∙ ap (λ n. first_named c.args.name.now (drop n columns)) c.place_of-there.ensures ∙ found-at_place c.args.name.now columns c.requires
