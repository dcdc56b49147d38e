use Rattle.std.proofs.Common.{◌∙◌, sym, ap}
use Rattle.std.specs.Option.{option_copied}
use Rattle.sdb_types.specs.Identifier.{is_name}
use Rattle.sdb_types.proofs.Prefixes.{within-is_name}
use Rattle.sdb_types.proofs.name.Name.within.Goals as goal

pub name_of-requires : goal.name_of-requires
name_of-requires c =
    within-is_name c.as_str.result.now c.in-Some.text.now (ap is_name c.as_str.ensures.text ∙ c.as_str.ensures.named) (sym c.text_within.ensures ∙ ap option_copied c.in-Some.is)
