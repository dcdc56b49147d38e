use Rattle.std.proofs.Common.{◌∙◌, sym, ap}
use Rattle.sdb_types.specs.Columns.{column}
use Rattle.sdb_record.specs.Inside.{meta_name}
use Rattle.sdb_record.proofs.Within.{column-columns_of}
use Rattle.sdb_record.proofs.part.value_near.Goals as goal

pub returns-then-is_some : goal.returns-then-is_some
returns-then-is_some c =
    c.get_near-found.ensures ∙ ap (column c.args.columns.now) (c.known.ensures ∙ c.word.ensures) ∙ sym (column-columns_of c.args.part c.args.columns.now (meta_name c.args.wanted))

pub returns-else-is_some : goal.returns-else-is_some
returns-else-is_some c =
    c.get_near-found.ensures ∙ ap (column c.args.columns.now) (c.known.ensures ∙ c.word.ensures) ∙ sym (column-columns_of c.args.part c.args.columns.now (meta_name c.args.wanted))
