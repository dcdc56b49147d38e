use Rattle.std.proofs.Common.{Some, ◌∙◌, ap}
use Rattle.sdb_types.specs.declared.value.Value.TheVariants as value
use Rattle.sdb_types.specs.Contents.{has_value}
use Rattle.sdb_types.specs.TxId.{id_text}
use Rattle.sdb_types.proofs.Public.{is_text_value}
use Rattle.sdb_store.proofs.condition.is_text_of.Goals as goal

pub returns : goal.returns
returns c =
    is_text_value c.is_text.result c.as_str.result.now (id_text c.args.number) c.is_text.ensures ∙ ap (λ t. has_value (Some (value.Text t)) (value.Text (id_text c.args.number))) c.as_str.ensures
