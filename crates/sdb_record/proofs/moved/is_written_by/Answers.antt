use Rattle.std.proofs.Common.{◌≡◌, ◌∙◌, sym, ap, Some, rules}
use Rattle.sdb_types.specs.declared.value.Value.TheVariants as value
use Rattle.sdb_types.specs.Columns.{column}
use Rattle.sdb_types.specs.Contents.{has_value, tx_id}
use Rattle.sdb_types.specs.TxId.{id_text}
use Rattle.sdb_types.proofs.Public.{is_text_value}
use Rattle.sdb_record.proofs.moved.is_written_by.Goals as goal

pub returns-in-Some-Text : goal.returns-in-Some-Text
returns-in-Some-Text c =
    let found : column c.args.columns.now tx_id ≡ Some (value.Text c.as_str.result.now) = search rules in
    is_text_value c.is_text.result c.as_str.result.now (id_text c.args.id.0) c.is_text.ensures ∙ ap (λ o. has_value o (value.Text (id_text c.args.id.0))) (sym found)
