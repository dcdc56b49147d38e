use Rattle.std.proofs.Common.{◌∙◌}
use Rattle.sdb_data.proofs.Texts.{blob-form}
use Rattle.sdb_data.proofs.field.is_blob.Goals as goal

pub returns : goal.returns
returns c = c.has_blob_form.ensures ∙ blob-form c.args.field.now
