use Rattle.std.proofs.Common.{◌∙◌, ap, []}
use Rattle.sdb_record.specs.Parts.{before_part, with_columns}
use Rattle.sdb_record.proofs.ColumnLaws.{with_columns-none, are_columns-before_part}
use Rattle.sdb_record.proofs.roll.base_part.Goals as goal

pub returns : goal.returns
returns c =
    c.in_ok-lay_base.ensures ∙ ap (with_columns (before_part c.pairs.result.now)) c.in_ok-base.ensures ∙ ap (λ ps. with_columns (before_part ps) []) c.pairs.ensures ∙ with_columns-none (before_part c.args.columns.now) (are_columns-before_part c.args.columns.now c.len-length.ensures.columns)
