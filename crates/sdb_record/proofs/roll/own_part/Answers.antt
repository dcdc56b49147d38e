use Rattle.std.proofs.Common.{◌∙◌, ap, []}
use Rattle.std.specs.Prelude.{not}
use Rattle.sdb_record.specs.Parts.{own_columns, is_before_pair, with_columns}
use Rattle.sdb_record.proofs.ColumnLaws.{with_columns-none, are_columns-filter}
use Rattle.sdb_record.proofs.roll.own_part.Goals as goal

pub returns : goal.returns
returns c =
    c.in_ok-lay_own.ensures ∙ ap (with_columns (own_columns c.pairs.result.now)) c.in_ok-own.ensures ∙ ap (λ ps. with_columns (own_columns ps) []) c.pairs.ensures ∙ with_columns-none (own_columns c.args.columns.now) (are_columns-filter (λ p. not (is_before_pair p)) c.args.columns.now c.len-length.ensures.columns)
