use Rattle.std.proofs.Common.{◌≡◌, subst, List, true}
use Rattle.sdb_types.specs.declared.pair.Pair.{Pair}
use Rattle.sdb_types.specs.Columns.{are_columns}
use Rattle.sdb_record.proofs.ColumnLaws.{are_columns-front, laid_in_three}
use Rattle.sdb_record.proofs.roll.row_with_base.Goals as goal

pub copied-requires : goal.copied-requires
copied-requires c =
    are_columns-front c.split_at.result.0.now c.split_at.result.1.now (subst (λ (ps : List Pair). are_columns ps ≡ true) c.split_at.ensures.by_index.0 c.requires.row)

pub returns : goal.returns
returns c =
    laid_in_three c.args.row.now c.split_at.result.0.now c.split_at.result.1.now c.args.base.now c.in_ok-columns.columns c.lay_kept.new.columns c.lay.new.columns c.split_at.ensures.by_index.0 c.requires.row c.requires.user c.requires.base c.in_ok-columns.ensures c.in_ok-lay_kept.ensures c.in_ok-lay.ensures
