use Rattle.std.proofs.Common.{◌≡◌, ◌∙◌, ◌++◌, List, ap, subst, sym, true}
use Rattle.std.proofs.Math.ListN.{drop_of_length-le}
use Rattle.std.proofs.lemmas.List.{append-nil}
use Rattle.sdb_types.specs.Columns.{are_columns}
use Rattle.sdb_types.specs.declared.pair.Pair.{Pair}
use Rattle.sdb_record.specs.Parts.{is_user_pair, user_columns}
use Rattle.sdb_record.proofs.Public.{are_columns-filter}
use Rattle.sdb_snapshot.proofs.row.user_columns.Goals as goal

pub from_pairs-requires : goal.from_pairs-requires
from_pairs-requires c =
    let all : c.loop-pair.user ≡ user_columns c.args.columns.now = sym (append-nil c.loop-pair.user) ∙ ap (λ ps. c.loop-pair.user ++ user_columns ps) (sym (drop_of_length-le c.pairs-pair-items.result.now c.loop-pair-test.false)) ∙ c.loop-pair.invariant in
    subst (λ (ps : List Pair). are_columns ps ≡ true) (sym all) (are_columns-filter is_user_pair c.args.columns.now c.len-length.ensures.columns)
