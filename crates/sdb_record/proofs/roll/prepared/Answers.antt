use Rattle.std.proofs.Common.{◌≡◌, sym, true, subst, List, rules}
use Rattle.sdb_types.specs.declared.pair.Pair.{Pair}
use Rattle.sdb_record.specs.Parts.{are_short, are_user_columns}
use Rattle.sdb_record.proofs.PreparedLaws.{base-short, as_prepared, change-user}
use Rattle.sdb_record.proofs.roll.prepared.Goals as goal

pub row_with_base-requires-clause-short : goal.row_with_base-requires-clause-short
row_with_base-requires-clause-short c =
    subst (λ (ps : List Pair). are_short ps ≡ true) (sym c.base_pairs.ensures.pairs) (base-short c.args.write.now.key c.args.write.now.base c.requires.base)

pub row_with_base-requires-clause-user : goal.row_with_base-requires-clause-user
row_with_base-requires-clause-user c =
    subst (λ (ps : List Pair). are_user_columns ps ≡ true) (sym c.row_pairs-row.ensures.pairs) (change-user c.args.write.now.change c.requires.change)

pub returns : goal.returns
returns c =
    as_prepared c.args.write.now c.args.id c.args.now c.in_ok-copy.field-0 c.base_pairs.result.now c.row_pairs-row.result.now c.in_ok-columns.columns c.set_unresolved.new.columns (search rules) c.base_pairs.ensures.pairs c.row_pairs-row.ensures.pairs c.in_ok-columns.ensures (search rules)
