use Rattle.std.proofs.Common.{rules}
use Rattle.sdb_types.proofs.ColumnLemmas.{with_column-last, with_column-not_last}
use Rattle.sdb_types.proofs.columns.put_last.Goals as goal

pub returns-then-is_null_value-clause-ok : goal.returns-then-is_null_value-clause-ok
returns-then-is_null_value-clause-ok c =
    with_column-not_last c.args.pair c.args.pairs.now c.requires.columns c.requires.below (search rules)

pub returns-clause-ok : goal.returns-clause-ok
returns-clause-ok c =
    let e = with_column-last c.args.pair c.args.pairs.now c.requires.columns c.requires.below (search rules) in
    rw (← e) c.push.ensures.ok
