use Rattle.std.proofs.Common.{rules}
use Rattle.sdb_types.proofs.ColumnLemmas.{with_column-before, with_column-none, place_fits}
use Rattle.sdb_types.proofs.columns.put_new.Goals as goal

pub returns-then-is_null_value-clause-ok : goal.returns-then-is_null_value-clause-ok
returns-then-is_null_value-clause-ok c =
    with_column-none c.args.pair c.args.pairs.now c.args.place c.requires.place c.requires.unknown (search rules)

pub insert-requires : goal.insert-requires
insert-requires c = place_fits c.args.pair c.args.pairs.now c.args.place c.requires.place

pub returns-clause-ok : goal.returns-clause-ok
returns-clause-ok c =
    let e = with_column-before c.args.pair c.args.pairs.now c.args.place c.requires.place c.requires.unknown (search rules) in
    rw (← e) c.insert.ensures.ok
