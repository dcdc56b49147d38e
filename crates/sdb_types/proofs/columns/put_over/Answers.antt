use Rattle.std.proofs.Common.{rules}
use Rattle.sdb_types.proofs.ColumnLemmas.{with_column-over, with_column-out, named-is_place}
use Rattle.sdb_types.proofs.columns.put_over.Goals as goal

pub returns-then-is_null_value-clause-ok : goal.returns-then-is_null_value-clause-ok
returns-then-is_null_value-clause-ok c =
    let at = named-is_place c.args.pair.name c.args.pairs.now c.args.place c.requires.columns c.requires.known in
    let e = with_column-out c.args.pair c.args.pairs.now c.args.place at c.requires.known (search rules) in
    rw (← e) c.remove.ensures.ok

pub returns-clause-ok : goal.returns-clause-ok
returns-clause-ok c =
    let at = named-is_place c.args.pair.name c.args.pairs.now c.args.place c.requires.columns c.requires.known in
    let e = with_column-over c.args.pair c.args.pairs.now c.args.place at c.requires.known (search rules) in
    rw (← e) c.replace.ensures.ok
