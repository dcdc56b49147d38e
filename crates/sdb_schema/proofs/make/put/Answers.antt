use Rattle.std.proofs.Common.{◌≡◌, ◌∙◌, ap, length}
use Rattle.std.specs.Prelude.{insert, take_while}
use Rattle.sdb_schema.proofs.ColumnOrder.{put_column-is, below}
use Rattle.sdb_schema.proofs.make.put.Goals as goal

pub returns-clause-ok : goal.returns-clause-ok
returns-clause-ok c =
    let e : insert c.args.columns.now c.place_of-place.result c.args.column ≡ insert c.args.columns.now (length (take_while (below c.args.column) c.args.columns.now)) c.args.column = ap (λ n. insert c.args.columns.now n c.args.column) (c.place_of-place.ensures ∙ ap (λ ds. length (take_while (below c.args.column) ds)) c.as_slice.ensures) in
    rw (← put_column-is c.args.column c.args.columns.now, ← e) c.insert.ensures.ok
