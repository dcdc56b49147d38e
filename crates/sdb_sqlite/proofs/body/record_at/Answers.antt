use Rattle.std.proofs.Common.{sym, ◌∙◌}
use Rattle.sdb_sqlite.proofs.Columns.{own_record, other_record}
use Rattle.sdb_sqlite.proofs.body.record_at.Goals as goal

pub returns-then-same-clause-is : goal.returns-then-same-clause-is
returns-then-same-clause-is c = own_record c.args.key c.args.body.now c.in-Ok.rec c.in-Ok.ensures.read (c.same.ensures.0 c.if-same.true)

pub returns-else-same-clause-is : goal.returns-else-same-clause-is
returns-else-same-clause-is c =
    other_record c.args.key c.args.body.now c.in-Ok.rec c.bare.result c.in-Ok.ensures.read
    (λ e. let both = sym (c.same.ensures.1 e) ∙ c.if-same.false in cc) c.bare.ensures.own c.bare.ensures.columns
