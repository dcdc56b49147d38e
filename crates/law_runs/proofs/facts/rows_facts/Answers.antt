use Rattle.std.proofs.Common.{All, subst}
use Rattle.std.proofs.lemmas.List.{take_all}
use Rattle.std.proofs.lemmas.List.Elements.{All-more}
use Rattle.sdb_model.specs.Plain.{values_are_plain}
use Rattle.law_runs.proofs.facts.rows_facts.Goals as goal

pub loop-row-preserved : goal.loop-row-preserved
loop-row-preserved c =
    All-more values_are_plain c.args.rows.now c.loop-row.row-index c.row-item.result c.loop-row-test.true c.loop-row.invariant (subst values_are_plain c.row-item.is c.row_facts.ensures)

pub returns : goal.returns
returns c = subst (All values_are_plain) (take_all c.loop-row.row-index c.args.rows.now c.loop-row-test.false) c.loop-row.invariant
