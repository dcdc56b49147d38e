use Rattle.std.proofs.Common.{◌∙◌, subst, sym}
use Rattle.sdb_types.proofs.Public.{clash}
use Rattle.sdb_model.specs.Causes.{AreCaused}
use Rattle.sdb_model.specs.Counted.{AreCounted, AreResolved}
use Rattle.sdb_client.specs.Execution.{IsExecution}
use Rattle.sdb_judge.proofs.whole.fault_of_events.Goals as goal

pub returns-then-not-branch-4-clause-fails : goal.returns-then-not-branch-4-clause-fails
returns-then-not-branch-4-clause-fails c = λ h. clash (sym (c.in_ok-records_are_resolved.ensures.1 (subst AreResolved (sym c.as_slice-events.ensures) h)) ∙ c.if-not-branch-4.true)

pub returns-clause-kept : goal.returns-clause-kept
returns-clause-kept c = λ e.
    let same = c.as_slice-events.ensures in
    let catalog = c.args.script.now.catalog in
    record {
      executed = subst (IsExecution c.args.script.now) same (c.in_ok-is_execution.ensures c.if-not-branch.false);
      caused = subst (AreCaused catalog) same (c.in_ok-answers_have_causes.ensures.0 c.if-not-branch-2.false);
      counted = subst (AreCounted catalog) same (c.in_ok-calls_are_counted.ensures.0 c.if-not-branch-3.false);
      resolved = subst AreResolved same (c.in_ok-records_are_resolved.ensures.0 c.if-not-branch-4.false);
    }
