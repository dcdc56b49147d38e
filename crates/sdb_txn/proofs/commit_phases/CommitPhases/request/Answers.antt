use Rattle.std.proofs.Common.{subst}
use Rattle.sdb_phases.specs.Steps.{abort_request, prepare_request, validate_request, walk_request}
use Rattle.sdb_phases.specs.declared.step.Outcome.TheVariants as outcome
use Rattle.sdb_phases.proofs.Public.{copied_formed}
use Rattle.sdb_txn.specs.CommitInside.{IsReady}
use Rattle.sdb_txn.proofs.CommitCalls.{abort_formed, check_formed, forward_formed, prepare_formed}
use Rattle.sdb_txn.proofs.commit_phases.CommitPhases.request.Goals as goal

pub returns-in-Prepare-clause-formed : goal.returns-in-Prepare-clause-formed
returns-in-Prepare-clause-formed c =
    let s = c.self.inside in
    copied_formed c.request.result (prepare_request s.prepare) c.request.ensures (prepare_formed s c.self.invariant.groups (subst (λ p. IsReady p s) c.in-Prepare.is c.self.invariant.ready))

pub returns-in-Validate-clause-formed : goal.returns-in-Validate-clause-formed
returns-in-Validate-clause-formed c = copied_formed c.request-in-Validate.result (validate_request c.self.inside.validate) c.request-in-Validate.ensures (check_formed c.self.inside c.self.invariant)

pub returns-in-Forward-clause-formed : goal.returns-in-Forward-clause-formed
returns-in-Forward-clause-formed c = copied_formed c.request-in-Forward.result (walk_request c.self.inside.commit) c.request-in-Forward.ensures (forward_formed c.self.inside c.self.invariant)

pub returns-in-Abort-clause-formed : goal.returns-in-Abort-clause-formed
returns-in-Abort-clause-formed c = copied_formed c.request-in-Abort.result (abort_request c.self.inside.abort) c.request-in-Abort.ensures (abort_formed c.self.inside outcome.NoMemory c.self.invariant)
