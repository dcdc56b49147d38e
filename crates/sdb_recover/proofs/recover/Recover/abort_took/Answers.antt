use Rattle.std.proofs.Common.{subst}
use Rattle.sdb_phases.specs.declared.step.RecoverPhase.TheVariants.{Abort}
use Rattle.sdb_phases.specs.Recover.{Recovers, Gives, recover_next}
use Rattle.sdb_recover.proofs.recover.Recover.abort_took.Goals as goal

-- the record and its metadata are those that the recovery is seen with
pub returns-clause-step : goal.returns-clause-step
returns-clause-step c =
    subst (λ (r : Recovers). Gives (recover_next r.rec r.meta (Abort c.args.moment) c.args.now c.args.reply) c.abort_next-next.result.phase c.abort_next-next.result.step) c.self.view_is c.abort_next-next.ensures.gives
