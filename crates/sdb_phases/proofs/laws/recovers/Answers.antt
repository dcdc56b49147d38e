use Rattle.sdb_phases.proofs.RecoverInvariants.{recovers_in_four, aborts_expired, forwards_committed, backs_aborted}
use Rattle.sdb_phases.proofs.laws.recovers.Goals as goal

pub returns : goal.returns
returns c =
    record {
      most = λ r. recovers_in_four r.found r.meta r.past r.fits r.correct;
      aborts = λ r now. aborts_expired r.found r.meta r.past now r.fits r.correct;
      forward = λ r at. forwards_committed r.found r.meta r.past at r.fits r.correct;
      back = λ r. backs_aborted r.found r.meta r.past r.fits r.correct;
    }
