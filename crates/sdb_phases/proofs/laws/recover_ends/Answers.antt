use Rattle.sdb_phases.proofs.RecoverAnswers.{busy_pending, image_rolled, faulted_fault, bad_malformed}
use Rattle.sdb_phases.proofs.laws.recover_ends.Goals as goal

pub returns : goal.returns
returns c =
    record {
      busy = λ r id at. busy_pending r.found r.meta r.past id at r.fits r.correct;
      image = λ r image. image_rolled r.found r.meta r.past image r.fits r.correct;
      faulted = λ r. faulted_fault r.found r.meta r.past r.fits r.correct;
      bad = λ r key. bad_malformed r.found r.meta r.past key r.fits r.correct;
    }
