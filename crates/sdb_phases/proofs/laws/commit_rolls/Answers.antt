use Rattle.sdb_phases.proofs.Derived.{rolls_forward, rolls_back}
use Rattle.sdb_phases.proofs.laws.commit_rolls.Goals as goal

pub returns : goal.returns
returns c =
    record {
      forward = λ r i. rolls_forward r.work r.past i r.sound r.correct;
      back = λ r a n i. rolls_back r.work r.past a n i r.sound r.correct;
    }
