use Rattle.sdb_phases.proofs.Derived.{prepares_in_order, checks_in_order, decides_after_checks}
use Rattle.sdb_phases.proofs.DecidingPut.{asks_deciding_put}
use Rattle.sdb_phases.proofs.laws.commit_order.Goals as goal

pub returns : goal.returns
returns c =
    record {
      prepares = λ r i. prepares_in_order r.work r.past i r.sound r.correct;
      checks = λ r i. checks_in_order r.work r.past i r.sound r.correct;
      decides = λ r. decides_after_checks r.work r.past r.sound r.correct;
      alone = asks_deciding_put;
    }
