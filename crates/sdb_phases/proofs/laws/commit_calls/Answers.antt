use Rattle.sdb_phases.proofs.Derived.{ends_exactly, at_most}
use Rattle.sdb_phases.proofs.laws.commit_calls.Goals as goal

pub returns : goal.returns
returns c =
    record {
      exact = λ r. ends_exactly r.work r.past r.sound r.correct;
      most = λ r. at_most r.work r.past r.sound r.correct;
    }
