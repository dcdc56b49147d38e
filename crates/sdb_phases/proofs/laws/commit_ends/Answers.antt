use Rattle.sdb_phases.proofs.Derived.{ends_committed, ends_lost, ends_unknown, ends_bad, ends_conflict, ends_expired, ends_faulted}
use Rattle.sdb_phases.proofs.laws.commit_ends.Goals as goal

pub returns : goal.returns
returns c =
    record {
      committed = λ r. ends_committed r.work r.past r.sound r.correct;
      lost = λ r a. ends_lost r.work r.past a r.sound r.correct;
      unknown = λ r id. ends_unknown r.work r.past id r.sound r.correct;
      bad = λ r key. ends_bad r.work r.past key r.sound r.correct;
      conflict = λ r key found. ends_conflict r.work r.past key found r.sound r.correct;
      expired = λ r id. ends_expired r.work r.past id r.sound r.correct;
      faulted = λ r. ends_faulted r.work r.past r.sound r.correct;
    }
