use Rattle.sdb_snapshot.proofs.snapshot.Snapshot.note_scan.Goals as goal

pub returns-in-Err-clause-differs : goal.returns-in-Err-clause-differs
returns-in-Err-clause-differs c = λ key found e. c.in-Err.ensures.differs key found e
