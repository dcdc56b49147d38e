use Rattle.sdb_sqltext.proofs.OneWord.{begin_read, commit_read, rollback_read, vacuum_read}
use Rattle.sdb_sqltext.proofs.laws.words_are_read.Goals as goal

pub returns : goal.returns
returns c = record { begin = begin_read; commit = commit_read; rollback = rollback_read; vacuum = vacuum_read }
