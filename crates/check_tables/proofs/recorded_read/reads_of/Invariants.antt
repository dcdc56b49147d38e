use Rattle.std.proofs.Common.{◌≡◌, ◌++◌, drop}
use Rattle.sdb_model.specs.ReadSet.{reads_of}
use Rattle.check_tables.specs.Values.{all_made}
use Rattle.check_tables.proofs.recorded_read.reads_of.Given as goal

abbrev pub invariant-loop-rec : goal.invariant-loop-rec
invariant-loop-rec l = l.reads ++ reads_of (all_made l.calls) (drop l.rec-index l.rows) ≡ reads_of (all_made l.calls) l.rows
