use Rattle.std.proofs.Common.{◌≡◌, take}
use Rattle.sdb_snapshot.specs.Reads.{reads_of}
use Rattle.sdb_snapshot.proofs.difference.versions_of.Given as goal

abbrev pub invariant-loop-rec : goal.invariant-loop-rec
invariant-loop-rec l = l.reads ≡ reads_of (take l.rec-index l.records)
