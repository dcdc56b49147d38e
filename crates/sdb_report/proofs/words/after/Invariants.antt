use Rattle.std.proofs.Common.{◌≡◌, drop}
use Rattle.sdb_report.specs.FieldReading.{after}
use Rattle.sdb_report.proofs.words.after.Given as goal

abbrev pub invariant-loop-w : goal.invariant-loop-w
invariant-loop-w l = after (drop l.w-index l.word) l.rest ≡ after l.word l.bytes
