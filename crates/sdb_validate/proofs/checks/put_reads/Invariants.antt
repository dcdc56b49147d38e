use Rattle.std.proofs.Common.{◌≡◌, drop}
use Rattle.sdb_phases.specs.Checks.{with_reads}
use Rattle.sdb_validate.proofs.checks.put_reads.Given as goal

abbrev pub invariant-loop-read : goal.invariant-loop-read
invariant-loop-read l = with_reads (drop l.read-index l.reads) l.wishes ≡ with_reads l.reads l.initial.wishes
