use Rattle.std.proofs.Common.{◌≡◌, take}
use Rattle.sdb_contents.specs.Moving.{renewals}
use Rattle.sdb_contents.proofs.moving.renewals.Given as goal

abbrev pub invariant-loop-entry : goal.invariant-loop-entry
invariant-loop-entry l = l.requests ≡ renewals l.from l.to (take l.entry-index l.entries)
