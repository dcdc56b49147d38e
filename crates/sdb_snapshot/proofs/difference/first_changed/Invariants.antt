use Rattle.std.proofs.Common.{◌≡◌, drop}
use Rattle.std.specs.Prelude.{find}
use Rattle.sdb_snapshot.specs.Sets.{differs_from}
use Rattle.sdb_snapshot.proofs.difference.first_changed.Given as goal

abbrev pub invariant-loop-rec : goal.invariant-loop-rec
invariant-loop-rec l = find (λ r. differs_from l.read_set l.now r.key) (drop l.rec-index l.keys) ≡ find (λ r. differs_from l.read_set l.now r.key) l.keys
