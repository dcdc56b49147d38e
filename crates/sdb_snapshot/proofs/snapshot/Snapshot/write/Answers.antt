use Rattle.std.proofs.Common.{ap}
use Rattle.sdb_snapshot.specs.Seen.{Seen}
use Rattle.sdb_snapshot.proofs.Owned.{kept_either}
use Rattle.sdb_snapshot.proofs.snapshot.Snapshot.write.Goals as goal

pub invariant_of-self : goal.invariant_of-self
invariant_of-self c =
    kept_either c.write.result c.self.inside.read_set c.args.self.now.read_set c.self.inside.write_set c.write.new.self c.args.changes (ap (λ (s : Seen). s.read_set) c.self.view_is) c.self.invariant c.requires c.write.ensures.ok c.write.ensures.err
