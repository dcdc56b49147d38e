use Rattle.std.proofs.Common.{List, subst, sym}
use Rattle.sdb_snapshot.specs.Reads.{ReadRecord}
use Rattle.sdb_snapshot.specs.Sets.{IsSetInvariant}
use Rattle.sdb_snapshot.proofs.Owned.{kept_scan}
use Rattle.sdb_snapshot.proofs.snapshot.Snapshot.note_rows.Goals as goal

pub invariant_of-self-in-Ok : goal.invariant_of-self-in-Ok
invariant_of-self-in-Ok c =
    subst (λ (ns : List ReadRecord). IsSetInvariant ns c.self.inside.write_set) (sym c.in-Ok.ensures.ok) (kept_scan c.self.inside.read_set c.self.inside.write_set c.args.images c.self.invariant c.requires.committed)
