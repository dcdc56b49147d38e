use Rattle.std.proofs.Common.{List, subst, sym}
use Rattle.sdb_snapshot.specs.Reads.{ReadRecord}
use Rattle.sdb_snapshot.specs.Sets.{IsSetInvariant}
use Rattle.sdb_snapshot.proofs.Owned.{kept_get}
use Rattle.sdb_snapshot.proofs.snapshot.Snapshot.note_read.Goals as goal

pub invariant_of-self-in-Ok : goal.invariant_of-self-in-Ok
invariant_of-self-in-Ok c =
    subst (λ (ns : List ReadRecord). IsSetInvariant ns c.self.inside.write_set) (sym c.in-Ok.ensures.ok) (kept_get c.self.inside.read_set c.self.inside.write_set c.args.key c.args.image c.self.invariant c.requires.image)
