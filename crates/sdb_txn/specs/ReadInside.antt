-- The representation of a read under way, and its invariant.
use Rattle.std.specs.Prelude.{◌≡◌, [], IsSome}
use Rattle.sdb_txn.specs.declared.read.ReadStep.TheVariants as step
use Rattle.sdb_txn.specs.declared.read.Phase.{Phase}
use Rattle.sdb_txn.specs.declared.read.Phase.TheVariants as phase
use Rattle.sdb_txn.specs.declared.read.ReadPhases.TheInside.{Inside}
use Rattle.sdb_txn.specs.Read.{ReadAt, ReadStage, Asking, Ended}
use Rattle.sdb_txn.specs.Rows.{stage_in}

abbrev pub stage_of : Phase → Inside → ReadStage
stage_of phase.Asking c = Asking
stage_of phase.Resolving c = stage_in c.recover c.images c.left.items
stage_of phase.Ended c = Ended step.NoMemory

abbrev pub read_of : Inside → ReadAt
read_of c = record { request = c.request; stage = stage_of c.phase c }

-- Before its rows are there a read has no image, and while it resolves a record it has the recovery of it.
pub record IsRead (c : Inside) : Type 0 where
  pub asking : c.phase ≡ phase.Asking → c.images ≡ []
  pub resolving : c.phase ≡ phase.Resolving → IsSome c.recover
