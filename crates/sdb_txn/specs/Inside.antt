-- The representation invariant of a transaction.
use Rattle.std.specs.Prelude.{◌≡◌, List}
use Rattle.sdb_txn.specs.Types.{Access, Record}
use Rattle.sdb_txn.specs.declared.read.ReadStep.{ReadStep}
use Rattle.sdb_txn.specs.declared.read.ReadStep.TheVariants as step
use Rattle.sdb_txn.specs.Read.{request_of}
use Rattle.sdb_txn.specs.Valid.{AreWithin, IsValid}
use Rattle.sdb_snapshot.specs.Seen.{Seen}
use Rattle.sdb_txn.specs.declared.txn.Doing.{Doing}
use Rattle.sdb_txn.specs.declared.txn.Doing.TheVariants as doing
use Rattle.sdb_txn.specs.Txn.{IsUnread}
use Rattle.sdb_record.specs.Rolls.{AreCommitted}

-- the images of a read may be recorded
pub record CanRecord (s : Seen) (a : Access) (images : List Record) : Type 0 where
  pub unread : IsUnread s a
  pub firm : AreCommitted images
  pub placed : AreWithin (request_of a) images

-- what a read has ended with may be recorded
abbrev pub CanEnd : Seen → Access → ReadStep → Type 0
CanEnd s a (step.Images images) = CanRecord s a images
CanEnd s a e = Unit {0}

-- A read asks for what its access names, and its records are valid; its key was not read before.
abbrev pub IsTxn : Doing → Seen → Type 0
IsTxn doing.Idle s = Unit {0}
IsTxn (doing.Read a r) s = (r.request ≡ request_of a) × IsValid r.request r.stage × IsUnread s a
IsTxn (doing.Commit c) s = Unit {0}
IsTxn doing.Over s = Unit {0}

-- it does the read of an access
abbrev pub IsReadOf : Access → Doing → Type 0
IsReadOf a (doing.Read b x) = b ≡ a
IsReadOf a d = ⊥
