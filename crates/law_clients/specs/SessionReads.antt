-- What holds of a read where its client is alone.
use Rattle.std.specs.Prelude.{◌≡◌, ℤ, true, false, List, ◌∷◌, ◌++◌, Some, Ok}
use Rattle.std.specs.List.{AllByRecursion}
use Rattle.law_clients.specs.Types.{Access, Key, Meta, ReadStep, Record, Table, TxId}
use Rattle.sdb_types.specs.declared.record.State.TheVariants as state
use Rattle.sdb_types.specs.Contents.{record_among}
use Rattle.sdb_record.specs.Coordinator.{is_expired}
use Rattle.sdb_record.specs.Meta.{checked, is_in, is_unresolved}
use Rattle.sdb_model.specs.Access.{in_access}
use Rattle.sdb_txn.specs.declared.read.ReadStep.TheVariants as read
use Rattle.sdb_txn.specs.Read.{ReadStage, Asking, Resolving, Ended}
use Rattle.law_clients.specs.ReadAt.{AreInOrder, keys_of}
use Rattle.law_clients.specs.Database.{Database, is_listed}
use Rattle.law_clients.specs.Recovers.{IsUndecided, RecoverAlone}

-- an access is of a table of the catalog
abbrev pub IsOfTables : List Table → Access → Type 0
IsOfTables catalog a = (k : Key) → in_access a k ≡ true → is_listed catalog k ≡ true

-- These rows are the records at the keys of an access, in the order of their keys.
pub record AreRowsAt (g : Database) (a : Access) (rows : List Record) : Type 0 where
  pub place : AreInOrder a (keys_of rows)
  pub all : (k : Key) → in_access a k ≡ true → record_among rows k ≡ g k

abbrev pub AreCommitted : List Record → Type 0
AreCommitted rs = AllByRecursion (λ r. is_in state.Committed r.columns ≡ true) rs

-- A key has an unresolved record of a transaction, which no row decides, and it has not expired.
pub record IsBusyRecord (g : Database) (now : ℤ) (key : Key) (id : TxId) (at : ℤ) : Type 0 where
  pub r : Record
  pub meta : Meta
  pub present : g key ≡ Some r
  pub unresolved : is_unresolved r ≡ true
  pub says : checked r.columns ≡ Ok meta
  pub writer : id ≡ meta.id
  pub moment : at ≡ meta.prepared_at
  pub undecided : IsUndecided g id
  pub early : is_expired at now ≡ false

-- The database where a read is: images, the record in hand, and the rows left are all that its access has; it never meets a bad
-- record.
abbrev pub EndedAlone : List Table → Database → Access → ℤ → ReadStep → Type 0
EndedAlone catalog g a now (read.Images images) = AreRowsAt g a images × AreCommitted images
EndedAlone catalog g a now (read.Busy key id at) = (in_access a key ≡ true) × IsBusyRecord g now key id at
EndedAlone catalog g a now (read.BadRecord key) = ⊥
EndedAlone catalog g a now read.More = Unit {0}
EndedAlone catalog g a now read.Faulted = Unit {0}
EndedAlone catalog g a now read.NoMemory = Unit {0}

abbrev pub ReadAlone : List Table → Database → Access → ℤ → ReadStage → Type 0
ReadAlone catalog g a now Asking = Unit {0}
ReadAlone catalog g a now (Resolving images rec meta p left) = AreRowsAt g a (images ++ rec ∷ left) × AreCommitted images × RecoverAlone catalog g rec meta p
ReadAlone catalog g a now (Ended s) = EndedAlone catalog g a now s
