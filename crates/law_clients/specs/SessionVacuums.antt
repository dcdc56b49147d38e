-- What holds of a VACUUM where its client is alone.
use Rattle.std.specs.Prelude.{◌≡◌, ℕ, ℤ, true, false, length, List, [], ◌∷◌, Some, None}
use Rattle.std.specs.List.{AllByRecursion, list_any}
use Rattle.law_clients.specs.Types.{Key, Record, Span, Table, VacuumStep}
use Rattle.sdb_types.specs.declared.record.State.TheVariants as state
use Rattle.sdb_types.specs.Contents.{in_span, record_among}
use Rattle.sdb_record.specs.Coordinator.{is_coordinator_table}
use Rattle.sdb_record.specs.Meta.{is_in}
use Rattle.sdb_record.specs.Rolls.{is_tombstone}
use Rattle.law_clients.specs.ReadAt.{Rise, keys_of}
use Rattle.sdb_vacuum.specs.declared.work.VacuumStep.TheVariants as vacuuming
use Rattle.sdb_vacuum.specs.Vacuum.{VacuumAt, VacuumStage, Scanning, Resolving, Removing, Over}
use Rattle.law_clients.specs.Database.{Database, image_in, is_listed, row_in}
use Rattle.law_clients.specs.Recovers.{RecoverAlone}
use Rattle.law_clients.specs.OnlyResolves.{IsPreparedFor, IsAbortedRow, IsSound}
use Rattle.law_clients.specs.Tombstones.{AreOnce, HasVacuumed, IsPassedOver, OnlyRemoves, is_among, is_clean, is_deleted}

-- From one database to a later one, without a COMMIT between: it stays sound, each image is as before but for tombstones that were removed,
-- each unresolved record was there before, coordinator rows stay, and a new one says ABORTED, of a transaction that had an unresolved record.
pub record Quiet (catalog : List Table) (g h : Database) : Type 0 where
  pub sound : IsSound catalog h
  pub same_rows : (k : Key) → is_listed catalog k ≡ true → row_in h k ≡ row_in g k
  pub images : OnlyRemoves catalog g h
  pub loose : (k : Key) (r : Record) → is_listed catalog k ≡ true → h k ≡ Some r → is_in state.Committed r.columns ≡ false → g k ≡ Some r
  pub rows : (k : Key) (row : Record) → is_coordinator_table k.table ≡ true → g k ≡ Some row → h k ≡ Some row
  pub fresh : (k : Key) (row : Record) → is_coordinator_table k.table ≡ true → g k ≡ None → h k ≡ Some row → IsAbortedRow row × IsPreparedFor catalog g k

-- the keys of a span are of tables of the catalog
abbrev pub IsOfCatalog : List Table → Span → Type 0
IsOfCatalog catalog s = (k : Key) → in_span s k ≡ true → is_listed catalog k ≡ true

-- What a VACUUM has removed so far: so many keys of tables, each once, that had a tombstone and have nothing now; each other image is as it
-- was.
pub record RemovedSoFar (catalog : List Table) (was g : Database) (n : ℕ) : Type 0 where
  pub keys : List Key
  pub once : AreOnce keys
  pub count : length keys ≡ n
  pub gone : (k : Key) → is_among keys k ≡ true → (is_listed catalog k ≡ true) × (is_deleted was k ≡ true) × (g k ≡ None)
  pub others : (k : Key) → is_listed catalog k ≡ true → is_among keys k ≡ false → image_in g k ≡ image_in was k

-- A key is done: no committed tombstone is there, and where its image is one, its record was passed over.
pub record IsVacuumedAt (was g : Database) (at : ℤ) (k : Key) : Type 0 where
  pub clean : is_clean (g k) ≡ true
  pub passed : is_deleted g k ≡ true → IsPassedOver was g at k

-- The rows that are left to be looked at are in the database; and each key that is neither among them nor in a span to be scanned is done.
pub record LeftAlone (catalog : List Table) (was : Database) (at : ℤ) (g : Database) (ss : List Span) (left : List Record) : Type 0 where
  pub tables : AllByRecursion (IsOfCatalog catalog) ss
  pub rise : Rise (keys_of left)
  pub matches : AllByRecursion (λ r. (is_listed catalog r.key ≡ true) × (g r.key ≡ Some r)) left
  pub vacuumed : (k : Key) → is_listed catalog k ≡ true → list_any (λ s. in_span s k) ss ≡ false → record_among left k ≡ None → IsVacuumedAt was g at k

abbrev pub VacuumStageAlone : List Table → Database → ℤ → Database → List Span → VacuumStage → Type 0
VacuumStageAlone catalog was at g ss (Scanning span) = LeftAlone catalog was at g (span ∷ ss) []
VacuumStageAlone catalog was at g ss (Resolving rec meta p left) = LeftAlone catalog was at g ss (rec ∷ left) × RecoverAlone catalog g rec meta p
VacuumStageAlone catalog was at g ss (Removing b left) = LeftAlone catalog was at g ss (b ∷ left) × (is_in state.Committed b.columns ≡ true) × (is_tombstone b ≡ true)
VacuumStageAlone catalog was at g ss Over = Unit {0}

-- A VACUUM at work, since it was accepted at a moment: it has counted what it has removed.
abbrev pub VacuumAlone : List Table → Database → ℤ → Database → VacuumAt → Type 0
VacuumAlone catalog was at g v = RemovedSoFar catalog was g v.removed × VacuumStageAlone catalog was at g v.spans v.stage

-- A VACUUM makes another call; or it has looked at all, and counts what it removed; it never meets a bad record.
abbrev pub VacuumLeadsTo : List Table → Database → ℤ → Database → VacuumAt × VacuumStep → Type 0
VacuumLeadsTo catalog was at g (v, vacuuming.More) = VacuumAlone catalog was at g v
VacuumLeadsTo catalog was at g (v, vacuuming.Count n) = HasVacuumed catalog was g at n
VacuumLeadsTo catalog was at g (v, vacuuming.BadRecord key) = ⊥
VacuumLeadsTo catalog was at g (v, vacuuming.Faulted) = Unit {0}
VacuumLeadsTo catalog was at g (v, vacuuming.NoMemory) = Unit {0}
