-- The tombstones of a database: which of them a VACUUM removes, and what other statements leave of committed images.
use Rattle.std.specs.Prelude.{◌≡◌, ◌⊎◌, ℕ, ℤ, Bool, true, false, not, ◌&&◌, is_some, length, List, [], ◌∷◌, Option, Some, None}
use Rattle.std.specs.Option.{option_map_or}
use Rattle.std.specs.List.{list_any}
use Rattle.law_clients.specs.Types.{Key, Record, Table, TxId}
use Rattle.sdb_types.specs.declared.record.State.TheVariants as state
use Rattle.sdb_types.specs.Order.{same_key}
use Rattle.sdb_record.specs.Meta.{is_in}
use Rattle.sdb_record.specs.Rolls.{is_tombstone}
use Rattle.law_clients.specs.Database.{Database, image_in, is_listed}
use Rattle.law_clients.specs.SessionReads.{IsBusyRecord}

---- tombstones

-- The committed image at a key is a tombstone: a committed delete is there, or an unresolved record whose image is one.
abbrev pub is_deleted : Database → Key → Bool
is_deleted g k = option_map_or is_tombstone (image_in g k) false

abbrev pub HasNoTombstone : List Table → Database → Type 0
HasNoTombstone catalog g = (k : Key) → is_listed catalog k ≡ true → is_deleted g k ≡ false

-- nothing, or no committed record that deletes its row
abbrev pub is_clean : Option Record → Bool
is_clean None = true
is_clean (Some r) = not (is_in state.Committed r.columns && is_tombstone r)

abbrev pub AllClean : List Table → Database → Type 0
AllClean catalog g = (k : Key) → is_listed catalog k ≡ true → is_clean (g k) ≡ true

---- what a VACUUM removes

abbrev pub is_among : List Key → Key → Bool
is_among ks k = list_any (same_key k) ks

-- no key is there twice
abbrev pub AreOnce : List Key → Type 0
AreOnce [] = Unit {0}
AreOnce (k ∷ ks) = (is_among ks k ≡ false) × AreOnce ks

-- A key of a table had a tombstone and has nothing now.
abbrev pub is_removed : List Table → Database → Database → Key → Bool
is_removed catalog was now k = is_listed catalog k && (is_deleted was k && not (is_some (now k)))

-- A record stays that was unresolved, of a transaction that no row had decided and that hadn't expired.
pub record IsPassedOver (was now : Database) (at : ℤ) (k : Key) : Type 0 where
  pub id : TxId
  pub moment : ℤ
  pub busy : IsBusyRecord was at k id moment
  pub same : now k ≡ was k

-- A VACUUM at a moment removed so many tombstones: these keys, each once, are those of tables that had a tombstone and have nothing
-- now; each other image is as it was; no committed tombstone is left, and one that is left is the image of a record that it passed over.
pub record HasVacuumed (catalog : List Table) (was now : Database) (at : ℤ) (n : ℕ) : Type 0 where
  pub keys : List Key
  pub once : AreOnce keys
  pub count : length keys ≡ n
  pub exact : (k : Key) → is_among keys k ≡ is_removed catalog was now k
  pub others : (k : Key) → is_listed catalog k ≡ true → is_among keys k ≡ false → image_in now k ≡ image_in was k
  pub clean : AllClean catalog now
  pub passed : (k : Key) → is_listed catalog k ≡ true → is_deleted now k ≡ true → IsPassedOver was now at k

---- what statements leave of images

abbrev pub SameImages : List Table → Database → Database → Type 0
SameImages catalog was now = (k : Key) → is_listed catalog k ≡ true → image_in now k ≡ image_in was k

-- No image comes or changes, and only tombstones go.
abbrev pub OnlyRemoves : List Table → Database → Database → Type 0
OnlyRemoves catalog was now = (k : Key) → is_listed catalog k ≡ true → (image_in now k ≡ image_in was k) ⊎ ((is_deleted was k ≡ true) × (image_in now k ≡ None))

-- Keys were written: each has an image now, a row or a tombstone, and each other image is as it was.
pub record HasWritten (catalog : List Table) (written : Key → Bool) (was now : Database) : Type 0 where
  pub there : (k : Key) → is_listed catalog k ≡ true → written k ≡ true → is_some (image_in now k) ≡ true
  pub others : (k : Key) → is_listed catalog k ≡ true → written k ≡ false → image_in now k ≡ image_in was k
