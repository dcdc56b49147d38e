-- The recorded transactions in the order of their points, and the rows that they leave one after the other.
use Rattle.std.specs.Prelude.{◌≡◌, ◌↔◌, ◌⊎◌, ℕ, ◌<◌, true, List, [], ◌∷◌, ◌++◌, Option, Some, None}
use Rattle.law_protocol.specs.Types.{Key, Pair, Place}
use Rattle.sdb_record.specs.declared.coordinator.Decision.TheVariants.{Committed}
use Rattle.sdb_record.specs.Rolls.{row_of_change}
use Rattle.sdb_model.specs.Events.{StoreContents}
use Rattle.sdb_model.specs.Images.{row_at}
use Rattle.law_protocol.specs.Plan.{Plan, written, version_read_at}
use Rattle.law_protocol.specs.History.{History, or_else}
use Rattle.law_protocol.specs.Records.{write_there}
use Rattle.sdb_model.specs.Tables.{is_data}

abbrev pub IsIn : ℕ → List ℕ → Type 0
IsIn t [] = ⊥
IsIn t (u ∷ us) = (t ≡ u) ⊎ IsIn t us

-- each has a point above n
abbrev pub AllAbove : History → ℕ → List ℕ → Type 0
AllAbove w n [] = Unit {0}
AllAbove w n (u ∷ us) = (n < w.protocol.point u) × AllAbove w n us

abbrev pub IsRising : History → List ℕ → Type 0
IsRising w [] = Unit {0}
IsRising w (t ∷ ts) = AllAbove w (w.protocol.point t) ts × IsRising w ts

-- The order: the recorded transactions, each once, by rising point.
pub record IsOrdered (w : History) (order : List ℕ) : Type 0 where
  pub recorded : (t : ℕ) → (w.row t ≡ Some Committed) ↔ IsIn t order
  pub rising : IsRising w order

abbrev pub if_written : ℕ → Option (Option ℕ) → Option ℕ
if_written t None = None
if_written t (Some base) = Some t

-- the last of a list of transactions that writes a key
abbrev pub last_writer : (ℕ → Plan) → Key → List ℕ → Option ℕ
last_writer plan k [] = None
last_writer plan k (t ∷ ts) = or_else (last_writer plan k ts) (if_written t (written (plan t) k))

-- the row that a transaction leaves at a key: none where it deletes it, and none where nobody wrote it
abbrev pub row_left : (ℕ → Plan) → Key → Option ℕ → Option (List Pair)
row_left plan k None = None
row_left plan k (Some t) = row_of_change (write_there (plan t) k).change

-- What each transaction of the order read at a key is the row that those before it left there.
abbrev pub ReadsSerial : (ℕ → Plan) → History → List ℕ → Type 0
ReadsSerial plan w order = (front : List ℕ) (t : ℕ) (back : List ℕ) → order ≡ front ++ t ∷ back → (i : ℕ) (k : Key) (found : Option ℕ) → version_read_at (plan t) i k ≡ Some found → row_left plan k found ≡ row_left plan k (last_writer plan k front)

-- The row at each key is the one that the whole order left there.
abbrev pub RowsSerial : (ℕ → Plan) → List Place → List StoreContents → List ℕ → Type 0
RowsSerial plan places store_contents order = (k : Key) → is_data k ≡ true → row_at places store_contents k ≡ row_left plan k (last_writer plan k order)
