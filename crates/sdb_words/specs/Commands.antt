-- Which words are which command.
use Rattle.std.specs.Prelude.{◌≡◌, ◌≢◌, ◌≤◌, ℕ, true, List, [], ◌∷◌, map, codes, decimal, Some, slice_get, Contains}
use Rattle.sdb_types.specs.Identifier.{is_name}
use Rattle.sdb_record.specs.Parts.{is_column_name}
use Rattle.sdb_loader.specs.Words.{kind_named}
use Rattle.sdb_words.specs.declared.command.Command.{Command}
use Rattle.sdb_words.specs.declared.command.Command.TheVariants as command
use Rattle.sdb_data.specs.declared.fault.Mode.{Mode}
use Rattle.sdb_data.specs.declared.fault.Mode.TheVariants as mode
use Rattle.sdb_words.specs.Names.{IsTable}
use Rattle.sdb_types.specs.Order.{table_text}
use Rattle.sdb_words.specs.Places.{ArePlaces, place_text}

-- the most transactions of `bench`
abbrev pub most_transactions : ℕ
most_transactions = 20000

-- the most rows that `load` writes in a transaction
abbrev pub most_rows : ℕ
most_rows = 1000

-- A number is from 1 to the greatest.
abbrev pub IsWithin : ℕ → ℕ → Type 0
IsWithin most n = (1 ≤ n) × (n ≤ most)

abbrev pub mode_text : Mode → List ℕ
mode_text mode.Insert = codes "insert"
mode_text mode.Update = codes "update"
mode_text mode.Upsert = codes "upsert"

-- The first of two of these attached stores can be retired, and the second takes what it keeps.
pub record CanRetire (stores : List (List ℕ)) (from to : List ℕ) : Type 0 where
  -- both are names, as those of attached stores are
  pub from_named : is_name from ≡ true
  pub to_named : is_name to ≡ true
  pub from_attached : Contains stores from
  pub to_attached : Contains stores to
  pub differ : from ≢ to
  -- the first of all stores, which keeps the decisions, can't be retired
  pub stays : slice_get stores 0 ≢ Some from

-- These are the words of the command, over these attached stores.
abbrev pub AreWordsOf : List (List ℕ) → Command → List (List ℕ) → Type 0
AreWordsOf stores command.Replay words = words ≡ codes "replay" ∷ []
AreWordsOf stores (command.Bench n) words = (words ≡ codes "bench" ∷ decimal n ∷ []) × IsWithin most_transactions n
AreWordsOf stores (command.Schema places) words = (words ≡ codes "schema" ∷ map place_text places) × ArePlaces stores places
AreWordsOf stores command.Sql words = words ≡ codes "sql" ∷ []
AreWordsOf stores (command.Load table mode n) words = (words ≡ codes "load" ∷ table_text table ∷ mode_text mode ∷ decimal n ∷ []) × IsTable table × IsWithin most_rows n
AreWordsOf stores (command.Export table) words = (words ≡ codes "export" ∷ table_text table ∷ []) × IsTable table
AreWordsOf stores (command.Retire from to) words = (words ≡ codes "retire" ∷ from ∷ to ∷ []) × CanRetire stores from to
-- the kind is a word in any case
AreWordsOf stores (command.Alter table column kind) words =
    (word : List ℕ) × (words ≡ codes "alter" ∷ table_text table ∷ column ∷ word ∷ []) × IsTable table × (is_column_name column ≡ true) × (kind_named word ≡ Some kind)
AreWordsOf stores command.Audit words = words ≡ codes "audit" ∷ []

-- These words are those of no command.
abbrev pub AreOfNone : List (List ℕ) → List (List ℕ) → Type 0
AreOfNone stores words = (c : Command) → AreWordsOf stores c words → ⊥
