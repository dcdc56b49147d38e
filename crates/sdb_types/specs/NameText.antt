-- The bytes of a name.
use Rattle.std.specs.Prelude.{List, ℕ, codes, ◌≡◌, ◌==◌, true, nat_lt, length, drop, [], ◌∷◌, ◌++◌, if◌then◌else◌, Option, Some, None}
use Rattle.sdb_types.specs.Identifier.{is_identifier, is_name}
use Rattle.sdb_types.specs.declared.known.Known.{Known as KnownName}
use Rattle.sdb_types.specs.declared.known.Known.TheVariants as known
use Rattle.sdb_types.specs.declared.name.Text.{Text}
use Rattle.sdb_types.specs.declared.name.Text.TheVariants.{Known, Plain, Before}
use Rattle.std.specs.List.{position_or_len, before_first, after_first}

-- the text of a name that the program has of its own
abbrev pub known_text : KnownName → List ℕ
known_text known.TxId = codes "tx_id"
known_text known.TxState = codes "tx_state"
known_text known.TxVersion = codes "tx_version"
known_text known.TxPreparedAt = codes "tx_prepared_at"
known_text known.TxCommittedAt = codes "tx_committed_at"
known_text known.TxTombstone = codes "tx_tombstone"
known_text known.BeforeTxId = codes "before_tx_id"
known_text known.BeforeTxState = codes "before_tx_state"
known_text known.BeforeTxVersion = codes "before_tx_version"
known_text known.BeforeTxPreparedAt = codes "before_tx_prepared_at"
known_text known.BeforeTxCommittedAt = codes "before_tx_committed_at"
known_text known.BeforeTxTombstone = codes "before_tx_tombstone"
known_text known.TxCreatedAt = codes "tx_created_at"
known_text known.Coordinator = codes "coordinator"
known_text known.State = codes "state"

-- what begins the name of each column of a before image
abbrev pub before_prefix : List ℕ
before_prefix = codes "before_"

-- what follows this prefix in a text that begins with it
abbrev pub after_front : List ℕ → List ℕ → Option (List ℕ)
after_front [] text = Some text
after_front (c ∷ cs) [] = None
after_front (c ∷ cs) (t ∷ ts) = if t == c then after_front cs ts else None

abbrev pub if_identifier : Option (List ℕ) → Option (List ℕ)
if_identifier None = None
if_identifier (Some text) = if is_identifier text then Some text else None

-- what follows `before_` in a text, where that is an identifier
abbrev pub name_within : List ℕ → Option (List ℕ)
name_within text = if_identifier (after_front before_prefix text)

-- The bytes that a name is seen as: a block from the name itself on, or whole.
abbrev pub text_bytes : Text → List ℕ
text_bytes (Known name) = known_text name
text_bytes (Plain block) = drop 7 block.value.bytes
text_bytes (Before block) = block.value.bytes

-- These bytes are a name with `before_` before it.
abbrev pub IsBlock : List ℕ → Type 0
IsBlock bytes = (bytes ≡ before_prefix ++ drop 7 bytes) × (is_name (drop 7 bytes) ≡ true)

-- The same, and they are a name as a whole.
abbrev pub IsWholeBlock : List ℕ → Type 0
IsWholeBlock bytes = IsBlock bytes × (is_name bytes ≡ true)

abbrev pub IsKept : Text → Type 0
IsKept (Known name) = is_name (known_text name) ≡ true
IsKept (Plain block) = IsBlock block.value.bytes
IsKept (Before block) = IsWholeBlock block.value.bytes

-- a text before and after the first of its bytes that is this one, if one is
abbrev pub around : ℕ → List ℕ → Option (List ℕ × List ℕ)
around c text =
    if nat_lt (position_or_len (λ b. b == c) text) (length text)
    then Some (before_first (λ b. b == c) text, after_first (λ b. b == c) text)
    else None
