-- The id that a text is the text of.
use Rattle.std.specs.Prelude.{ℕ, ◌^◌, Bool, ◌&&◌, nat_lt, List, Option, Some, None, if◌then◌else◌}
use Rattle.std.specs.Int.{w128, from_be_bytes}
use Rattle.uuid.specs.Text.{parsed}
use Rattle.sdb_types.specs.declared.txid.TxId.{TxId}
use Rattle.sdb_types.specs.TxId.{id_text}
use Rattle.sdb_record.specs.Names.{same_name}

-- an id has 128 bits
abbrev pub is_id_with_text : List ℕ → ℕ → Bool
is_id_with_text text n = nat_lt n (2 ^ 128) && same_name text (id_text n)

-- the id whose text this is, of the bytes that the text means
abbrev pub id_with_text : List ℕ → Option (List ℕ) → Option TxId
id_with_text text None = None
id_with_text text (Some bytes) =
    if is_id_with_text text (from_be_bytes w128 bytes) then Some (record { 0 = from_be_bytes w128 bytes }) else None

-- the id whose text this is, or none where it is no id's text
unfoldable pub id_of_text : List ℕ → Option TxId
id_of_text text = id_with_text text (parsed text)
