-- Ids of transactions that are drawn.
use Rattle.std.specs.Prelude.{ℕ, ◌+◌, ◌*◌, ◌/◌, ◌%◌, ◌^◌}
use Rattle.sdb_types.specs.declared.txid.TxId.{TxId}

-- a number of 128 bits with the bits of version 4 set: 4 in bits 76 to 79, and 2 in bits 62 and 63
abbrev pub version_4 : ℕ → ℕ
version_4 n = (((n / 2 ^ 80 * 16 + 4) * 4096 + n / 2 ^ 64 % 4096) * 4 + 2) * 2 ^ 62 + n % 2 ^ 62

-- the id that a draw gives
abbrev pub drawn_id : ℕ → TxId
drawn_id n = record { 0 = version_4 n }
