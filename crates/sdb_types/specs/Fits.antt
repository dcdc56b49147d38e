-- What is known of every value of a type: the ranges of its numbers, and that names, texts and columns are such.
use Rattle.std.specs.Prelude.{◌≡◌, true, ℕ, ◌<◌, All, List, FitsSigned, Bool, ◌&&◌, ℤ, pos, negsuc, int_le}
use Rattle.std.specs.Int.{w32, w64}
use Rattle.std.specs.Str.{IsUtf8}
use Rattle.sdb_types.specs.Identifier.{is_name}
use Rattle.sdb_types.specs.Columns.{are_columns}
use Rattle.sdb_types.specs.declared.pair.Pair.{Pair}
use Rattle.sdb_types.specs.declared.key.Key.{Key}
use Rattle.sdb_types.specs.declared.record.Record.{Record}
use Rattle.sdb_types.specs.declared.record.Put.{Put}
use Rattle.sdb_types.specs.declared.value.Value.{Value}
use Rattle.sdb_types.specs.declared.value.Value.TheVariants as value

abbrev pub AreBytes : List ℕ → Type 0
AreBytes bytes = All (λ b. b < 256) bytes

-- A number fits an INT column.
abbrev pub fits_int : ℤ → Bool
fits_int n = int_le (negsuc 2147483647) n && int_le n (pos 2147483647)

pub record text_fits (text : List ℕ) : Type 0 where
  pub bytes : AreBytes text
  pub utf8 : IsUtf8 text

abbrev pub value_fits : Value → Type 0
value_fits value.Null = Unit {0}
value_fits (value.Bool b) = Unit {0}
value_fits (value.Int n) = FitsSigned w32 n
value_fits (value.BigInt n) = FitsSigned w64 n
value_fits (value.Text text) = text_fits text
value_fits (value.Blob bytes) = AreBytes bytes

abbrev pub pair_fits : Pair → Type 0
pair_fits p = (is_name p.name ≡ true) × value_fits p.value

pub record key_fits (k : Key) : Type 0 where
  pub ns : is_name k.table.ns ≡ true
  pub table : is_name k.table.table ≡ true
  pub partition : All value_fits k.partition
  pub clustering : All value_fits k.clustering

pub record columns_fit (columns : List Pair) : Type 0 where
  pub sorted : are_columns columns ≡ true
  pub pairs : All pair_fits columns

pub record record_fits (r : Record) : Type 0 where
  pub key : key_fits r.key
  pub columns : columns_fit r.columns

abbrev pub put_fits : Put → Type 0
put_fits p = record_fits p.rec
