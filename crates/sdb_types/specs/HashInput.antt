-- What a value feeds a hasher.
use Rattle.std.specs.Prelude.{◌++◌}
use Rattle.std.specs.Hash as fed
use Rattle.sdb_types.specs.declared.value.Value.{Value}
use Rattle.sdb_types.specs.declared.value.Value.TheVariants as value

-- the number of its kind, and then what it holds
abbrev pub value_input : Value → fed.HashWrites
value_input value.Null = fed.u8 0
value_input (value.Bool b) = fed.u8 1 ++ fed.bool b
value_input (value.Int n) = fed.u8 2 ++ fed.i32 n
value_input (value.BigInt n) = fed.u8 3 ++ fed.i64 n
value_input (value.Text text) = fed.u8 4 ++ fed.str text
value_input (value.Blob bytes) = fed.u8 5 ++ fed.slice fed.u8 bytes
