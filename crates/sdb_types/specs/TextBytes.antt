-- The bytes of a text.
use Rattle.std.specs.Prelude.{List, ℕ}
use Rattle.std.specs.Rc.{rc_str_bytes}
use Rattle.sdb_types.specs.declared.text.Text.{Text}
use Rattle.sdb_types.specs.declared.text.Text.TheVariants.{Short, Long}

abbrev pub text_bytes : Text → List ℕ
text_bytes (Short text) = text.value.bytes
text_bytes (Long text) = rc_str_bytes text
