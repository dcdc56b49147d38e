-- The words of kinds.
use Rattle.std.specs.Prelude.{ℕ, List, codes}
use Rattle.sdb_schema.specs.declared.table.Kind.{Kind}
use Rattle.sdb_schema.specs.declared.table.Kind.TheVariants as kind

abbrev pub kind_text : Kind → List ℕ
kind_text kind.Boolean = codes "BOOLEAN"
kind_text kind.Int = codes "INT"
kind_text kind.BigInt = codes "BIGINT"
kind_text kind.Text = codes "TEXT"
kind_text kind.Blob = codes "BLOB"
