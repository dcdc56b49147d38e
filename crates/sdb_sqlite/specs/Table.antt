-- The one table of the store, and its index by table and partition.
use Rattle.std.specs.Prelude.{true, false, [], ◌∷◌, None, codes}
use Rattle.sqlite.specs.declared.types.Value.TheVariants.{Null}
use Rattle.sqlite.specs.Collation.TheVariants.{Binary}
use Rattle.sqlite.specs.Kind.TheVariants.{Text, Blob}
use Rattle.sqlite.specs.Table.{Table}
use Rattle.sqlite.specs.Schema.{Schema}
use Rattle.sqlite_value.specs.Keys.{plain}
use Rattle.sqlite_schema.specs.declared.schema.Index.{Index}

abbrev pub records : Table
records = record {
  name = codes "records";
  tree = 0;
  columns = (record { name = codes "k"; kind = Blob; is_strict = true; not_null = true; default = Null; collation = Binary })
      ∷ (record { name = codes "t"; kind = Text; is_strict = true; not_null = true; default = Null; collation = Binary })
      ∷ (record { name = codes "p"; kind = Blob; is_strict = true; not_null = true; default = Null; collation = Binary })
      ∷ (record { name = codes "r"; kind = Blob; is_strict = true; not_null = true; default = Null; collation = Binary }) ∷ [];
  key = None;
  primary = 1 ∷ [];
  uniques = (1 ∷ []) ∷ [];
  orders = plain ∷ [];
  checks = [];
  references = [];
  computed = [];
  stamps = record { places = []; terms = []; formats = [] };
  is_counted = false;
}

-- the index that the database itself keeps of the primary key
abbrev pub by_key : Index
by_key = record { name = codes "sqlite_autoindex_records_1"; tree = 1; table = 0; columns = 1 ∷ []; order = plain; is_unique = true }

abbrev pub by_partition : Index
by_partition = record { name = codes "records_by_partition"; tree = 2; table = 0; columns = 2 ∷ 3 ∷ []; order = plain; is_unique = false }

abbrev pub no_schema : Schema
no_schema = record { tables = []; indexes = []; views = [] }

-- the table alone
abbrev pub table_schema : Schema
table_schema = record { tables = records ∷ []; indexes = by_key ∷ []; views = [] }

-- the table with its index
abbrev pub records_schema : Schema
records_schema = record { tables = records ∷ []; indexes = by_key ∷ by_partition ∷ []; views = [] }
