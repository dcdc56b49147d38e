-- The tables of a bench, and its statements.
use Rattle.std.specs.Prelude.{ℕ, pos, List, [], ◌∷◌, ◌++◌, map, codes}
use Rattle.std.specs.List.{flat_map}
use Rattle.sdb_bench.specs.Types.{Column, Statement, Table, TableName, Value}
use Rattle.sdb_types.specs.declared.value.Value.TheVariants as value
use Rattle.sdb_schema.specs.declared.table.Direction.TheVariants.{Asc}
use Rattle.sdb_schema.specs.declared.table.Kind.TheVariants.{Int}
use Rattle.sdb_model.specs.declared.statement.Comparison.TheVariants.{Eq}
use Rattle.sdb_model.specs.declared.statement.Statement.TheVariants as statement
use Rattle.sdb_model.specs.declared.statement.Test.TheVariants.{Compare}
use Rattle.sdb_bench.specs.declared.side.Side.{Side}
use Rattle.sdb_bench.specs.declared.side.Side.TheVariants.{Left, Right}
use Rattle.sdb_bench.specs.Draws.{numbers_below}

abbrev pub namespace_of : Side → List ℕ
namespace_of Left = codes "benchl"
namespace_of Right = codes "benchr"

-- `benchl.cell` and `benchr.cell`
abbrev pub cell_of : Side → TableName
cell_of side = record { ns = namespace_of side; table = codes "cell" }

abbrev pub p_name : List ℕ
p_name = codes "p"

abbrev pub n_name : List ℕ
n_name = codes "n"

abbrev pub v_name : List ℕ
v_name = codes "v"

abbrev pub int_column : List ℕ → Column
int_column name = record { name = name; kind = Int }

-- A table of rows (p, n, v), all INT: partition key p, clustering key n ascending.
abbrev pub bench_table : Side → Table
bench_table side =
    record {
      name = cell_of side;
      columns = int_column n_name ∷ int_column p_name ∷ int_column v_name ∷ [];
      partition = p_name ∷ [];
      clustering = record { name = n_name; direction = Asc } ∷ [];
      indexed = [];
    }

abbrev pub bench_catalog : List Table
bench_catalog = bench_table Left ∷ bench_table Right ∷ []

---- statements

-- a number in a statement
abbrev pub number : ℕ → Value
number n = value.BigInt (pos n)

-- INSERT INTO the table (p, n, v) VALUES (p, n, 0)
abbrev pub insert_of : Side → ℕ → ℕ → Statement
insert_of side p n =
    statement.Insert (record { table = cell_of side; columns = p_name ∷ n_name ∷ v_name ∷ []; values = number p ∷ number n ∷ number 0 ∷ [] })

-- UPDATE the table SET v = v WHERE p = p
abbrev pub update_of : Side → ℕ → ℕ → Statement
update_of side p v =
    statement.Update (record { table = cell_of side; sets = record { name = v_name; value = number v } ∷ []; tests = Compare p_name Eq (number p) ∷ [] })

-- four rows of one p
abbrev pub inserts_at : Side → ℕ → List Statement
inserts_at side p = map (insert_of side p) (numbers_below 4)

-- the rows of a table: four for each of eight p
unfoldable pub inserts_of : Side → List Statement
inserts_of side = flat_map (inserts_at side) (numbers_below 8)

-- the first client's one transaction
unfoldable pub setup_statements : List Statement
setup_statements = statement.Begin ∷ inserts_of Left ++ inserts_of Right ++ statement.Commit ∷ []
