-- The rows that a statement reads.
use Rattle.std.specs.Prelude.{Bool, true, false, ◌&&◌, if◌then◌else◌, List, [], ◌∷◌, Option, Some, None}
use Rattle.sdb_model.specs.Types.{Access, Table, TableName, Value}
use Rattle.sdb_record.specs.declared.access.Access.TheVariants as access
use Rattle.sdb_model.specs.declared.statement.Comparison.{Comparison}
use Rattle.sdb_model.specs.declared.statement.Comparison.TheVariants.{Eq, Ne, Lt, Le, Gt, Ge}
use Rattle.sdb_model.specs.declared.statement.Test.{Test}
use Rattle.sdb_model.specs.declared.statement.Test.TheVariants.{Compare, IsNull, NotNull}
use Rattle.sdb_model.specs.declared.statement.Statement.{Statement}
use Rattle.sdb_model.specs.declared.statement.Statement.TheVariants as statement
use Rattle.sdb_model.specs.Rows.{Name, same_name, order_names, literal_at}
use Rattle.sdb_model.specs.Exec.{key_of}

abbrev pub is_equals : Comparison → Bool
is_equals Eq = true
is_equals Ne = false
is_equals Lt = false
is_equals Le = false
is_equals Gt = false
is_equals Ge = false

-- the value that the first `=` test of a column gives it
abbrev pub fixed : Table → List Test → Name → Option Value
fixed t [] name = None
fixed t (Compare n c literal ∷ ts) name = if is_equals c && same_name n name then Some (literal_at t n literal) else fixed t ts name
fixed t (IsNull n ∷ ts) name = fixed t ts name
fixed t (NotNull n ∷ ts) name = fixed t ts name

abbrev pub joined : Option Value → Option (List Value) → Option (List Value)
joined None vs = None
joined (Some v) None = None
joined (Some v) (Some vs) = Some (v ∷ vs)

-- the values of these columns, where each has an `=` test
abbrev pub all_fixed : Table → List Test → List Name → Option (List Value)
all_fixed t ts [] = Some []
all_fixed t ts (n ∷ ns) = joined (fixed t ts n) (all_fixed t ts ns)

abbrev pub access_by : TableName → Option (List Value) → Option (List Value) → Access
access_by name None clustering = access.Scan (record { table = name; partition = None })
access_by name (Some ps) None = access.Scan (record { table = name; partition = Some ps })
access_by name (Some ps) (Some cs) = access.Get (record { table = name; partition = ps; clustering = cs })

-- The access of tests: a get of one key where each column of the primary key has an `=` test, a scan of the partition
-- where each partition column has one, and a scan of the table else.
abbrev pub access_for : Table → List Test → Access
access_for t ts = access_by t.name (all_fixed t ts t.partition) (all_fixed t ts (order_names t.clustering))

-- The access of a statement: an insert gets its key.
abbrev pub access_of : Table → Statement → Access
access_of t (statement.Insert s) = access.Get (key_of t s)
access_of t (statement.Upsert s) = access.Get (key_of t s)
access_of t (statement.Update s) = access_for t s.tests
access_of t (statement.Delete s) = access_for t s.tests
access_of t (statement.Select s) = access_for t s.tests
access_of t statement.Begin = access_for t []
access_of t statement.Commit = access_for t []
access_of t statement.Rollback = access_for t []
access_of t statement.Vacuum = access_for t []
