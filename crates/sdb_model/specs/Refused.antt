-- Why a catalog refuses a statement.
use Rattle.std.specs.Prelude.{ℕ, ◌+◌, Bool, true, false, not, ◌&&◌, if◌then◌else◌, nat_le, List, [], ◌∷◌, ◌++◌, map, length, position, Option, Some, None, unwrap_or}
use Rattle.std.specs.Option.{option_map, option_map_or}
use Rattle.std.specs.List.{list_any}
use Rattle.sdb_model.specs.Types.{Kind, Pair, Table, Value}
use Rattle.sdb_types.specs.declared.value.Value.TheVariants as value
use Rattle.sdb_types.specs.Order.{bytes_of}
use Rattle.sdb_types.specs.Columns.{is_null}
use Rattle.sdb_schema.specs.declared.table.Kind.TheVariants as kind
use Rattle.sdb_schema.specs.Table.{has_column, key_names}
use Rattle.sdb_schema.specs.Rows.{is_in_range}
use Rattle.sdb_model.specs.declared.statement.Test.{Test}
use Rattle.sdb_model.specs.declared.statement.Test.TheVariants.{Compare, IsNull, NotNull}
use Rattle.sdb_model.specs.declared.statement.Statement.{Statement}
use Rattle.sdb_model.specs.declared.statement.Statement.TheVariants as statement
use Rattle.sdb_model.specs.declared.answer.Refusal.{Refusal}
use Rattle.sdb_model.specs.Rows.{Name, same_name, is_key_column, kind_of_column}
use Rattle.sdb_model.specs.Exec.{named_table}
use Rattle.sdb_model.specs.declared.statement.Mention.{Mention}
use Rattle.sdb_types.specs.Fits.{fits_int}

---- mentions: the column names in a statement, in the order in which they appear, each with its literal

abbrev pub mention_of_name : Name → Mention
mention_of_name name = record { name = name; literal = None }

abbrev pub mention_of_set : Pair → Mention
mention_of_set p = record { name = p.name; literal = Some p.value }

abbrev pub mention_of_test : Test → Mention
mention_of_test (Compare name c literal) = record { name = name; literal = Some literal }
mention_of_test (IsNull name) = record { name = name; literal = None }
mention_of_test (NotNull name) = record { name = name; literal = None }

-- each name of an insert with the literal at its place
abbrev pub listed : List Name → List Value → List Mention
listed [] vs = []
listed (n ∷ ns) [] = record { name = n; literal = None } ∷ listed ns []
listed (n ∷ ns) (v ∷ vs) = record { name = n; literal = Some v } ∷ listed ns vs

-- those of the columns that an insert lists or SET names
abbrev pub written : Statement → List Mention
written (statement.Insert s) = listed s.columns s.values
written (statement.Upsert s) = listed s.columns s.values
written (statement.Update s) = map mention_of_set s.sets
written (statement.Delete s) = []
written (statement.Select s) = []
written statement.Begin = []
written statement.Commit = []
written statement.Rollback = []
written statement.Vacuum = []

-- those of the columns that are selected or tested
abbrev pub looked_at : Statement → List Mention
looked_at (statement.Insert s) = []
looked_at (statement.Upsert s) = []
looked_at (statement.Update s) = map mention_of_test s.tests
looked_at (statement.Delete s) = map mention_of_test s.tests
looked_at (statement.Select s) = map mention_of_name (unwrap_or s.columns []) ++ map mention_of_test s.tests
looked_at statement.Begin = []
looked_at statement.Commit = []
looked_at statement.Rollback = []
looked_at statement.Vacuum = []

abbrev pub mentions : Statement → List Mention
mentions s = written s ++ looked_at s

---- what may be wrong with a mention

-- the table lacks the column
abbrev pub is_unknown : Table → Mention → Bool
is_unknown t m = not (has_column t.columns m.name)

-- the column is one of the primary key
abbrev pub names_key : Table → Mention → Bool
names_key t m = is_key_column t m.name

-- whether a literal can be a value of a kind: a number of INT and of BIGINT, and NULL of each
abbrev pub suits : Kind → Value → Bool
suits k value.Null = true
suits kind.Boolean (value.Bool b) = true
suits kind.Int (value.Int n) = true
suits kind.Int (value.BigInt n) = true
suits kind.BigInt (value.BigInt n) = true
suits kind.Text (value.Text text) = true
suits kind.Blob (value.Blob bytes) = true
suits k v = false

-- the literal is of another kind than the column
abbrev pub is_of_other_kind : Table → Mention → Bool
is_of_other_kind t m = option_map_or (λ v. not (suits (kind_of_column t m.name) v)) m.literal false

-- the literal is NULL, and the column one of the primary key
abbrev pub is_null_in_key : Table → Mention → Bool
is_null_in_key t m = option_map_or is_null m.literal false && is_key_column t m.name

-- whether a number is within a kind: 32 bits in INT, from -2^53 to 2^53 in BIGINT
abbrev pub is_within : Kind → Value → Bool
is_within kind.Int (value.BigInt n) = fits_int n
is_within k v = is_in_range v

-- the literal is a number outside the column's kind
abbrev pub is_out_of_range : Table → Mention → Bool
is_out_of_range t m = option_map_or (λ v. not (is_within (kind_of_column t m.name) v)) m.literal false

-- the literal is a text or a blob of more than 4,096 bytes
abbrev pub is_too_long : Mention → Bool
is_too_long m = option_map_or (λ v. not (nat_le (length (bytes_of v)) 4096)) m.literal false

---- places

-- the place, from 1, of the first item that passes
abbrev pub first_place : {X : Type 0} → (X → Bool) → List X → Option ℕ
first_place p xs = option_map (λ i. i + 1) (position p xs)

abbrev pub is_named_by : Name → Mention → Bool
is_named_by name m = same_name m.name name

-- the place, from 1, of the first mention whose column is mentioned before it, or among those passed
abbrev pub repeat_place : List Mention → List Mention → Option ℕ
repeat_place passed [] = None
repeat_place passed (m ∷ ms) = if list_any (is_named_by m.name) passed then Some (length passed + 1) else repeat_place (passed ++ m ∷ []) ms

-- the columns that SET names
abbrev pub set_by : Statement → List Mention
set_by (statement.Update s) = map mention_of_set s.sets
set_by (statement.Insert s) = []
set_by (statement.Upsert s) = []
set_by (statement.Delete s) = []
set_by (statement.Select s) = []
set_by statement.Begin = []
set_by statement.Commit = []
set_by statement.Rollback = []
set_by statement.Vacuum = []

-- the place, from 1, of the first column of the primary key that isn't among these names
abbrev pub lacking : Table → List Name → Option ℕ
lacking t names = first_place (λ key. not (list_any (λ n. same_name n key) names)) (key_names t)

-- that of the first column of the primary key that an insert lacks
abbrev pub missing_place : Table → Statement → Option ℕ
missing_place t (statement.Insert s) = lacking t s.columns
missing_place t (statement.Upsert s) = lacking t s.columns
missing_place t (statement.Update s) = None
missing_place t (statement.Delete s) = None
missing_place t (statement.Select s) = None
missing_place t statement.Begin = None
missing_place t statement.Commit = None
missing_place t statement.Rollback = None
missing_place t statement.Vacuum = None

---- refusals

abbrev pub refusal : ℕ → Option ℕ → Option Refusal
refusal number place = option_map (λ p. record { kind = number; place = p }) place

abbrev pub or_next : Option Refusal → Option Refusal → Option Refusal
or_next None next = next
or_next (Some r) next = Some r

-- 7 where the table lacks a column, 8 where one is named twice in an insert's list or in SET
abbrev pub column_refusal : Table → Statement → Option Refusal
column_refusal t s = or_next (refusal 7 (first_place (is_unknown t) (mentions s))) (refusal 8 (repeat_place [] (written s)))

-- 9 where SET names a column of the primary key
abbrev pub key_refusal : Table → Statement → Option Refusal
key_refusal t s = refusal 9 (first_place (names_key t) (set_by s))

-- 10 where a literal is of another kind, 11 where one is NULL in the primary key, 12 where a number is out of range, 13
-- where a text or a blob is too long
abbrev pub literal_refusal : Table → List Mention → Option Refusal
literal_refusal t ms =
    or_next (refusal 10 (first_place (is_of_other_kind t) ms))
    (or_next (refusal 11 (first_place (is_null_in_key t) ms))
    (or_next (refusal 12 (first_place (is_out_of_range t) ms))
    (refusal 13 (first_place is_too_long ms))))

-- 14 where an insert lacks a column of the primary key
abbrev pub missing_refusal : Table → Statement → Option Refusal
missing_refusal t s = refusal 14 (missing_place t s)

-- The refusal of a statement on its table, if there is one: by kind, and within a kind at the smallest place.
abbrev pub refusal_on : Table → Statement → Option Refusal
refusal_on t s = or_next (column_refusal t s) (or_next (key_refusal t s) (or_next (literal_refusal t (mentions s)) (missing_refusal t s)))

abbrev pub refusal_by : Option Table → Statement → Option Refusal
refusal_by None s = Some (record { kind = 6; place = 0 })
refusal_by (Some t) s = refusal_on t s

-- The refusal of a statement: 6 where it names no table of the catalog, else that on its table.
abbrev pub refusal_of : List Table → Statement → Option Refusal
refusal_of catalog s = refusal_by (named_table catalog s) s
