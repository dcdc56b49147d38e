-- What a plan gives on the rows that it read.
use Rattle.std.specs.Prelude.{◌≡◌, Bool, true, false, not, ◌&&◌, ◌||◌, ◌==◌, if◌then◌else◌, List, [], ◌∷◌, map, filter, find, length, Option, Some, None, is_some, unwrap_or}
use Rattle.std.specs.Option.{option_map}
use Rattle.std.specs.List.{list_all}
use Rattle.std.specs.Ordering.{is_eq, is_lt}
use Rattle.sdb_exec.specs.Types.{Answer, Change, Image, Key, Keyed, Pair, Refusal, Statement, Table}
use Rattle.sdb_types.specs.Order.{key_cmp}
use Rattle.sdb_schema.specs.Rows.{fits_table}
use Rattle.sdb_record.specs.declared.write.Change.TheVariants as change
use Rattle.sdb_model.specs.declared.statement.Statement.TheVariants as statement
use Rattle.sdb_model.specs.declared.answer.Answer.TheVariants as answer
use Rattle.sdb_model.specs.Exec.{Tables, exec, all_rows, is_row_of, passes, key_of, with_named, with_sets, sorted, cut, projected, not_a_table}
use Rattle.sdb_exec.specs.declared.plan.PlanRefused.{PlanRefused}
use Rattle.sdb_exec.specs.declared.plan.PlanRefused.TheVariants as refused
use Rattle.sdb_exec.specs.declared.plan.PlanStep.{PlanStep}
use Rattle.sdb_exec.specs.declared.plan.PlanStep.TheVariants.{Read, Finished}
use Rattle.sdb_model.specs.Access.{with_changes}
use Rattle.sdb_model.specs.Reads.{access_of}

-- A plan: a statement, its table, and whether the rows were asked for.
pub record Planned : Type 0 where
  pub table : Table
  pub statement : Statement
  pub asked : Bool

---- refusals

-- The refusal that comes; out of memory may be returned in the place of any outcome.
abbrev pub IsRefusedAs : Option Refusal → PlanRefused → Type 0
IsRefusedAs r (refused.Refused refusal) = r ≡ Some refusal
IsRefusedAs r refused.NoMemory = Unit {0}

---- rows that don't fit

abbrev pub is_unfit : Table → Image → Bool
is_unfit t r = not (fits_table t r.key r.columns)

-- the key of the first row that doesn't fit the table
abbrev pub first_unfit : Table → List Image → Option Key
first_unfit t rows = option_map (λ r. r.key) (find (is_unfit t) rows)

---- the answer and the changes of a statement on rows that fit

-- the columns of the row with a key, if there is one
abbrev pub columns_at : Key → List Image → Option (List Pair)
columns_at key rows = option_map (λ r. r.columns) (find (λ r. is_eq (key_cmp key r.key)) rows)

abbrev pub answer_on : Table → Statement → List Image → Answer
answer_on t (statement.Insert s) rows = if is_some (columns_at (key_of t s) rows) then answer.Duplicate (key_of t s) else answer.Count 1
answer_on t (statement.Upsert s) rows = answer.Count 1
answer_on t (statement.Update s) rows = answer.Count (length (filter (passes t s.tests) rows))
answer_on t (statement.Delete s) rows = answer.Count (length (filter (passes t s.tests) rows))
answer_on t (statement.Select s) rows = answer.Rows (map (projected t s.columns) (cut s.limit (sorted t (filter (passes t s.tests) rows))))
answer_on t statement.Begin rows = not_a_table
answer_on t statement.Commit rows = not_a_table
answer_on t statement.Rollback rows = not_a_table
answer_on t statement.Vacuum rows = not_a_table

abbrev pub put_row : Key → List Pair → Keyed
put_row key columns = record { key = key; change = change.Row columns }

-- INSERT puts a row where there is none, UPSERT one with its named columns changed; UPDATE puts each row that passes with
-- its columns set, and DELETE takes it out, in the order of the rows.
abbrev pub changes_on : Table → Statement → List Image → List Keyed
changes_on t (statement.Insert s) rows = if is_some (columns_at (key_of t s) rows) then [] else put_row (key_of t s) (with_named t s.columns s.values []) ∷ []
changes_on t (statement.Upsert s) rows = put_row (key_of t s) (with_named t s.columns s.values (unwrap_or (columns_at (key_of t s) rows) [])) ∷ []
changes_on t (statement.Update s) rows = map (λ r. record { key = r.key; change = change.Row (with_sets t s.sets r.columns) }) (filter (passes t s.tests) rows)
changes_on t (statement.Delete s) rows = map (λ r. record { key = r.key; change = change.Delete }) (filter (passes t s.tests) rows)
changes_on t (statement.Select s) rows = []
changes_on t statement.Begin rows = []
changes_on t statement.Commit rows = []
changes_on t statement.Rollback rows = []
changes_on t statement.Vacuum rows = []

---- steps

-- BadRecord of the first row that doesn't fit, without changes; else the answer and the changes.
abbrev pub finished : Table → Statement → List Image → Option Key → PlanStep
finished t s rows None = Finished (answer_on t s rows) (changes_on t s rows)
finished t s rows (Some key) = Finished (answer.BadRecord key) []

abbrev pub step_at : Bool → Table → Statement → List Image → PlanStep
step_at false t s rows = Read (access_of t s)
step_at true t s rows = finished t s rows (first_unfit t rows)

-- A plan's step: first the rows that it wants, and then what it gives on these.
abbrev pub step_of : Planned → List Image → PlanStep
step_of p rows = step_at p.asked p.table p.statement rows

---- tables

-- a key with a value for each column of the primary key
abbrev pub has_shape : Table → Key → Bool
has_shape t key = length key.partition == length t.partition && length key.clustering == length t.clustering

-- each row of the table has a key with a value for each column of the primary key
abbrev pub are_shaped : Table → List Image → Bool
are_shaped t = list_all (λ r. not (is_row_of t r) || has_shape t r.key)

-- each row of the table fits it
abbrev pub all_well_typed : Table → Tables → Bool
all_well_typed t d = list_all (λ r. not (is_row_of t r) || fits_table t r.key r.columns) (all_rows d)

-- the step finishes as the statement does on these tables
abbrev pub IsExec : List Table → Planned → Tables → PlanStep → Type 0
IsExec catalog p d (Read a) = ⊥
IsExec catalog p d (Finished answer changes) = exec catalog p.statement d ≡ (answer, with_changes d changes)

---- the order of keys

-- keys that rise strictly
abbrev pub keys_rise : List Key → Bool
keys_rise [] = true
keys_rise (k ∷ ks) = list_all (λ q. is_lt (key_cmp k q)) ks && keys_rise ks

abbrev pub row_keys : List Image → List Key
row_keys rows = map (λ r. r.key) rows

abbrev pub change_keys : List Keyed → List Key
change_keys changes = map (λ k. k.key) changes

---- changes that fit

-- the row that a change leaves, if it leaves one, fits the table
abbrev pub leaves_well_typed : Table → Key → Change → Bool
leaves_well_typed t key (change.Row columns) = fits_table t key columns
leaves_well_typed t key change.Delete = true

abbrev pub change_is_well_typed : Table → Keyed → Bool
change_is_well_typed t k = leaves_well_typed t k.key k.change

-- an insert has as many literals as names
abbrev pub has_all_literals : Statement → Bool
has_all_literals (statement.Insert s) = length s.columns == length s.values
has_all_literals (statement.Upsert s) = length s.columns == length s.values
has_all_literals (statement.Update s) = true
has_all_literals (statement.Delete s) = true
has_all_literals (statement.Select s) = true
has_all_literals statement.Begin = true
has_all_literals statement.Commit = true
has_all_literals statement.Rollback = true
has_all_literals statement.Vacuum = true
