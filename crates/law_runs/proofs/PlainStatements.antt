-- What a statement whose literals have no LF gives and writes has none.
use Rattle.std.proofs.Common.{◌≡◌, ℤ, Bool, true, false, cond, List, [], ◌∷◌, map, length, Option, Some, None, IfSome}
use Rattle.std.specs.Prelude.{◌&&◌, is_some, take_while, fold, unwrap_or}
use Rattle.std.specs.List.{AllByRecursion}
use Rattle.std.specs.Ordering.{is_eq, is_lt}
use Rattle.sdb_types.specs.Columns.{column, with_column}
use Rattle.sdb_types.specs.Fits.{fits_int}
use Rattle.sdb_types.specs.Order.{key_cmp}
use Rattle.law_runs.specs.Types.{Access, Answer, Image, Insert, Key, Keyed, Kind, Pair, PlanStep, Record, Statement, Table, TableName, Test, Value}
use Rattle.sdb_types.specs.declared.value.Value.TheVariants as value
use Rattle.sdb_record.specs.declared.access.Access.TheVariants as access
use Rattle.sdb_record.specs.declared.write.Change.TheVariants as change
use Rattle.sdb_record.specs.Rolls.{new_columns}
use Rattle.sdb_schema.specs.declared.table.Kind.TheVariants as kind
use Rattle.sdb_schema.specs.Order.{row_key_cmp}
use Rattle.sdb_model.specs.declared.answer.Answer.TheVariants as answer
use Rattle.sdb_model.specs.declared.statement.Statement.TheVariants as statement
use Rattle.sdb_model.specs.declared.statement.Test.TheVariants.{Compare, IsNull, NotNull}
use Rattle.sdb_model.specs.Exec.{cut, key_of, literal_in, nat_of, passes, placed, projected, projected_names, sorted, with_named, with_sets}
use Rattle.sdb_model.specs.Rows.{Name, at_kind, is_key_column, kind_of_column, literal_at, order_names, same_name, value_in, value_of}
use Rattle.sdb_exec.specs.declared.plan.PlanStep.TheVariants.{Finished, Read as Wants}
use Rattle.sdb_exec.specs.Plans.{Planned, answer_on, changes_on, columns_at, finished, first_unfit, is_unfit, put_row, step_at, step_of}
use Rattle.sdb_model.specs.Reads.{access_by, access_for, access_of, all_fixed, fixed, is_equals, joined}
use Rattle.sdb_report.specs.OneLine.{ValueHasNoLf}
use Rattle.law_runs.proofs.Lists.{filter_all, find_all, insert_all, map_all, option_so, take_all}
use Rattle.law_runs.proofs.Clear.{AreClear, ColumnsClear, KeyClear, RecordClear, column_clear, column_set}

-- the literal that a test compares with
abbrev pub TestClear : Test → Type 0
TestClear (Compare name c literal) = ValueHasNoLf literal
TestClear (IsNull name) = Unit {0}
TestClear (NotNull name) = Unit {0}

abbrev pub TestsClear : List Test → Type 0
TestsClear ts = AllByRecursion TestClear ts

-- the literals of a statement
abbrev pub StatementClear : Statement → Type 0
StatementClear (statement.Insert s) = AreClear s.values
StatementClear (statement.Upsert s) = AreClear s.values
StatementClear (statement.Update s) = ColumnsClear s.sets × TestsClear s.tests
StatementClear (statement.Delete s) = TestsClear s.tests
StatementClear (statement.Select s) = TestsClear s.tests
StatementClear statement.Begin = Unit {0}
StatementClear statement.Commit = Unit {0}
StatementClear statement.Rollback = Unit {0}
StatementClear statement.Vacuum = Unit {0}

pub record ImageClear (r : Image) : Type 0 where
  pub key : KeyClear r.key
  pub columns : ColumnsClear r.columns

abbrev pub ImagesClear : List Image → Type 0
ImagesClear rows = AllByRecursion ImageClear rows

abbrev pub AccessClear : Access → Type 0
AccessClear (access.Get key) = KeyClear key
AccessClear (access.Scan span) = IfSome span.partition AreClear

---- answers

-- a record that a conflict found is of its key
pub record FoundAt (key : Key) (r : Record) : Type 0 where
  pub clear : RecordClear r
  pub key_is : r.key ≡ key

abbrev pub AnswerClear : Answer → Type 0
AnswerClear (answer.Rows rows) = AllByRecursion AreClear rows
AnswerClear (answer.Count n) = Unit {0}
AnswerClear answer.Done = Unit {0}
AnswerClear answer.Committed = Unit {0}
AnswerClear (answer.Duplicate key) = KeyClear key
AnswerClear (answer.Busy key id at) = KeyClear key
AnswerClear (answer.Conflict key found) = KeyClear key × IfSome found (FoundAt key)
AnswerClear (answer.Expired id) = Unit {0}
AnswerClear answer.Faulted = Unit {0}
AnswerClear (answer.Unknown id) = Unit {0}
AnswerClear (answer.BadRecord key) = KeyClear key
AnswerClear (answer.Refused refusal) = Unit {0}
AnswerClear answer.Vacuuming = Unit {0}
AnswerClear answer.OpenTransactions = Unit {0}
AnswerClear answer.NoMemory = Unit {0}

---- literals

kind_clear : (k : Kind) (v : Value) → ValueHasNoLf v → ValueHasNoLf (at_kind k v)
kind_clear kind.Int (value.BigInt n) h = elim (fits_int n) as (λ b. ValueHasNoLf (cond b (value.Int n) (value.BigInt n))) [ true ↦ tt | false ↦ tt ]
kind_clear k v h = h

pub literal_clear : (t : Table) (name : Name) (v : Value) → ValueHasNoLf v → ValueHasNoLf (literal_at t name v)
literal_clear t name v h = kind_clear (kind_of_column t name) v h

pub value_in_clear : (ns : List Name) (vs : List Value) (name : Name) (rest : Value) → AreClear vs → ValueHasNoLf rest → ValueHasNoLf (value_in ns vs name rest)
value_in_clear [] vs name rest h k = k
value_in_clear (n ∷ ns) [] name rest h k = k
value_in_clear (n ∷ ns) (v ∷ vs) name rest h k =
    let later = value_in_clear ns vs name rest h.1 k in
    elim (same_name n name) as (λ b. ValueHasNoLf (cond b v (value_in ns vs name rest))) [ true ↦ h.0 | false ↦ later ]

literals_clear : (t : Table) (s : Insert) (ns : List Name) → AreClear s.values → AreClear (map (literal_in t s) ns)
literals_clear t s [] h = tt
literals_clear t s (n ∷ ns) h = (literal_clear t n (value_in s.columns s.values n value.Null) (value_in_clear s.columns s.values n value.Null h tt), literals_clear t s ns h)

pub key_of_clear : (t : Table) (s : Insert) → AreClear s.values → KeyClear (key_of t s)
key_of_clear t s h = record { partition = literals_clear t s t.partition h; clustering = literals_clear t s (order_names t.clustering) h }

pub named_clear : (t : Table) (ns : List Name) (vs : List Value) (columns : List Pair) → AreClear vs → ColumnsClear columns → ColumnsClear (with_named t ns vs columns)
named_clear t [] vs columns h k = k
named_clear t (n ∷ ns) [] columns h k = k
named_clear t (n ∷ ns) (v ∷ vs) columns h k =
    named_clear t ns vs _ h.1
    (elim (is_key_column t n) as (λ b. ColumnsClear (cond b columns (with_column (record { name = n; value = literal_at t n v }) columns))) [ true ↦ k | false ↦ column_set (record { name = n; value = literal_at t n v }) columns (literal_clear t n v h.0) k ])

pub sets_clear : (t : Table) (sets columns : List Pair) → ColumnsClear sets → ColumnsClear columns → ColumnsClear (with_sets t sets columns)
sets_clear t [] columns h k = k
sets_clear t (p ∷ ps) columns h k = sets_clear t ps _ h.1 (column_set (record { name = p.name; value = literal_at t p.name p.value }) columns (literal_clear t p.name p.value h.0) k)

---- accesses

fixed_clear : (t : Table) (ts : List Test) (name : Name) → TestsClear ts → IfSome (fixed t ts name) ValueHasNoLf
fixed_clear t [] name h = tt
fixed_clear t (Compare n c literal ∷ ts) name h =
    let rest = fixed_clear t ts name h.1 in
    elim (is_equals c && same_name n name) as (λ b. IfSome (cond b (Some (literal_at t n literal)) (fixed t ts name)) ValueHasNoLf) [ true ↦ literal_clear t n literal h.0 | false ↦ rest ]
fixed_clear t (IsNull n ∷ ts) name h = fixed_clear t ts name h.1
fixed_clear t (NotNull n ∷ ts) name h = fixed_clear t ts name h.1

joined_clear : (o : Option Value) (vs : Option (List Value)) → IfSome o ValueHasNoLf → IfSome vs AreClear → IfSome (joined o vs) AreClear
joined_clear None vs h k = tt
joined_clear (Some v) None h k = tt
joined_clear (Some v) (Some vs) h k = (h, k)

all_fixed_clear : (t : Table) (ts : List Test) (ns : List Name) → TestsClear ts → IfSome (all_fixed t ts ns) AreClear
all_fixed_clear t ts [] h = tt
all_fixed_clear t ts (n ∷ ns) h = joined_clear (fixed t ts n) (all_fixed t ts ns) (fixed_clear t ts n h) (all_fixed_clear t ts ns h)

by_clear : (name : TableName) (ps cs : Option (List Value)) → IfSome ps AreClear → IfSome cs AreClear → AccessClear (access_by name ps cs)
by_clear name None cs h k = tt
by_clear name (Some ps) None h k = h
by_clear name (Some ps) (Some cs) h k = record { partition = h; clustering = k }

for_clear : (t : Table) (ts : List Test) → TestsClear ts → AccessClear (access_for t ts)
for_clear t ts h = by_clear t.name (all_fixed t ts t.partition) (all_fixed t ts (order_names t.clustering)) (all_fixed_clear t ts t.partition h) (all_fixed_clear t ts (order_names t.clustering) h)

pub access_clear : (t : Table) (st : Statement) → StatementClear st → AccessClear (access_of t st)
access_clear t (statement.Insert s) h = key_of_clear t s h
access_clear t (statement.Upsert s) h = key_of_clear t s h
access_clear t (statement.Update s) h = for_clear t s.tests h.1
access_clear t (statement.Delete s) h = for_clear t s.tests h
access_clear t (statement.Select s) h = for_clear t s.tests h
access_clear t statement.Begin h = for_clear t [] tt
access_clear t statement.Commit h = for_clear t [] tt
access_clear t statement.Rollback h = for_clear t [] tt
access_clear t statement.Vacuum h = for_clear t [] tt

---- rows that are shown

or_null : (o : Option Value) → IfSome o ValueHasNoLf → ValueHasNoLf (unwrap_or o value.Null)
or_null None h = tt
or_null (Some v) h = h

value_clear : (t : Table) (r : Image) → ImageClear r → (name : Name) → ValueHasNoLf (value_of t r name)
value_clear t r h name =
    value_in_clear t.partition r.key.partition name _ h.key.partition
    (value_in_clear (order_names t.clustering) r.key.clustering name _ h.key.clustering (or_null (column r.columns name) (column_clear r.columns name h.columns)))

each_clear : (t : Table) (r : Image) → ImageClear r → (ns : List Name) → AreClear (map (value_of t r) ns)
each_clear t r h [] = tt
each_clear t r h (n ∷ ns) = (value_clear t r h n, each_clear t r h ns)

pub shown_clear : (t : Table) (columns : Option (List Name)) (r : Image) → ImageClear r → AreClear (projected t columns r)
shown_clear t columns r h = each_clear t r h (projected_names t columns)

sorted_from : (t : Table) (rows rs : List Image) → ImagesClear rows → ImagesClear rs → ImagesClear (fold (placed t) rows rs)
sorted_from t rows [] h k = h
sorted_from t rows (r ∷ rs) h k = sorted_from t (placed t rows r) rs (insert_all ImageClear rows (length (take_while (λ (x : Image). is_lt (row_key_cmp t x.key r.key)) rows)) r k.0 h) k.1

pub sorted_clear : (t : Table) (rs : List Image) → ImagesClear rs → ImagesClear (sorted t rs)
sorted_clear t rs h = sorted_from t [] rs tt h

cut_clear : (o : Option ℤ) (rs : List Image) → ImagesClear rs → ImagesClear (cut o rs)
cut_clear None rs h = h
cut_clear (Some n) rs h = take_all ImageClear (nat_of n) rs h

---- what a plan gives

answer_clear : (t : Table) (st : Statement) (rows : List Image) → StatementClear st → ImagesClear rows → AnswerClear (answer_on t st rows)
answer_clear t (statement.Insert s) rows h k = elim (is_some (columns_at (key_of t s) rows)) as (λ b. AnswerClear (cond b (answer.Duplicate (key_of t s)) (answer.Count 1))) [ true ↦ key_of_clear t s h | false ↦ tt ]
answer_clear t (statement.Upsert s) rows h k = tt
answer_clear t (statement.Update s) rows h k = tt
answer_clear t (statement.Delete s) rows h k = tt
answer_clear t (statement.Select s) rows h k =
    map_all ImageClear AreClear (projected t s.columns) _ (shown_clear t s.columns) (cut_clear s.limit _ (sorted_clear t _ (filter_all ImageClear (passes t s.tests) rows k)))
answer_clear t statement.Begin rows h k = tt
answer_clear t statement.Commit rows h k = tt
answer_clear t statement.Rollback rows h k = tt
answer_clear t statement.Vacuum rows h k = tt

-- a change: its key and its new row
pub record ChangeClear (k : Keyed) : Type 0 where
  pub key : KeyClear k.key
  pub change : ColumnsClear (new_columns k.change)

abbrev pub ChangesClear : List Keyed → Type 0
ChangesClear ks = AllByRecursion ChangeClear ks

or_none : (o : Option (List Pair)) → IfSome o ColumnsClear → ColumnsClear (unwrap_or o [])
or_none None h = tt
or_none (Some ps) h = h

changes_clear : (t : Table) (st : Statement) (rows : List Image) → StatementClear st → ImagesClear rows → ChangesClear (changes_on t st rows)
changes_clear t (statement.Insert s) rows h k =
    elim (is_some (columns_at (key_of t s) rows)) as (λ b. ChangesClear (cond b [] (put_row (key_of t s) (with_named t s.columns s.values []) ∷ []))) [
      | true ↦ tt
      | false ↦ (record { key = key_of_clear t s h; change = named_clear t s.columns s.values [] h tt }, tt)
    ]
changes_clear t (statement.Upsert s) rows h k =
    let there = option_so ImageClear ColumnsClear (λ (r : Image). r.columns) _ (λ r c. c.columns) (find_all ImageClear (λ (r : Image). is_eq (key_cmp (key_of t s) r.key)) rows k) in
    (record { key = key_of_clear t s h; change = named_clear t s.columns s.values _ h (or_none (columns_at (key_of t s) rows) there) }, tt)
changes_clear t (statement.Update s) rows h k =
    map_all ImageClear ChangeClear (λ (r : Image). record { key = r.key; change = change.Row (with_sets t s.sets r.columns) }) _ (λ r c. record { key = c.key; change = sets_clear t s.sets r.columns h.0 c.columns })
    (filter_all ImageClear (passes t s.tests) rows k)
changes_clear t (statement.Delete s) rows h k =
    map_all ImageClear ChangeClear (λ (r : Image). record { key = r.key; change = change.Delete }) _ (λ r c. record { key = c.key; change = tt }) (filter_all ImageClear (passes t s.tests) rows k)
changes_clear t (statement.Select s) rows h k = tt
changes_clear t statement.Begin rows h k = tt
changes_clear t statement.Commit rows h k = tt
changes_clear t statement.Rollback rows h k = tt
changes_clear t statement.Vacuum rows h k = tt

abbrev pub GivesClear : PlanStep → Type 0
GivesClear (Finished a ks) = AnswerClear a × ChangesClear ks
GivesClear (Wants a) = Unit {0}

finished_clear : (t : Table) (st : Statement) (rows : List Image) (o : Option Key) → StatementClear st → ImagesClear rows → IfSome o KeyClear → GivesClear (finished t st rows o)
finished_clear t st rows None h k u = (answer_clear t st rows h k, changes_clear t st rows h k)
finished_clear t st rows (Some key) h k u = (u, tt)

step_clear : (b : Bool) (t : Table) (st : Statement) (rows : List Image) → StatementClear st → ImagesClear rows → GivesClear (step_at b t st rows)
step_clear false t st rows h k = tt
step_clear true t st rows h k = finished_clear t st rows (first_unfit t rows) h k (option_so ImageClear KeyClear (λ (r : Image). r.key) _ (λ r c. c.key) (find_all ImageClear (is_unfit t) rows k))

-- what a statement's plan gives on rows
pub gives_clear : (p : Planned) (rows : List Image) → StatementClear p.statement → ImagesClear rows → GivesClear (step_of p rows)
gives_clear p rows h k = step_clear p.asked p.table p.statement rows h k
