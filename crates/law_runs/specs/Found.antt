-- What a transaction has found in the tables, and what its statements answer on that.
use Rattle.std.specs.Prelude.{◌≡◌, Bool, false, not, if◌then◌else◌, ℕ, List, [], ◌∷◌, ◌++◌, filter, fold, map, Option, Some, None, is_some, true, Contains, ◌||◌}
use Rattle.std.specs.FinMap.{empty}
use Rattle.std.specs.List.{AllByRecursion, filter_map, flat_map, list_any}
use Rattle.std.specs.Option.{option_and_then, option_map_or}
use Rattle.law_runs.specs.Types.{Answer, Event, Key, Pair, Record, Reply, Request, Span, Statement, Table, TxId}
use Rattle.sdb_types.specs.declared.record.Reply.TheVariants as reply
use Rattle.sdb_types.specs.declared.record.Request.TheVariants as ask
use Rattle.sdb_types.specs.Order.{same_key}
use Rattle.sdb_model.specs.Access.{in_access, with_row}
use Rattle.sdb_model.specs.Calls.{StoreCall, calls_of}
use Rattle.sdb_model.specs.Catalogs.{catalog_after}
use Rattle.sdb_model.specs.Causes.{before}
use Rattle.sdb_model.specs.Exec.{Tables, exec, named_table}
use Rattle.sdb_model.specs.Reads.{access_of}
use Rattle.sdb_model.specs.ReadSet.{meaning_of, reads_rows, has_read}
use Rattle.sdb_model.specs.Sql.{reads_commit, Reads}
use Rattle.sdb_model.specs.Transactions.{Executed, client_of, is_effective, statements_of, statements_inside}
use Rattle.sdb_snapshot.specs.Rows.{row_found}
use Rattle.sdb_snapshot.specs.Seen.{same_span}
use Rattle.law_clients.specs.Fitting.{row_is_well_typed}

---- what a statement found

-- The keys at which a read of a statement found something, each with what this means: a get also finds that there is none, and a scan only
-- finds records.
abbrev pub found_in : List StoreCall → Request → Reply → List (Key × Option Record)
found_in calls (ask.Get key) (reply.Found found) = (key, option_and_then (meaning_of calls) found) ∷ []
found_in calls (ask.Scan span) (reply.Rows rows) = map (λ (b : Record). (b.key, Some b)) (filter_map (meaning_of calls) rows)
found_in calls q r = []

-- what a statement with these calls found, in their order
abbrev pub found_by : List StoreCall → List (Key × Option Record)
found_by calls = flat_map (λ m. found_in calls m.request m.reply) (filter reads_rows calls)

---- what a transaction has found

-- A transaction's view of the tables: the keys at which it has found something, those of them at which the row found doesn't fit its table, and
-- the rows at the others, with its own changes.
pub record View : Type 0 where
  pub keys : List Key
  pub misfits : List Key
  pub rows : Tables

abbrev pub nothing_found : View
nothing_found = record { keys = []; misfits = []; rows = empty }

-- something was found at a key
abbrev pub has_found : View → Key → Bool
has_found v key = list_any (same_key key) v.keys

-- a row, if there is one, doesn't fit its table, or is of none of the catalog
abbrev pub is_misfit_row : List Table → Key → Option (List Pair) → Bool
is_misfit_row catalog key row = option_map_or (λ columns. not (row_is_well_typed catalog key columns)) row false

-- With what was found at a key; what was found there first stays, with the changes since.
abbrev pub with_one_found : List Table → View → Key × Option Record → View
with_one_found catalog v e =
    if has_found v e.0 then v
    else if is_misfit_row catalog e.0 (row_found e.1) then record { keys = v.keys ++ e.0 ∷ []; misfits = v.misfits ++ e.0 ∷ []; rows = v.rows }
    else record { keys = v.keys ++ e.0 ∷ []; misfits = v.misfits; rows = with_row v.rows e.0 (row_found e.1) }

-- with what a statement found
abbrev pub with_found : List Table → View → List (Key × Option Record) → View
with_found catalog v found = fold (with_one_found catalog) v found

---- statements

-- a statement on the rows of a view: its answer, and the view with its changes
abbrev pub exec_on : List Table → Statement → View → Answer × View
exec_on catalog s v = ((exec catalog s v.rows).0, record { keys = v.keys; misfits = v.misfits; rows = (exec catalog s v.rows).1 })

-- a statement reads at a key whose row doesn't fit
abbrev pub meets_misfit : List Table → Statement → View → Bool
meets_misfit catalog s v = option_map_or (λ t. list_any (in_access (access_of t s)) v.misfits) (named_table catalog s) false

-- A statement that runs, or none, on the rows of a view: its answer, if there is one, and the view with its changes. One that reads at a key
-- whose row doesn't fit gives none.
abbrev pub run_one : List Table → Option Statement → View → List Answer × View
run_one catalog None v = ([], v)
run_one catalog (Some s) v = if meets_misfit catalog s v then ([], v) else ((exec_on catalog s v).0 ∷ [], (exec_on catalog s v).1)

-- the same with what it found itself
abbrev pub run_found : List Table → Option Statement → View → List (Key × Option Record) → List Answer × View
run_found catalog s v found = run_one catalog s (with_found catalog v found)

-- The answers to statements that run one after the other, each on what was found so far, with what it found itself; and the view after them.
-- One that was refused, or met a row that doesn't fit, doesn't run, and what it found is found.
abbrev pub run_on_found : List Table → List (List (Key × Option Record)) → List (Option Statement) → View → List Answer × View
run_on_found catalog [] ss v = ([], v)
run_on_found catalog (f ∷ fs) [] v = ([], v)
run_on_found catalog (f ∷ fs) (s ∷ ss) v =
    ((run_found catalog s v f).0 ++ (run_on_found catalog fs ss (run_found catalog s v f).1).0, (run_on_found catalog fs ss (run_found catalog s v f).1).1)

-- what each of some statements of a client found
abbrev pub finds : List Event → ℕ → List Executed → List (List (Key × Option Record))
finds events client ss = map (λ s. found_by (calls_of events client s)) ss

-- a statement that changed something runs as what its text reads as, and no other runs
abbrev pub RunsAs : Executed → Option Statement → Type 0
RunsAs s None = is_effective s ≡ false
RunsAs s (Some st) = (is_effective s ≡ true) × Reads s.text st

abbrev pub AllRunAs : List Executed → List (Option Statement) → Type 0
AllRunAs [] [] = Unit {0}
AllRunAs [] (o ∷ os) = ⊥
AllRunAs (s ∷ ss) [] = ⊥
AllRunAs (s ∷ ss) (o ∷ os) = RunsAs s o × AllRunAs ss os

-- Statements that a client took run as these, which, run one after the other on what they found, give the answers that those that changed
-- something got.
pub record IsRunOnFound (catalog : List Table) (events : List Event) (client : ℕ) (ss : List Executed) : Type 0 where
  pub statements : List (Option Statement)
  pub run : AllRunAs ss statements
  pub answers : map (λ s. s.answer) (filter is_effective ss) ≡ map Some (run_on_found catalog (finds events client ss) statements nothing_found).0

abbrev pub is_answered : Executed → Bool
is_answered s = is_some s.answer

-- a statement changed something, or its read has finished
abbrev pub takes_part : List Event → ℕ → Executed → Bool
takes_part events client s = is_effective s || has_read events client s

-- those of some statements of a transaction that were answered and changed something, or whose reads have finished
abbrev pub answered_among : List Event → TxId → List Executed → List Executed
answered_among events id ss = filter is_answered (filter (takes_part events (client_of id)) ss)

-- those of all its statements
abbrev pub answered_inside : List Event → TxId → List Executed
answered_inside events id = answered_among events id (statements_inside events id)

-- Statements were accepted under one catalog.
abbrev pub AreUnder : List Table → List Event → List Table → List Executed → Type 0
AreUnder catalog events under ss = AllByRecursion (λ s. catalog_after catalog (before s events) ≡ under) ss

-- They run on what they found under the catalog with which all of them were accepted.
abbrev pub RunsUnder : List Table → List Event → ℕ → List Executed → Type 0
RunsUnder catalog events client ss = (under : List Table) × AreUnder catalog events under ss × IsRunOnFound under events client ss

-- This holds of each transaction, recorded or not.
abbrev pub RunsOnFound : List Table → List Event → Type 0
RunsOnFound catalog events = (id : TxId) → RunsUnder catalog events (client_of id) (answered_inside events id)

---- new reads

-- the statements found something at a key
abbrev pub was_found : List Event → ℕ → List Executed → Key → Bool
was_found events client ss key = list_any (λ (found : List (Key × Option Record)). list_any (λ e. same_key key e.0) found) (finds events client ss)

abbrev pub is_scan_of : Span → Request → Bool
is_scan_of span (ask.Scan other) = same_span other span
is_scan_of span q = false

-- a read of rows among calls scans a span
abbrev pub scans_span : Span → List StoreCall → Bool
scans_span span calls = list_any (λ m. is_scan_of span m.request) (filter reads_rows calls)

-- the statements scanned a span
abbrev pub was_scanned : List Event → ℕ → List Executed → Span → Bool
was_scanned events client ss span = list_any (λ s. scans_span span (calls_of events client s)) ss

-- A read after statements is new: a get is of no key at which they found something, and a scan of no span that they scanned.
abbrev pub IsNewRead : List Event → ℕ → List Executed → Request → Type 0
IsNewRead events client ss (ask.Get key) = was_found events client ss key ≡ false
IsNewRead events client ss (ask.Scan span) = was_scanned events client ss span ≡ false
IsNewRead events client ss q = Unit {0}

-- A call of a statement of a transaction that is no COMMIT, with the statements before it, reads rows of tables.
pub record ReadsIn (events : List Event) (id : TxId) (before : List Executed) (s : Executed) (m : StoreCall) : Type 0 where
  pub after : List Executed
  pub statements : statements_of events id ≡ before ++ s ∷ after
  pub no_commit : reads_commit s.text ≡ false
  pub call : Contains (calls_of events (client_of id) s) m
  pub reads : reads_rows m ≡ true

-- It is new after those before it that were answered and changed something, or whose reads have finished.
abbrev pub ReadsAreNew : List Event → Type 0
ReadsAreNew events =
    (id : TxId) (before : List Executed) (s : Executed) (m : StoreCall) → ReadsIn events id before s m
    → IsNewRead events (client_of id) (answered_among events id before) m.request
