-- Tests that hold exactly where the answers of a transaction show rows that it has, over its effective statements.
use Rattle.std.specs.Prelude.{◌&&◌, ℕ, zero, suc, Bool, true, false, nat_lt, if◌then◌else◌, List, [], ◌∷◌, ◌++◌, map, Option, Some}
use Rattle.std.specs.Cmp.Lexicographic.{slice_cmp}
use Rattle.std.specs.List.{cons_option, flat_map, list_all, list_any}
use Rattle.std.specs.Option.{option_map, option_map_or}
use Rattle.std.specs.Ordering.{is_eq}
use Rattle.check_answers.specs.Types.{Answer, Event, Image, Insert, Key, Pair, Request, Select, Statement, Table, Value}
use Rattle.sdb_types.specs.declared.record.Request.TheVariants as ask
use Rattle.sdb_types.specs.Contents.{in_span}
use Rattle.sdb_types.specs.Order.{value_cmp, same_key}
use Rattle.sdb_model.specs.Catalogs.{catalog_after}
use Rattle.sdb_model.specs.Causes.{before}
use Rattle.sdb_model.specs.declared.answer.Answer.TheVariants as answer
use Rattle.sdb_model.specs.declared.statement.Statement.TheVariants as statement
use Rattle.sdb_model.specs.Exec.{all_rows, find_table, key_of, projected}
use Rattle.sdb_model.specs.DirtyReads.{row_left}
use Rattle.sdb_model.specs.ReadSet.{has_finished}
use Rattle.sdb_model.specs.Transactions.{Executed, is_effective}
use Rattle.sdb_snapshot.specs.Seen.{images_with}
use Rattle.sdb_contents.specs.Commits.{executed_of}
use Rattle.check_tables.specs.Values.{all_made}
use Rattle.check_answers.specs.Tests.{same_executed}
use Rattle.check_answers.specs.declared.stores.StoreContents.{StoreContents}
use Rattle.check_answers.specs.declared.stores.Stores.{Stores}
use Rattle.check_answers.specs.declared.turn.Turn.{Turn}
use Rattle.check_answers.specs.Values.{row_then}

---- what a statement may have observed at a key

abbrev pub reads_key : Key → Request → Bool
reads_key key (ask.Get k) = same_key k key
reads_key key (ask.Scan span) = in_span span key
reads_key key (ask.PutIf rec condition) = false
reads_key key (ask.DeleteIf k condition) = false
reads_key key (ask.PutAll batch) = false

-- the rows at moments from one on, before another
abbrev pub rows_below : (ℕ → Option (List Pair)) → ℕ → ℕ → List (Option (List Pair))
rows_below f accepted zero = []
rows_below f accepted (suc n) = rows_below f accepted n ++ (if nat_lt accepted (suc n) then f n ∷ [] else [])

abbrev pub bases : Stores → Key → Turn → List (Option (List Pair))
bases x key t = if has_finished (all_made t.calls) (executed_of t.executed) && list_any (λ m. reads_key key m.request) t.calls then rows_below (row_then x key) t.executed.accepted t.end else []

---- what the statements made of it

-- the row that there is at a statement, where it is this one
abbrev pub image_then : Executed → Key → Option (List Pair) → Turn → List Image
image_then s key row t = if same_executed (executed_of t.executed) s then images_with key row else []

-- the rows that there are at a statement where it is one of these, made of a first row by the effective ones before it
abbrev pub rows_from : List Table → Executed → Key → Option (List Pair) → List Turn → List Image
rows_from catalog s key row [] = []
rows_from catalog s key row (t ∷ ts) =
    image_then s key row t ++ (if is_effective (executed_of t.executed) then option_map_or (λ st. rows_from catalog s key (row_left catalog st key row) ts) t.statement [] else rows_from catalog s key row ts)

-- the rows that a transaction has at a key, each observed first by one of these statements
abbrev pub had_at : List Table → Stores → Executed → Key → List Turn → List Image
had_at catalog x s key [] = []
had_at catalog x s key (t ∷ ts) = flat_map (λ base. rows_from catalog s key base (t ∷ ts)) (bases x key t) ++ had_at catalog x s key ts

abbrev pub had : List Table → Stores → Executed → List Key → List Turn → List Image
had catalog x s keys ts = flat_map (λ key. had_at catalog x s key ts) keys

---- the keys at which there may be rows

abbrev pub keys_in : StoreContents → List Key
keys_in s = map (λ r. r.key) (all_rows s.rows)

abbrev pub keys_at_stores : List StoreContents → List Key
keys_at_stores store_contents = flat_map keys_in store_contents

abbrev pub inserted_by : List Table → Insert → Option Key
inserted_by catalog i = option_map (λ t. key_of t i) (find_table catalog i.table)

abbrev pub key_inserted : List Table → Option Statement → List Key
key_inserted catalog (Some (statement.Insert i)) = cons_option (inserted_by catalog i) []
key_inserted catalog (Some (statement.Upsert i)) = cons_option (inserted_by catalog i) []
key_inserted catalog _ = []

abbrev pub all_keys : List Table → Stores → List Turn → List Key
all_keys catalog x ts = (keys_at_stores x.opening ++ flat_map keys_at_stores x.moments) ++ flat_map (λ t. key_inserted catalog t.statement) ts

---- what answers show

abbrev pub same_values : List Value → List Value → Bool
same_values a b = is_eq (slice_cmp value_cmp a b)

abbrev pub rows_are_of : Table → Option (List (List ℕ)) → List (List Value) → List Image → Bool
rows_are_of t columns rows images = list_all (λ row. list_any (λ image. same_values (projected t columns image) row) images) rows

abbrev pub select_is_of : List Table → Select → List (List Value) → List Image → Bool
select_is_of catalog select rows images = option_map_or (λ t. rows_are_of t select.columns rows images) (find_table catalog select.table) false

abbrev pub statement_is_of : List Table → Option Statement → List (List Value) → List Image → Bool
statement_is_of catalog (Some (statement.Select select)) rows images = select_is_of catalog select rows images
statement_is_of catalog _ rows images = false

abbrev pub some_had : List Image → Bool
some_had [] = false
some_had (i ∷ is) = true

abbrev pub answer_is_of : List Table → Stores → List Key → List Turn → Turn → Option Answer → Bool
answer_is_of catalog x keys ts t (Some (answer.Rows rows)) = statement_is_of catalog t.statement rows (had catalog x (executed_of t.executed) keys ts)
answer_is_of catalog x keys ts t (Some (answer.Duplicate key)) = some_had (had_at catalog x (executed_of t.executed) key ts)
answer_is_of catalog x keys ts t _ = true

-- the answer of a turn shows rows that its transaction has, under these tables
abbrev pub turn_is_under : List Table → Stores → List Turn → Turn → Bool
turn_is_under catalog x ts t = answer_is_of catalog x (all_keys catalog x ts) ts t t.executed.answer

-- and under the tables with which its statement was accepted
abbrev pub turn_is_of : List Table → List Event → Stores → List Turn → Turn → Bool
turn_is_of catalog events x ts t = turn_is_under (catalog_after catalog (before (executed_of t.executed) events)) x ts t
