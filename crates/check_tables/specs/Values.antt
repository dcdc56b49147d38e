-- What the values mean in the model.
use Rattle.std.specs.Prelude.{ℕ, Bool, false, if◌then◌else◌, ◌&&◌, nat_lt, nat_le, List, [], map, take_while, not, Option, Some, None, find, is_some}
use Rattle.std.specs.List.{cons_option, list_any}
use Rattle.std.specs.Option.{option_and_then, option_map_or}
use Rattle.std.specs.Ordering.{is_eq}
use Rattle.sdb_types.specs.declared.key.Key.{Key}
use Rattle.sdb_types.specs.declared.record.Request.{Request}
use Rattle.sdb_types.specs.Order.{key_cmp}
use Rattle.sdb_record.specs.declared.coordinator.Decided.{Decided}
use Rattle.sdb_model.specs.Calls as calls
use Rattle.sdb_model.specs.Calls.{calls_of, key_asked, decision_in_reply, record_at_key}
use Rattle.sdb_model.specs.ReadSet as as_read
use Rattle.sdb_model.specs.ReadSet.{has_read, read_items, reads_rows}
use Rattle.sdb_model.specs.Transactions.{Executed, ends, from_begin, rest_of}
use Rattle.sdb_record.specs.Coordinator.{decision_in}
use Rattle.std.specs.Result.{result_ok}
use Rattle.check_protocol.specs.declared.plan.ReadItem.{ReadItem}
use Rattle.check_protocol.specs.Values.{item_of}
use Rattle.sdb_model.specs.declared.event.Event.{Event}
use Rattle.sdb_model.specs.declared.event.Event.TheVariants as event
use Rattle.sdb_model.specs.Follows.{has_stopped, is_open, runs_vacuum}
use Rattle.check_tables.specs.declared.open.Work.{Work}
use Rattle.check_tables.specs.declared.open.Work.TheVariants as work
use Rattle.check_tables.specs.declared.made.Made.{Made}

-- a call that was made, as the model has it
abbrev pub made_of : Made → calls.StoreCall
made_of m = record { at = m.at; store = m.store; request = m.request; how = m.how; reply = m.reply }

abbrev pub all_made : List Made → List calls.StoreCall
all_made = map made_of

-- read items, as the model has them
abbrev pub all_items : List ReadItem → List as_read.ReadItem
all_items = map item_of

-- a call that was made after one event and up to another
abbrev pub is_within : ℕ → ℕ → calls.StoreCall → Bool
is_within accepted end m = nat_lt accepted m.at && nat_le m.at end

---- rows of the coordinator, by their key

-- a call that asks for the row of this key, or puts it
abbrev pub asks_row : Key → Request → Bool
asks_row row q = option_map_or (λ k. is_eq (key_cmp k row)) (key_asked q) false

-- the decision that a call on the row showed
abbrev pub decision_at : Key → Made → Option Decided
decision_at row m = if asks_row row m.request then decision_in_reply m.request m.reply else None

-- the decision in the row that a call found, and did not put
abbrev pub decision_found_at : Key → Made → Option Decided
decision_found_at row m = if asks_row row m.request then option_and_then (λ found. option_and_then (λ r. result_ok (decision_in r)) found) (record_at_key m.request m.reply) else None

-- the decision that calls showed first
abbrev pub decision_learned_at : List Made → Key → Option Decided
decision_learned_at ms row = option_and_then (decision_at row) (find (λ m. is_some (decision_at row m)) ms)

---- a transaction among its client's statements

-- its statements up to its end, that one left out
abbrev pub inside_among : List Executed → ℕ → List Executed
inside_among ss k = take_while (λ s. not (ends s)) (rest_of (from_begin k ss))

---- what one client does, and another has to wait for

-- a transaction that is open, or a VACUUM that has no answer yet
abbrev pub is_doing : Work → List Event → ℕ → Bool
is_doing work.Transaction past client = is_open past client
is_doing work.Vacuum past client = runs_vacuum past client

-- it holds of a client of the events that isn't stopped
abbrev pub is_client_doing : Work → List Event → ℕ → Bool
is_client_doing w past c = not (has_stopped c past) && is_doing w past c

abbrev pub taker : Event → Option ℕ
taker (event.Take c text answer) = Some c
taker e = None

abbrev pub someone_does : Work → List Event → Bool
someone_does w past = list_any (λ e. option_map_or (is_client_doing w past) (taker e) false) past

---- read items

-- what one call adds to a read set
abbrev pub items_by : List calls.StoreCall → calls.StoreCall → List as_read.ReadItem
items_by ms m = if reads_rows m then cons_option (as_read.read_item_of ms m.request m.reply) [] else []

-- what one statement of a transaction adds to the read set, where its read has finished
abbrev pub items_of_statement : List Event → ℕ → Executed → List as_read.ReadItem
items_of_statement events client s = if has_read events client s then read_items (calls_of events client s) else []
