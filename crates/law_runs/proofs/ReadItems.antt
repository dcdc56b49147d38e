-- What statements noted is the same where calls are moved to other stores.
use Rattle.std.proofs.Common.{◌≡◌, ℕ, ◌+◌, Bool, true, false, List, [], ◌∷◌, map, Option, Some, None, refl, sym, ap, ◌∙◌}
use Rattle.std.specs.Prelude.{◌==◌, ◌&&◌, filter, find, if◌then◌else◌, is_some, nat_le, nat_lt, not, take_while}
use Rattle.std.specs.List.{cons_option, enumerate_from, filter_map, flat_map, list_all}
use Rattle.std.specs.Option.{option_and_then, option_map, option_map_or}
use Rattle.std.proofs.lemmas.List.{length-map}
use Rattle.law_runs.specs.Types.{Answer, Event, Record, Reply, Request, TxId}
use Rattle.sdb_types.specs.declared.record.Reply.TheVariants as reply
use Rattle.sdb_types.specs.declared.record.Request.TheVariants as ask
use Rattle.sdb_types.specs.declared.record.State.TheVariants as state
use Rattle.sdb_record.specs.Coordinator.{is_coordinator_table}
use Rattle.sdb_record.specs.Meta.{is_in, is_transactional}
use Rattle.sdb_model.specs.declared.answer.Answer.TheVariants as answer
use Rattle.sdb_model.specs.declared.event.Event.TheVariants as event
use Rattle.sdb_model.specs.Calls.{StoreCall, calls_by, calls_of, end_of, made_by, put_by, records_read}
use Rattle.sdb_model.specs.Events.{table_asked}
use Rattle.sdb_model.specs.ReadSet.{KeyRead, ReadItem, SpanRead, finds_transactional, has_finished, has_read, meaning_of, read_finished, read_item_of, read_of, read_set_of, read_items, reads_rows, rolls}
use Rattle.sdb_model.specs.Rows.{Name}
use Rattle.sdb_model.specs.Transactions.{Executed, client_of, ends, from_begin, ordinal_of, rest_of, statements_inside}
use Rattle.law_protocol.specs.Spread.{relocated_event, relocated_events}
use Rattle.law_protocol.proofs.Public.{executed_moved}

---- calls that are moved to other stores

-- a note, by what records mean
abbrev noted_under : (Record → Option Record) → Request → Reply → Option ReadItem
noted_under means (ask.Get key) (reply.Found found) = Some (KeyRead (read_of key (option_and_then means found)))
noted_under means (ask.Scan span) (reply.Rows rows) = Some (SpanRead (record { span = span; found = filter_map (λ r. option_map (λ (image : Record). read_of r.key (Some image)) (means r)) rows }))
noted_under means q r = None

noted_by_meaning : (ms : List StoreCall) (q : Request) (r : Reply) → read_item_of ms q r ≡ noted_under (meaning_of ms) q r
noted_by_meaning ms (ask.Get key) (reply.Found found) = refl
noted_by_meaning ms (ask.Get key) reply.Applied = refl
noted_by_meaning ms (ask.Get key) (reply.NotMet found) = refl
noted_by_meaning ms (ask.Get key) (reply.Rows rows) = refl
noted_by_meaning ms (ask.Get key) (reply.NotAll place there) = refl
noted_by_meaning ms (ask.Get key) reply.Fault = refl
noted_by_meaning ms (ask.Get key) reply.NoMemory = refl
noted_by_meaning ms (ask.Scan span) (reply.Rows rows) = refl
noted_by_meaning ms (ask.Scan span) (reply.NotAll place there) = refl
noted_by_meaning ms (ask.Scan span) reply.Applied = refl
noted_by_meaning ms (ask.Scan span) (reply.NotMet found) = refl
noted_by_meaning ms (ask.Scan span) (reply.Found found) = refl
noted_by_meaning ms (ask.Scan span) reply.Fault = refl
noted_by_meaning ms (ask.Scan span) reply.NoMemory = refl
noted_by_meaning ms (ask.PutIf rec condition) r = refl
noted_by_meaning ms (ask.DeleteIf key condition) r = refl
noted_by_meaning ms (ask.PutAll batch) r = refl

module _ (at : Name → Name) where
  abbrev moved_made : StoreCall → StoreCall
  moved_made m = record { at = m.at; store = at (table_asked m.request).ns; request = m.request; how = m.how; reply = m.reply }

  made_moved : (c n : ℕ) (e : Event) (ms : List StoreCall) → cons_option (made_by c (n, relocated_event at e)) (map moved_made ms) ≡ map moved_made (cons_option (made_by c (n, e)) ms)
  made_moved c n (event.Call d store q how r a) ms = by (d == c)
    where
      by : (b : Bool) → cons_option (if b then Some (record { at = n; store = at (table_asked q).ns; request = q; how = how; reply = r }) else None) (map moved_made ms) ≡ map moved_made (cons_option (if b then Some (record { at = n; store = store; request = q; how = how; reply = r }) else None) ms)
      by true = refl
      by false = refl
  made_moved c n (event.Take d text a) ms = refl
  made_moved c n (event.Stop d) ms = refl
  made_moved c n (event.Clock m) ms = refl
  made_moved c n (event.Idle d) ms = refl
  made_moved c n (event.Land x store q how r) ms = refl
  made_moved c n (event.Alter table column kind altered) ms = refl

  calls_from : (c n : ℕ) (es : List Event) → filter_map (made_by c) (enumerate_from n (relocated_events at es)) ≡ map moved_made (filter_map (made_by c) (enumerate_from n es))
  calls_from c n [] = refl
  calls_from c n (e ∷ es) = ap (cons_option (made_by c (n, relocated_event at e))) (calls_from c (n + 1) es) ∙ made_moved c n e (filter_map (made_by c) (enumerate_from (n + 1) es))

  -- a test that asks nothing of stores keeps the same
  kept_moved : (t : StoreCall → Bool) → ((m : StoreCall) → t (moved_made m) ≡ t m) → (ms : List StoreCall) → filter t (map moved_made ms) ≡ map moved_made (filter t ms)
  kept_moved t same [] = refl
  kept_moved t same (m ∷ ms) = ap (λ b. if b then moved_made m ∷ filter t (map moved_made ms) else filter t (map moved_made ms)) (same m) ∙ by (t m) (kept_moved t same ms)
    where
      by : (b : Bool) → filter t (map moved_made ms) ≡ map moved_made (filter t ms) → (if b then moved_made m ∷ filter t (map moved_made ms) else filter t (map moved_made ms)) ≡ map moved_made (if b then m ∷ filter t ms else filter t ms)
      by true ih = ap (λ xs. moved_made m ∷ xs) ih
      by false ih = ih

  end_moved : (events : List Event) (s : Executed) → end_of (relocated_events at events) s ≡ end_of events s
  end_moved events s = ap (λ n. if is_some s.answer then s.reached else n) (length-map events (relocated_event at))

  of_moved : (events : List Event) (c : ℕ) (s : Executed) → calls_of (relocated_events at events) c s ≡ map moved_made (calls_of events c s)
  of_moved events c s =
      ap (λ n. filter (λ m. nat_lt s.accepted m.at && nat_le m.at n) (calls_by (relocated_events at events) c)) (end_moved events s)
      ∙ ap (filter (λ m. nat_lt s.accepted m.at && nat_le m.at (end_of events s))) (calls_from c 1 events)
      ∙ kept_moved (λ m. nat_lt s.accepted m.at && nat_le m.at (end_of events s)) (λ m. refl) (calls_by events c)

  put_moved : (ms : List StoreCall) (r : Record) → option_and_then (λ m. put_by m.request) (find (rolls r) (map moved_made ms)) ≡ option_and_then (λ m. put_by m.request) (find (rolls r) ms)
  put_moved [] r = refl
  put_moved (m ∷ ms) r = by (rolls r m) (put_moved ms r)
    where
      by : (b : Bool) → option_and_then (λ m. put_by m.request) (find (rolls r) (map moved_made ms)) ≡ option_and_then (λ m. put_by m.request) (find (rolls r) ms)
          → option_and_then (λ m. put_by m.request) (if b then Some (moved_made m) else find (rolls r) (map moved_made ms)) ≡ option_and_then (λ m. put_by m.request) (if b then Some m else find (rolls r) ms)
      by true ih = refl
      by false ih = ih

  meaning_moved : (ms : List StoreCall) (r : Record) → meaning_of (map moved_made ms) r ≡ meaning_of ms r
  meaning_moved ms r = ap (λ o. if is_in state.Committed r.columns then Some r else o) (put_moved ms r)

  note_moved : (ms : List StoreCall) (q : Request) (r : Reply) → read_item_of (map moved_made ms) q r ≡ read_item_of ms q r
  note_moved ms q r = noted_by_meaning (map moved_made ms) q r ∙ (λ k. noted_under (λ x. meaning_moved ms x k) q r) ∙ sym (noted_by_meaning ms q r)

  each_moved : (calls ms : List StoreCall) → filter_map (λ m. read_item_of (map moved_made calls) m.request m.reply) (map moved_made ms) ≡ filter_map (λ m. read_item_of calls m.request m.reply) ms
  each_moved calls [] = refl
  each_moved calls (m ∷ ms) = ap (λ o. cons_option o (filter_map (λ m. read_item_of (map moved_made calls) m.request m.reply) (map moved_made ms))) (note_moved calls m.request m.reply) ∙ ap (cons_option (read_item_of calls m.request m.reply)) (each_moved calls ms)

  notes_moved : (ms : List StoreCall) → read_items (map moved_made ms) ≡ read_items ms
  notes_moved ms = ap (filter_map (λ m. read_item_of (map moved_made ms) m.request m.reply)) (kept_moved reads_rows (λ m. refl) ms) ∙ each_moved ms (filter reads_rows ms)

  -- and so is whether a read has finished
  abbrev pass : StoreCall → Bool
  pass m = list_all is_transactional (records_read m.reply)

  sound_moved : (ms : List StoreCall) → finds_transactional (map moved_made ms) ≡ finds_transactional ms
  sound_moved ms = ap (list_all pass) (kept_moved reads_rows (λ m. refl) ms) ∙ each (filter reads_rows ms)
    where
      each : (xs : List StoreCall) → list_all pass (map moved_made xs) ≡ list_all pass xs
      each [] = refl
      each (m ∷ xs) = ap (λ b. pass m && b) (each xs)

  finished_moved : (ms : List StoreCall) (a : Answer) → read_finished (map moved_made ms) a ≡ read_finished ms a
  finished_moved ms (answer.BadRecord key) = ap (λ b. not (is_coordinator_table key.table) && b) (sound_moved ms)
  finished_moved ms (answer.Rows rows) = refl
  finished_moved ms (answer.Count n) = refl
  finished_moved ms answer.Done = refl
  finished_moved ms answer.Committed = refl
  finished_moved ms (answer.Duplicate key) = refl
  finished_moved ms (answer.Busy key id now) = refl
  finished_moved ms (answer.Conflict key found) = refl
  finished_moved ms (answer.Expired id) = refl
  finished_moved ms answer.Faulted = refl
  finished_moved ms (answer.Unknown id) = refl
  finished_moved ms (answer.Refused refusal) = refl
  finished_moved ms answer.Vacuuming = refl
  finished_moved ms answer.OpenTransactions = refl
  finished_moved ms answer.NoMemory = refl

  read_moved : (events : List Event) (c : ℕ) (s : Executed) → has_read (relocated_events at events) c s ≡ has_read events c s
  read_moved events c s = ap (λ ms. has_finished ms s) (of_moved events c s) ∙ by s.answer
    where
      by : (o : Option Answer) → option_map_or (read_finished (map moved_made (calls_of events c s))) o false ≡ option_map_or (read_finished (calls_of events c s)) o false
      by None = refl
      by (Some a) = finished_moved (calls_of events c s) a

  flat_same : (f g : Executed → List ReadItem) → ((s : Executed) → f s ≡ g s) → (ss : List Executed) → flat_map f ss ≡ flat_map g ss
  flat_same f g same ss = λ k. flat_map (λ s. same s k) ss

  inside_moved : (events : List Event) (id : TxId) → statements_inside (relocated_events at events) id ≡ statements_inside events id
  inside_moved events id = ap (λ ss. take_while (λ s. not (ends s)) (rest_of (from_begin (ordinal_of id) ss))) (executed_moved at (client_of id) events)

  -- What the statements of a transaction noted is the same where calls are moved to other stores.
  pub noted_moved : (events : List Event) (id : TxId) → read_set_of (relocated_events at events) id ≡ read_set_of events id
  noted_moved events id =
      ap (λ ss. flat_map (λ s. read_items (calls_of (relocated_events at events) (client_of id) s)) (filter (has_read (relocated_events at events) (client_of id)) ss)) (inside_moved events id)
      ∙ (λ k. flat_map (λ s. read_items (calls_of (relocated_events at events) (client_of id) s)) (filter (λ s. read_moved events (client_of id) s k) (statements_inside events id)))
      ∙ flat_same (λ s. read_items (calls_of (relocated_events at events) (client_of id) s)) (λ s. read_items (calls_of events (client_of id) s)) (λ s. ap read_items (of_moved events (client_of id) s) ∙ notes_moved (calls_of events (client_of id) s)) (filter (has_read events (client_of id)) (statements_inside events id))
