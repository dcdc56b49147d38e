-- A run of statements without an LF is plain.
use Rattle.std.proofs.Common.{◌≡◌, Bool, true, false, cond, ◌||◌, List, [], ◌∷◌, All, map, filter, Option, Some, None, IfSome, refl, sym, ap, subst, ◌∙◌}
use Rattle.std.specs.Prelude.{is_some}
use Rattle.std.specs.List.{AllByRecursion}
use Rattle.std.specs.Option.{option_and_then}
use Rattle.std.specs.FinMap.{empty}
use Rattle.std.proofs.lemmas.List.Elements.{All-from_recursion, recursion_from_All}
use Rattle.sdb_types.specs.Contents.{Contents, record_at}
use Rattle.sdb_types.specs.Fits.{record_fits}
use Rattle.sdb_types.specs.declared.record.Put.{Put}
use Rattle.law_runs.specs.Types.{Answer, Decided, Event, Image, Key, Pair, Place, Record, Reply, Request, Table, TableDump, Value}
use Rattle.sdb_types.specs.declared.record.Reply.TheVariants as reply
use Rattle.sdb_types.specs.declared.record.Request.TheVariants as ask
use Rattle.sdb_types.specs.declared.record.State.TheVariants as state
use Rattle.sdb_types.proofs.Public.{and_both, and_first, and_second, none_some, record_at-key}
use Rattle.sdb_record.specs.declared.coordinator.Decision.TheVariants as decision
use Rattle.sdb_record.specs.Coordinator.{is_coordinator_table}
use Rattle.sdb_record.specs.Meta.{is_in}
use Rattle.sdb_record.specs.Parts.{before_record}
use Rattle.sdb_record.specs.Rolls.{forward_record, image_of, image_under, row_of_image}
use Rattle.sdb_schema.specs.Catalog.{rises, is_above_name}
use Rattle.sdb_model.specs.declared.answer.Answer.TheVariants as answer
use Rattle.sdb_model.specs.declared.event.Event.TheVariants as event
use Rattle.sdb_model.specs.Catalogs.{catalog_after}
use Rattle.sdb_model.specs.Events.{StoreContents, stored_at}
use Rattle.sdb_model.specs.Exec.{Tables, all_rows, find_table, is_row_of, projected, sorted}
use Rattle.sdb_model.specs.Images.{decision_on, row_at}
use Rattle.sdb_model.specs.Plain.{HasPlainParts, IsFoundAt, IsPlain, IsPlainAnswer, IsPlainDump, IsPlainEvent, IsPlainGiven, IsPlainRow, are_rising, starts_after, values_are_plain, HasLines}
use Rattle.sdb_model.specs.Serial.{AreImages, dumps_of, serial}
use Rattle.sdb_report.specs.OneLine.{AnswerHasNoLf, EventHasNoLf, KeyHasNoLf, RecordHasNoLf, ReplyHasNoLf, RequestHasNoLf, ValueHasNoLf, ValuesHaveNoLf}
use Rattle.sdb_report.proofs.Public.{event_one, row_one}
use Rattle.law_protocol.specs.Spread.{HoldAs}
use Rattle.law_runs.specs.Laws.{ExecutionOf}
use Rattle.law_runs.specs.Moments.{TraceOf}
use Rattle.law_runs.specs.Facts.{answer_fits, dump_fits, event_fits, given_fits, outcome_fits}
use Rattle.law_runs.specs.Runs.{LineRun}
use Rattle.law_runs.proofs.Lists.{filter_all}
use Rattle.law_runs.proofs.Clear.{AreClear, ColumnsClear, FoundClear, KeyClear, PairClear, RecordClear, RecordsClear, ReplyClear, RequestClear, before_clear, forward_clear, image_clear}
use Rattle.law_runs.proofs.PlainStatements.{AnswerClear, FoundAt, ImageClear, shown_clear, sorted_clear}
use Rattle.law_runs.proofs.Contents.{HeldClear, TablesClear, rows_clear}
use Rattle.law_runs.proofs.Paths.{EventClear, WholeClear, execution_clear}
use Rattle.sdb_model.specs.Tables.{is_table_of_run}
use Rattle.sdb_model.proofs.Public.{after_is}

---- no LF, in the words of reports

values_none : (vs : List Value) → AreClear vs → ValuesHaveNoLf vs
values_none vs h = All-from_recursion ValueHasNoLf vs h

key_none : (k : Key) → KeyClear k → KeyHasNoLf k
key_none k h = record { partition = values_none k.partition h.partition; clustering = values_none k.clustering h.clustering }

record_none : (r : Record) → RecordClear r → RecordHasNoLf r
record_none r h = record { key = key_none r.key h.key; columns = All-from_recursion PairClear r.columns h.columns }

found_none : (o : Option Record) → FoundClear o → IfSome o RecordHasNoLf
found_none None h = tt
found_none (Some r) h = record_none r h

rows_each : (rows : List (List Value)) → AllByRecursion AreClear rows → AllByRecursion ValuesHaveNoLf rows
rows_each [] h = tt
rows_each (r ∷ rs) h = (values_none r h.0, rows_each rs h.1)

records_each : (rs : List Record) → RecordsClear rs → AllByRecursion RecordHasNoLf rs
records_each [] h = tt
records_each (r ∷ rs) h = (record_none r h.0, records_each rs h.1)

conflict_none : (key : Key) (o : Option Record) → IfSome o (FoundAt key) → IfSome o RecordHasNoLf
conflict_none key None h = tt
conflict_none key (Some r) h = record_none r h.clear

answer_none : (a : Answer) → AnswerClear a → AnswerHasNoLf a
answer_none (answer.Rows rows) h = All-from_recursion ValuesHaveNoLf rows (rows_each rows h)
answer_none (answer.Count n) h = tt
answer_none answer.Done h = tt
answer_none answer.Committed h = tt
answer_none (answer.Duplicate key) h = key_none key h
answer_none (answer.Busy key id at) h = key_none key h
answer_none (answer.Conflict key found) h = (key_none key h.0, conflict_none key found h.1)
answer_none (answer.Expired id) h = tt
answer_none answer.Faulted h = tt
answer_none (answer.Unknown id) h = tt
answer_none (answer.BadRecord key) h = key_none key h
answer_none (answer.Refused r) h = tt
answer_none answer.Vacuuming h = tt
answer_none answer.OpenTransactions h = tt
answer_none answer.NoMemory h = tt

given_none : (o : Option Answer) → IfSome o AnswerClear → IfSome o AnswerHasNoLf
given_none None h = tt
given_none (Some a) h = answer_none a h

partition_none : (o : Option (List Value)) → IfSome o AreClear → IfSome o ValuesHaveNoLf
partition_none None h = tt
partition_none (Some vs) h = values_none vs h

puts_each : (b : List Put) → AllByRecursion (λ (p : Put). RecordClear p.rec) b → AllByRecursion (λ (p : Put). RecordHasNoLf p.rec) b
puts_each [] h = tt
puts_each (p ∷ ps) h = (record_none p.rec h.0, puts_each ps h.1)

request_none : (q : Request) → RequestClear q → RequestHasNoLf q
request_none (ask.Get key) h = key_none key h
request_none (ask.Scan span) h = partition_none span.partition h
request_none (ask.PutIf r c) h = record_none r h
request_none (ask.DeleteIf key c) h = key_none key h
request_none (ask.PutAll b) h = All-from_recursion (λ (p : Put). RecordHasNoLf p.rec) b (puts_each b h)

reply_none : (r : Reply) → ReplyClear r → ReplyHasNoLf r
reply_none (reply.Found found) h = found_none found h
reply_none (reply.Rows rows) h = All-from_recursion RecordHasNoLf rows (records_each rows h)
reply_none reply.Applied h = tt
reply_none (reply.NotMet found) h = found_none found h
reply_none (reply.NotAll place found) h = found_none found h
reply_none reply.Fault h = tt
reply_none reply.NoMemory h = tt

event_none : (e : Event) → EventClear e → EventHasNoLf e
event_none (event.Take c text a) h = (h.0, given_none a h.1)
event_none (event.Call c store q how r a) h = (request_none q h.0, reply_none r h.1, given_none a h.2)
event_none (event.Stop c) h = tt
event_none (event.Clock m) h = tt
event_none (event.Idle c) h = tt
event_none (event.Land n store q how r) h = (request_none q h.0, reply_none r h.1)
event_none (event.Alter table column kind altered) h = tt

events_none : (es : List Event) → AllByRecursion EventClear es → AllByRecursion EventHasNoLf es
events_none [] h = tt
events_none (e ∷ es) h = (event_none e h.0, events_none es h.1)

-- no text in its events has an LF
pub events_have_none : (x : ExecutionOf) (t : TraceOf x) → HasLines x.script → All EventHasNoLf x.events
events_have_none x t lines = All-from_recursion EventHasNoLf x.events (events_none x.events (execution_clear x t lines).clear.events)

---- plain events

found_plain : (key : Key) (o : Option Record) → IfSome o record_fits → IfSome o (FoundAt key) → IfSome o (IsFoundAt key)
found_plain key None fits h = tt
found_plain key (Some r) fits h = record { fits = fits; key_is = h.key_is }

answer_plain : (a : Answer) → answer_fits a → AnswerClear a → IsPlainAnswer a
answer_plain (answer.Rows rows) fits h = fits
answer_plain (answer.Count n) fits h = fits
answer_plain answer.Done fits h = tt
answer_plain answer.Committed fits h = tt
answer_plain (answer.Duplicate key) fits h = fits
answer_plain (answer.Busy key id at) fits h = fits
answer_plain (answer.Conflict key found) fits h = (fits.0, found_plain key found fits.1 h.1)
answer_plain (answer.Expired id) fits h = fits
answer_plain answer.Faulted fits h = tt
answer_plain (answer.Unknown id) fits h = fits
answer_plain (answer.BadRecord key) fits h = fits
answer_plain (answer.Refused r) fits h = fits
answer_plain answer.Vacuuming fits h = tt
answer_plain answer.OpenTransactions fits h = tt
answer_plain answer.NoMemory fits h = tt

given_plain : (o : Option Answer) → given_fits o → IfSome o AnswerClear → IsPlainGiven o
given_plain None fits h = tt
given_plain (Some a) fits h = answer_plain a fits h

parts_plain : (e : Event) → event_fits e → EventClear e → HasPlainParts e
parts_plain (event.Take c text a) fits h = (fits.0, fits.1, given_plain a fits.2 h.1)
parts_plain (event.Call c store q how r a) fits h = (fits.0, fits.1, fits.2, fits.3, given_plain a fits.4 h.2)
parts_plain (event.Stop c) fits h = fits
parts_plain (event.Clock m) fits h = fits
parts_plain (event.Idle c) fits h = fits
parts_plain (event.Land n store q how r) fits h = (fits.0, fits.1, fits.2, fits.3, h.2)
parts_plain (event.Alter table column kind altered) fits h = fits

event_plain : (e : Event) → event_fits e → EventClear e → IsPlainEvent e
event_plain e fits h = let parts = parts_plain e fits h in record { parts = parts; one_line = event_one e parts (event_none e h) }

events_plain : (es : List Event) → AllByRecursion event_fits es → AllByRecursion EventClear es → AllByRecursion IsPlainEvent es
events_plain [] fits h = tt
events_plain (e ∷ es) fits h = (event_plain e fits.0 h.0, events_plain es fits.1 h.1)

---- the tables

under_clear : (r : Record) (o : Option Decided) → RecordClear r → FoundClear (image_under r o)
under_clear r None h = before_clear r h
under_clear r (Some d) h =
    let forward = forward_clear r d.created_at h in
    let back = before_clear r h in
    elim d.decision as (λ x. FoundClear (elim x [ decision.Committed ↦ Some (forward_record r d.created_at) | decision.Aborted ↦ before_record r ])) [ decision.Committed ↦ forward | decision.Aborted ↦ back ]

image_of_clear : (r : Record) (o : Option Decided) → RecordClear r → FoundClear (image_of r o)
image_of_clear r o h =
    let under = under_clear r o h in
    elim (is_in state.Committed r.columns) as (λ b. FoundClear (cond b (Some r) (image_under r o))) [ true ↦ h | false ↦ under ]

row_of_clear : (o : Option Record) → FoundClear o → IfSome (option_and_then row_of_image o) ColumnsClear
row_of_clear None h = tt
row_of_clear (Some r) h = image_clear r h

module _ (catalog : List Table) (places : List Place) (closing : List StoreContents) (last : Contents) (same : HoldAs catalog places closing last) (held : HeldClear last) where
  -- the row at a key whose store's record is known
  row_clear : (q : Key) (o : Option Record) (row : List Pair) → stored_at places closing q ≡ o → record_at last q ≡ o → row_at places closing q ≡ Some row → KeyClear q × ColumnsClear row
  row_clear q None row s e h = none_some row (sym (ap (λ (x : Option Record). option_and_then row_of_image (option_and_then (λ r. image_of r (decision_on places closing r)) x)) s) ∙ h)
  row_clear q (Some r) row s e h =
      let clear : RecordClear r = held q r e in
      let key_is : r.key ≡ q = subst (λ (x : Option Record). IfSome x (λ y. y.key ≡ q)) e (record_at-key last q) in
      let there = sym (ap (λ (x : Option Record). option_and_then row_of_image (option_and_then (λ y. image_of y (decision_on places closing y)) x)) s) ∙ h in (
        subst KeyClear key_is clear.key,
        subst (λ (x : Option (List Pair)). IfSome x ColumnsClear) there (row_of_clear (image_of r (decision_on places closing r)) (image_of_clear r (decision_on places closing r) clear)),
      )

  tables_clear : (d : Tables) → AreImages catalog places closing d → TablesClear d
  tables_clear d images q row e = by (is_some (find_table catalog q.table)) refl (sym (images q) ∙ e)
    where
      by : (b : Bool) → is_some (find_table catalog q.table) ≡ b → cond b (row_at places closing q) None ≡ Some row → KeyClear q × ColumnsClear row
      by true t k =
          let correct : is_table_of_run catalog q.table ≡ true = ap (λ (x : Bool). x || is_coordinator_table q.table) t in
          row_clear q (stored_at places closing q) row refl (sym (same.at q correct)) k
      by false t k = none_some row k

abbrev DumpClear : TableDump → Type 0
DumpClear t = AllByRecursion AreClear t.rows

rows_shown : (t : Table) (rs : List Image) → AllByRecursion ImageClear rs → AllByRecursion AreClear (map (projected t None) rs)
rows_shown t [] h = tt
rows_shown t (r ∷ rs) h = (shown_clear t None r h.0, rows_shown t rs h.1)

dumps_clear : (d : Tables) → TablesClear d → (ts : List Table) → AllByRecursion DumpClear (dumps_of ts d)
dumps_clear d h [] = tt
dumps_clear d h (t ∷ ts) = (rows_shown t (sorted t (filter (is_row_of t) (all_rows d))) (sorted_clear t (filter (is_row_of t) (all_rows d)) (filter_all ImageClear (is_row_of t) (all_rows d) (rows_clear d h))), dumps_clear d h ts)

rows_plain : (rows : List (List Value)) → AllByRecursion values_are_plain rows → AllByRecursion AreClear rows → AllByRecursion IsPlainRow rows
rows_plain [] fits h = tt
rows_plain (r ∷ rs) fits h = (record { fits = fits.0; one_line = row_one r fits.0 (values_none r h.0) }, rows_plain rs fits.1 h.1)

dumps_plain : (ds : List TableDump) → AllByRecursion dump_fits ds → AllByRecursion DumpClear ds → AllByRecursion IsPlainDump ds
dumps_plain [] fits h = tt
dumps_plain (t ∷ ts) fits h =
    (record { name = fits.0.name; counted = fits.0.counted; rows = All-from_recursion IsPlainRow t.rows (rows_plain t.rows (recursion_from_All values_are_plain t.rows fits.0.rows) h.0) }, dumps_plain ts fits.1 h.1)

above_starts : (d : Tables) (t : Table) (ts : List Table) → is_above_name t.name ts ≡ true → starts_after t.name (dumps_of ts d) ≡ true
above_starts d t [] h = refl
above_starts d t (u ∷ us) h = h

dumps_rise : (d : Tables) (ts : List Table) → rises ts ≡ true → are_rising (dumps_of ts d) ≡ true
dumps_rise d [] h = refl
dumps_rise d (t ∷ ts) h = and_both (starts_after t.name (dumps_of ts d)) _ (above_starts d t ts (and_first (is_above_name t.name ts) _ h)) (dumps_rise d ts (and_second (is_above_name t.name ts) _ h))

---- the whole

module _ (r : LineRun) (fits : outcome_fits r.outcome) where
  abbrev execution : ExecutionOf
  execution = record { script = r.script; events = r.outcome.events; playable = r.playable; execution = r.executed }

  whole : WholeClear execution r.closing
  whole = execution_clear execution (record { opening = r.opening; closing = r.closing; moments = r.run.moments; trace = r.run.consistent; nothing = r.nothing }) r.lines

  abbrev final : Tables
  final = (serial r.script.catalog r.run.answered.steps empty).1

  -- the tables with the columns that were added
  abbrev tables : List Table
  tables = catalog_after r.script.catalog r.outcome.events

  printed_clear : AllByRecursion DumpClear (dumps_of tables final)
  printed_clear = dumps_clear final (tables_clear r.script.catalog r.script.places r.closing whole.last whole.same whole.clear.held final r.run.answered.images) tables

  pub run_plain : IsPlain r.outcome
  run_plain = record {
    events_counted = fits.events_counted;
    events = All-from_recursion IsPlainEvent r.outcome.events (events_plain r.outcome.events (recursion_from_All event_fits r.outcome.events fits.events) whole.clear.events);
    order_counted = fits.order_counted;
    order = fits.order;
    tables_counted = fits.tables_counted;
    tables = All-from_recursion IsPlainDump r.outcome.tables (dumps_plain r.outcome.tables (recursion_from_All dump_fits r.outcome.tables fits.tables) (subst (λ (ds : List TableDump). AllByRecursion DumpClear ds) (sym r.run.answered.printed) printed_clear));
    rising = ap are_rising r.run.answered.printed ∙ dumps_rise final tables (and_first (rises tables) _ (after_is r.script.catalog r.outcome.events r.playable.catalog));
  }
