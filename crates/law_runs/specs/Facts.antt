-- What the types keep of every outcome: the ranges of its numbers, and that names, texts and columns are such.
use Rattle.std.specs.Prelude.{◌≡◌, true, ◌<◌, ◌^◌, All, Option, IfSome, FitsSigned}
use Rattle.std.specs.Int.{w64}
use Rattle.std.specs.Str.{IsUtf8}
use Rattle.sdb_types.specs.Fits.{key_fits, record_fits}
use Rattle.sdb_types.specs.Identifier.{is_name}
use Rattle.law_runs.specs.Types.{Answer, Event, TableDump}
use Rattle.sdb_model.specs.declared.answer.Answer.TheVariants as answer
use Rattle.sdb_model.specs.declared.event.Event.TheVariants as event
use Rattle.sdb_model.specs.declared.event.Outcome.{Outcome}
use Rattle.sdb_model.specs.Plain.{IsPlainPoint, altered_is_plain, id_is_plain, is_counted, refusal_is_plain, reply_is_plain, request_is_plain, table_is_plain, values_are_plain}

abbrev pub answer_fits : Answer → Type 0
answer_fits (answer.Rows rows) = is_counted rows × All values_are_plain rows
answer_fits (answer.Count n) = n < 2 ^ 64
answer_fits answer.Done = Unit {0}
answer_fits answer.Committed = Unit {0}
answer_fits (answer.Duplicate key) = key_fits key
answer_fits (answer.Busy key id at) = key_fits key × id_is_plain id × FitsSigned w64 at
answer_fits (answer.Conflict key found) = key_fits key × IfSome found record_fits
answer_fits (answer.Expired id) = id_is_plain id
answer_fits answer.Faulted = Unit {0}
answer_fits (answer.Unknown id) = id_is_plain id
answer_fits (answer.BadRecord key) = key_fits key
answer_fits (answer.Refused refusal) = refusal_is_plain refusal
answer_fits answer.Vacuuming = Unit {0}
answer_fits answer.OpenTransactions = Unit {0}
answer_fits answer.NoMemory = Unit {0}

abbrev pub given_fits : Option Answer → Type 0
given_fits given = IfSome given answer_fits

abbrev pub event_fits : Event → Type 0
event_fits (event.Take client text given) = (client < 2 ^ 32) × IsUtf8 text × given_fits given
event_fits (event.Call client store request how reply given) =
    (client < 2 ^ 32) × (is_name store ≡ true) × request_is_plain request × reply_is_plain reply × given_fits given
event_fits (event.Stop client) = client < 2 ^ 32
event_fits (event.Clock moment) = FitsSigned w64 moment
event_fits (event.Idle client) = client < 2 ^ 32
event_fits (event.Alter table column kind altered) = table_is_plain table × (is_name column ≡ true) × altered_is_plain altered
event_fits (event.Land number store request how reply) = (number < 2 ^ 32) × (is_name store ≡ true) × request_is_plain request × reply_is_plain reply

pub record dump_fits (t : TableDump) : Type 0 where
  pub name : table_is_plain t.name
  pub counted : is_counted t.rows
  pub rows : All values_are_plain t.rows

pub record outcome_fits (o : Outcome) : Type 0 where
  pub events_counted : is_counted o.events
  pub events : All event_fits o.events
  pub order_counted : is_counted o.order
  pub order : All IsPlainPoint o.order
  pub tables_counted : is_counted o.tables
  pub tables : All dump_fits o.tables
