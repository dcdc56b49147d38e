-- What the values mean in the law.
use Rattle.std.specs.Prelude.{ℕ, ℤ, pos, Bool, ◌==◌, List, [], map, Option, find}
use Rattle.std.specs.Option.{option_map, option_map_or}
use Rattle.check_protocol.specs.Types.{Put, Record, Request, Span, Write}
use Rattle.sdb_types.specs.contracts.record.PutPartialEq.TheImpl as put_eq
use Rattle.sdb_types.specs.contracts.record.RecordPartialEq.TheImpl as record_eq
use Rattle.sdb_types.specs.contracts.record.SpanPartialEq.TheImpl as span_eq
use Rattle.sdb_types.specs.contracts.record.RequestPartialEq.TheImpl as request_eq
use Rattle.sdb_model.specs.ReadSet as as_read
use Rattle.law_protocol.specs.Plan as law
use Rattle.law_protocol.specs.History as part
use Rattle.law_protocol.specs.Lawful as lawful
use Rattle.check_protocol.specs.declared.plan.ReadItem.{ReadItem}
use Rattle.check_protocol.specs.declared.plan.ReadItem.TheVariants as item
use Rattle.check_protocol.specs.declared.plan.Plan.{Plan}
use Rattle.check_protocol.specs.declared.labelled.Ack.{Ack}
use Rattle.check_protocol.specs.declared.labelled.Ack.TheVariants as word
use Rattle.check_protocol.specs.declared.labelled.Action.{Action}
use Rattle.check_protocol.specs.declared.labelled.Action.TheVariants as action
use Rattle.check_protocol.specs.declared.labelled.Labelled.{Labelled}

abbrev pub ack_of : Ack → part.Ack
ack_of word.Yes = part.Yes
ack_of word.No = part.No
ack_of word.NoAck = part.NoAck
ack_of word.OutOfMemory = part.OutOfMemory

abbrev pub action_of : Action → part.Action
action_of action.Other = part.Other
action_of (action.Begins t c) = part.Begins t.0 c
action_of (action.Takes t) = part.Takes t.0
action_of (action.Prepares t ks w) = part.Prepares t.0 ks (ack_of w)
action_of (action.Checks t i) = part.Checks t.0 i
action_of (action.Decides t w) = part.Decides t.0 (ack_of w)
action_of (action.Aborts t moment w) = part.Aborts t.0 moment (ack_of w)
action_of (action.Rolls t ks d) = part.Rolls t.0 ks d
action_of (action.Removes k t) = part.Removes k t.0
action_of (action.Ends t) = part.Ends t.0
action_of (action.Stops c) = part.Stops c

-- an event with its action, as the law has it
abbrev pub labelled_of : Labelled → lawful.Labelled
labelled_of p = record { event = p.event; action = action_of p.action; ends = option_map (λ t. t.0) p.ends }

abbrev pub all_labelled : List Labelled → List lawful.Labelled
all_labelled ps = map labelled_of ps

abbrev pub item_of : ReadItem → as_read.ReadItem
item_of (item.KeyRead read) = as_read.KeyRead read
item_of (item.SpanRead scan) = as_read.SpanRead scan

-- the plan of a transaction among plans: the first with its id
abbrev pub planned : List Plan → ℕ → Option Plan
planned plans t = find (λ p. t == p.id.0) plans

abbrev pub writes_in : List Plan → ℕ → List Write
writes_in plans t = option_map_or (λ p. p.writes) (planned plans t) []

abbrev pub items_in : List Plan → ℕ → List ReadItem
items_in plans t = option_map_or (λ p. p.read_set) (planned plans t) []

abbrev pub moment_in : List Plan → ℕ → ℤ
moment_in plans t = option_map_or (λ p. p.now) (planned plans t) (pos 0)

-- What a transaction goes into its COMMIT with, as the law has it. One that has no plan here writes and reads nothing.
abbrev pub plan_in : List Plan → ℕ → law.Plan
plan_in plans t = record { writes = writes_in plans t; read_set = map item_of (items_in plans t); now = moment_in plans t }

---- equality

unfoldable pub same_record : Record → Record → Bool
same_record a b = (record_eq.ghosts).eq a b

unfoldable pub same_put : Put → Put → Bool
same_put a b = (put_eq.ghosts).eq a b

unfoldable pub same_request : Request → Request → Bool
same_request a b = (request_eq.ghosts).eq a b

unfoldable pub same_span : Span → Span → Bool
same_span a b = (span_eq.ghosts).eq a b
