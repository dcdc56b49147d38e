-- Reports that a program could write without doing its work, as values.
use Rattle.std.specs.Prelude.{List, [], ◌∷◌, pos, codes, Some, None}
use Rattle.sdb_types.specs.declared.value.Value.TheVariants as value
use Rattle.sdb_model.specs.declared.answer.Answer.TheVariants as answer
use Rattle.law_protocol.specs.Types.{Event, Place, Point, Script, Table, TableDump}
use Rattle.sdb_model.specs.declared.event.Event.TheVariants as event
use Rattle.sdb_model.specs.Events.{StoreContents}
use Rattle.sdb_model.specs.DirtyReads.{NoDirtyReads}
use Rattle.sdb_model.specs.Serial.{IsRun}
use Rattle.sdb_types.specs.declared.record.Request.TheVariants as ask
use Rattle.sdb_types.specs.declared.record.Reply.TheVariants as reply
use Rattle.law_protocol.specs.History.{Other, Begins, Takes, Decides, Yes}
use Rattle.law_protocol.specs.Lawful.{Labelled, ends_with as ending, labelled_with}
use Rattle.law_protocol.specs.Worked.{account, call, one, put_row, take_of}

-- BEGIN is refused, and what follows is answered as if it were not: no call is made, and nothing is stored.
abbrev pub liar : List Event
liar =
    event.Take 1 (codes "BEGIN") (Some (answer.Refused (record { kind = 4; place = 0 })))
    ∷ event.Take 1 (codes "INSERT INTO bank.account (id, balance) VALUES (1, 100)") (Some (answer.Count 1))
    ∷ event.Take 1 (codes "COMMIT") (Some answer.Committed)
    ∷ []

-- A transaction is begun and ended, and another COMMIT is answered Committed.
abbrev pub twice : List Event
twice =
    event.Take 1 (codes "BEGIN") (Some answer.Done)
    ∷ event.Take 1 (codes "ROLLBACK") (Some answer.Done)
    ∷ event.Take 1 (codes "COMMIT") (Some answer.Committed)
    ∷ []

-- An answer has a row that no call found.
abbrev pub oracle : List Event
oracle =
    event.Take 1 (codes "BEGIN") (Some answer.Done)
    ∷ event.Take 1 (codes "SELECT balance FROM bank.account WHERE id = 1") (Some (answer.Rows ((value.Int (pos 42) ∷ []) ∷ [])))
    ∷ []

-- A COMMIT is answered Conflict, and no call found anything.
abbrev pub accused : List Event
accused =
    event.Take 1 (codes "BEGIN") (Some answer.Done)
    ∷ event.Take 1 (codes "COMMIT") (Some (answer.Conflict account None))
    ∷ []

-- A statement is answered that a store failed, and no call was made.
abbrev pub broken : List Event
broken = event.Take 1 (codes "BEGIN") (Some answer.Faulted) ∷ []

-- VACUUM counts tombstones, and removed none.
abbrev pub counting : List Event
counting = event.Take 1 (codes "VACUUM") (Some (answer.Count 7)) ∷ []

-- A transaction reads an account, and commits without reading it again: newest first, with the parts that the events play.
abbrev pub unchecked : List Labelled
unchecked =
    ending one (Decides one Yes) (call 1 (put_row one) reply.Applied (Some answer.Committed))
    ∷ labelled_with (Takes one) (take_of 1 (codes "COMMIT") None)
    ∷ labelled_with Other (call 1 (ask.Get account) (reply.Found None) (Some (answer.Rows [])))
    ∷ labelled_with Other (take_of 1 (codes "SELECT balance FROM bank.account WHERE id = 1") None)
    ∷ labelled_with (Begins one 1) (take_of 1 (codes "BEGIN") (Some answer.Done))
    ∷ []

-- A report of these events is the report of no run, whatever its script, stores, order and rows.
abbrev pub AreOfNoRun : List Event → Type 0
AreOfNoRun events = (script : Script) (opening closing : List StoreContents) (order : List Point) (tables : List TableDump) → IsRun script opening closing (record { events = events; order = order; tables = tables }) → ⊥

-- The calls of these events show no cause of their answers, whatever the catalog, the places and the stores.
abbrev pub HaveNoCause : List Event → Type 0
HaveNoCause events = (catalog : List Table) (places : List Place) (opening : List StoreContents) (moments : List (List StoreContents)) → NoDirtyReads catalog places events opening moments → ⊥
