-- What the program promises of the run of a script.
use Rattle.std.specs.Prelude.{◌≡◌, ◌≢◌, ◌⊎◌, ℕ, ◌<◌, true, List, [], length, map, slice_get, All, Contains, Option, None, Some}
use Rattle.std.specs.List.{AllPairs}
use Rattle.std.specs.FinMap.{empty}
use Rattle.sdb_app.specs.Types.{CallRefused, ClosingRefused, Event, Key, Outcome, Place, Script, ScriptRefused, Table, TableName}
use Rattle.sdb_types.specs.Bytes.{HasRisen, Takes, IsAtEnd}
use Rattle.sdb_stores.specs.Views.{Attached, StoreView as Counted, HaveRisen, names_of}
use Rattle.sdb_model.specs.Catalogs.{catalog_after}
use Rattle.sdb_model.specs.Causes.{AreCaused}
use Rattle.sdb_model.specs.Events.{StoreContents, store_of}
use Rattle.sdb_model.specs.Follows.{Follows}
use Rattle.sdb_model.specs.Plain.{IsPlain}
use Rattle.sdb_model.specs.Report.{report_text_of}
use Rattle.sdb_model.specs.Rows.{Name}
use Rattle.sdb_model.specs.Serial.{IsRun}
use Rattle.sdb_script.specs.declared.fault.ScriptRefused.TheVariants.{BadLine, Limit as Limited, NoMemory as OutOfMemory}
use Rattle.sdb_script.specs.Lines.{most_bytes}
use Rattle.sdb_script.specs.Whole.{IsScript, IsRefused as IsRefusedText}
use Rattle.law_protocol.specs.Spread.{HoldAs}
use Rattle.sdb_contents.specs.Board.{AreUsable, HoldTheSame, KnownAreUnchanged, known_before, contents_of_views}
use Rattle.sdb_contents.specs.Opening.{HoldNothing, IsFirstKey, first_key, opening_in, opening_records, run_tables}
use Rattle.sdb_contents.specs.declared.refused.CallRefused.TheVariants as call
use Rattle.sdb_contents.specs.Held.{IsOddIn}
use Rattle.sdb_contents.specs.declared.dump_refused.ClosingRefused.TheVariants as closing
use Rattle.sdb_world.specs.Broken.{BreaksWithin}
use Rattle.sdb_client.specs.Execution.{IsExecution, IsPlayable}
use Rattle.sdb_world.specs.Explained.{IsExplained, HasNoDirtyReads}
use Rattle.sdb_world.specs.Ran.{IsReadWhereKnown}
use Rattle.sdb_app.specs.declared.status.InputFault.TheVariants.{Line}
use Rattle.sdb_app.specs.declared.status.Status.{Status}
use Rattle.sdb_app.specs.declared.status.Status.TheVariants as status
use Rattle.sdb_app.specs.Ends.{AreUnchanged, Stream, Work}
use Rattle.sdb_model.specs.Tables.{is_table_of_run}

-- The input was read to its end and is the text of a script over these stores.
pub record IsScriptRead (stores : List Name) (old_input new_input : Option (List ℕ)) (script : Script) : Type 0 where
  pub text : List ℕ
  pub accepted : Takes text old_input new_input
  pub ended : IsAtEnd new_input
  pub form : IsScript stores text script

-- Each store that keeps a table of a script, or the coordinator's rows, has known contents.
abbrev pub ContentsAreKnown : Script → Attached → Type 0
ContentsAreKnown script stores =
    (at : ℕ) (store : Counted) (table : TableName) → slice_get stores.views at ≡ Some store → is_table_of_run script.catalog table ≡ true → store_of script.places (contents_of_views stores.views) table.ns ≡ store.name → stores.known at

-- The tables of a script were empty, and one outcome is that of a run that follows it, from what the stores contained at the entry
-- to what they contain at the exit; what was in the stores at each moment is explained by its events, and what each recorded
-- transaction read is current at its point; no transaction, recorded or not, observed a row that was neither its own nor
-- committed when it was read; and the outcome is plain.
pub record IsCorrect (script : Script) (opening closing : List StoreContents) (outcome : Outcome) : Type 0 where
  pub empty : first_key (opening_records script.catalog script.places opening) ≡ None
  pub run : IsRun script opening closing outcome
  pub explained : IsExplained script outcome.events opening
  pub observed : HasNoDirtyReads script outcome.events opening
  pub plain : IsPlain outcome

-- The stores of a call with the places of a script, in this state. Those are known that were known at the entry.
abbrev pub placed_as : Script → Attached → List Counted → Attached
placed_as script stores store_contents = record { places = script.places; views = store_contents; known = stores.known }

-- One outcome of a script on any stores: its events follow the script's moves, and are an execution of its clients by the protocol,
-- whatever the stores reply. So the laws of executions are laws of outcomes. Each answer has its cause among the events. No more calls are
-- Broken than the stores failed. Each table whose store has known contents was empty at the entry, and its dump is that of what is there in
-- the end. Where all of them are known, it is the outcome of a run of the script.
pub record IsReportable (script : Script) (old : Attached) (new : List Counted) (outcome : Outcome) : Type 0 where
  pub playable : IsPlayable script
  pub follows : Follows script outcome.events
  pub executed : IsExecution script outcome.events
  pub caused : AreCaused script.catalog outcome.events
  pub broken : BreaksWithin [] outcome.events old.views new
  pub empty : HoldNothing (run_tables script.catalog) (placed_as script old old.views)
  pub read : IsReadWhereKnown (catalog_after script.catalog outcome.events) (placed_as script old new) outcome
  pub correct : ContentsAreKnown script old → IsCorrect script (contents_of_views old.views) (contents_of_views new) outcome

-- A script was read, and this is the report of one outcome of it. Where the stores of its tables have known contents, no other plain outcome
-- has this report.
pub record IsReplayed (work : Work) (report : List ℕ) : Type 0 where
  pub script : Script
  pub read : IsScriptRead (names_of work.old.views) work.input.bytes work.rest.bytes script
  pub outcome : Outcome
  pub made : IsReportable script work.old work.left outcome
  pub text : report ≡ report_text_of outcome
  pub only : ContentsAreKnown script work.old → (other : Outcome) → IsPlain other → report ≡ report_text_of other → other ≡ outcome

-- The key is that of the first record in the tables of the script, as far as contents are known. Each store of known contents holds what it
-- held, and all hold what they held, where those of the script's tables are known.
pub record IsFirstFound (script : Script) (old : Attached) (left : List Counted) (key : Key) : Type 0 where
  pub found : IsFirstKey (run_tables script.catalog) (placed_as script old old.views) key
  pub known : KnownAreUnchanged old (placed_as script old left)
  pub first : ContentsAreKnown script old → first_key (opening_records script.catalog script.places (contents_of_views old.views)) ≡ Some key
  pub still : ContentsAreKnown script old → contents_of_views left ≡ contents_of_views old.views

-- The record at the key breaks the rules of its table, as that is after events that follow the script's moves, as far as contents are known.
pub record IsOddAfter (script : Script) (stores : Attached) (key : Key) : Type 0 where
  pub events : List Event
  pub follows : Follows script events
  pub odd : IsOddIn (catalog_after script.catalog events) stores key

-- A bad record is found only where some store of the script's tables is not known.
pub record IsBadFound (script : Script) (old : Attached) (left : List Counted) (key : Key) : Type 0 where
  pub odd : IsOddAfter script (placed_as script old left) key
  pub foreign : ContentsAreKnown script old → ⊥

-- Bytes that were read of the input are no script over these stores, for that cause: they are all of it, or more than are read of a
-- script, and the rest is left.
pub record IsRefused (stores : List Name) (old_input new_input : Option (List ℕ)) (r : ScriptRefused) : Type 0 where
  pub text : List ℕ
  pub accepted : Takes text old_input new_input
  pub whole : IsAtEnd new_input ⊎ (most_bytes < length text)
  pub refused : IsRefusedText stores text r

-- how the program ends where a text was refused
abbrev pub status_of_text : ScriptRefused → Status
status_of_text (BadLine n f) = status.BadInput n (Line f)
status_of_text (Limited n which) = status.Limit n which
status_of_text OutOfMemory = status.NoMemory

-- The input is refused as no script over these stores, and the program ends so.
pub record IsRefusedAs (stores : List Name) (old_input new_input : Option (List ℕ)) (s : Status) : Type 0 where
  pub cause : ScriptRefused
  pub refused : IsRefused stores old_input new_input cause
  pub ends : s ≡ status_of_text cause

-- Bytes that were read of the input: all of it, or more than a command reads.
abbrev pub IsTextRead : List ℕ → Option (List ℕ) → Option (List ℕ) → Type 0
IsTextRead text old_input new_input = Takes text old_input new_input × (IsAtEnd new_input ⊎ (most_bytes < length text))

-- Why the bytes of the input were not read.
abbrev pub StopsReading : Stream → Stream → Status → Type 0
StopsReading input rest status.ReadFault = HasRisen input.faults rest.faults
StopsReading input rest status.NoMemory = Unit {0}
StopsReading input rest _ = ⊥

-- Why no script was read.
abbrev pub IsUnread : List Name → Stream → Stream → Status → Type 0
IsUnread stores input rest status.ReadFault = HasRisen input.faults rest.faults
IsUnread stores input rest status.NoMemory = Unit {0}
IsUnread stores input rest (status.BadInput n fault) = IsRefusedAs stores input.bytes rest.bytes (status.BadInput n fault)
IsUnread stores input rest (status.Limit n which) = IsRefusedAs stores input.bytes rest.bytes (status.Limit n which)
IsUnread stores input rest _ = ⊥

-- A script's places can be made on attached stores: no two have one namespace, and each store is attached.
pub record CanBePlaced (stores : List Name) (places : List Place) : Type 0 where
  pub once : AllPairs ◌≢◌ (map (λ p. p.ns) places)
  pub attached : All (λ p. Contains stores p.store) places

-- The stores of a script's tables are fit for a run of it, as it places them, and hold nothing of them.
pub record AreReady (script : Script) (stores : Attached) : Type 0 where
  pub fit : AreUsable script.catalog stores
  pub placed_so : stores.places ≡ script.places
  pub nothing : HoldAs script.catalog script.places (contents_of_views stores.views) empty

-- The key is that of the first record of a catalog's tables, as far as contents are known, and where the stores are fit for a run, of all;
-- and the stores hold what they held.
pub record IsFoundIn (catalog : List Table) (old new : Attached) (key : Key) : Type 0 where
  pub found : IsFirstKey (run_tables catalog) old key
  pub known : KnownAreUnchanged old new
  pub first : AreUsable catalog old → first_key (opening_in catalog old) ≡ Some key
  pub still : AreUsable catalog old → HoldTheSame old new

-- Why a script was not run to its end, where such records are bad, and such are found.
abbrev pub Stops : List Counted → List Counted → (Key → Type 0) → (Key → Type 0) → Status → Type 0
Stops old left bad found status.StoreFault = HaveRisen old left
Stops old left bad found status.NoMemory = Unit {0}
Stops old left bad found (status.NotEmpty key) = found key
Stops old left bad found (status.BadStore key) = bad key
Stops old left bad found _ = ⊥

-- Why the search for records stopped.
abbrev pub StopsLook : List Table → Attached → Attached → Status → Type 0
StopsLook catalog old new = Stops old.views new.views (λ key. ⊥) (IsFoundIn catalog old new)

-- The record at the key breaks the rules of its table, as far as contents are known, and the stores were not ready for the script.
pub record IsBadAfter (script : Script) (old new : Attached) (key : Key) : Type 0 where
  pub odd : IsOddAfter script (known_before old new) key
  pub foreign : AreReady script old → ⊥

-- Why a script that was placed was not run to its end.
abbrev pub StopsWorld : Script → Attached → Attached → Status → Type 0
StopsWorld script old new = Stops old.views new.views (IsBadAfter script old new) (λ key. ⊥)

-- Why a script was not run to its end: a fault raised the count of the stores, or memory ran out; or a table was not empty, or a record
-- was bad in the end.
abbrev pub StopsRun : Script → Attached → List Counted → Status → Type 0
StopsRun script old left = Stops old.views left (IsBadFound script old left) (IsFirstFound script old left)

-- Why `replay` has no report: no script was read, and the stores are as they were; or one was, and it was not run to its end.
pub data StopsReplay (work : Work) (s : Status) : Type 0 where
  Unread : IsUnread (names_of work.old.views) work.input work.rest s → AreUnchanged work → StopsReplay work s
  Unplayed : (script : Script) → IsScriptRead (names_of work.old.views) work.input.bytes work.rest.bytes script → StopsRun script work.old work.left s → StopsReplay work s

---- what stopped a scan, and the closing dump

abbrev pub status_of_call : CallRefused → Status
status_of_call call.StoreFault = status.StoreFault
status_of_call call.NoMemory = status.NoMemory

abbrev pub status_of_closing : ClosingRefused → Status
status_of_closing closing.StoreFault = status.StoreFault
status_of_closing (closing.BadRecord key) = status.BadStore key
status_of_closing closing.NoMemory = status.NoMemory
