-- What `load` and `export` promise of their work, begun with the places that there were before.
use Rattle.std.proofs.Common.{◌≡◌, ◌∙◌, ◌≤◌, ℕ, ℤ, List, Option, inl, inr, refl, subst, sym}
use Rattle.sdb_app.specs.Types.{ExportRefused, Load, Mode, Place, Table, TableName, Value}
use Rattle.sdb_shell.specs.declared.export_refused.ExportRefused.TheVariants as refused
use Rattle.sdb_shell.specs.Ends.{Ends as TableEnds, IsSessionBefore, IsSessionOver}
use Rattle.sdb_shell.specs.Exports.{IsExport, IsNotExported, IsExportOutOfMemory}
use Rattle.sdb_shell.specs.Loads.{IsLoad, IsLoadOfOutOfMemory}
use Rattle.sdb_stores.specs.Views.{Attached, StoreView as Counted, total_faults}
use Rattle.law_clients.specs.Session.{Exchange}
use Rattle.sdb_app.specs.declared.status.Status.{Status}
use Rattle.sdb_app.specs.Ends.{Draws, Work}
use Rattle.sdb_app.specs.Export.{IsExported, StopsExport}
use Rattle.sdb_app.specs.Export.StopsExport.{Unexported, Untabled as NoTable}
use Rattle.sdb_app.specs.Load.{IsLoaded, IsTableOpened, IsTableUnopened, StopsLoad, tables_ends}
use Rattle.sdb_app.specs.Load.IsTableUnopened.{Unnamed, Unopened}
use Rattle.sdb_app.specs.Load.StopsLoad.{OutOfMemory, Unread, Untabled}
use Rattle.sdb_app.proofs.Headline.{begun_with}
use Rattle.sdb_app.proofs.Sessions.{AreLess, less_before, opened_before, session_less, unopened_before}

-- statements over stores of which less is known
taken_before : (before : Attached) (work : Work) (d : Draws) (catalog : List Table) (places : List Place) (mid : List Counted) (es : List Exchange) → ((at : ℕ) → before.known at → work.old.known at)
    → IsSessionOver catalog (tables_ends work places mid d) es → IsSessionOver catalog (tables_ends (begun_with before work) places mid d) es
taken_before before work d catalog places mid es where_known h =
    session_less catalog _ _ _ _ d.clock d.clock_then d.ids d.ids_then es (less_before before work places mid where_known) (less_before before work places work.left where_known) h

-- the same, where memory ran out
session_before_on : (catalog : List Table) (e : TableEnds) (low high : Attached) (es : List Exchange) → AreLess low e.old → AreLess high e.new → IsSessionBefore catalog e es → IsSessionBefore catalog (record e { old = low; new = high }) es
session_before_on catalog e low high es o n h = record {
  held = h.held;
  clock_mid = h.clock_mid;
  ids_mid = h.ids_mid;
  session = session_less catalog e.old (record e.old { views = h.held }) low (record low { views = h.held }) e.clock h.clock_mid e.ids h.ids_mid es o (record { places = o.places; views = refl; where_known = o.where_known }) h.session;
  counted = subst (λ (ss : List Counted). total_faults h.held ≤ total_faults ss) n.views h.counted;
}

starved_export : (catalog : List Table) (t : Table) (e : TableEnds) (low high : Attached) → AreLess low e.old → AreLess high e.new → IsExportOutOfMemory catalog t e → IsExportOutOfMemory catalog t (record e { old = low; new = high })
starved_export catalog t e low high o n h = record {
  front = h.front;
  back = h.back;
  es = h.es;
  statements = h.statements;
  accepted = h.accepted;
  session = session_before_on catalog e low high h.es o n h.session;
}

pub starved_on : (catalog : List Table) (t : Table) (m : Mode) (rows : List (List Value)) (size : ℕ) (old new low high : Attached) (clock clock_then : Option (List ℤ)) (ids ids_then : Option (List ℕ)) → AreLess low old → AreLess high new
    → IsLoadOfOutOfMemory catalog t m rows size (record { old = old; new = new; clock = clock; clock_then = clock_then; ids = ids; ids_then = ids_then }) → IsLoadOfOutOfMemory catalog t m rows size (record { old = low; new = high; clock = clock; clock_then = clock_then; ids = ids; ids_then = ids_then })
starved_on catalog t m rows size old new low high clock clock_then ids ids_then o n (inl h) = inl (record { stores = sym n.views ∙ h.stores ∙ o.views; clock = h.clock; ids = h.ids })
starved_on catalog t m rows size old new low high clock clock_then ids ids_then o n (inr h) = inr (record {
  groups = h.groups;
  rest = h.rest;
  all = h.all;
  sizes = h.sizes;
  each = h.each;
  session = session_before_on catalog (record { old = old; new = new; clock = clock; clock_then = clock_then; ids = ids; ids_then = ids_then }) low high _ o n h.session;
})

table_before : (before : Attached) (work : Work) (name : TableName) (catalog : List Table) (places : List Place) (mid : List Counted) (t : Table) → work.old.views ≡ before.views → ((at : ℕ) → before.known at → work.old.known at)
    → IsTableOpened name work catalog places mid t → IsTableOpened name (begun_with before work) catalog places mid t
table_before before work name catalog places mid t same where_known h = record { opened = opened_before before work catalog places mid same where_known h.opened; found = h.found }

untabled_before : (before : Attached) (work : Work) (name : TableName) (s : Status) → work.old.views ≡ before.views → ((at : ℕ) → before.known at → work.old.known at) → IsTableUnopened name work s → IsTableUnopened name (begun_with before work) s
untabled_before before work name s same where_known (Unopened cause h is) = Unopened cause (unopened_before before work cause same where_known h) is
untabled_before before work name s same where_known (Unnamed catalog places h none is) = Unnamed catalog places (opened_before before work catalog places work.left same where_known h) none is

---- `load`

pub loaded_before : (before : Attached) (work : Work) (d : Draws) (name : TableName) (m : Mode) (n : ℕ) (text : List ℕ) → work.old.views ≡ before.views → ((at : ℕ) → before.known at → work.old.known at) → IsLoaded name m n work d text → IsLoaded name m n (begun_with before work) d text
loaded_before before work d name m n text same where_known h = record {
  catalog = h.catalog;
  places = h.places;
  mid = h.mid;
  table = h.table;
  rows = h.rows;
  opened = table_before before work name h.catalog h.places h.mid h.table same where_known h.opened;
  read = h.read;
  loaded = record {
    groups = h.loaded.groups;
    all = h.loaded.all;
    sizes = h.loaded.sizes;
    each = h.loaded.each;
    lines = h.loaded.lines;
    session = taken_before before work d h.catalog h.places h.mid _ where_known h.loaded.session;
  };
}

pub load_stops_before : (before : Attached) (work : Work) (d : Draws) (name : TableName) (m : Mode) (n : ℕ) (s : Status) → work.old.views ≡ before.views → ((at : ℕ) → before.known at → work.old.known at) → StopsLoad name m n work d s → StopsLoad name m n (begun_with before work) d s
load_stops_before before work d name m n s same where_known (Untabled h unread undrawn) = Untabled (untabled_before before work name s same where_known h) unread undrawn
load_stops_before before work d name m n s same where_known (Unread catalog places t h unread undrawn) = Unread catalog places t (table_before before work name catalog places work.left t same where_known h) unread undrawn
load_stops_before before work d name m n s same where_known (OutOfMemory catalog places mid t rows h read out_of_memory is) =
    OutOfMemory catalog places mid t rows (table_before before work name catalog places mid t same where_known h) read
    (starved_on catalog t m rows n _ _ _ _ d.clock d.clock_then d.ids d.ids_then (less_before before work places mid where_known) (less_before before work places work.left where_known) out_of_memory) is

---- `export`

pub exported_before : (before : Attached) (work : Work) (d : Draws) (name : TableName) (text : List ℕ) → work.old.views ≡ before.views → ((at : ℕ) → before.known at → work.old.known at) → IsExported name work d text → IsExported name (begun_with before work) d text
exported_before before work d name text same where_known h = record {
  catalog = h.catalog;
  places = h.places;
  mid = h.mid;
  table = h.table;
  opened = table_before before work name h.catalog h.places h.mid h.table same where_known h.opened;
  exported = record {
    begin = h.exported.begin;
    select = h.exported.select;
    commit = h.exported.commit;
    accepted = h.exported.accepted;
    observed = h.exported.observed;
    session = taken_before before work d h.catalog h.places h.mid _ where_known h.exported.session;
  };
  unread = h.unread;
}

not_before : (before : Attached) (work : Work) (d : Draws) (catalog : List Table) (places : List Place) (mid : List Counted) (t : Table) (cause : ExportRefused) → ((at : ℕ) → before.known at → work.old.known at)
    → IsNotExported catalog t (tables_ends work places mid d) cause → IsNotExported catalog t (tables_ends (begun_with before work) places mid d) cause
not_before before work d catalog places mid t refused.NoMemory where_known h = starved_export catalog t _ _ _ (less_before before work places mid where_known) (less_before before work places work.left where_known) h
not_before before work d catalog places mid t (refused.NotCommitted a) where_known h = (
  h.0,
  record {
    es = h.1.es;
    last = h.1.last;
    cut = h.1.cut;
    session = taken_before before work d catalog places mid _ where_known h.1.session;
  },
)

pub export_stops_before : (before : Attached) (work : Work) (d : Draws) (name : TableName) (s : Status) → work.old.views ≡ before.views → ((at : ℕ) → before.known at → work.old.known at) → StopsExport name work d s → StopsExport name (begun_with before work) d s
export_stops_before before work d name s same where_known (NoTable h undrawn unread) = NoTable (untabled_before before work name s same where_known h) undrawn unread
export_stops_before before work d name s same where_known (Unexported catalog places mid t cause h not is unread) =
    Unexported catalog places mid t cause (table_before before work name catalog places mid t same where_known h) (not_before before work d catalog places mid t cause where_known not) is unread

---- what was made over stores of which more is known

pub exported_on : (catalog : List Table) (t : Table) (old new low high : Attached) (clock clock_then : Option (List ℤ)) (ids ids_then : Option (List ℕ)) (text : List ℕ) → AreLess low old → AreLess high new
    → IsExport catalog t (record { old = old; new = new; clock = clock; clock_then = clock_then; ids = ids; ids_then = ids_then }) text → IsExport catalog t (record { old = low; new = high; clock = clock; clock_then = clock_then; ids = ids; ids_then = ids_then }) text
exported_on catalog t old new low high clock clock_then ids ids_then text o n h = record {
  begin = h.begin;
  select = h.select;
  commit = h.commit;
  accepted = h.accepted;
  observed = h.observed;
  session = session_less catalog old new low high clock clock_then ids ids_then _ o n h.session;
}

pub not_on : (catalog : List Table) (t : Table) (old new low high : Attached) (clock clock_then : Option (List ℤ)) (ids ids_then : Option (List ℕ)) (cause : ExportRefused) → AreLess low old → AreLess high new
    → IsNotExported catalog t (record { old = old; new = new; clock = clock; clock_then = clock_then; ids = ids; ids_then = ids_then }) cause → IsNotExported catalog t (record { old = low; new = high; clock = clock; clock_then = clock_then; ids = ids; ids_then = ids_then }) cause
not_on catalog t old new low high clock clock_then ids ids_then refused.NoMemory o n h = starved_export catalog t _ _ _ o n h
not_on catalog t old new low high clock clock_then ids ids_then (refused.NotCommitted a) o n h = (
  h.0,
  record {
    es = h.1.es;
    last = h.1.last;
    cut = h.1.cut;
    session = session_less catalog old new low high clock clock_then ids ids_then _ o n h.1.session;
  },
)

pub loaded_on : (catalog : List Table) (load : Load) (rows : List (List Value)) (size : ℕ) (old new low high : Attached) (clock clock_then : Option (List ℤ)) (ids ids_then : Option (List ℕ)) (text : List ℕ) → AreLess low old → AreLess high new
    → IsLoad catalog load rows size (record { old = old; new = new; clock = clock; clock_then = clock_then; ids = ids; ids_then = ids_then }) text → IsLoad catalog load rows size (record { old = low; new = high; clock = clock; clock_then = clock_then; ids = ids; ids_then = ids_then }) text
loaded_on catalog load rows size old new low high clock clock_then ids ids_then text o n h = record {
  groups = h.groups;
  all = h.all;
  sizes = h.sizes;
  each = h.each;
  lines = h.lines;
  session = session_less catalog old new low high clock clock_then ids ids_then _ o n h.session;
}
