-- What `schema` promises of its work, begun with the places that there were before.
use Rattle.std.proofs.Common.{◌≡◌, ◌∙◌, ℕ, List, [], ◌∷◌, drop, inr, length, refl, sym, ap, subst, slice_set}
use Rattle.std.specs.Prelude.{slice_get}
use Rattle.std.proofs.Math.Seq.{take-length}
use Rattle.sdb_app.specs.Types.{CatalogRefused, Entry, Place, Reply, Request, Table}
use Rattle.sdb_stores.specs.Views.{Attached, StoreView as Counted, HaveRisen, names_of}
use Rattle.sdb_catalog.specs.declared.outcome.Outcome.{Outcome}
use Rattle.sdb_catalog.specs.declared.outcome.Outcome.TheVariants as outcome
use Rattle.sdb_catalog.specs.declared.refused.CatalogRefused.TheVariants as refused
use Rattle.sdb_catalog.specs.Calls.{Called, IsRead, IsUnread, first_contents, with_states}
use Rattle.sdb_catalog.specs.Known.{IsLeftBy, IsStoredIn, first_name, state_after, state_of}
use Rattle.sdb_catalog.specs.Opened.{IsFirstBad, Opens}
use Rattle.sdb_types.specs.Contents.{Contents}
use Rattle.sdb_catalog.specs.Written.{AreWritten, IsPut, IsStored, IsWritten, Line, entry_for, grown, written_tables}
use Rattle.sdb_app.specs.declared.status.Status.{Status}
use Rattle.sdb_app.specs.Ends.{Work}
use Rattle.sdb_app.specs.Schema.{IsSchemaKept, StopsSchema}
use Rattle.sdb_app.specs.Schema.StopsSchema.{Unkept, Unread}
use Rattle.sdb_app.proofs.Headline.{begun_with}

-- One call, on stores that are the same, of which no fewer had known contents.
pub called_before : (q : Request) (r : Reply) (before mid : Attached) (new : List Counted) → mid.views ≡ before.views → ((at : ℕ) → before.known at → mid.known at) → Called q r mid new → Called q r before new
called_before q r before mid new same where_known h = record {
  formed = h.formed;
  before = h.before;
  now = h.now;
  stood = ap (λ (ss : List Counted). slice_get ss 0) (sym same) ∙ h.stood;
  rest = h.rest ∙ ap (λ (ss : List Counted). slice_set ss 0 h.now) same;
  name = h.name;
  performed = λ answered. h.performed (where_known 0 answered);
  lawful = h.lawful;
  counted = h.counted;
  cause = h.cause;
  where_known = λ i answered. answered;
}

pub read_before : (before mid : Attached) (new : List Counted) (es : List Entry) → mid.views ≡ before.views → ((at : ℕ) → before.known at → mid.known at) → IsRead mid new es → IsRead before new es
read_before before mid new es same where_known h = record {
  rows = h.rows;
  scanned = called_before _ _ before mid new same where_known h.scanned;
  opens = subst (λ (ss : List Counted). Opens (names_of ss) h.rows es) same h.opens;
}

put_before : (e : Entry) (o : Outcome) (before mid : Attached) (new : List Counted) → mid.views ≡ before.views → ((at : ℕ) → before.known at → mid.known at) → IsPut e o mid new → IsPut e o before new
put_before e outcome.Created before mid new same where_known h = called_before _ _ before mid new same where_known h
put_before e outcome.Exists before mid new same where_known h = (h.0, called_before _ _ before mid new same where_known h.1, h.2)
put_before e outcome.Differs before mid new same where_known h = (h.0, called_before _ _ before mid new same where_known h.1, h.2)
put_before e outcome.Full before mid new same where_known h = absurd h

written_before : (known : List Entry) (e : Entry) (o : Outcome) (before mid : Attached) (new : List Counted) → mid.views ≡ before.views → ((at : ℕ) → before.known at → mid.known at) → IsWritten known e o mid new → IsWritten known e o before new
written_before known e outcome.Created before mid new same where_known h = (h.0, put_before e outcome.Created before mid new same where_known h.1)
written_before known e outcome.Exists before mid new same where_known h = (h.0, put_before e outcome.Exists before mid new same where_known h.1)
written_before known e outcome.Differs before mid new same where_known h = (h.0, put_before e outcome.Differs before mid new same where_known h.1)
written_before known e outcome.Full before mid new same where_known h = (h.0, h.1 ∙ same)

all_before : (places : List Place) (first : List ℕ) (known : List Entry) (ls : List Line) (before mid : Attached) (new : List Counted) → mid.views ≡ before.views → ((at : ℕ) → before.known at → mid.known at) → AreWritten places first known ls mid new → AreWritten places first known ls before new
all_before places first known [] before mid new same where_known h = h ∙ same
all_before places first known (l ∷ ls) before mid new same where_known h = (
  h.0,
  written_before known (entry_for known places first l.table) l.outcome before mid h.0 same where_known h.1,
  all_before places first (grown known (entry_for known places first l.table) l.outcome) ls (with_states before h.0) (with_states mid h.0) new refl where_known h.2,
)

stored_before : (places : List Place) (catalog : List Table) (text : List ℕ) (before mid : Attached) (new : List Counted) → mid.views ≡ before.views → ((at : ℕ) → before.known at → mid.known at) → IsStored places catalog text mid new → IsStored places catalog text before new
stored_before places catalog text before mid new same where_known h = record {
  entries = h.entries;
  mid = h.mid;
  read = read_before before mid h.mid h.entries same where_known h.read;
  first = h.first;
  named = ap (λ (ss : List Counted). slice_get (names_of ss) 0) (sym same) ∙ h.named;
  written = record {
    lines = h.written.lines;
    tables = h.written.tables;
    written = all_before places h.first h.entries h.written.lines (with_states before h.mid) (with_states mid h.mid) new refl where_known h.written.written;
    text = h.written.text;
  };
}

pub unread_before : (before mid : Attached) (new : List Counted) (e : CatalogRefused) → mid.views ≡ before.views → ((at : ℕ) → before.known at → mid.known at) → IsUnread mid new e → IsUnread before new e
unread_before before mid new refused.StoreFault same where_known h = subst (λ (ss : List Counted). HaveRisen ss new) same h
unread_before before mid new (refused.BadRow key) same where_known h = record {
  rows = h.rows;
  scanned = called_before _ _ before mid new same where_known h.scanned;
  bad = subst (λ (ss : List Counted). IsFirstBad (names_of ss) h.rows key) same h.bad;
}
unread_before before mid new refused.NoMemory same where_known h = tt

-- what `schema` answers, and why it answers nothing
pub schema_kept_before : (before : Attached) (work : Work) (places : List Place) (answer : List ℕ) → work.old.views ≡ before.views → ((at : ℕ) → before.known at → work.old.known at) → IsSchemaKept places work answer → IsSchemaKept places (begun_with before work) answer
schema_kept_before before work places answer same where_known h = record {
  catalog = h.catalog;
  read = h.read;
  stored = stored_before places h.catalog answer before work.old work.left same where_known h.stored;
  known = λ answered. subst (λ (ss : List Counted). IsStoredIn (names_of ss) places h.catalog answer (first_contents ss) (first_contents work.left)) same (h.known (where_known 0 answered));
  others = h.others ∙ ap (λ (ss : List Counted). drop 1 ss) same;
}

pub schema_stops_before : (before : Attached) (work : Work) (places : List Place) (s : Status) → work.old.views ≡ before.views → ((at : ℕ) → before.known at → work.old.known at) → StopsSchema places work s → StopsSchema places (begun_with before work) s
schema_stops_before before work places s same where_known (Unread unread unchanged) = Unread unread (unchanged ∙ same)
schema_stops_before before work places s same where_known (Unkept catalog cause read unkept is) =
    Unkept catalog cause read
    (record {
      refused = unread_before before work.old work.left cause same where_known unkept.refused;
      known = λ answered. subst (λ (ss : List Counted). IsLeftBy cause (names_of ss) places catalog (first_contents ss) (first_contents work.left)) same (unkept.known (where_known 0 answered));
      others = unkept.others ∙ ap (λ (ss : List Counted). drop 1 ss) same;
    }) is

-- a catalog that is written is one of which all tables are
pub whole_is_partly : (names : List (List ℕ)) (places : List Place) (catalog : List Table) (text : List ℕ) (old new : Contents) → IsStoredIn names places catalog text old new → IsLeftBy refused.NoMemory names places catalog old new
whole_is_partly names places catalog text old new h = inr (record {
  entries = h.entries;
  opens = h.opens;
  count = length (written_tables catalog);
  contents = h.contents ∙ ap (λ (ts : List Table). (state_after places (first_name names) (state_of h.entries old) ts).contents) (sym (take-length (written_tables catalog)));
})
