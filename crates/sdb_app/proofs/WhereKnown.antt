-- What is said of known contents alone, as other views of the same stores have it.
use Rattle.std.proofs.Common.{◌≡◌, ◌∙◌, ℕ, List, None, refl, sym, ap, subst}
use Rattle.std.specs.Prelude.{slice_get}
use Rattle.sdb_app.specs.Types.{Key, Outcome, Place, Script, Table, TableName}
use Rattle.sdb_record.specs.Coordinator.{coordinator_table}
use Rattle.sdb_stores.specs.Views.{Attached, StoreView as Counted, names_of}
use Rattle.sdb_model.specs.Events.{StoreContents}
use Rattle.sdb_model.specs.Images.{decision_at}
use Rattle.sdb_model.specs.Transactions.{Recorded}
use Rattle.sdb_contents.specs.Board.{AreUsableFor, KnownAreUnchanged, contents_of_views}
use Rattle.sdb_contents.specs.Opening.{HoldNothing, IsFirstKey, first_key, records_in, records_of}
use Rattle.sdb_contents.proofs.Public.{fit_for_as}
use Rattle.sdb_contents.specs.Decided.{is_decided}
use Rattle.sdb_contents.specs.Dumped.{dump_by}
use Rattle.sdb_contents.specs.Held.{AreDecisions, IsOddIn}
use Rattle.sdb_contents.specs.Odd.{IsOddAt, first_ill_formed}
use Rattle.sdb_contents.specs.Refused.{first_unlike}
use Rattle.sdb_world.specs.Ran.{IsReadWhereKnown}
use Rattle.sdb_app.specs.Run.{placed_as}

---- two views

-- One view shows what another shows, and no more is known of it.
pub record ShowsAs (a b : Attached) : Type 0 where
  pub places : a.places ≡ b.places
  pub views : a.views ≡ b.views
  pub fit : (table : TableName) → AreUsableFor table a → AreUsableFor table b

-- the view of an entry's stores with a script's places
pub shows_placed : (script : Script) (old b : Attached) → b.places ≡ script.places → ((at : ℕ) → old.known at → b.known at) → ShowsAs (placed_as script old b.views) b
shows_placed script old b same where_known = record {
  places = sym same;
  views = refl;
  fit = λ table f. fit_for_as (placed_as script old b.views) b table same refl where_known f;
}

-- the same places and contents, of which no more are known
pub shows_less : (a b : Attached) → a.places ≡ b.places → a.views ≡ b.views → ((at : ℕ) → a.known at → b.known at) → ShowsAs a b
shows_less a b places store_contents where_known = record { places = places; views = store_contents; fit = λ table f. fit_for_as a b table (sym places) (ap names_of (sym store_contents)) where_known f }

module _ (a b : Attached) (s : ShowsAs a b) where
  -- what is so of the places and contents of one is so of those of the other
  over : (P : List Place → List StoreContents → Type 0) → P b.places (contents_of_views b.views) → P a.places (contents_of_views a.views)
  over P h = subst (λ (ps : List Place). P ps (contents_of_views a.views)) (sym s.places) (subst (λ (ss : List Counted). P b.places (contents_of_views ss)) (sym s.views) h)

  records_as : (t : TableName) → records_in a t ≡ records_in b t
  records_as t = over (λ (ps : List Place) (ss : List StoreContents). records_of ps ss t ≡ records_in b t) refl

  pub nothing_as : (ts : List TableName) → HoldNothing ts b → HoldNothing ts a
  nothing_as ts h i t here fit = records_as t ∙ h i t here (s.fit t fit)

  pub first_as : (ts : List TableName) (key : Key) → IsFirstKey ts b key → IsFirstKey ts a key
  first_as ts key h = record {
    at = h.at;
    table = h.table;
    first = λ fit. ap first_key (records_as key.table) ∙ h.first (s.fit key.table fit);
    none = λ i t low here fit. records_as t ∙ h.none i t low here (s.fit t fit);
  }

  pub odd_as : (catalog : List Table) (key : Key) → IsOddIn catalog b key → IsOddIn catalog a key
  odd_as catalog key h = record {
    correct = h.correct;
    decide = h.decide;
    decisions = λ coordinator. over (λ (ps : List Place) (ss : List StoreContents). AreDecisions ps ss h.decide) (h.decisions (s.fit coordinator_table coordinator));
    odd = λ fit. over (λ (ps : List Place) (ss : List StoreContents). IsOddAt catalog ps ss h.decide key) (h.odd (s.fit key.table fit));
  }

  pub read_as : (catalog : List Table) (o : Outcome) → IsReadWhereKnown catalog b o → IsReadWhereKnown catalog a o
  read_as catalog o h = record {
    points = h.points;
    rising = h.rising;
    recorded = λ fit id among. over (λ (ps : List Place) (ss : List StoreContents). Recorded ps ss id) (h.recorded (s.fit coordinator_table fit) id among);
    dumped = record {
      named = h.dumped.named;
      each = λ i t dump here there fit coordinator.
          over (λ (ps : List Place) (ss : List StoreContents). dump ≡ dump_by (decision_at ps ss) t (records_of ps ss t.name)) (h.dumped.each i t dump here there (s.fit t.name fit) (s.fit coordinator_table coordinator));
    };
    well_formed = record {
      rows = λ coordinator. over (λ (ps : List Place) (ss : List StoreContents). first_unlike is_decided (records_of ps ss coordinator_table) ≡ None) (h.well_formed.rows (s.fit coordinator_table coordinator));
      records = λ coordinator i t here fit. over (λ (ps : List Place) (ss : List StoreContents). first_ill_formed (decision_at ps ss) ps ss t ≡ None) (h.well_formed.records (s.fit coordinator_table coordinator) i t here (s.fit t.name fit));
    };
  }

-- stores that hold what they held, seen from an entry
pub known_from : (script : Script) (old mid : Attached) (left : Attached) → mid.views ≡ old.views → ((at : ℕ) → old.known at → mid.known at) → KnownAreUnchanged mid left → KnownAreUnchanged old (placed_as script old left.views)
known_from script old mid left same where_known h at store is_known here = h at store (where_known at is_known) (ap (λ (ss : List Counted). slice_get ss at) same ∙ here)
