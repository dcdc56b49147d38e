-- The closing dump, scan by scan.
use Rattle.std.proofs.Common.{◌≡◌, ◌≢◌, ◌∙◌, inl, inr, ℕ, zero, suc, ◌+◌, ◌<◌, ◌^◌, Bool, true, false, cond, List, [], ◌∷◌, ◌++◌, length, take, Option, Some, None, refl, sym, ap, subst, arith}
use Rattle.std.specs.Prelude.{AllPairs, Contains, IsSomeAnd, find, is_some, map, not, slice_get}
use Rattle.std.specs.List.{AllByRecursion, list_all}
use Rattle.std.specs.Option.{option_map}
use Rattle.std.specs.Ordering.{is_eq}
use Rattle.std.proofs.lemmas.Option.{slice_get_within}
use Rattle.std.proofs.Math.Numerals.{add-one}
use Rattle.std.proofs.lemmas.List.{length-map, length-take-le, map-append}
use Rattle.sdb_contents.specs.Types.{Decided, Key, Place, Record, Table, TableDump, TableName, TxId}
use Rattle.sdb_types.specs.Contents.{are_rows_of, in_span, rise}
use Rattle.sdb_types.specs.Exact.{equal_of}
use Rattle.sdb_types.specs.Order.{table_cmp}
use Rattle.sdb_types.proofs.Public.{all_each, and_first, and_second, none_some, or_second, some_is, table_exact}
use Rattle.sdb_record.specs.Coordinator.{coordinator_table, is_coordinator_table}
use Rattle.sdb_stores.specs.Views.{Attached}
use Rattle.sdb_model.specs.Events.{StoreContents}
use Rattle.sdb_model.specs.Exec.{find_table}
use Rattle.sdb_model.specs.Images.{decision_at}
use Rattle.sdb_contents.specs.Board.{AreUsable, AreUsableFor, GoOn, HoldTheSame, KnownAreUnchanged, contents_of_views}
use Rattle.sdb_contents.specs.Opening.{records_in, records_of, table_names, whole}
use Rattle.sdb_contents.proofs.Empty.{records_stay}
use Rattle.sdb_contents.proofs.GoesOn.{fit_for, fit_for_on}
use Rattle.sdb_contents.proofs.Lists.{all_at, take_suc}
use Rattle.sdb_contents.proofs.RunTables.{each_played, names_more}
use Rattle.sdb_contents.specs.Decided.{decision_among, is_decided, recorded_among}
use Rattle.sdb_contents.specs.Dumped.{dump_by, is_well_formed}
use Rattle.sdb_contents.specs.Held.{AreDecisions, AreDumps, AreDumpsUnder, AreDumpsWhereKnown, AreRecorded, AreWellFormedUnder, AreWellFormedWhereKnown, IsIllFormed, IsIllFormedAmong, IsOddIn, dump_in, dumps_in, first_ill_formed_in}
use Rattle.sdb_contents.specs.Odd.{first_in, first_odd, first_of}
use Rattle.sdb_contents.specs.Refused.{first_unlike}
use Rattle.sdb_contents.proofs.Coordinated.{IsCommitted, recorded_all, recorded_has, recorded_once}
use Rattle.sdb_contents.proofs.Images.{decision_there, dump_same, dumps_are, first_ill_formed_same}
use Rattle.sdb_contents.proofs.DumpLists.{contains_at, last_or_before}
use Rattle.sdb_contents.proofs.OddRecords.{first_behind, first_same, none_of_all, odd_record, odd_row}
use Rattle.sdb_model.specs.Tables.{is_table_of_run}

---- tables of the run

pub coordinator_played : (catalog : List Table) (table : TableName) → table ≡ coordinator_table → is_table_of_run catalog table ≡ true
coordinator_played catalog table named = ap (is_table_of_run catalog) named ∙ or_second (is_some (find_table catalog coordinator_table)) (is_coordinator_table coordinator_table) refl

pub played_at : (catalog : List Table) (i : ℕ) (t : Table) → slice_get catalog i ≡ Some t → is_table_of_run catalog t.name ≡ true
played_at catalog i t here = all_at (λ (u : Table). is_table_of_run catalog u.name ≡ true) catalog i t (each_played catalog) here

---- scans after others

pub dump_behind : (decide : TxId → Option Decided) (old mid : Attached) (t : Table) → GoOn old mid → KnownAreUnchanged old mid → AreUsableFor t.name old → dump_in decide mid t ≡ dump_in decide old t
dump_behind decide old mid t goes stay fit = ap (dump_by decide t) (records_stay old mid t.name goes stay fit)

ill_formed_behind : (decide : TxId → Option Decided) (old mid : Attached) (t : Table) → GoOn old mid → KnownAreUnchanged old mid → AreUsableFor t.name old → first_ill_formed_in decide mid t ≡ first_ill_formed_in decide old t
ill_formed_behind decide old mid t goes stay fit = ap (first_unlike (is_well_formed decide t)) (records_stay old mid t.name goes stay fit)

-- what is so of each is so of the first ones
all_front : {A : Type 0} (P : A → Type 0) (n : ℕ) (xs : List A) → AllByRecursion P xs → AllByRecursion P (take n xs)
all_front P zero [] all = tt
all_front P zero (x ∷ xs) all = tt
all_front P (suc n) [] all = tt
all_front P (suc n) (x ∷ xs) all = (all.0, all_front P n xs all.1)

-- one table more
pub named_more : (ts : List Table) (i : ℕ) (t : Table) (before after : List TableDump) (d : TableDump) → slice_get ts i ≡ Some t → map (λ (x : TableDump). x.name) before ≡ table_names (take i ts) → d.name ≡ t.name → after ≡ before ++ d ∷ []
    → map (λ (x : TableDump). x.name) after ≡ table_names (take (i + 1) ts)
named_more ts i t before after d here so is pushed =
    names_more ts i t (map (λ (x : TableDump). x.name) before) (map (λ (x : TableDump). x.name) after) d.name here so is (ap (map (λ (x : TableDump). x.name)) pushed ∙ map-append (λ (x : TableDump). x.name) before (d ∷ []))

-- as many dumps as tables
pub named_size : (ts : List Table) (i : ℕ) (t : Table) (ds : List TableDump) → slice_get ts i ≡ Some t → map (λ (x : TableDump). x.name) ds ≡ table_names (take i ts) → length ds ≡ i
named_size ts i t ds here named =
    sym (length-map ds (λ (x : TableDump). x.name)) ∙ ap length named ∙ length-map (take i ts) (λ (u : Table). u.name) ∙ length-take-le i ts (let low : i < length ts = slice_get_within ts i t here in omega (arith, low))

pub dumps_more : (decide : TxId → Option Decided) (old mid : Attached) (ts : List Table) (i : ℕ) (t : Table) (before after : List TableDump) (d : TableDump) → slice_get ts i ≡ Some t → length before ≡ i → GoOn old mid → KnownAreUnchanged old mid → AreDumpsUnder decide ts old before
    → (AreUsableFor t.name mid → d ≡ dump_in decide mid t) → after ≡ before ++ d ∷ [] → AreDumpsUnder decide ts old after
dumps_more decide old mid ts i t before after d here size goes stay so is pushed j u dump there found fit =
    elim (last_or_before before d j dump (ap (λ (xs : List TableDump). slice_get xs j) (sym pushed) ∙ found)) [
      | inl k ↦ so j u dump there k fit
      | inr k ↦ (
          let same : t ≡ u = some_is t u (sym here ∙ ap (slice_get ts) (sym (k.0 ∙ size)) ∙ there) in
          let fit_t : AreUsableFor t.name old = subst (λ (x : Table). AreUsableFor x.name old) (sym same) fit in
          sym k.1 ∙ is (fit_for_on old mid t.name goes fit_t) ∙ dump_behind decide old mid t goes stay fit_t ∙ ap (dump_in decide old) same
          )
    ]

-- all dumps, where all stores are known
pub dumps_all : (decide : TxId → Option Decided) (stores : Attached) (ts : List Table) (ds : List TableDump) → map (λ (x : TableDump). x.name) ds ≡ table_names ts → AreDumpsUnder decide ts stores ds → AllByRecursion (λ (t : Table). AreUsableFor t.name stores) ts → ds ≡ dumps_in decide stores ts
dumps_all decide stores [] [] named each fit = refl
dumps_all decide stores [] (d ∷ ds) named each fit = absurd (cc)
dumps_all decide stores (t ∷ ts) [] named each fit = absurd (cc)
dumps_all decide stores (t ∷ ts) (d ∷ ds) named each fit =
    let rest = dumps_all decide stores ts ds (tail_same (d.name) (t.name) (map (λ (x : TableDump). x.name) ds) (table_names ts) named) (λ i u dump. each (suc i) u dump) fit.1 in
    let here : d ≡ dump_in decide stores t = each 0 t d refl refl fit.0 in
    λ i. here i ∷ rest i
  where
    tail_same : (x y : TableName) (xs ys : List TableName) → x ∷ xs ≡ y ∷ ys → xs ≡ ys
    tail_same x y xs ys e = cc

-- the tables of a run are fit for calls where its stores are
pub each_fit : (catalog : List Table) (stores : Attached) → AreUsable catalog stores → AllByRecursion (λ (t : Table). AreUsableFor t.name stores) catalog
each_fit catalog stores fit =
    all_each (λ (t : Table). is_table_of_run catalog t.name ≡ true) (λ (t : Table). AreUsableFor t.name stores) catalog (λ t about. fit_for catalog stores t.name about fit) (each_played catalog)

pub coordinator_fit : (catalog : List Table) (stores : Attached) → AreUsable catalog stores → AreUsableFor coordinator_table stores
coordinator_fit catalog stores fit = fit_for catalog stores coordinator_table (coordinator_played catalog coordinator_table refl) fit

-- a table more whose records are all well formed
pub well_formed_more : (decide : TxId → Option Decided) (old mid : Attached) (ts : List Table) (i : ℕ) (t : Table) → slice_get ts i ≡ Some t → GoOn old mid → KnownAreUnchanged old mid → AreWellFormedUnder decide (take i ts) old → (AreUsableFor t.name mid → first_ill_formed_in decide mid t ≡ None)
    → AreWellFormedUnder decide (take (i + 1) ts) old
well_formed_more decide old mid ts i t here goes stay before last j u there fit =
    elim (last_or_before (take i ts) t j u (ap (λ (xs : List Table). slice_get xs j) (sym (ap (λ (k : ℕ). take k ts) (add-one i) ∙ take_suc ts i t here)) ∙ there)) [
      | inl k ↦ before j u k fit
      | inr k ↦ subst (λ (x : Table). AreUsableFor x.name old → first_ill_formed_in decide old x ≡ None) k.1 (λ f. sym (ill_formed_behind decide old mid t goes stay f) ∙ last (fit_for_on old mid t.name goes f)) fit
    ]

-- a table with one that isn't
pub ill_formed_among : (decide : TxId → Option Decided) (old mid : Attached) (ts : List Table) (i : ℕ) (t : Table) (key : Key) → slice_get ts i ≡ Some t → GoOn old mid → KnownAreUnchanged old mid → AreWellFormedUnder decide (take i ts) old → IsIllFormed decide t mid key
    → IsIllFormedAmong decide ts old key
ill_formed_among decide old mid ts i t key here goes stay before first =
    let at : AreUsableFor t.name old → first_ill_formed_in decide old t ≡ Some key = λ fit. sym (ill_formed_behind decide old mid t goes stay fit) ∙ first.first (fit_for_on old mid t.name goes fit) in
    record {
      at = i;
      table = t;
      there = here;
      ill_formed = record { named = first.named; first = at };
      first = λ fit.
          first_behind (first_ill_formed_in decide old) ts i t key here
          (none_of_all (first_ill_formed_in decide old) (take i ts) (λ j u low. before j u low (fit_for ts old u.name (all_at (λ (x : Table). is_table_of_run ts x.name ≡ true) (take i ts) j u (all_front (λ (x : Table). is_table_of_run ts x.name ≡ true) i ts (each_played ts)) low) fit)))
          (at (fit_for ts old t.name (played_at ts i t here) fit));
    }

-- a record that isn't so among those of a table is of that table
pub unlike_of : (table : TableName) (is_so : Record → Bool) (rows : List Record) (key : Key) → are_rows_of (whole table) rows ≡ true → first_unlike is_so rows ≡ Some key → key.table ≡ table
unlike_of table is_so rows key of e = by rows (and_second (rise rows) (list_all (λ r. in_span (whole table) r.key) rows) of) e
  where
    at : (k : Key) → in_span (whole table) k ≡ true → k.table ≡ table
    at k inside = sym (table_exact table k.table (equal_of (table_cmp table k.table) (and_first (is_eq (table_cmp table k.table)) true inside)))

    by : (rs : List Record) → list_all (λ r. in_span (whole table) r.key) rs ≡ true → first_unlike is_so rs ≡ Some key → key.table ≡ table
    by [] all h = absurd (none_some key h)
    by (r ∷ rs) all h = on (not (is_so r)) (by rs (and_second (in_span (whole table) r.key) (list_all (λ x. in_span (whole table) x.key) rs) all)) h
      where
        on : (b : Bool) → (first_unlike is_so rs ≡ Some key → key.table ≡ table) → option_map (λ (x : Record). x.key) (cond b (Some r) (find (λ x. not (is_so x)) rs)) ≡ Some key → key.table ≡ table
        on true rest k = ap (λ (x : Key). x.table) (sym (some_is r.key key k)) ∙ at r.key (and_first (in_span (whole table) r.key) (list_all (λ x. in_span (whole table) x.key) rs) all)
        on false rest k = rest k

---- the whole

-- What the scan of the coordinator's table gave.
pub record AreRows (stores : Attached) (found : List Record) (decide : TxId → Option Decided) (ids : List TxId) : Type 0 where
  pub rows : AreUsableFor coordinator_table stores → found ≡ records_in stores coordinator_table
  pub rising : rise found ≡ true
  pub decided : rise found ≡ true → (id : TxId) → id.0 < 2 ^ 128 → decide id ≡ decision_among found id
  pub recorded : ids ≡ recorded_among found

decision_where : (stores : Attached) (rows : List Record) (id : TxId) → rows ≡ records_in stores coordinator_table → decision_among rows id ≡ decision_at stores.places (contents_of_views stores.views) id
decision_where stores rows id e = ap (λ (xs : List Record). decision_among xs id) e ∙ decision_there stores.places (contents_of_views stores.views) id

-- they are the decisions of what the stores hold
pub decisions_are : (stores : Attached) (rows : List Record) (decide : TxId → Option Decided) (recorded : List TxId) → AreRows stores rows decide recorded → AreUsableFor coordinator_table stores → AreDecisions stores.places (contents_of_views stores.views) decide
decisions_are stores rows decide recorded r fit = record { at = λ id small. r.decided r.rising id small ∙ decision_where stores rows id (r.rows fit) }

pub closing_tables : (catalog : List Table) (old mid : Attached) (rows : List Record) (decide : TxId → Option Decided) (recorded : List TxId) (tables : List TableDump) → AreRows old rows decide recorded → GoOn old mid → (AreUsable catalog old → HoldTheSame old mid)
    → map (λ (d : TableDump). d.name) tables ≡ table_names catalog → AreDumpsUnder decide catalog mid tables → AreUsable catalog old → AreDumps catalog old tables
closing_tables catalog old mid rows decide recorded tables r goes still named under fit d images =
    dumps_all decide mid catalog tables named under (each_fit catalog mid (goes.fit catalog fit))
    ∙ ap (λ (ps : List Place). map (λ t. dump_by decide t (records_of ps (contents_of_views mid.views) t.name)) catalog) goes.places ∙ ap (λ (ss : List StoreContents). map (λ t. dump_by decide t (records_of old.places ss t.name)) catalog) (still fit)
    ∙ dumps_are catalog old.places (contents_of_views old.views) decide d (decisions_are old rows decide recorded r (coordinator_fit catalog old fit)) images

pub closing_known : (catalog : List Table) (old mid : Attached) (rows : List Record) (decide : TxId → Option Decided) (recorded : List TxId) (tables : List TableDump) → AreRows old rows decide recorded → GoOn old mid → KnownAreUnchanged old mid
    → map (λ (d : TableDump). d.name) tables ≡ table_names catalog → AreDumpsUnder decide catalog mid tables → AreDumpsWhereKnown catalog old tables
closing_known catalog old mid rows decide recorded tables r goes stay named under = record {
  named = named;
  each = λ i t dump here there fit coordinator.
      under i t dump here there (fit_for_on old mid t.name goes fit) ∙ dump_behind decide old mid t goes stay fit
      ∙ sym (dump_same old.places (contents_of_views old.views) decide t (records_in old t.name) (decisions_are old rows decide recorded r coordinator));
}

pub closing_recorded : (stores : Attached) (rows : List Record) (decide : TxId → Option Decided) (recorded : List TxId) → AreRows stores rows decide recorded → AreUsableFor coordinator_table stores → AreRecorded recorded stores
closing_recorded stores rows decide recorded r fit id small =
    let decision = decision_where stores rows id (r.rows fit) in (
      λ h. subst (λ (o : Option Decided). IsSomeAnd o IsCommitted) decision (recorded_has rows r.rising id (subst (λ (ids : List TxId). Contains ids id) r.recorded h)),
      λ h. subst (λ (ids : List TxId). Contains ids id) (sym r.recorded) (recorded_all rows id small (subst (λ (o : Option Decided). IsSomeAnd o IsCommitted) (sym decision) h)),
    )

pub closing_once : (stores : Attached) (rows : List Record) (decide : TxId → Option Decided) (recorded : List TxId) → AreRows stores rows decide recorded → AllPairs (λ a b. a ≢ b) recorded
closing_once stores rows decide recorded r = subst (AllPairs (λ (a b : TxId). a ≢ b)) (sym r.recorded) (recorded_once rows r.rising)

-- each record is well formed
pub closing_well_formed : (catalog : List Table) (old mid : Attached) (rows : List Record) (decide : TxId → Option Decided) (recorded : List TxId) → AreRows old rows decide recorded → GoOn old mid → KnownAreUnchanged old mid → first_unlike is_decided rows ≡ None → AreWellFormedUnder decide catalog mid
    → AreWellFormedWhereKnown catalog old
closing_well_formed catalog old mid rows decide recorded r goes stay none under = record {
  rows = λ fit. ap (first_unlike is_decided) (sym (r.rows fit)) ∙ none;
  records = λ coordinator i t here fit.
      first_ill_formed_same old.places (contents_of_views old.views) decide t (records_in old t.name) (decisions_are old rows decide recorded r coordinator)
      ∙ sym (ill_formed_behind decide old mid t goes stay fit) ∙ under i t here (fit_for_on old mid t.name goes fit);
}

---- what stopped it

-- the first odd record is a row of the coordinator's table
pub odd_in_rows : (catalog : List Table) (stores : Attached) (rows : List Record) (key : Key) → rows ≡ records_in stores coordinator_table → first_unlike is_decided rows ≡ Some key → first_odd catalog stores.places (contents_of_views stores.views) ≡ Some key
odd_in_rows catalog stores rows key e first =
    ap (λ (o : Option Key). first_of o (first_in (first_ill_formed_in (decision_at stores.places (contents_of_views stores.views)) stores) catalog)) (ap (first_unlike is_decided) (sym e) ∙ first)

pub row_odd : (catalog : List Table) (stores : Attached) (rows : List Record) (key : Key) → (AreUsableFor coordinator_table stores → rows ≡ records_in stores coordinator_table) → are_rows_of (whole coordinator_table) rows ≡ true → first_unlike is_decided rows ≡ Some key → IsOddIn catalog stores key
row_odd catalog stores rows key found of first =
    let named = unlike_of coordinator_table is_decided rows key of first in
    let decide = decision_at stores.places (contents_of_views stores.views) in
    record {
      correct = coordinator_played catalog key.table named;
      decide = decide;
      decisions = λ fit. record { at = λ id small. refl };
      odd = λ fit. odd_row catalog stores.places (contents_of_views stores.views) decide key (ap (first_unlike is_decided) (sym (found (subst (λ (n : TableName). AreUsableFor n stores) named fit))) ∙ first);
    }

-- or a record of a table, where these are well formed
pub odd_in_tables : (catalog : List Table) (old mid : Attached) (rows : List Record) (decide : TxId → Option Decided) (recorded : List TxId) (key : Key) → AreRows old rows decide recorded → first_unlike is_decided rows ≡ None → GoOn old mid → KnownAreUnchanged old mid → IsIllFormedAmong decide catalog mid key
    → AreUsable catalog old → first_odd catalog old.places (contents_of_views old.views) ≡ Some key
odd_in_tables catalog old mid rows decide recorded key r none goes stay first fit =
    let held = decision_at old.places (contents_of_views old.views) in
    let coordinator = coordinator_fit catalog old fit in
    let here : (t : Table) → AreUsableFor t.name old → first_ill_formed_in decide mid t ≡ first_ill_formed_in held old t = λ t f.
    ill_formed_behind decide old mid t goes stay f ∙ sym (first_ill_formed_same old.places (contents_of_views old.views) decide t (records_in old t.name) (decisions_are old rows decide recorded r coordinator)) in
    ap (λ (o : Option Key). first_of o (first_in (first_ill_formed_in held old) catalog)) (ap (first_unlike is_decided) (sym (r.rows coordinator)) ∙ none)
    ∙ sym (first_same (first_ill_formed_in decide mid) (first_ill_formed_in held old) catalog (all_each (λ (t : Table). AreUsableFor t.name old) (λ (t : Table). first_ill_formed_in decide mid t ≡ first_ill_formed_in held old t) catalog here (each_fit catalog old fit)))
    ∙ first.first (goes.fit catalog fit)

pub record_odd : (catalog : List Table) (old mid : Attached) (rows : List Record) (decide : TxId → Option Decided) (recorded : List TxId) (key : Key) → AreRows old rows decide recorded → GoOn old mid → KnownAreUnchanged old mid → IsIllFormedAmong decide catalog mid key → IsOddIn catalog old key
record_odd catalog old mid rows decide recorded key r goes stay first =
    let t = first.table in
    let named = first.ill_formed.named in
    record {
      correct = ap (is_table_of_run catalog) named ∙ played_at catalog first.at t first.there;
      decide = decide;
      decisions = decisions_are old rows decide recorded r;
      odd = λ fit.
          let fit_t : AreUsableFor t.name old = subst (λ (n : TableName). AreUsableFor n old) named fit in
          odd_record catalog old.places (contents_of_views old.views) decide t key (contains_at catalog first.at t first.there)
          (sym (ill_formed_behind decide old mid t goes stay fit_t) ∙ first.ill_formed.first (fit_for_on old mid t.name goes fit_t));
    }
