-- Stores whose tables hold no record.
use Rattle.std.proofs.Common.{◌≡◌, ◌∙◌, inl, inr, ℕ, zero, suc, ◌+◌, ◌<◌, ◌≤◌, Bool, true, false, List, [], ◌∷◌, ◌++◌, length, take, get_or, Option, Some, None, refl, sym, ap, subst, arith}
use Rattle.std.specs.Prelude.{◌&&◌, ◌==◌, slice_get, IsSomeAnd}
use Rattle.std.specs.FinMap.{empty, get-empty}
use Rattle.std.specs.List.{AllByRecursion, flat_map}
use Rattle.std.specs.Option.{option_map, option_map_or}
use Rattle.std.specs.Ordering.{is_eq}
use Rattle.std.specs.Cmp.{tied_itself}
use Rattle.std.proofs.Math.Numerals.{add-one}
use Rattle.std.proofs.lemmas.List.{append-nil}
use Rattle.std.proofs.lemmas.Bool.{eqb-false, eqb-true}
use Rattle.std.proofs.lemmas.Option.{slice_get-get_or, slice_get-map, slice_get_within}
use Rattle.sdb_contents.specs.Types.{Key, Place, Record, Reply, Table, TableName}
use Rattle.sdb_types.specs.declared.record.Request.TheVariants as ask
use Rattle.sdb_types.specs.declared.record.Reply.TheVariants as reply
use Rattle.sdb_types.specs.Contents.{Contents, are_rows_of, record_at, record_of, rise, rows_in, in_span, record_among}
use Rattle.sdb_types.specs.Order.{key_cmp, table_cmp}
use Rattle.sdb_types.proofs.Public.{and_first, and_second, none_some, some_is, table_exact, table_total, take_all as taken_up}
use Rattle.sdb_types.specs.Exact.{equal_of}
use Rattle.law_protocol.proofs.Public.{row_there}
use Rattle.sdb_stores.specs.Views.{Attached, StoreView as Counted, home, home_in, names_of}
use Rattle.sdb_model.specs.Rows.{Name}
use Rattle.sdb_model.specs.Events.{StoreContents, contents_under, store_of}
use Rattle.law_protocol.specs.Spread.{HoldAs}
use Rattle.sdb_contents.specs.Board.{AreUsable, AreUsableFor, GoOn, HoldTheSame, IsCalled, KnownAreUnchanged, contents_of_views}
use Rattle.sdb_contents.specs.Opening.{HoldNothing, IsFirstKey, records_of, records_in, run_tables, opening_records, opening_in, first_key, whole}
use Rattle.sdb_contents.proofs.GoesOn.{fit_for, fit_for_on}
use Rattle.sdb_contents.proofs.Lists.{all_at}
use Rattle.sdb_contents.proofs.StoreContents.{held_at, named_home}
use Rattle.sdb_contents.proofs.RunTables.{names_played, of_played}
use Rattle.sdb_model.specs.Tables.{is_table_of_run}

pub nothing_at : (key : Key) → record_at empty key ≡ None
nothing_at key = ap (option_map (λ columns. record_of (key, columns))) (get-empty key_cmp key)

inside : (key : Key) → in_span (whole key.table) key ≡ true
inside key = ap (λ (b : Bool). b && true) (ap is_eq (tied_itself table_total key.table))

-- no rows of a table are no record at its keys
none_of_table : (m : Contents) (key : Key) → rows_in (whole key.table) m ≡ [] → record_at m key ≡ None
none_of_table m key e = sym (row_there (whole key.table) key m (inside key)) ∙ ap (λ (rows : List Record). record_among rows key) e

none_there : (o : Option Contents) (key : Key) → option_map_or (rows_in (whole key.table)) o [] ≡ [] → option_map_or (λ (m : Contents). record_at m key) o None ≡ None
none_there None key e = refl
none_there (Some m) key e = none_of_table m key e

pub none_first : (rows : List Record) → first_key rows ≡ None → rows ≡ []
none_first [] e = refl
none_first (r ∷ rs) e = absurd (cc)

no_append : {A : Type 0} (xs ys : List A) → xs ++ ys ≡ [] → (xs ≡ []) × (ys ≡ [])
no_append [] ys e = (refl, e)
no_append (x ∷ xs) ys e = absurd (cc)

-- where tables together hold no record, each holds none
none_each : (f : TableName → List Record) (ts : List TableName) → flat_map f ts ≡ [] → AllByRecursion (λ (t : TableName). f t ≡ []) ts
none_each f [] e = tt
none_each f (t ∷ ts) e = let both = no_append (f t) (flat_map f ts) e in (both.0, none_each f ts both.1)

-- where there is no first record, there is none
pub no_record : (catalog : List Table) (places : List Place) (store_contents : List StoreContents) → first_key (opening_records catalog places store_contents) ≡ None → HoldAs catalog places store_contents empty
no_record catalog places store_contents e =
    let each = none_each (records_of places store_contents) (run_tables catalog) (none_first (opening_records catalog places store_contents) e) in
    record {
      at = λ key about.
          none_there (contents_under store_contents (store_of places store_contents key.table.ns)) key (of_played (λ (t : TableName). records_of places store_contents t ≡ []) catalog key.table each about) ∙ sym (nothing_at key);
    }

-- the rows that a scan found are those of its table
pub scanned : (old new : Attached) (name table : TableName) (rows : List Record) (r : Reply) → name ≡ table → r ≡ reply.Rows rows → IsCalled (ask.Scan (whole name)) r old new → rows ≡ records_in old table
scanned old new name table rows r named is h = by (subst (λ (x : Reply). IsCalled (ask.Scan (whole name)) x old new) is h)
  where
    rows_is : (xs ys : List Record) → reply.Rows xs ≡ reply.Rows ys → xs ≡ ys
    rows_is xs ys e = cc

    by : IsCalled (ask.Scan (whole name)) (reply.Rows rows) old new → rows ≡ records_in old table
    by k = elim k.performed [
      | inl e ↦ rows_is rows (rows_in (whole name) k.held) (sym (ap (λ (x : Reply × Contents). x.0) e)) ∙ sym (ap (λ (o : Option Contents). option_map_or (rows_in (whole name)) o []) k.found) ∙ ap (records_in old) named
      | inr w ↦ absurd (let f : reply.Rows rows ≡ reply.NoMemory = w.0 in cc)
    ]

---- the first record

first_stays : (xs ys : List Record) (key : Key) → first_key xs ≡ Some key → first_key (xs ++ ys) ≡ Some key
first_stays [] ys key e = absurd (cc)
first_stays (x ∷ xs) ys key e = e

-- where the tables before hold none, the first of the next is the first of all
first_behind : (f : TableName → List Record) (ts : List TableName) (i : ℕ) (t : TableName) (key : Key) → slice_get ts i ≡ Some t → flat_map f (take i ts) ≡ [] → first_key (f t) ≡ Some key → first_key (flat_map f ts) ≡ Some key
first_behind f [] i t key here none first = absurd (none_some t here)
first_behind f (x ∷ ts) zero t key here none first = first_stays (f x) (flat_map f ts) key (ap (λ (y : TableName). first_key (f y)) (some_is x t here) ∙ first)
first_behind f (x ∷ ts) (suc i) t key here none first =
    let both = no_append (f x) (flat_map f (take i ts)) none in
    ap (λ (rows : List Record). first_key (rows ++ flat_map f ts)) both.0 ∙ first_behind f ts i t key here both.1 first

-- one table more that holds none
none_behind : (f : TableName → List Record) (ts : List TableName) (i : ℕ) (t : TableName) → slice_get ts i ≡ Some t → flat_map f (take i ts) ≡ [] → f t ≡ [] → flat_map f (take (suc i) ts) ≡ []
none_behind f [] i t here none empty = absurd (none_some t here)
none_behind f (x ∷ ts) zero t here none empty = append-nil (f x) ∙ ap f (some_is x t here) ∙ empty
none_behind f (x ∷ ts) (suc i) t here none empty =
    let both = no_append (f x) (flat_map f (take i ts)) none in
    ap (λ (rows : List Record). rows ++ flat_map f (take (suc i) ts)) both.0 ∙ none_behind f ts i t here both.1 empty

-- the table that is looked at
pub looked_at : (ts : List TableName) (i : ℕ) (t : TableName) → i < length ts → t ≡ get_or ts i t → slice_get ts i ≡ Some t
looked_at ts i t within is = slice_get-get_or ts i t within ∙ ap Some (sym is)

---- table by table

-- a table that is scanned after others holds what it held at first
pub scanned_behind : (catalog : List Table) (old mid : Attached) (table : TableName) (rows : List Record) → GoOn old mid → (AreUsable catalog old → HoldTheSame old mid)
    → (AreUsableFor table mid → rows ≡ records_in mid table) → is_table_of_run catalog table ≡ true → AreUsable catalog old → rows ≡ records_in old table
scanned_behind catalog old mid table rows goes still found about fit =
    found (fit_for catalog mid table about (goes.fit catalog fit)) ∙ ap (λ (ps : List Place). records_of ps (contents_of_views mid.views) table) goes.places
    ∙ ap (λ (ss : List StoreContents). records_of old.places ss table) (still fit)

-- nothing became of the stores by a scan more
pub still_behind : (catalog : List Table) (old mid new : Attached) (table : TableName) → GoOn old mid → (AreUsable catalog old → HoldTheSame old mid) → (AreUsableFor table mid → HoldTheSame mid new) → is_table_of_run catalog table ≡ true → AreUsable catalog old → HoldTheSame old new
still_behind catalog old mid new table goes before after about fit = after (fit_for catalog mid table about (goes.fit catalog fit)) ∙ before fit

-- each table that is looked at is one of the run's
pub looked_about : (catalog : List Table) (ts : List TableName) (i : ℕ) (table : TableName) → ts ≡ run_tables catalog → slice_get ts i ≡ Some table → is_table_of_run catalog table ≡ true
looked_about catalog ts i table all here =
    all_at (λ (n : TableName). is_table_of_run catalog n ≡ true) ts i table (subst (AllByRecursion (λ (n : TableName). is_table_of_run catalog n ≡ true)) (sym all) (names_played catalog)) here

-- what the tables so far hold
abbrev pub looked : Attached → List TableName → ℕ → List Record
looked stores ts i = flat_map (records_in stores) (take i ts)

-- a table that holds no record
pub look_on : (catalog : List Table) (old mid : Attached) (ts : List TableName) (i : ℕ) (table : TableName) (rows : List Record) (first : Option Key) → ts ≡ run_tables catalog → slice_get ts i ≡ Some table → GoOn old mid → (AreUsable catalog old → HoldTheSame old mid)
    → (AreUsable catalog old → looked old ts i ≡ []) → (AreUsableFor table mid → rows ≡ records_in mid table) → first ≡ first_key rows → first ≡ None
    → AreUsable catalog old → looked old ts (i + 1) ≡ []
look_on catalog old mid ts i table rows first all here goes still before found is none fit =
    let rows_are = scanned_behind catalog old mid table rows goes still found (looked_about catalog ts i table all here) fit in
    ap (looked old ts) (add-one i) ∙ none_behind (records_in old) ts i table here (before fit) (sym rows_are ∙ none_first rows (sym is ∙ none))

-- a table that holds one
pub look_found : (catalog : List Table) (old mid : Attached) (ts : List TableName) (i : ℕ) (table : TableName) (rows : List Record) (first : Option Key) (key : Key) → ts ≡ run_tables catalog → slice_get ts i ≡ Some table → GoOn old mid → (AreUsable catalog old → HoldTheSame old mid)
    → (AreUsable catalog old → looked old ts i ≡ []) → (AreUsableFor table mid → rows ≡ records_in mid table) → first ≡ first_key rows → first ≡ Some key
    → AreUsable catalog old → Some key ≡ first_key (opening_in catalog old)
look_found catalog old mid ts i table rows first key all here goes still before found is some fit =
    let rows_are = scanned_behind catalog old mid table rows goes still found (looked_about catalog ts i table all here) fit in
    sym (ap (λ (xs : List TableName). first_key (flat_map (records_in old) xs)) (sym all) ∙ first_behind (records_in old) ts i table key here (before fit) (ap first_key (sym rows_are) ∙ sym is ∙ some))

-- all hold none
pub look_done : (catalog : List Table) (old : Attached) (ts : List TableName) (i : ℕ) → ts ≡ run_tables catalog → length ts ≤ i → (AreUsable catalog old → looked old ts i ≡ []) → AreUsable catalog old → None ≡ first_key (opening_in catalog old)
look_done catalog old ts i all up before fit =
    sym (ap first_key (ap (flat_map (records_in old)) (sym all ∙ sym (taken_up ts i up)) ∙ before fit))

---- table by table, as far as contents are known

-- the records of a table are those of the store where it is kept
records_home : (stores : Attached) (table : TableName) (s : Counted) → AreUsableFor table stores → slice_get stores.views (home_in stores table.ns) ≡ Some s → records_in stores table ≡ rows_in (whole table) s.contents
records_home stores table s fit here =
    let at = home_in stores table.ns in
    let name : slice_get (names_of stores.views) at ≡ Some s.name = slice_get-map (λ (x : Counted). x.name) stores.views at ∙ ap (option_map (λ (x : Counted). x.name)) here in
    let store : store_of stores.places (contents_of_views stores.views) table.ns ≡ s.name = some_is _ _ (sym (named_home stores.places stores.views table.ns fit.some (fit.homed table.ns)) ∙ name) in
    ap (λ (n : Name). option_map_or (rows_in (whole table)) (contents_under (contents_of_views stores.views) n) []) store
    ∙ ap (λ (o : Option Contents). option_map_or (rows_in (whole table)) o []) (held_at stores.views at s fit.distinct here)

-- a table whose store has known contents holds what it held
pub records_stay : (old mid : Attached) (table : TableName) → GoOn old mid → KnownAreUnchanged old mid → AreUsableFor table old → records_in mid table ≡ records_in old table
records_stay old mid table goes stay fit = by (slice_get old.views at) refl
  where
    at : ℕ
    at = home_in old table.ns

    same : home_in mid table.ns ≡ at
    same = ap (λ (ps : List Place). home table.ns ps (names_of mid.views)) goes.places ∙ ap (home table.ns old.places) goes.names

    then : (s : Counted) → slice_get old.views at ≡ Some s → (o : Option Counted) → slice_get mid.views at ≡ o → IsSomeAnd o (λ now. now.contents ≡ s.contents) → records_in mid table ≡ records_in old table
    then s here None e h = absurd h
    then s here (Some now) e h =
        records_home mid table now (fit_for_on old mid table goes fit) (ap (slice_get mid.views) same ∙ e) ∙ ap (rows_in (whole table)) h ∙ sym (records_home old table s fit here)

    by : (o : Option Counted) → slice_get old.views at ≡ o → records_in mid table ≡ records_in old table
    by None e =
        let name = slice_get-map (λ (x : Counted). x.name) old.views at ∙ ap (option_map (λ (x : Counted). x.name)) e in
        absurd (none_some _ (sym name ∙ named_home old.places old.views table.ns fit.some (fit.homed table.ns)))
    by (Some s) e = then s e (slice_get mid.views at) refl (stay at s fit.where_known e)

-- a record that a scan found is of its table
first_of : (table : TableName) (rows : List Record) (key : Key) → are_rows_of (whole table) rows ≡ true → first_key rows ≡ Some key → key.table ≡ table
first_of table [] key of e = absurd (none_some key e)
first_of table (r ∷ rs) key of e =
    let inside : in_span (whole table) r.key ≡ true = and_first _ _ (and_second (rise (r ∷ rs)) _ of) in
    ap (λ (k : Key). k.table) (sym (some_is r.key key e)) ∙ sym (table_exact table r.key.table (equal_of (table_cmp table r.key.table) (and_first _ _ inside)))

abbrev pub NoneUntil : List TableName → Attached → ℕ → Type 0
NoneUntil tables stores at = (i : ℕ) (t : TableName) → i < at → slice_get tables i ≡ Some t → AreUsableFor t stores → records_in stores t ≡ []

-- one table more that holds none
pub none_more : (old mid : Attached) (ts : List TableName) (i : ℕ) (table : TableName) (rows : List Record) (first : Option Key) → slice_get ts i ≡ Some table → GoOn old mid → KnownAreUnchanged old mid → NoneUntil ts old i → (AreUsableFor table mid → rows ≡ records_in mid table)
    → first ≡ first_key rows → first ≡ None → NoneUntil ts old (i + 1)
none_more old mid ts i table rows first here goes stay before found is none j t low there fit = by (j == i) refl
  where
    by : (b : Bool) → (j == i) ≡ b → records_in old t ≡ []
    by true e =
        let same : table ≡ t = some_is table t (sym here ∙ sym (ap (slice_get ts) (eqb-true j i e)) ∙ there) in
        let fit_table : AreUsableFor table old = subst (λ (x : TableName). AreUsableFor x old) (sym same) fit in
        ap (records_in old) (sym same) ∙ sym (records_stay old mid table goes stay fit_table) ∙ sym (found (fit_for_on old mid table goes fit_table)) ∙ none_first rows (sym is ∙ none)
    by false e = let apart = eqb-false j i e in before j t (omega (arith, low, apart)) there fit

-- the first table that holds one
pub first_found : (old mid : Attached) (ts : List TableName) (i : ℕ) (table : TableName) (rows : List Record) (first : Option Key) (key : Key) → slice_get ts i ≡ Some table → GoOn old mid → KnownAreUnchanged old mid → NoneUntil ts old i → (AreUsableFor table mid → rows ≡ records_in mid table)
    → are_rows_of (whole table) rows ≡ true → first ≡ first_key rows → first ≡ Some key → IsFirstKey ts old key
first_found old mid ts i table rows first key here goes stay before found of is some =
    let named : key.table ≡ table = first_of table rows key of (sym is ∙ some) in
    record {
      at = i;
      table = here ∙ ap Some (sym named);
      first = λ fit.
          let fit_table : AreUsableFor table old = subst (λ (x : TableName). AreUsableFor x old) named fit in
          ap (λ (x : TableName). first_key (records_in old x)) named ∙ ap first_key (sym (records_stay old mid table goes stay fit_table) ∙ sym (found (fit_for_on old mid table goes fit_table))) ∙ sym is ∙ some;
      none = before;
    }

-- no table holds one
pub none_found : (ts : List TableName) (old : Attached) (i : ℕ) → length ts ≤ i → NoneUntil ts old i → HoldNothing ts old
none_found ts old i up before j t there fit = let low : j < length ts = slice_get_within ts j t there in before j t (omega (arith, low, up)) there fit
