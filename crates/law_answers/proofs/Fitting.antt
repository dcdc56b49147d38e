-- Tables without the rows that don't fit: a statement whose access reads only rows that fit does on them what its plan does on the rows read.
use Rattle.std.proofs.Common.{◌≡◌, ◌⊎◌, inl, inr, Bool, true, false, not, cond, List, [], ◌∷◌, map, Option, Some, None, refl, sym, ap, subst, ◌∙◌}
use Rattle.std.specs.Prelude.{if◌then◌else◌, ◌&&◌, filter, find, is_some}
use Rattle.std.specs.List.{AllByRecursion, list_all}
use Rattle.std.specs.Option.{option_map, option_map_or}
use Rattle.std.specs.Ordering.{is_eq}
use Rattle.std.specs.Cmp.{tied_itself}
use Rattle.std.specs.FinMap.{entries, entries_sorted, find as find_key, get, get-entries, get-from_entries, same_map}
use Rattle.law_answers.specs.Types.{Access, Answer, Change, Image, Key, Keyed, Pair, Statement, Table}
use Rattle.sdb_types.specs.Exact.{equal_of}
use Rattle.sdb_types.specs.Order.{key_cmp}
use Rattle.sdb_types.proofs.Public.{clash, key_exact, key_total, none_some, some_is, truth}
use Rattle.sdb_schema.specs.Catalog.{is_catalog}
use Rattle.sdb_schema.specs.Rows.{fits_table}
use Rattle.sdb_record.specs.declared.write.Change.TheVariants as change
use Rattle.sdb_record.specs.Rolls.{row_of_change}
use Rattle.sdb_model.specs.declared.statement.Statement.TheVariants as statement
use Rattle.sdb_model.specs.Access.{in_access, rows_at, with_changes, with_row}
use Rattle.sdb_model.specs.Exec.{Tables, all_rows, entry_of_row, exec, find_table, key_of, named_table, passes, row_of_entry, table_of, with_named, with_sets}
use Rattle.sdb_model.specs.Reads.{access_for, access_of}
use Rattle.sdb_model.specs.Refused.{refusal_of}
use Rattle.sdb_exec.specs.Plans.{IsExec, all_well_typed, answer_on, changes_on, columns_at, first_unfit, has_all_literals, is_unfit, put_row, step_of}
use Rattle.sdb_exec.proofs.Public.{agree_rows, by_key, find-sieved, fitting_is_exec, get-with_row, keyed, named_is_table, ordered, sieved_at}
use Rattle.sdb_snapshot.specs.Seen.{Seen, overlay, tables_seen}
use Rattle.sdb_client.specs.Client.{plan_of}
use Rattle.law_clients.specs.Fitting.{row_is_well_typed, tables_are_well_typed}
use Rattle.law_clients.proofs.Public.{all_in_fit, answers_on, fits_there, found_itself, own_table}
use Rattle.law_answers.specs.Unfit.{fits_catalog, fitting_part}
use Rattle.law_answers.proofs.Filled.{found_all}
use Rattle.law_answers.proofs.Given.{asked_gives, inside_access}
use Rattle.law_clients.proofs.Public.{passes_all}
use Rattle.law_answers.proofs.Lists.{each_kept}

---- rows by their keys

pub all_true : (p : Image → Bool) (rs : List Image) → AllByRecursion (λ r. p r ≡ true) rs → list_all p rs ≡ true
all_true p [] all = refl
all_true p (r ∷ rs) all = ap (λ b. b && list_all p rs) all.0 ∙ all_true p rs all.1

-- each row of tables is one that they have at its key
pub rows_there : (P : Key → List Pair → Type 0) (d : Tables) → ((q : Key) (cs : List Pair) → get d q ≡ Some cs → P q cs) → AllByRecursion (λ (r : Image). P r.key r.columns) (all_rows d)
rows_there P d each = found_all P (entries d) (truth _ (entries_sorted d)) (λ q cs found. each q cs (get-entries d q ∙ found))

-- the rows of entries at the keys of an access
abbrev rows_inside : Access → List (Key × List Pair) → List Image
rows_inside a es = filter (λ r. in_access a r.key) (map row_of_entry es)

-- a row at a key of an access fits where none of the access is unfit
entry_fits : (t : Table) (a : Access) (es : List (Key × List Pair)) (q : Key) (cs : List Pair) → first_unfit t (rows_inside a es) ≡ None → in_access a q ≡ true → find_key key_cmp q es ≡ Some cs → fits_table t q cs ≡ true
entry_fits t a [] q cs none inside e = none_some cs e
entry_fits t a (e ∷ es) q cs none inside found =
    by_key q e (λ b. cond b (Some e.1) (find_key key_cmp q es) ≡ Some cs → fits_table t q cs ≡ true)
    (λ s i k. subst (λ (z : Key). fits_table t z cs ≡ true) (sym i) (subst (λ (c : List Pair). fits_table t e.0 c ≡ true) (some_is e.1 cs k) (here (in_access a e.0) (subst (λ (z : Key). in_access a z ≡ true) i inside) refl none)))
    (λ s k. entry_fits t a es q cs (later (in_access a e.0) none) inside k)
    found
  where
    first : (u : Bool) → fits_table t e.0 e.1 ≡ u → option_map (λ (r : Image). r.key) (if not u then Some (row_of_entry e) else find (is_unfit t) (rows_inside a es)) ≡ None → fits_table t e.0 e.1 ≡ true
    first true f k = f
    first false f k = none_some e.0 (sym k)

    here : (b : Bool) → in_access a e.0 ≡ true → in_access a e.0 ≡ b → first_unfit t (if b then row_of_entry e ∷ rows_inside a es else rows_inside a es) ≡ None → fits_table t e.0 e.1 ≡ true
    here true h f k = first (fits_table t e.0 e.1) refl k
    here false h f k = clash (sym h ∙ f)

    next : (u : Bool) → option_map (λ (r : Image). r.key) (if not u then Some (row_of_entry e) else find (is_unfit t) (rows_inside a es)) ≡ None → first_unfit t (rows_inside a es) ≡ None
    next true k = k
    next false k = none_some e.0 (sym k)

    later : (b : Bool) → first_unfit t (if b then row_of_entry e ∷ rows_inside a es else rows_inside a es) ≡ None → first_unfit t (rows_inside a es) ≡ None
    later true k = next (fits_table t e.0 e.1) k
    later false k = k

pub found_fits : (t : Table) (a : Access) (d : Tables) (q : Key) (cs : List Pair) → first_unfit t (rows_at a d) ≡ None → in_access a q ≡ true → get d q ≡ Some cs → fits_table t q cs ≡ true
found_fits t a d q cs none inside found = entry_fits t a (entries d) q cs none inside (sym (get-entries d q) ∙ found)

---- the part that fits

-- a row, if there is one, fits the catalog
abbrev pub RowFits : List Table → Key → Option (List Pair) → Type 0
RowFits catalog q o = (cs : List Pair) → o ≡ Some cs → row_is_well_typed catalog q cs ≡ true

pub get_fitting : (catalog : List Table) (d : Tables) (q : Key) → get (fitting_part catalog d) q ≡ sieved_at (fits_catalog catalog) q (get d q)
get_fitting catalog d q =
    get-from_entries key_total (map entry_of_row (filter (fits_catalog catalog) (all_rows d))) q
    ∙ find-sieved (fits_catalog catalog) (entries d) q (ordered d)
    ∙ ap (sieved_at (fits_catalog catalog) q) (sym (get-entries d q))

pub sieved_same : (catalog : List Table) (q : Key) (o : Option (List Pair)) → RowFits catalog q o → sieved_at (fits_catalog catalog) q o ≡ o
sieved_same catalog q None fits = refl
sieved_same catalog q (Some cs) fits = ap (λ b. cond b (Some cs) None) (fits cs refl)

-- a row that fits, or none, is there as it was
pub fitting_same : (catalog : List Table) (d : Tables) (q : Key) → RowFits catalog q (get d q) → get (fitting_part catalog d) q ≡ get d q
fitting_same catalog d q fits = get_fitting catalog d q ∙ sieved_same catalog q (get d q) fits

-- a row there is one that fits
pub fitting_row_is : (catalog : List Table) (d : Tables) (q : Key) (cs : List Pair) → get (fitting_part catalog d) q ≡ Some cs → (get d q ≡ Some cs) × (row_is_well_typed catalog q cs ≡ true)
fitting_row_is catalog d q cs found = by (get d q) (sym (get_fitting catalog d q) ∙ found)
  where
    kept : (c : List Pair) (b : Bool) → row_is_well_typed catalog q c ≡ b → cond b (Some c) None ≡ Some cs → (Some c ≡ Some cs) × (row_is_well_typed catalog q cs ≡ true)
    kept c true e k = (k, subst (λ (x : List Pair). row_is_well_typed catalog q x ≡ true) (some_is c cs k) e)
    kept c false e k = none_some cs k

    by : (o : Option (List Pair)) → sieved_at (fits_catalog catalog) q o ≡ Some cs → (o ≡ Some cs) × (row_is_well_typed catalog q cs ≡ true)
    by None k = none_some cs k
    by (Some c) k = kept c (row_is_well_typed catalog q c) refl k

pub part_fits : (catalog : List Table) (d : Tables) → tables_are_well_typed catalog (fitting_part catalog d) ≡ true
part_fits catalog d =
    all_true (λ r. row_is_well_typed catalog r.key r.columns) (all_rows (fitting_part catalog d))
    (rows_there (λ q cs. row_is_well_typed catalog q cs ≡ true) (fitting_part catalog d) (λ q cs found. (fitting_row_is catalog d q cs found).1))

---- changes at a key

-- tables with one change
abbrev with_change : Keyed → Tables → Tables
with_change k d = with_row d k.key (row_of_change k.change)

-- changes leave at a key what they put there, or what was there
pub laid_at : (ks : List Keyed) (q : Key) → ((d e : Tables) → get (with_changes d ks) q ≡ get (with_changes e ks) q) ⊎ ((d : Tables) → get (with_changes d ks) q ≡ get d q)
laid_at [] q = inr (λ d. refl)
laid_at (k ∷ ks) q = by (laid_at ks q) (is_eq (key_cmp q k.key)) refl
  where
    one : (b : Bool) → is_eq (key_cmp q k.key) ≡ b → (d : Tables) → get (with_change k d) q ≡ cond b (row_of_change k.change) (get d q)
    one b e d = get-with_row d k.key (row_of_change k.change) q ∙ ap (λ x. cond x (row_of_change k.change) (get d q)) e

    by : ((d e : Tables) → get (with_changes d ks) q ≡ get (with_changes e ks) q) ⊎ ((d : Tables) → get (with_changes d ks) q ≡ get d q) → (b : Bool) → is_eq (key_cmp q k.key) ≡ b
        → ((d e : Tables) → get (with_changes (with_change k d) ks) q ≡ get (with_changes (with_change k e) ks) q) ⊎ ((d : Tables) → get (with_changes (with_change k d) ks) q ≡ get d q)
    by (inl h) b e = inl (λ d f. h (with_change k d) (with_change k f))
    by (inr h) true e = inl (λ d f. h (with_change k d) ∙ one true e d ∙ sym (h (with_change k f) ∙ one true e f))
    by (inr h) false e = inr (λ d. h (with_change k d) ∙ one false e d)

-- tables that have the same row at a key have the same there with changes over them
pub laid_same : (ks : List Keyed) (d e : Tables) (q : Key) → get d q ≡ get e q → get (with_changes d ks) q ≡ get (with_changes e ks) q
laid_same ks d e q same = by (laid_at ks q)
  where
    by : ((d e : Tables) → get (with_changes d ks) q ≡ get (with_changes e ks) q) ⊎ ((d : Tables) → get (with_changes d ks) q ≡ get d q) → get (with_changes d ks) q ≡ get (with_changes e ks) q
    by (inl h) = h d e
    by (inr h) = h d ∙ same ∙ sym (h e)

-- changes of keys that pass a test leave what is at one that doesn't
pub laid_outside : (p : Key → Bool) (ks : List Keyed) (d : Tables) (q : Key) → AllByRecursion (λ (k : Keyed). p k.key ≡ true) ks → p q ≡ false → get (with_changes d ks) q ≡ get d q
laid_outside p [] d q all none = refl
laid_outside p (k ∷ ks) d q all none =
    laid_outside p ks (with_row d k.key (row_of_change k.change)) q all.1 none
    ∙ get-with_row d k.key (row_of_change k.change) q
    ∙ by (is_eq (key_cmp q k.key)) refl
  where
    by : (b : Bool) → is_eq (key_cmp q k.key) ≡ b → cond b (row_of_change k.change) (get d q) ≡ get d q
    by true e = clash (sym all.0 ∙ ap p (sym (key_exact q k.key (equal_of (key_cmp q k.key) e))) ∙ none)
    by false e = refl

each_keyed : (p : Key → Bool) (new : Image → Change) (rows : List Image) → AllByRecursion (λ (r : Image). p r.key ≡ true) rows → AllByRecursion (λ (k : Keyed). p k.key ≡ true) (map (keyed new) rows)
each_keyed p new [] all = tt
each_keyed p new (r ∷ rows) all = (all.0, each_keyed p new rows all.1)

-- a statement changes only keys that it reads
pub changes_inside : (t : Table) (st : Statement) (rows : List Image) → AllByRecursion (λ (r : Image). in_access (access_of t st) r.key ≡ true) rows → AllByRecursion (λ (k : Keyed). in_access (access_of t st) k.key ≡ true) (changes_on t st rows)
changes_inside t (statement.Insert s) rows all = by (is_some (columns_at (key_of t s) rows))
  where
    by : (b : Bool) → AllByRecursion (λ (k : Keyed). is_eq (key_cmp (key_of t s) k.key) ≡ true) (if b then [] else put_row (key_of t s) (with_named t s.columns s.values []) ∷ [])
    by true = tt
    by false = (ap is_eq (tied_itself key_total (key_of t s)), tt)
changes_inside t (statement.Upsert s) rows all = (ap is_eq (tied_itself key_total (key_of t s)), tt)
changes_inside t (statement.Update s) rows all =
    each_keyed (in_access (access_for t s.tests)) (λ r. change.Row (with_sets t s.sets r.columns)) (filter (passes t s.tests) rows) (each_kept (λ (r : Image). in_access (access_for t s.tests) r.key ≡ true) (passes t s.tests) rows all)
changes_inside t (statement.Delete s) rows all =
    each_keyed (in_access (access_for t s.tests)) (λ r. change.Delete) (filter (passes t s.tests) rows) (each_kept (λ (r : Image). in_access (access_for t s.tests) r.key ≡ true) (passes t s.tests) rows all)
changes_inside t (statement.Select s) rows all = tt
changes_inside t statement.Begin rows all = tt
changes_inside t statement.Commit rows all = tt
changes_inside t statement.Rollback rows all = tt
changes_inside t statement.Vacuum rows all = tt

-- it leaves what is at a key that its access doesn't read
pub left_outside : (table : Table) (st : Statement) (s : Seen) (d : Tables) (q : Key) → in_access (access_of table st) q ≡ false → get (with_changes d (changes_on table st (overlay (access_of table st) s))) q ≡ get d q
left_outside table st s d q none = laid_outside (in_access (access_of table st)) (changes_on table st (overlay (access_of table st) s)) d q (changes_inside table st (overlay (access_of table st) s) (passes_all (λ (r : Image). in_access (access_of table st) r.key) (all_rows (tables_seen s)))) none

---- a statement whose access reads only rows that fit

module _ (catalog : List Table) (table : Table) (st : Statement) (s : Seen) (is : is_catalog catalog ≡ true) (named : named_table catalog st ≡ Some table) (none : first_unfit table (overlay (access_of table st) s) ≡ None) where
  abbrev rows : List Image
  rows = overlay (access_of table st) s

  abbrev changes : List Keyed
  changes = changes_on table st rows

  abbrev part : Tables
  part = fitting_part catalog (tables_seen s)

  -- a row at its access fits
  pub access_fits : (q : Key) → in_access (access_of table st) q ≡ true → RowFits catalog q (get (tables_seen s) q)
  access_fits q inside cs found =
      ap (λ (o : Option Table). option_map_or (λ t. fits_table t q cs) o false) (ap (find_table catalog) (inside_access (access_of table st) q inside ∙ own_table table st) ∙ found_itself catalog (table_of st) table named)
      ∙ found_fits table (access_of table st) (tables_seen s) q cs none inside found

  -- its access reads the same rows of the part that fits
  pub rows_fitting : rows_at (access_of table st) part ≡ rows
  rows_fitting = agree_rows (access_of table st) part (tables_seen s) (λ q inside. fitting_same catalog (tables_seen s) q (access_fits q inside))

  -- each row of its table fits it there
  pub all_fitting : all_well_typed table part ≡ true
  all_fitting = all_in_fit catalog table (all_rows part) (found_itself catalog (table_of st) table named) (part_fits catalog (tables_seen s))

  -- on the part that fits it answers as its plan does, and leaves the plan's changes
  pub exec_fitting : exec catalog st part ≡ (answer_on table st rows, with_changes part changes)
  exec_fitting =
      subst (IsExec catalog (plan_of table st) part) (ap (step_of (plan_of table st)) rows_fitting ∙ asked_gives (plan_of table st) rows None refl none)
      (fitting_is_exec catalog (plan_of table st) part (named_is_table catalog st table is named) named refl all_fitting)

  -- at a key whose row fits it leaves what its plan's changes leave over all rows
  pub exec_at : (q : Key) → RowFits catalog q (get (tables_seen s) q) → get (exec catalog st part).1 q ≡ get (with_changes (tables_seen s) changes) q
  exec_at q fits = ap (λ (x : Answer × Tables). get x.1 q) exec_fitting ∙ laid_same changes part (tables_seen s) q (fitting_same catalog (tables_seen s) q fits)

  module _ (accepted : refusal_of catalog st ≡ None) (literals : has_all_literals st ≡ true) where
    left_fits : tables_are_well_typed catalog (with_changes part changes) ≡ true
    left_fits = (answers_on catalog (plan_of table st) s is named refl accepted literals (asked_gives (plan_of table st) rows None refl none) part (part_fits catalog (tables_seen s)) rows_fitting).1

    -- a row that is left fits, or was there
    pub left_at_key : (q : Key) (cs : List Pair) → get (with_changes (tables_seen s) changes) q ≡ Some cs → (row_is_well_typed catalog q cs ≡ true) ⊎ (get (tables_seen s) q ≡ Some cs)
    left_at_key q cs found = by (laid_at changes q)
      where
        by : ((d e : Tables) → get (with_changes d changes) q ≡ get (with_changes e changes) q) ⊎ ((d : Tables) → get (with_changes d changes) q ≡ get d q) → (row_is_well_typed catalog q cs ≡ true) ⊎ (get (tables_seen s) q ≡ Some cs)
        by (inl h) = inl (fits_there catalog (with_changes part changes) q cs left_fits (h part (tables_seen s) ∙ found))
        by (inr h) = inr (sym (h (tables_seen s)) ∙ found)

    -- the part that fits of what is left has the changes over the part that fitted
    pub left_fitting : fitting_part catalog (with_changes (tables_seen s) changes) ≡ with_changes part changes
    left_fitting = same_map key_total key_exact _ _ (λ q. get_fitting catalog (with_changes (tables_seen s) changes) q ∙ by q (laid_at changes q))
      where
        by : (q : Key) → ((d e : Tables) → get (with_changes d changes) q ≡ get (with_changes e changes) q) ⊎ ((d : Tables) → get (with_changes d changes) q ≡ get d q)
            → sieved_at (fits_catalog catalog) q (get (with_changes (tables_seen s) changes) q) ≡ get (with_changes part changes) q
        by q (inl h) = ap (sieved_at (fits_catalog catalog) q) (h (tables_seen s) part) ∙ sieved_same catalog q (get (with_changes part changes) q) (λ cs found. fits_there catalog (with_changes part changes) q cs left_fits found)
        by q (inr h) = ap (sieved_at (fits_catalog catalog) q) (h (tables_seen s)) ∙ sym (get_fitting catalog (tables_seen s) q) ∙ sym (h part)

-- A statement is accepted, and the rows at its access fit.
pub record FittingStatement (catalog : List Table) (table : Table) (st : Statement) (s : Seen) : Type 0 where
  pub is : is_catalog catalog ≡ true
  pub named : named_table catalog st ≡ Some table
  pub fits : first_unfit table (overlay (access_of table st) s) ≡ None
  pub accepted : refusal_of catalog st ≡ None
  pub literals : has_all_literals st ≡ true

-- A row that it leaves fits, or was there.
pub left_fits_or_was : (catalog : List Table) (table : Table) (st : Statement) (s : Seen) → FittingStatement catalog table st s → (q : Key) (cs : List Pair)
    → get (with_changes (tables_seen s) (changes_on table st (overlay (access_of table st) s))) q ≡ Some cs → (row_is_well_typed catalog q cs ≡ true) ⊎ (get (tables_seen s) q ≡ Some cs)
left_fits_or_was catalog table st s h q cs found = left_at_key catalog table st s h.is h.named h.fits h.accepted h.literals q cs found
