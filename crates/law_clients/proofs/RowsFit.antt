-- Tables whose rows all fit, and what a plan leaves of them.
use Rattle.std.proofs.Common.{◌≡◌, Bool, true, false, not, ◌||◌, cond, List, [], ◌∷◌, map, Option, Some, None, refl, sym, ap, ap₂, subst, ◌∙◌}
use Rattle.std.specs.Prelude.{filter, is_some, unwrap_or}
use Rattle.std.specs.Option.{option_map, option_map_or}
use Rattle.std.specs.List.{list_all}
use Rattle.std.specs.Ordering.{is_eq, is_lt}
use Rattle.std.specs.Cmp.{tied_itself}
use Rattle.std.specs.FinMap.{empty, entries, entries_sorted, find as find_key, get, get-empty, get-entries, is_sorted}
use Rattle.std.specs.FinMap.Entries.{below_all}
use Rattle.std.proofs.lemmas.Bool.{and_parts}
use Rattle.law_clients.specs.Types.{Answer, Change, Event, Image, Key, Keyed, Pair, Statement, Table, TableName, Test}
use Rattle.sdb_types.specs.Order.{key_cmp, table_cmp}
use Rattle.sdb_types.proofs.Public.{and_both, and_first, and_second, by_test, key_total, less_of, some_is, table_exact, table_total, truth as true_from_T}
use Rattle.sdb_record.specs.declared.write.Change.TheVariants as change
use Rattle.sdb_record.specs.Rolls.{row_of_change}
use Rattle.sdb_schema.specs.declared.table.Column.{Column}
use Rattle.sdb_schema.specs.Added.{grown, grown_if, with_column}
use Rattle.sdb_schema.specs.Catalog.{is_called, is_catalog}
use Rattle.sdb_schema.specs.Rows.{fits_table}
use Rattle.sdb_schema.specs.Table.{has_column}
use Rattle.sdb_schema.proofs.Public.{fits_still, new_column}
use Rattle.sdb_model.specs.declared.event.Altered.TheVariants as altered
use Rattle.sdb_model.specs.declared.event.Event.TheVariants as event
use Rattle.sdb_model.specs.Catalogs.{added, catalog_after, takes_column, with_added}
use Rattle.sdb_model.proofs.Public.{find_with, same_tables, taken_by}
use Rattle.sdb_model.specs.declared.statement.Statement.TheVariants as statement
use Rattle.sdb_model.specs.Access.{rows_at, with_changes, with_row}
use Rattle.sdb_model.specs.Exec.{Tables, all_rows, find_table, is_row_of, key_of, named_table, passes, row_of_entry, table_of, with_named}
use Rattle.sdb_model.specs.Refused.{refusal_by, refusal_of, refusal_on}
use Rattle.sdb_exec.specs.declared.plan.PlanStep.TheVariants.{Finished}
use Rattle.sdb_exec.specs.Plans.{IsExec, Planned, change_is_well_typed, changes_on, columns_at, finished, first_unfit, has_all_literals, leaves_well_typed, put_row, step_of}
use Rattle.sdb_model.specs.Reads.{access_of}
use Rattle.sdb_exec.proofs.Public.{by_key, changes_fit, fitting_is_exec, get-with_row, keyed, named_is_table}
use Rattle.sdb_snapshot.specs.Seen.{Seen, overlay}
use Rattle.law_clients.specs.Body.{AnswersOn}
use Rattle.law_clients.specs.Left.{IsFitting}
use Rattle.law_clients.specs.Fitting.{row_is_well_typed, tables_are_well_typed}
use Rattle.sdb_types.specs.Exact.{equal_of}
use Rattle.sdb_model.specs.Tables.{is_data}

---- rows of tables, by their keys

abbrev pub Entries : Type 0
Entries = List (Key × List Pair)

-- a key below those of all entries has none
none_below : (x : Key) (es : Entries) → below_all key_cmp x es ≡ true → find_key key_cmp x es ≡ None
none_below x [] h = refl
none_below x (e ∷ es) h =
    let parts = and_parts (is_lt (key_cmp x e.0)) (below_all key_cmp x es) h in
    rw (less_of (key_cmp x e.0) parts.0, none_below x es parts.1) refl

later : (e : Key × List Pair) (es : Entries) (q : Key) (cs : List Pair) → below_all key_cmp e.0 es ≡ true → find_key key_cmp q es ≡ Some cs → find_key key_cmp q (e ∷ es) ≡ Some cs
later e es q cs below found =
    by_key q e (λ b. cond b (Some e.1) (find_key key_cmp q es) ≡ Some cs)
    (λ t i. absurd (let none : find_key key_cmp q es ≡ None = ap (λ k. find_key key_cmp k es) i ∙ none_below e.0 es below in cc))
    (λ t. found)

module _ (P : Key → List Pair → Bool) where
  -- a test of rows
  abbrev rows_pass : Entries → Bool
  rows_pass es = list_all (λ r. P r.key r.columns) (map row_of_entry es)

  passes_found : (es : Entries) (q : Key) (cs : List Pair) → rows_pass es ≡ true → find_key key_cmp q es ≡ Some cs → P q cs ≡ true
  passes_found [] q cs h e = absurd (cc)
  passes_found (e ∷ es) q cs h found =
      by_key q e (λ b. cond b (Some e.1) (find_key key_cmp q es) ≡ Some cs → P q cs ≡ true)
      (λ t i k. let same : e.1 ≡ cs = cc in ap₂ P i (sym same) ∙ and_first (P e.0 e.1) (rows_pass es) h)
      (λ t k. passes_found es q cs (and_second (P e.0 e.1) (rows_pass es) h) k)
      found

  found_pass : (es : Entries) → is_sorted key_cmp es ≡ true → ((q : Key) (cs : List Pair) → find_key key_cmp q es ≡ Some cs → P q cs ≡ true) → rows_pass es ≡ true
  found_pass [] h each = refl
  found_pass (e ∷ es) h each =
      let parts = and_parts (below_all key_cmp e.0 es) (is_sorted key_cmp es) h in
      and_both (P e.0 e.1) (rows_pass es) (each e.0 e.1 (rw (tied_itself key_total e.0) refl)) (found_pass es parts.1 (λ q cs found. each q cs (later e es q cs parts.0 found)))

pub fits_there : (catalog : List Table) (d : Tables) (q : Key) (cs : List Pair) → tables_are_well_typed catalog d ≡ true → get d q ≡ Some cs → row_is_well_typed catalog q cs ≡ true
fits_there catalog d q cs h found = passes_found (row_is_well_typed catalog) (entries d) q cs h (sym (get-entries d q) ∙ found)

there_fits : (catalog : List Table) (d : Tables) → ((q : Key) (cs : List Pair) → get d q ≡ Some cs → row_is_well_typed catalog q cs ≡ true) → tables_are_well_typed catalog d ≡ true
there_fits catalog d each = found_pass (row_is_well_typed catalog) (entries d) (true_from_T _ (entries_sorted d)) (λ q cs found. each q cs (get-entries d q ∙ found))

---- fitting tables

no_row : (catalog : List Table) (k : Key) (cs : List Pair) → is_some (find_table catalog k.table) ≡ false → row_is_well_typed catalog k cs ≡ true → ⊥
no_row catalog k cs h fits = by_found (find_table catalog k.table) h fits
  where
    by_found : (o : Option Table) → is_some o ≡ false → option_map_or (λ (t : Table). fits_table t k cs) o false ≡ true → ⊥
    by_found None h fits = absurd (cc)
    by_found (Some t) h fits = absurd (cc)

found_named : (ts : List Table) (name : TableName) (t : Table) → find_table ts name ≡ Some t → t.name ≡ name
found_named [] name t h = absurd (cc)
found_named (u ∷ us) name t h =
    by_test (is_eq (table_cmp u.name name))
    (λ e. let k : Some u ≡ Some t = rw e at h in let same : u ≡ t = cc in ap (λ (x : Table). x.name) (sym same) ∙ table_exact u.name name (equal_of (table_cmp u.name name) e))
    (λ e. found_named us name t (rw e at h))

-- a row that fits goes on to fit when a column is added
with_fits : (ts : List Table) (n : TableName) (c : Column) (key : Key) (cs : List Pair) → row_is_well_typed ts key cs ≡ true → row_is_well_typed (with_added ts n c) key cs ≡ true
with_fits ts n c key cs h =
    by_test (takes_column ts n c)
    (λ k. ap (λ (b : Bool). row_is_well_typed (cond b (with_column ts n c) ts) key cs) k ∙ ap (λ (o : Option Table). option_map_or (λ (t : Table). fits_table t key cs) o false) (find_with ts n c key.table) ∙ takes k (find_table ts key.table) refl h)
    (λ k. ap (λ (b : Bool). row_is_well_typed (cond b (with_column ts n c) ts) key cs) k ∙ h)
  where
    takes : takes_column ts n c ≡ true → (o : Option Table) → find_table ts key.table ≡ o → option_map_or (λ (t : Table). fits_table t key cs) o false ≡ true → option_map_or (λ (t : Table). fits_table t key cs) (option_map (grown_if n c) o) false ≡ true
    takes k None e f = f
    takes k (Some u) e f = elim (is_called n u) as (λ b. is_called n u ≡ b → fits_table (cond b (grown u c) u) key cs ≡ true) [
      | true ↦ λ q.
          let t = taken_by ts n c k in
          let named : u.name ≡ n = table_exact u.name n (equal_of (table_cmp u.name n) q) in
          let same : u ≡ t.0 = some_is u t.0 (sym e ∙ ap (find_table ts) (sym (found_named ts key.table u e) ∙ named) ∙ t.1) in
          fits_still u c key cs (subst (λ (x : Table). has_column x.columns c.name ≡ false) (sym same) (new_column t.0 c t.2)) f
      | false ↦ λ q. f
    ] refl

added_fits : (ts : List Table) (e : Event) (key : Key) (cs : List Pair) → row_is_well_typed ts key cs ≡ true → row_is_well_typed (added ts e) key cs ≡ true
added_fits ts (event.Alter table column kind altered.Done) key cs h = with_fits ts table (record { name = column; kind = kind }) key cs h
added_fits ts (event.Alter table column kind altered.Open) key cs h = h
added_fits ts (event.Alter table column kind (altered.Refused k)) key cs h = h
added_fits ts (event.Take client text answer) key cs h = h
added_fits ts (event.Call client store q how r answer) key cs h = h
added_fits ts (event.Stop client) key cs h = h
added_fits ts (event.Clock moment) key cs h = h
added_fits ts (event.Idle client) key cs h = h
added_fits ts (event.Land number store q how r) key cs h = h

pub is_fitting : (catalog : List Table) → ((k : Key) → is_some (find_table catalog k.table) ≡ true → is_data k ≡ true) → IsFitting catalog tables_are_well_typed
is_fitting catalog apart = record {
  starts = there_fits catalog empty (λ q cs found. absurd (let none : get {R = key_cmp} (empty {X = List Pair}) q ≡ None = get-empty key_cmp q in cc));
  grows = λ ts e d fit. there_fits (added ts e) d (λ q cs found. added_fits ts e q cs (fits_there ts d q cs fit found));
  inside = λ es d k fit none.
      elim (get d k) as (λ o. get d k ≡ o → o ≡ None) [
        | None ↦ λ q. refl
        | Some cs ↦ λ q. absurd (no_row (catalog_after catalog es) k cs (same_tables catalog es k.table ∙ none) (fits_there (catalog_after catalog es) d k cs fit q))
      ] refl;
  apart = apart;
}

---- changes of rows that fit

fits_with_row : (catalog : List Table) (d : Tables) (key : Key) (row : Option (List Pair)) → tables_are_well_typed catalog d ≡ true → ((cs : List Pair) → row ≡ Some cs → row_is_well_typed catalog key cs ≡ true) → tables_are_well_typed catalog (with_row d key row) ≡ true
fits_with_row catalog d key row fit new =
    there_fits catalog (with_row d key row) (λ q cs found.
    by_key q (key, []) (λ b. cond b row (get d q) ≡ Some cs → row_is_well_typed catalog q cs ≡ true) (λ t i k. ap (λ (x : Key). row_is_well_typed catalog x cs) i ∙ new cs k) (λ t k. fits_there catalog d q cs fit k)
    (sym (get-with_row d key row q) ∙ found))

-- a change of a row of the table, which leaves one that fits
abbrev is_in : Table → Keyed → Bool
is_in t k = is_eq (table_cmp k.key.table t.name)

change_row_fits : (catalog : List Table) (t : Table) (key : Key) (c : Change) (cs : List Pair) → find_table catalog t.name ≡ Some t → is_eq (table_cmp key.table t.name) ≡ true → leaves_well_typed t key c ≡ true → row_of_change c ≡ Some cs → row_is_well_typed catalog key cs ≡ true
change_row_fits catalog t key (change.Row columns) cs found named fits e =
    let same : columns ≡ cs = cc in
    let there : find_table catalog key.table ≡ Some t = ap (find_table catalog) (table_exact key.table t.name (equal_of (table_cmp key.table t.name) named)) ∙ found in
    ap (λ (o : Option Table). option_map_or (λ (u : Table). fits_table u key cs) o false) there ∙ ap (fits_table t key) (sym same) ∙ fits
change_row_fits catalog t key change.Delete cs found named fits e = absurd (cc)

fits_with_changes : (catalog : List Table) (t : Table) (ks : List Keyed) (d : Tables) → find_table catalog t.name ≡ Some t → list_all (is_in t) ks ≡ true → list_all (change_is_well_typed t) ks ≡ true → tables_are_well_typed catalog d ≡ true → tables_are_well_typed catalog (with_changes d ks) ≡ true
fits_with_changes catalog t [] d found named fits fit = fit
fits_with_changes catalog t (k ∷ ks) d found named fits fit =
    fits_with_changes catalog t ks (with_row d k.key (row_of_change k.change)) found (and_second (is_in t k) _ named) (and_second (change_is_well_typed t k) _ fits)
    (fits_with_row catalog d k.key (row_of_change k.change) fit (λ cs e. change_row_fits catalog t k.key k.change cs found (and_first (is_in t k) _ named) (and_first (change_is_well_typed t k) _ fits) e))

---- a plan's changes are of rows of its table

itself : (t : Table) → is_eq (table_cmp t.name t.name) ≡ true
itself t = ap is_eq (tied_itself table_total t.name)

passing_in : (t : Table) (ts : List Test) (new : Image → Change) (rows : List Image) → list_all (is_in t) (map (keyed new) (filter (passes t ts) rows)) ≡ true
passing_in t ts new [] = refl
passing_in t ts new (r ∷ rows) =
    by_test (passes t ts r)
    (λ q. rw q (and_both (is_row_of t r) (list_all (is_in t) (map (keyed new) (filter (passes t ts) rows))) (and_first (is_row_of t r) _ q) (passing_in t ts new rows)))
    (λ q. rw q (passing_in t ts new rows))

one_in : (t : Table) (k : Keyed) → is_in t k ≡ true → list_all (is_in t) (k ∷ []) ≡ true
one_in t k h = and_both (is_in t k) true h refl

changes_in : (t : Table) (s : Statement) (rows : List Image) → list_all (is_in t) (changes_on t s rows) ≡ true
changes_in t (statement.Insert s) rows = by_test (is_some (columns_at (key_of t s) rows)) (λ q. rw q refl) (λ q. rw q (one_in t (put_row (key_of t s) (with_named t s.columns s.values [])) (itself t)))
changes_in t (statement.Upsert s) rows = one_in t (put_row (key_of t s) (with_named t s.columns s.values (unwrap_or (columns_at (key_of t s) rows) []))) (itself t)
changes_in t (statement.Update s) rows = passing_in t s.tests _ rows
changes_in t (statement.Delete s) rows = passing_in t s.tests _ rows
changes_in t (statement.Select s) rows = refl
changes_in t statement.Begin rows = refl
changes_in t statement.Commit rows = refl
changes_in t statement.Rollback rows = refl
changes_in t statement.Vacuum rows = refl

---- what a plan gives

none_unfit : (t : Table) (rows : List Image) → first_unfit t rows ≡ None → list_all (λ r. fits_table t r.key r.columns) rows ≡ true
none_unfit t [] h = refl
none_unfit t (r ∷ rows) h =
    by_test (fits_table t r.key r.columns)
    (λ q. and_both (fits_table t r.key r.columns) (list_all (λ x. fits_table t x.key x.columns) rows) q (none_unfit t rows (rw q at h)))
    (λ q. absurd (let k = rw q at h in cc))

pub found_itself : (catalog : List Table) (o : Option TableName) (t : Table) → option_map_or (find_table catalog) o None ≡ Some t → find_table catalog t.name ≡ Some t
found_itself catalog None t h = absurd (cc)
found_itself catalog (Some name) t h = ap (find_table catalog) (found_named catalog name t h) ∙ h

-- where all rows fit, those of a table do
pub all_in_fit : (catalog : List Table) (t : Table) (rows : List Image) → find_table catalog t.name ≡ Some t → list_all (λ r. row_is_well_typed catalog r.key r.columns) rows ≡ true → list_all (λ r. not (is_row_of t r) || fits_table t r.key r.columns) rows ≡ true
all_in_fit catalog t [] found h = refl
all_in_fit catalog t (r ∷ rows) found h =
    let rest = all_in_fit catalog t rows found (and_second (row_is_well_typed catalog r.key r.columns) _ h) in
    by_test (is_row_of t r)
    (λ q.
    let there : find_table catalog r.key.table ≡ Some t = ap (find_table catalog) (table_exact r.key.table t.name (equal_of (table_cmp r.key.table t.name) q)) ∙ found in
    let fits : fits_table t r.key r.columns ≡ true = sym (ap (λ (o : Option Table). option_map_or (λ (u : Table). fits_table u r.key r.columns) o false) there) ∙ and_first (row_is_well_typed catalog r.key r.columns) _ h in
    rw (q, fits) rest)
    (λ q. rw q rest)

pub done_is : (b c : Answer) (ks ls : List Keyed) → Finished b ks ≡ Finished c ls → ks ≡ ls
done_is b c ks ls e = cc

-- the tables that it leaves fit
left_fit : (catalog : List Table) (p : Planned) (rows : List Image) (b : Answer) (ks : List Keyed) (e : Tables) → find_table catalog p.table.name ≡ Some p.table → p.asked ≡ true → refusal_on p.table p.statement ≡ None → has_all_literals p.statement ≡ true
    → step_of p rows ≡ Finished b ks → tables_are_well_typed catalog e ≡ true → tables_are_well_typed catalog (with_changes e ks) ≡ true
left_fit catalog p rows b ks e found asked accepted literals step fit =
    elim (first_unfit p.table rows) as (λ o. first_unfit p.table rows ≡ o → finished p.table p.statement rows o ≡ Finished b ks → tables_are_well_typed catalog (with_changes e ks) ≡ true) [
      | None ↦ λ q k.
          subst (λ (l : List Keyed). tables_are_well_typed catalog (with_changes e l) ≡ true) (done_is _ b _ ks k)
          (fits_with_changes catalog p.table (changes_on p.table p.statement rows) e found (changes_in p.table p.statement rows) (changes_fit p.table p.statement rows literals accepted (none_unfit p.table rows q)) fit)
      | Some key ↦ λ q k. subst (λ (l : List Keyed). tables_are_well_typed catalog (with_changes e l) ≡ true) (done_is _ b [] ks k) fit
    ] refl (rw asked at step)

pub answers_on : (catalog : List Table) (p : Planned) (seen : Seen) {b : Answer} {ks : List Keyed} → is_catalog catalog ≡ true → named_table catalog p.statement ≡ Some p.table → p.asked ≡ true → refusal_of catalog p.statement ≡ None → has_all_literals p.statement ≡ true
    → step_of p (overlay (access_of p.table p.statement) seen) ≡ Finished b ks → AnswersOn catalog (tables_are_well_typed catalog) seen p.statement (access_of p.table p.statement) b ks
answers_on catalog p seen {b} {ks} is named asked accepted literals step e fit rows =
    let found : find_table catalog p.table.name ≡ Some p.table = found_itself catalog (table_of p.statement) p.table named in
    let run : IsExec catalog p e (step_of p (rows_at (access_of p.table p.statement) e)) = fitting_is_exec catalog p e (named_is_table catalog p.statement p.table is named) named asked (all_in_fit catalog p.table (all_rows e) found fit) in
    let same : step_of p (rows_at (access_of p.table p.statement) e) ≡ Finished b ks = ap (step_of p) rows ∙ step in
    let on_table : refusal_on p.table p.statement ≡ None = sym (ap (λ (o : Option Table). refusal_by o p.statement) named) ∙ accepted in
    (subst (IsExec catalog p e) same run, left_fit catalog p (overlay (access_of p.table p.statement) seen) b ks e found asked on_table literals step fit)
