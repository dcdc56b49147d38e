-- What a statement makes of the row at one key, and rows that it is answered, which its transaction sees.
use Rattle.std.proofs.Common.{◌≡◌, ℕ, ℤ, Bool, true, false, not, cond, List, [], ◌∷◌, ◌++◌, map, take, drop, length, Option, Some, None, refl, sym, ap, subst, ◌∙◌}
use Rattle.std.specs.Prelude.{if◌then◌else◌, filter, find, fold, is_some, take_while, unwrap_or}
use Rattle.std.specs.List.{AllByRecursion}
use Rattle.std.specs.Option.{option_map}
use Rattle.std.specs.Ordering.{is_eq, is_lt}
use Rattle.std.specs.Cmp.{tied_itself}
use Rattle.std.specs.FinMap.{entries, get, get-empty, get-entries, get-from_entries, get-insert, insert}
use Rattle.std.proofs.lemmas.List.Elements.{All-drop, All-from_recursion, All-take, recursion_from_All}
use Rattle.law_answers.specs.Types.{Access, Image, Key, Keyed, Pair, Select, Statement, Table, Update, Value}
use Rattle.sdb_types.specs.Exact.{equal_of}
use Rattle.sdb_types.specs.Order.{key_cmp}
use Rattle.sdb_types.proofs.Public.{append_all, by_test, clash, key_exact, key_total}
use Rattle.sdb_schema.specs.Catalog.{is_catalog}
use Rattle.sdb_schema.specs.Order.{row_key_cmp}
use Rattle.sdb_model.specs.declared.answer.Answer.TheVariants as answer
use Rattle.sdb_model.specs.declared.statement.Statement.TheVariants as statement
use Rattle.sdb_model.specs.Access.{in_access}
use Rattle.sdb_model.specs.Exec.{Tables, all_rows, cut, entry_of_row, exec, exec_in, key_of, left_by, named_table, nat_of, passes, placed, projected, sorted, updated, with_named, with_sets}
use Rattle.sdb_model.specs.DirtyReads.{one_row, row_left}
use Rattle.sdb_exec.specs.Plans.{answer_on, changes_on, columns_at, first_unfit}
use Rattle.sdb_model.specs.Reads.{access_of}
use Rattle.sdb_exec.proofs.Public.{find-mapped, find-sieved, mapped_at, ordered, sieved_at}
use Rattle.sdb_snapshot.specs.Seen.{Seen, overlay, row_seen, tables_seen}
use Rattle.sdb_snapshot.specs.Written.{with_writes}
use Rattle.sdb_snapshot.proofs.Public.{get_seen}
use Rattle.law_answers.specs.Unfit.{fits_if_any, fitting_part}
use Rattle.law_answers.proofs.Fitting.{RowFits, access_fits, exec_at, fitting_same, left_outside, rows_there}
use Rattle.law_clients.proofs.Public.{found_so}
use Rattle.law_clients.proofs.Public.{passes_all}
use Rattle.law_answers.proofs.Lists.{each_kept}
use Rattle.law_answers.proofs.Unfit.{find_true, row_written}

---- what a statement leaves at a key

-- by the row that was there
abbrev left_at : Table → Statement → Key → Option (List Pair) → Option (List Pair)
left_at t (statement.Insert s) q o = cond (is_eq (key_cmp q (key_of t s))) (if is_some o then o else Some (with_named t s.columns s.values [])) o
left_at t (statement.Upsert s) q o = cond (is_eq (key_cmp q (key_of t s))) (Some (with_named t s.columns s.values (unwrap_or o []))) o
left_at t (statement.Update s) q o = mapped_at (updated t s) q o
left_at t (statement.Delete s) q o = sieved_at (λ r. not (passes t s.tests r)) q o
left_at t (statement.Select s) q o = o
left_at t statement.Begin q o = o
left_at t statement.Commit q o = o
left_at t statement.Rollback q o = o
left_at t statement.Vacuum q o = o

tied : (q k : Key) → is_eq (key_cmp q k) ≡ true → q ≡ k
tied q k t = key_exact q k (equal_of (key_cmp q k) t)

inserted_at : (d : Tables) (k : Key) (c : List Pair) (q : Key) → get (if is_some (get d k) then d else insert d k c) q ≡ cond (is_eq (key_cmp q k)) (if is_some (get d q) then get d q else Some c) (get d q)
inserted_at d k c q = by (is_some (get d k)) (is_eq (key_cmp q k)) refl refl
  where
    same : (b : Bool) → is_some (get d k) ≡ b → is_eq (key_cmp q k) ≡ true → is_some (get d q) ≡ b
    same b e f = ap (λ (x : Key). is_some (get d x)) (tied q k f) ∙ e

    by : (b t : Bool) → is_some (get d k) ≡ b → is_eq (key_cmp q k) ≡ t → get (if b then d else insert d k c) q ≡ cond t (if is_some (get d q) then get d q else Some c) (get d q)
    by true true e f = sym (ap (λ z. if z then get d q else Some c) (same true e f))
    by true false e f = refl
    by false true e f = get-insert key_total d k c q ∙ ap (λ z. cond z (Some c) (get d q)) f ∙ sym (ap (λ z. if z then get d q else Some c) (same false e f))
    by false false e f = get-insert key_total d k c q ∙ ap (λ z. cond z (Some c) (get d q)) f

put_at : (k : Key) (f : Option (List Pair) → List Pair) (d : Tables) (q : Key) → get (insert d k (f (get d k))) q ≡ cond (is_eq (key_cmp q k)) (Some (f (get d q))) (get d q)
put_at k f d q = get-insert key_total d k (f (get d k)) q ∙ by (is_eq (key_cmp q k)) refl
  where
    by : (b : Bool) → is_eq (key_cmp q k) ≡ b → cond b (Some (f (get d k))) (get d q) ≡ cond b (Some (f (get d q))) (get d q)
    by true e = ap (λ (x : Key). Some (f (get d x))) (sym (tied q k e))
    by false e = refl

keeps_key : (t : Table) (s : Update) (r : Image) → (updated t s r).key ≡ r.key
keeps_key t s r = by (passes t s.tests r)
  where
    by : (b : Bool) → (if b then record { key = r.key; columns = with_sets t s.sets r.columns } else r).key ≡ r.key
    by true = refl
    by false = refl

left_is : (t : Table) (st : Statement) (d : Tables) (q : Key) → get (left_by t st d) q ≡ left_at t st q (get d q)
left_is t (statement.Insert s) d q = inserted_at d (key_of t s) (with_named t s.columns s.values []) q
left_is t (statement.Upsert s) d q = put_at (key_of t s) (λ o. with_named t s.columns s.values (unwrap_or o [])) d q
left_is t (statement.Update s) d q = get-from_entries key_total (map entry_of_row (map (updated t s) (all_rows d))) q ∙ find-mapped (updated t s) (keeps_key t s) (entries d) q ∙ ap (mapped_at (updated t s) q) (sym (get-entries d q))
left_is t (statement.Delete s) d q =
    get-from_entries key_total (map entry_of_row (filter (λ r. not (passes t s.tests r)) (all_rows d))) q
    ∙ find-sieved (λ r. not (passes t s.tests r)) (entries d) q (ordered d)
    ∙ ap (sieved_at (λ r. not (passes t s.tests r)) q) (sym (get-entries d q))
left_is t (statement.Select s) d q = refl
left_is t statement.Begin d q = refl
left_is t statement.Commit d q = refl
left_is t statement.Rollback d q = refl
left_is t statement.Vacuum d q = refl

exec_left : (catalog : List Table) (t : Table) (st : Statement) (d : Tables) (q : Key) → named_table catalog st ≡ Some t → get (exec catalog st d).1 q ≡ left_at t st q (get d q)
exec_left catalog t st d q named = ap (λ (o : Option Table). get (exec_in o st d).1 q) named ∙ left_is t st d q

-- tables with one row at most have it at its key
get_one : (key : Key) (o : Option (List Pair)) → get (one_row key o) key ≡ o
get_one key None = get-empty key_cmp key
get_one key (Some c) = get-insert key_total (one_row key None) key c key ∙ ap (λ b. cond b (Some c) (get (one_row key None) key)) (ap is_eq (tied_itself key_total key))

---- on the rows that a transaction sees

-- a row fits, or there is none
fits_any : (catalog : List Table) (key : Key) (o : Option (List Pair)) → RowFits catalog key o → fits_if_any catalog key o ≡ true
fits_any catalog key None fits = refl
fits_any catalog key (Some cs) fits = fits cs refl

module _ (catalog : List Table) (table : Table) (st : Statement) (s : Seen) (is : is_catalog catalog ≡ true) (named : named_table catalog st ≡ Some table) (none : first_unfit table (overlay (access_of table st) s) ≡ None) (key : Key) where
  abbrev changes : List Keyed
  changes = changes_on table st (overlay (access_of table st) s)

  abbrev row : Option (List Pair)
  row = row_seen s.read_set s.writes key

  abbrev row_after : Option (List Pair)
  row_after = row_seen s.read_set (with_writes s.read_set s.writes changes) key

  -- What the statement makes of a row that fits, or of none, at the key is the row that is seen there with its changes.
  pub one_row_left : fits_if_any catalog key row ≡ true → row_left catalog st key row ≡ row_after
  one_row_left fits =
      exec_left catalog table st (one_row key row) key named
      ∙ ap (left_at table st key) (get_one key row ∙ sym (get_seen s.read_set s.writes key) ∙ sym (fitting_same catalog (tables_seen s) key row_fits))
      ∙ sym (exec_left catalog table st (fitting_part catalog (tables_seen s)) key named)
      ∙ exec_at catalog table st s is named none key row_fits
      ∙ sym (row_written s changes key)
    where
      row_fits : RowFits catalog key (get (tables_seen s) key)
      row_fits cs e = sym (ap (fits_if_any catalog key) (sym (get_seen s.read_set s.writes key) ∙ e)) ∙ fits

  -- a row that doesn't fit stays as it is
  pub fits_before : fits_if_any catalog key row_after ≡ true → fits_if_any catalog key row ≡ true
  fits_before after =
      by_test (in_access (access_of table st) key)
      (λ inside. fits_any catalog key row (λ cs e. access_fits catalog table st s is named none key inside cs (get_seen s.read_set s.writes key ∙ e)))
      (λ outside. ap (fits_if_any catalog key) (sym (row_written s changes key ∙ left_outside table st s (tables_seen s) key outside ∙ get_seen s.read_set s.writes key)) ∙ after)

---- rows that are answered

-- a row is seen at a key of an access
abbrev pub IsSeen : Access → Seen → Image → Type 0
IsSeen a s r = (row_seen s.read_set s.writes r.key ≡ Some r.columns) × (in_access a r.key ≡ true)

both_so : (P Q : Image → Type 0) (rs : List Image) → AllByRecursion P rs → AllByRecursion Q rs → AllByRecursion (λ (r : Image). P r × Q r) rs
both_so P Q [] ps qs = tt
both_so P Q (r ∷ rs) ps qs = ((ps.0, qs.0), both_so P Q rs ps.1 qs.1)

all_seen : (a : Access) (s : Seen) → AllByRecursion (IsSeen a s) (overlay a s)
all_seen a s =
    both_so (λ (r : Image). row_seen s.read_set s.writes r.key ≡ Some r.columns) (λ (r : Image). in_access a r.key ≡ true) (overlay a s)
    (each_kept (λ (r : Image). row_seen s.read_set s.writes r.key ≡ Some r.columns) (λ r. in_access a r.key) (all_rows (tables_seen s)) (rows_there (λ q cs. row_seen s.read_set s.writes q ≡ Some cs) (tables_seen s) (λ q cs found. sym (get_seen s.read_set s.writes q) ∙ found)))
    (passes_all (λ (r : Image). in_access a r.key) (all_rows (tables_seen s)))

all_taken : (P : Image → Type 0) (n : ℕ) (rs : List Image) → AllByRecursion P rs → AllByRecursion P (take n rs)
all_taken P n rs all = recursion_from_All P (take n rs) (All-take P n rs (All-from_recursion P rs all))

all_dropped : (P : Image → Type 0) (n : ℕ) (rs : List Image) → AllByRecursion P rs → AllByRecursion P (drop n rs)
all_dropped P n rs all = recursion_from_All P (drop n rs) (All-drop P n rs (All-from_recursion P rs all))

all_placed : (P : Image → Type 0) (n : ℕ) (rs : List Image) (r : Image) → AllByRecursion P rs → P r → AllByRecursion P (take n rs ++ r ∷ drop n rs)
all_placed P n rs r all p = append_all P (take n rs) (r ∷ drop n rs) (all_taken P n rs all) (p, all_dropped P n rs all)

all_sorted : (P : Image → Type 0) (t : Table) (rs before : List Image) → AllByRecursion P before → AllByRecursion P rs → AllByRecursion P (fold (placed t) before rs)
all_sorted P t [] before h all = h
all_sorted P t (r ∷ rs) before h all = all_sorted P t rs (placed t before r) (all_placed P (length (take_while (λ x. is_lt (row_key_cmp t x.key r.key)) before)) before r h all.0) all.1

all_cut : (P : Image → Type 0) (n : Option ℤ) (rs : List Image) → AllByRecursion P rs → AllByRecursion P (cut n rs)
all_cut P None rs all = all
all_cut P (Some n) rs all = all_taken P (nat_of n) rs all

no_rows : (b : Bool) (k : Key) (n : ℕ) (rows : List (List Value)) → (if b then answer.Duplicate k else answer.Count n) ≡ answer.Rows rows → ⊥
no_rows true k n rows e = absurd (cc)
no_rows false k n rows e = absurd (cc)

-- rows that a SELECT is answered are rows that are seen
pub rows_told : (table : Table) (st : Statement) (a : Access) (s : Seen) (rows : List (List Value)) → answer_on table st (overlay a s) ≡ answer.Rows rows
    → (select : Select) × (images : List Image) × (st ≡ statement.Select select) × (rows ≡ map (projected table select.columns) images) × AllByRecursion (IsSeen a s) images
rows_told t (statement.Insert i) a s rows e = absurd (no_rows (is_some (columns_at (key_of t i) (overlay a s))) (key_of t i) 1 rows e)
rows_told t (statement.Upsert i) a s rows e = absurd (cc)
rows_told t (statement.Update u) a s rows e = absurd (cc)
rows_told t (statement.Delete d) a s rows e = absurd (cc)
rows_told t (statement.Select x) a s rows e =
    let are : map (projected t x.columns) (cut x.limit (sorted t (filter (passes t x.tests) (overlay a s)))) ≡ rows = cc in (
      x,
      cut x.limit (sorted t (filter (passes t x.tests) (overlay a s))),
      refl,
      sym are,
      all_cut (IsSeen a s) x.limit (sorted t (filter (passes t x.tests) (overlay a s))) (all_sorted (IsSeen a s) t (filter (passes t x.tests) (overlay a s)) [] tt (each_kept (IsSeen a s) (passes t x.tests) (overlay a s) (all_seen a s))),
    )
rows_told t statement.Begin a s rows e = absurd (cc)
rows_told t statement.Commit a s rows e = absurd (cc)
rows_told t statement.Rollback a s rows e = absurd (cc)
rows_told t statement.Vacuum a s rows e = absurd (cc)

-- a row is seen at a key of an access where one is found there
abbrev SeenAt : Access → Seen → Key → Type 0
SeenAt a s k = (columns : List Pair) × (row_seen s.read_set s.writes k ≡ Some columns) × (in_access a k ≡ true)

seen_at : (a : Access) (s : Seen) (k : Key) → is_some (columns_at k (overlay a s)) ≡ true → SeenAt a s k
seen_at a s k some = by (find (λ r. is_eq (key_cmp k r.key)) (overlay a s)) refl some
  where
    here : (r : Image) → find (λ x. is_eq (key_cmp k x.key)) (overlay a s) ≡ Some r → k ≡ r.key → IsSeen a s r → SeenAt a s k
    here r e same seen = (r.columns, ap (row_seen s.read_set s.writes) same ∙ seen.0, ap (in_access a) same ∙ seen.1)

    by : (o : Option Image) → find (λ r. is_eq (key_cmp k r.key)) (overlay a s) ≡ o → is_some (option_map (λ (r : Image). r.columns) o) ≡ true → SeenAt a s k
    by None e h = clash (sym h)
    by (Some r) e h = here r e (tied k r.key (find_true (λ x. is_eq (key_cmp k x.key)) (overlay a s) r e)) (found_so (IsSeen a s) (λ x. is_eq (key_cmp k x.key)) (overlay a s) r (all_seen a s) e)

-- and so is one at the key of a Duplicate
pub key_told : (table : Table) (st : Statement) (a : Access) (s : Seen) (key : Key) → answer_on table st (overlay a s) ≡ answer.Duplicate key → (columns : List Pair) × (row_seen s.read_set s.writes key ≡ Some columns) × (in_access a key ≡ true)
key_told t (statement.Insert i) a s key e = by (is_some (columns_at (key_of t i) (overlay a s))) refl e
  where
    by : (b : Bool) → is_some (columns_at (key_of t i) (overlay a s)) ≡ b → (if b then answer.Duplicate (key_of t i) else answer.Count 1) ≡ answer.Duplicate key → SeenAt a s key
    by true some h =
        let same : key_of t i ≡ key = cc in
        subst (SeenAt a s) same (seen_at a s (key_of t i) some)
    by false some h = absurd (cc)
key_told t (statement.Upsert i) a s key e = absurd (cc)
key_told t (statement.Update u) a s key e = absurd (cc)
key_told t (statement.Delete d) a s key e = absurd (cc)
key_told t (statement.Select x) a s key e = absurd (cc)
key_told t statement.Begin a s key e = absurd (cc)
key_told t statement.Commit a s key e = absurd (cc)
key_told t statement.Rollback a s key e = absurd (cc)
key_told t statement.Vacuum a s key e = absurd (cc)
