-- The tests of answers hold exactly where the rows that answers show are rows that the transaction has.
use Rattle.std.proofs.Common.{◌≡◌, ℕ, Bool, true, false, List, [], ◌∷◌, map, Option, Some, None, inl, refl, sym, ap, subst, ◌∙◌}
use Rattle.std.specs.Prelude.{◌↔◌, Contains, IsTrue}
use Rattle.std.specs.Cmp.{tied_itself}
use Rattle.std.specs.Cmp.Lexicographic.{lists_total, slice_cmp}
use Rattle.std.specs.FinMap.{slice_cmp-IsAntisymmetric}
use Rattle.std.specs.List.{AllByRecursion, list_all, list_any}
use Rattle.std.specs.Option.{option_map_or}
use Rattle.std.specs.Ordering.{is_eq}
use Rattle.check_answers.specs.Types.{Answer, Event, Image, Key, Pair, Select, Statement, Table, TxId, Value}
use Rattle.sdb_types.specs.Exact.{equal_of}
use Rattle.sdb_types.specs.Order.{value_cmp}
use Rattle.sdb_types.specs.ValueLaws.{value_exact, value_total}
use Rattle.sdb_types.proofs.Public.{all_each, and_both as both, and_first as left, clash}
use Rattle.sdb_model.specs.declared.answer.Answer.TheVariants as answer
use Rattle.sdb_model.specs.declared.statement.Statement.TheVariants as statement
use Rattle.sdb_model.specs.Exec.{find_table, projected}
use Rattle.sdb_model.specs.DirtyReads.{HasRow, KeyHasRow, AnswersAreOf, RowsAreOf}
use Rattle.sdb_model.specs.Transactions.{Executed, client_of, statements_of}
use Rattle.check_protocol.proofs.Public.{all_each as each_in, any_some, each_all, In, right, some_any}
use Rattle.check_answers.proofs.Finds.{contains_in, in_contains}
use Rattle.check_answers.specs.declared.stores.Stores.{Stores}
use Rattle.check_answers.specs.declared.turn.Turn.{Turn}
use Rattle.check_answers.specs.All.{HasTransactionNoDirtyReads}
use Rattle.sdb_model.specs.Catalogs.{catalog_after}
use Rattle.sdb_contents.specs.Commits.{executed_of}
use Rattle.sdb_model.specs.Causes.{before}
use Rattle.check_answers.specs.Rows.{all_keys, answer_is_of, had, had_at, rows_are_of, same_values, select_is_of, some_had, statement_is_of}
use Rattle.check_answers.specs.Turns.{AreTurns, IsTurn}
use Rattle.check_answers.proofs.HadLaws.{IsHad, Was, had_is, is_had}
use Rattle.check_answers.proofs.KeyLaws.{key_found}
use Rattle.check_answers.proofs.Members.{flat_in, in_flat}
use Rattle.check_answers.proofs.TurnLaws.{found_turn, turn_found}

---- rows that images show

values_are : (a b : List Value) → same_values a b ≡ true → a ≡ b
values_are a b h = slice_cmp-IsAntisymmetric value_exact a b (equal_of (slice_cmp value_cmp a b) h)

are_values : (a b : List Value) → a ≡ b → same_values a b ≡ true
are_values a b e = ap (same_values a) (sym e) ∙ ap is_eq (tied_itself (lists_total value_total) a)

module _ (t : Table) (columns : Option (List (List ℕ))) (images : List Image) where
  abbrev shows : List Value → Image → Bool
  shows row image = same_values (projected t columns image) row

  rows_are : (P : Image → Type 0) → ((i : Image) → In images i → P i) → (rows : List (List Value)) → rows_are_of t columns rows images ≡ true → (some : List Image) × (rows ≡ map (projected t columns) some) × AllByRecursion P some
  rows_are P f [] h = ([], refl, tt)
  rows_are P f (row ∷ rows) h =
      let r = any_some (shows row) images (left (list_any (shows row) images) (rows_are_of t columns rows images) h) in
      let more = rows_are P f rows (right (list_any (shows row) images) (rows_are_of t columns rows images) h) in
      (r.0 ∷ more.0, one (projected t columns r.0) row rows (map (projected t columns) more.0) (values_are (projected t columns r.0) row r.2) more.1, (f r.0 r.1, more.2))
    where
      one : (a b : List Value) (xs ys : List (List Value)) → a ≡ b → xs ≡ ys → b ∷ xs ≡ a ∷ ys
      one a b xs ys e k = λ i. sym e i ∷ k i

  are_rows : (some : List Image) → AllByRecursion (In images) some → rows_are_of t columns (map (projected t columns) some) images ≡ true
  are_rows [] all = refl
  are_rows (i ∷ is) all = both (list_any (shows (projected t columns i)) images) (rows_are_of t columns (map (projected t columns) is) images) (some_any (shows (projected t columns i)) images i all.0 (are_values (projected t columns i) (projected t columns i) refl)) (are_rows is all.1)

---- what single answers show

module _ (catalog : List Table) (x : Stores) (events : List Event) (id : TxId) (ts : List Turn) (turns : AreTurns events (client_of id) (statements_of events id) ts) where
  abbrev all : List Executed
  all = statements_of events id

  -- the tables with which a statement was accepted
  abbrev then : Executed → List Table
  then s = catalog_after catalog (before s events)

  abbrev Has : Executed → Key → Option (List Pair) → Type 0
  Has s key row = HasRow catalog (Was x events (client_of id)) events id s key row

  abbrev Had : Executed → Key → List Pair → Type 0
  Had s key columns = IsHad (then s) x events (client_of id) all s key columns

  has_of : (s : Executed) (key : Key) (columns : List Pair) → Had s key columns → Has s key (Some columns)
  has_of s key columns h = record {
    first = h.first;
    earlier = h.earlier;
    changing = h.changing;
    later = h.later;
    sts = h.sts;
    base = h.base;
    parts = h.parts;
    begins = h.begins;
    finished = h.finished;
    observed = h.observed;
    read = h.read;
    made = h.made;
  }

  of_has : (s : Executed) (key : Key) (columns : List Pair) → Has s key (Some columns) → Had s key columns
  of_has s key columns h = record {
    first = h.first;
    earlier = h.earlier;
    changing = h.changing;
    later = h.later;
    sts = h.sts;
    base = h.base;
    parts = h.parts;
    begins = h.begins;
    finished = h.finished;
    observed = h.observed;
    read = h.read;
    made = h.made;
  }

  abbrev keys : Executed → List Key
  keys s = all_keys (then s) x ts

  abbrev images : Executed → List Image
  images s = had (then s) x s (keys s) ts

  image_is : (s : Executed) (i : Image) → In (images s) i → Has s i.key (Some i.columns)
  image_is s i k =
      let r = in_flat (λ key. had_at (then s) x s key ts) (keys s) i k in
      let h = had_is (then s) x events (client_of id) s r.0 all ts i turns r.2 in
      subst (λ key. Has s key (Some i.columns)) (sym h.0) (has_of s r.0 i.columns h.1)

  is_image : (s : Executed) (i : Image) → Has s i.key (Some i.columns) → In (images s) i
  is_image s i h =
      let k = of_has s i.key i.columns h in
      flat_in (λ key. had_at (then s) x s key ts) (keys s) i.key i (key_found (then s) x events (client_of id) s i.key all ts i.columns turns k) (is_had (then s) x events (client_of id) s i.key all ts i.columns turns k)

  abbrev Rows : Executed → List (List Value) → Type 0
  Rows s rows = RowsAreOf catalog (Was x events (client_of id)) events id s rows

  module _ (s : Executed) (t : Turn) (h : IsTurn events (client_of id) s t) (rows : List (List Value)) where
    by_select : (select : Select) → t.statement ≡ Some (statement.Select select) → select_is_of (then s) select rows (images s) ≡ true → Rows s rows
    by_select select e g = by (find_table (then s) select.table) refl g
      where
        by : (o : Option Table) → find_table (then s) select.table ≡ o → option_map_or (λ (u : Table). rows_are_of u select.columns rows (images s)) o false ≡ true → Rows s rows
        by None f k = clash (sym k)
        by (Some u) f k =
            let r = rows_are u select.columns (images s) (λ i. Has s i.key (Some i.columns)) (image_is s) rows k in
            (u, select, r.0, (h.read (statement.Select select)).1 e, f, r.1, r.2)

    rows_by : (o : Option Statement) → t.statement ≡ o → statement_is_of (then s) o rows (images s) ≡ true → Rows s rows
    rows_by None e g = clash (sym g)
    rows_by (Some (statement.Select select)) e g = by_select select e g
    rows_by (Some (statement.Insert i)) e g = clash (sym g)
    rows_by (Some (statement.Upsert i)) e g = clash (sym g)
    rows_by (Some (statement.Update u)) e g = clash (sym g)
    rows_by (Some (statement.Delete d)) e g = clash (sym g)
    rows_by (Some statement.Begin) e g = clash (sym g)
    rows_by (Some statement.Commit) e g = clash (sym g)
    rows_by (Some statement.Rollback) e g = clash (sym g)
    rows_by (Some statement.Vacuum) e g = clash (sym g)

    by_rows : Rows s rows → statement_is_of (then s) t.statement rows (images s) ≡ true
    by_rows (u, select, some, reads, f, e, each) =
        ap (λ o. statement_is_of (then s) o rows (images s)) ((h.read (statement.Select select)).0 reads)
        ∙ ap (λ (o : Option Table). option_map_or (λ (v : Table). rows_are_of v select.columns rows (images s)) o false) f
        ∙ ap (λ z. rows_are_of u select.columns z (images s)) e
        ∙ are_rows u select.columns (images s) some (all_each (λ i. Has s i.key (Some i.columns)) (In (images s)) some (is_image s) each)

  key_by : (s : Executed) (key : Key) → some_had (had_at (then s) x s key ts) ≡ true → KeyHasRow catalog (Was x events (client_of id)) events id s key
  key_by s key g = by (had_at (then s) x s key ts) refl g
    where
      by : (is : List Image) → had_at (then s) x s key ts ≡ is → some_had is ≡ true → KeyHasRow catalog (Was x events (client_of id)) events id s key
      by [] e k = clash (sym k)
      by (i ∷ is) e k = (i.columns, has_of s key i.columns (had_is (then s) x events (client_of id) s key all ts i turns (subst (λ z. In z i) (sym e) (inl refl))).1)

  by_key : (s : Executed) (key : Key) → KeyHasRow catalog (Was x events (client_of id)) events id s key → some_had (had_at (then s) x s key ts) ≡ true
  by_key s key (columns, h) = by (had_at (then s) x s key ts) (is_had (then s) x events (client_of id) s key all ts columns turns (of_has s key columns h))
    where
      by : (is : List Image) → In is (record { key = key; columns = columns }) → some_had is ≡ true
      by [] k = absurd k
      by (i ∷ is) k = refl

  ---- what all of them show

  abbrev Own : Executed → Answer → Type 0
  Own s a = AnswersAreOf catalog (Was x events (client_of id)) events id s a

  abbrev test : Turn → Bool
  test t = answer_is_of (then (executed_of t.executed)) x (keys (executed_of t.executed)) ts t t.executed.answer

  -- where the statement is that of the turn
  at_turn : (s : Executed) (t : Turn) (a : Answer) → IsTurn events (client_of id) s t → s.answer ≡ Some a → test t ≡ true → answer_is_of (then (executed_of t.executed)) x (keys (executed_of t.executed)) ts t (Some a) ≡ true
  at_turn s t a h e g = ap (answer_is_of (then (executed_of t.executed)) x (keys (executed_of t.executed)) ts t) (sym (ap (λ (z : Executed). z.answer) h.executed ∙ e)) ∙ g

  turn_own : (s : Executed) (a : Answer) → list_all test ts ≡ true → Contains (statements_of events id) s → s.answer ≡ Some a → (t : Turn) × IsTurn events (client_of id) s t × (answer_is_of (then (executed_of t.executed)) x (keys (executed_of t.executed)) ts t (Some a) ≡ true)
  turn_own s a g k e =
      let t = turn_found events (client_of id) all ts s turns (contains_in (statements_of events id) s k) in
      (t.0, t.2, at_turn s t.0 a t.2 e (each_in test ts g t.0 t.1))

  own_is : (s : Executed) (a : Answer) → list_all test ts ≡ true → Contains (statements_of events id) s → s.answer ≡ Some a → Own s a
  own_is s (answer.Rows rows) g k e =
      let t = turn_own s (answer.Rows rows) g k e in
      rows_by s t.0 t.1 rows t.0.statement refl (subst (λ z. statement_is_of (then z) t.0.statement rows (images z) ≡ true) t.1.executed t.2)
  own_is s (answer.Duplicate key) g k e =
      let t = turn_own s (answer.Duplicate key) g k e in
      key_by s key (subst (λ z. some_had (had_at (then z) x z key ts) ≡ true) t.1.executed t.2)
  own_is s (answer.Count n) g k e = tt
  own_is s answer.Done g k e = tt
  own_is s answer.Committed g k e = tt
  own_is s (answer.Busy key other at) g k e = tt
  own_is s (answer.Conflict key found) g k e = tt
  own_is s (answer.Expired other) g k e = tt
  own_is s answer.Faulted g k e = tt
  own_is s (answer.Unknown other) g k e = tt
  own_is s (answer.BadRecord key) g k e = tt
  own_is s (answer.Refused r) g k e = tt
  own_is s answer.Vacuuming g k e = tt
  own_is s answer.OpenTransactions g k e = tt
  own_is s answer.NoMemory g k e = tt

  own_test : (s : Executed) (t : Turn) (o : Option Answer) → IsTurn events (client_of id) s t → ((a : Answer) → o ≡ Some a → Own s a) → answer_is_of (then (executed_of t.executed)) x (keys (executed_of t.executed)) ts t o ≡ true
  own_test s t None h own = refl
  own_test s t (Some (answer.Rows rows)) h own = subst (λ z. statement_is_of (then z) t.statement rows (images z) ≡ true) (sym h.executed) (by_rows s t h rows (own (answer.Rows rows) refl))
  own_test s t (Some (answer.Duplicate key)) h own = subst (λ z. some_had (had_at (then z) x z key ts) ≡ true) (sym h.executed) (by_key s key (own (answer.Duplicate key) refl))
  own_test s t (Some (answer.Count n)) h own = refl
  own_test s t (Some answer.Done) h own = refl
  own_test s t (Some answer.Committed) h own = refl
  own_test s t (Some (answer.Busy key other at)) h own = refl
  own_test s t (Some (answer.Conflict key found)) h own = refl
  own_test s t (Some (answer.Expired other)) h own = refl
  own_test s t (Some answer.Faulted) h own = refl
  own_test s t (Some (answer.Unknown other)) h own = refl
  own_test s t (Some (answer.BadRecord key)) h own = refl
  own_test s t (Some (answer.Refused r)) h own = refl
  own_test s t (Some answer.Vacuuming) h own = refl
  own_test s t (Some answer.OpenTransactions) h own = refl
  own_test s t (Some answer.NoMemory) h own = refl

  all_tested : HasTransactionNoDirtyReads catalog events x id → list_all test ts ≡ true
  all_tested own = each_all test ts (λ t i.
      let s = found_turn events (client_of id) all ts t turns i in
      own_test s.0 t t.executed.answer s.2 (λ a e. own s.0 a (in_contains (statements_of events id) s.0 s.1) (sym (ap (λ (z : Executed). z.answer) s.2.executed) ∙ e))
      )

  pub transaction : (b : Bool) → b ≡ list_all test ts → IsTrue b ↔ HasTransactionNoDirtyReads catalog events x id
  transaction b e = (λ g s a k f. own_is s a (sym e ∙ g) k f, λ own. e ∙ all_tested own)
