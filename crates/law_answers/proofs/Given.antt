-- Why a statement has the answer that its plan gives.
use Rattle.std.proofs.Common.{◌≡◌, ℕ, Bool, true, false, not, List, [], Option, Some, None, refl, sym, ap, subst, ◌∙◌, inr}
use Rattle.std.specs.Prelude.{if◌then◌else◌, ◌&&◌, find, is_some}
use Rattle.std.specs.Option.{option_map}
use Rattle.std.specs.Ordering.{is_eq}
use Rattle.std.proofs.lemmas.Bool.{and_parts}
use Rattle.sdb_types.specs.Exact.{equal_of}
use Rattle.sdb_types.specs.Order.{table_cmp}
use Rattle.sdb_types.proofs.Public.{clash, key_exact, none_some, some_is, table_exact}
use Rattle.sdb_record.specs.Coordinator.{is_coordinator_table}
use Rattle.law_answers.specs.Types.{Access, Answer, Event, Image, Key, Keyed, PlanStep, Statement, Table}
use Rattle.sdb_record.specs.declared.access.Access.TheVariants as access
use Rattle.sdb_model.specs.Access.{in_access}
use Rattle.sdb_snapshot.specs.Seen.{Seen, overlay, tables_seen}
use Rattle.law_clients.proofs.Public.{access_table, found_so, passes_all}
use Rattle.sdb_model.specs.declared.answer.Answer.TheVariants as answer
use Rattle.sdb_model.specs.declared.statement.Statement.TheVariants as statement
use Rattle.sdb_model.specs.Catalogs.{catalog_after}
use Rattle.sdb_model.specs.Causes.{IsBadRecord, IsCaused, MayPassMost, before, refused}
use Rattle.sdb_model.specs.Follows.{is_open}
use Rattle.sdb_model.specs.Exec.{all_rows, find_table, key_of, named_table}
use Rattle.sdb_model.specs.Sql.{Reads}
use Rattle.sdb_model.specs.Transactions.{Executed, changes_nothing, is_conflict, is_done}
use Rattle.sdb_exec.specs.declared.plan.PlanStep.TheVariants.{Finished}
use Rattle.sdb_exec.specs.Plans.{Planned, answer_on, changes_on, columns_at, finished, first_unfit, is_unfit, step_at, step_of}
use Rattle.sdb_txn.specs.Txn.{TxnAt}
use Rattle.sdb_client.specs.Client.{given_answer, too_many}

-- what a statement is answered on rows has its cause
on_rows : (catalog under : List Table) (events : List Event) (c : ℕ) (s : Executed) (t : Table) (st : Statement) (rows : List Image) → catalog_after catalog (before s events) ≡ under → Reads s.text st → named_table under st ≡ Some t → is_open (before s events) c ≡ true → IsCaused catalog events c s (answer_on t st rows)
on_rows catalog under events c s t (statement.Insert i) rows asked reads named open_before = by (is_some (columns_at (key_of t i) rows))
  where
    by : (b : Bool) → IsCaused catalog events c s (if b then answer.Duplicate (key_of t i) else answer.Count 1)
    by true = (t, i, reads, ap (λ (ts : List Table). find_table ts i.table) asked ∙ named, refl)
    by false = (statement.Insert i, reads, refl)
on_rows catalog under events c s t (statement.Upsert i) rows asked reads named open_before = (statement.Upsert i, reads, refl)
on_rows catalog under events c s t (statement.Update u) rows asked reads named open_before = (statement.Update u, reads, tt)
on_rows catalog under events c s t (statement.Delete d) rows asked reads named open_before = (statement.Delete d, reads, tt)
on_rows catalog under events c s t (statement.Select x) rows asked reads named open_before = (statement.Select x, reads, refl, open_before)
on_rows catalog under events c s t statement.Begin rows asked reads named open_before = none_some t named
on_rows catalog under events c s t statement.Commit rows asked reads named open_before = none_some t named
on_rows catalog under events c s t statement.Rollback rows asked reads named open_before = none_some t named
on_rows catalog under events c s t statement.Vacuum rows asked reads named open_before = none_some t named

-- what a plan that was asked gives, with no more keys than may be
given_on : (catalog : List Table) (events : List Event) (c : ℕ) (s : Executed) (t : TxnAt) (x : PlanStep) (b : Answer) (ks : List Keyed) → (is_conflict (Some b) ≡ false → IsCaused catalog events c s b) → ((not (changes_nothing b) && too_many t ks) ≡ true → MayPassMost events c s) → x ≡ Finished b ks → is_conflict (Some (given_answer t x)) ≡ false → IsCaused catalog events c s (given_answer t x)
given_on catalog events c s t x b ks caused full e answered = subst (λ y. IsCaused catalog events c s (given_answer t y)) (sym e) (by (not (changes_nothing b) && too_many t ks) refl (subst (λ y. is_conflict (Some (given_answer t y)) ≡ false) e answered))
  where
    by : (z : Bool) → (not (changes_nothing b) && too_many t ks) ≡ z → is_conflict (Some (if z then refused 15 else b)) ≡ false → IsCaused catalog events c s (if z then refused 15 else b)
    by true many h = inr (refl, refl, full many)
    by false many h = caused h

pub asked_gives : (p : Planned) (rows : List Image) (o : Option Key) → p.asked ≡ true → first_unfit p.table rows ≡ o → step_of p rows ≡ finished p.table p.statement rows o
asked_gives p rows o asked e = ap (λ b. step_at b p.table p.statement rows) asked ∙ ap (finished p.table p.statement rows) e

pub given_caused : (catalog under : List Table) (events : List Event) (c : ℕ) (s : Executed) (p : Planned) (rows : List Image) (t : TxnAt) → catalog_after catalog (before s events) ≡ under → Reads s.text p.statement → named_table under p.statement ≡ Some p.table → p.asked ≡ true → is_open (before s events) c ≡ true
    → ((key : Key) → first_unfit p.table rows ≡ Some key → IsBadRecord catalog events c s key) → (too_many t (changes_on p.table p.statement rows) ≡ true → MayPassMost events c s) → is_conflict (Some (given_answer t (step_of p rows))) ≡ false → IsCaused catalog events c s (given_answer t (step_of p rows))
given_caused catalog under events c s p rows t same reads named asked open_before bad full = by (first_unfit p.table rows) refl
  where
    by : (o : Option Key) → first_unfit p.table rows ≡ o → is_conflict (Some (given_answer t (step_of p rows))) ≡ false → IsCaused catalog events c s (given_answer t (step_of p rows))
    by None e = given_on catalog events c s t (step_of p rows) (answer_on p.table p.statement rows) (changes_on p.table p.statement rows) (λ h. on_rows catalog under events c s p.table p.statement rows same reads named open_before) (λ m. full (and_parts (not (changes_nothing (answer_on p.table p.statement rows))) (too_many t (changes_on p.table p.statement rows)) m).1) (asked_gives p rows None asked e)
    by (Some key) e = given_on catalog events c s t (step_of p rows) (answer.BadRecord key) [] (λ h. bad key e) (λ m. clash (sym m)) (asked_gives p rows (Some key) asked e)

---- it is no Done and no Conflict

-- an answer that neither begins nor ends a transaction
pub record IsMiddle (a : Answer) : Type 0 where
  pub undone : is_done (Some a) ≡ false
  pub agrees : is_conflict (Some a) ≡ false

middle_on : (t : Table) (st : Statement) (rows : List Image) → IsMiddle (answer_on t st rows)
middle_on t (statement.Insert i) rows = by (is_some (columns_at (key_of t i) rows))
  where
    by : (b : Bool) → IsMiddle (if b then answer.Duplicate (key_of t i) else answer.Count 1)
    by true = record { undone = refl; agrees = refl }
    by false = record { undone = refl; agrees = refl }
middle_on t (statement.Upsert i) rows = record { undone = refl; agrees = refl }
middle_on t (statement.Update u) rows = record { undone = refl; agrees = refl }
middle_on t (statement.Delete d) rows = record { undone = refl; agrees = refl }
middle_on t (statement.Select x) rows = record { undone = refl; agrees = refl }
middle_on t statement.Begin rows = record { undone = refl; agrees = refl }
middle_on t statement.Commit rows = record { undone = refl; agrees = refl }
middle_on t statement.Rollback rows = record { undone = refl; agrees = refl }
middle_on t statement.Vacuum rows = record { undone = refl; agrees = refl }

middle_given : (t : TxnAt) (b : Answer) (ks : List Keyed) → IsMiddle b → IsMiddle (given_answer t (Finished b ks))
middle_given t b ks h = by (not (changes_nothing b) && too_many t ks)
  where
    by : (z : Bool) → IsMiddle (if z then refused 15 else b)
    by true = record { undone = refl; agrees = refl }
    by false = h

pub given_middle : (p : Planned) (rows : List Image) (t : TxnAt) → IsMiddle (given_answer t (step_of p rows))
given_middle p rows t = by_asked p.asked
  where
    by_unfit : (o : Option Key) → IsMiddle (given_answer t (finished p.table p.statement rows o))
    by_unfit None = middle_given t (answer_on p.table p.statement rows) (changes_on p.table p.statement rows) (middle_on p.table p.statement rows)
    by_unfit (Some key) = middle_given t (answer.BadRecord key) [] (record { undone = refl; agrees = refl })

    by_asked : (b : Bool) → IsMiddle (given_answer t (step_at b p.table p.statement rows))
    by_asked false = record { undone = refl; agrees = refl }
    by_asked true = by_unfit (first_unfit p.table rows)

---- the rows of an access are of its table

pub inside_access : (a : Access) (q : Key) → in_access a q ≡ true → q.table ≡ access_table a
inside_access (access.Get key) q h = ap (λ (k : Key). k.table) (sym (key_exact key q (equal_of _ h)))
inside_access (access.Scan span) q h = sym (table_exact span.table q.table (equal_of _ (and_parts (is_eq (table_cmp span.table q.table)) _ h).0))

-- a row that doesn't fit is of the access's table
pub unfit_data : (a : Access) (s : Seen) (t : Table) (key : Key) → not (is_coordinator_table (access_table a)) ≡ true → first_unfit t (overlay a s) ≡ Some key → is_coordinator_table key.table ≡ false
unfit_data a s t key is e = by (find (is_unfit t) (overlay a s)) refl e
  where
    not_is : (b : Bool) → not b ≡ true → b ≡ false
    not_is true n = clash (sym n)
    not_is false n = refl

    by : (o : Option Image) → find (is_unfit t) (overlay a s) ≡ o → option_map (λ (r : Image). r.key) o ≡ Some key → is_coordinator_table key.table ≡ false
    by None k h = none_some key h
    by (Some r) k h =
        let inside : in_access a r.key ≡ true = found_so (λ (x : Image). in_access a x.key ≡ true) (is_unfit t) (overlay a s) r (passes_all (λ (x : Image). in_access a x.key) (all_rows (tables_seen s))) k in
        ap (λ (z : Key). is_coordinator_table z.table) (sym (some_is r.key key h)) ∙ ap is_coordinator_table (inside_access a r.key inside) ∙ not_is (is_coordinator_table (access_table a)) is
