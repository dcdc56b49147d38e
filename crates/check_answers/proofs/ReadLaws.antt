-- The causes that are in the text of a statement are answered by what it is read as.
use Rattle.std.proofs.Common.{◌≡◌, ℕ, Bool, true, false, List, [], ◌∷◌, Option, Some, None, inl, inr, refl, sym, ap, ◌∙◌}
use Rattle.std.specs.Prelude.{◌↔◌, IsTrue, filter, length, suc, if◌then◌else◌}
use Rattle.std.specs.Option.{option_map_or}
use Rattle.std.specs.List.{count_by}
use Rattle.std.proofs.lemmas.List.Sums.{length-filter}
use Rattle.check_answers.specs.Types.{Event, Insert, Key, Made, Statement, Table}
use Rattle.sdb_model.specs.Exec.{find_table, key_of}
use Rattle.sdb_model.specs.declared.statement.Statement.TheVariants as statement
use Rattle.sdb_model.specs.Sql.{Reads}
use Rattle.sdb_model.specs.Causes.{IsCounted, before, is_select, removes}
use Rattle.sdb_model.specs.Follows.{is_open}
use Rattle.sdb_model.specs.Transactions.{Executed}
use Rattle.sdb_model.specs.Calls.{calls_of}
use Rattle.check_tables.specs.Values.{all_made, made_of}
use Rattle.check_protocol.proofs.Public.{is_number, number_is}
use Rattle.check_answers.specs.Tests.{Inserts, IsOfCount, IsOfDone, IsOfDuplicate, IsOfRows, IsReading, counts_so, is_done, removed_by}
use Rattle.check_answers.proofs.Decided.{never}
use Rattle.sdb_types.proofs.Public.{clash, same_key_exact, same_key_of, some_is}
use Rattle.sdb_types.specs.Order.{same_key}

module _ (s : Executed) (o : Option Statement) (reading : IsReading s.text o) where
  pub read : (st : Statement) → Reads s.text st → o ≡ Some st
  read st r = (reading st).0 r

  pub passed : (f : Statement → Bool) → option_map_or f o false ≡ true → (st : Statement) × Reads s.text st × (f st ≡ true)
  passed f h = by o refl h
    where
      by : (x : Option Statement) → o ≡ x → option_map_or f x false ≡ true → (st : Statement) × Reads s.text st × (f st ≡ true)
      by None e h = clash (sym h)
      by (Some st) e h = (st, (reading st).1 e, h)

  failed : (f : Statement → Bool) (st : Statement) → option_map_or f o false ≡ false → Reads s.text st → f st ≡ true → false ≡ true
  failed f st n r h = sym n ∙ ap (λ x. option_map_or f x false) (read st r) ∙ h

  done_is : (st : Statement) → is_done st ≡ true → Reads s.text st → IsOfDone s
  done_is statement.Begin h r = inl r
  done_is statement.Rollback h r = inr r
  done_is statement.Commit h r = clash (sym h)
  done_is statement.Vacuum h r = clash (sym h)
  done_is (statement.Insert i) h r = clash (sym h)
  done_is (statement.Upsert i) h r = clash (sym h)
  done_is (statement.Update u) h r = clash (sym h)
  done_is (statement.Delete d) h r = clash (sym h)
  done_is (statement.Select x) h r = clash (sym h)

  is_done_of : IsOfDone s → option_map_or is_done o false ≡ true
  is_done_of (inl r) = ap (λ x. option_map_or is_done x false) (read statement.Begin r)
  is_done_of (inr r) = ap (λ x. option_map_or is_done x false) (read statement.Rollback r)

  pub of_done : (b : Bool) → b ≡ option_map_or is_done o false → IsTrue b ↔ IsOfDone s
  of_done b e = (λ h. let r = passed is_done (sym e ∙ h) in done_is r.0 r.2 r.1, λ d. e ∙ is_done_of d)

  pub of_duplicate : (catalog : List Table) (key : Key) (b : Bool) → IsTrue b ↔ Inserts catalog o key → IsTrue b ↔ IsOfDuplicate catalog s key
  of_duplicate catalog key b e = (
    λ h. let x = e.0 h in (x.0, x.1, (reading (statement.Insert x.1)).1 x.2, x.3, x.4),
    λ (t, i, r, f, k). e.1 (t, i, read (statement.Insert i) r, f, k),
  )

module _ (events : List Event) (client : ℕ) (s : Executed) (o : Option Statement) (reading : IsReading s.text o) where
  pub of_rows : (b : Bool) → option_map_or is_select o false ≡ true → b ≡ is_open (before s events) client → IsTrue b ↔ IsOfRows events client s
  of_rows b p e = (λ h. let r = passed s o reading is_select p in (r.0, r.1, r.2, sym e ∙ h), λ (st, r, f, k). e ∙ k)

  pub not_rows : option_map_or is_select o false ≡ false → IsTrue false ↔ IsOfRows events client s
  not_rows n = never (λ (st, r, f, k). failed s o reading is_select st n r f)

removed_each : (ms : List Made) → length (filter (λ m. removes (made_of m)) ms) ≡ length (filter removes (all_made ms))
removed_each [] = refl
removed_each (m ∷ ms) = by (removes (made_of m)) (removed_each ms)
  where
    by : (b : Bool) → length (filter (λ m. removes (made_of m)) ms) ≡ length (filter removes (all_made ms)) → length (if b then m ∷ filter (λ m. removes (made_of m)) ms else filter (λ m. removes (made_of m)) ms) ≡ length (if b then made_of m ∷ filter removes (all_made ms) else filter removes (all_made ms))
    by true more = ap suc more
    by false more = more

removed_are : (ms : List Made) → removed_by ms ≡ count_by removes (all_made ms)
removed_are ms = removed_each ms ∙ length-filter removes (all_made ms)

module _ (events : List Event) (client : ℕ) (s : Executed) (ms : List Made) (e : all_made ms ≡ calls_of events client s) (n : ℕ) where
  counts_is : (st : Statement) → counts_so (removed_by ms) n st ≡ true → IsCounted events client s st n
  counts_is (statement.Insert i) h = number_is n 1 h
  counts_is (statement.Upsert i) h = number_is n 1 h
  counts_is (statement.Update u) h = tt
  counts_is (statement.Delete d) h = tt
  counts_is (statement.Select x) h = clash (sym h)
  counts_is statement.Begin h = clash (sym h)
  counts_is statement.Commit h = clash (sym h)
  counts_is statement.Rollback h = clash (sym h)
  counts_is statement.Vacuum h = number_is n (removed_by ms) h ∙ removed_are ms ∙ ap (count_by removes) e

  is_counts : (st : Statement) → IsCounted events client s st n → counts_so (removed_by ms) n st ≡ true
  is_counts (statement.Insert i) k = is_number n 1 k
  is_counts (statement.Upsert i) k = is_number n 1 k
  is_counts (statement.Update u) k = refl
  is_counts (statement.Delete d) k = refl
  is_counts (statement.Select x) k = absurd k
  is_counts statement.Begin k = absurd k
  is_counts statement.Commit k = absurd k
  is_counts statement.Rollback k = absurd k
  is_counts statement.Vacuum k = is_number n (removed_by ms) (k ∙ sym (ap (count_by removes) e) ∙ sym (removed_are ms))

  pub of_count : (o : Option Statement) → IsReading s.text o → (b : Bool) → b ≡ option_map_or (counts_so (removed_by ms) n) o false → IsTrue b ↔ IsOfCount events client s n
  of_count o reading b f = (
    λ h. let r = passed s o reading (counts_so (removed_by ms) n) (sym f ∙ h) in (r.0, r.1, counts_is r.0 r.2),
    λ (st, r, k). f ∙ ap (λ x. option_map_or (counts_so (removed_by ms) n) x false) (read s o reading st r) ∙ is_counts st k,
  )

pub inserts_is : (catalog : List Table) (o : Option Statement) (key : Key) (t : Table) (i : Insert) (b : Bool) → o ≡ Some (statement.Insert i) → find_table catalog i.table ≡ Some t → b ≡ same_key (key_of t i) key → IsTrue b ↔ Inserts catalog o key
inserts_is catalog o key t i b e f g = (
  λ h. (t, i, e, f, same_key_exact (key_of t i) key (sym g ∙ h)),
  λ (u, j, d, k, at). g ∙ same_key_of (key_of t i) key (
      let same : i ≡ j = insert_is i j (some_is (statement.Insert i) (statement.Insert j) (sym e ∙ d)) in
      let table : t ≡ u = some_is t u (sym f ∙ ap (λ (x : Insert). find_table catalog x.table) same ∙ k) in
      ap (λ (x : Table). key_of x i) table ∙ ap (key_of u) same ∙ at
      ),
)
  where
    insert_is : (x y : Insert) → statement.Insert x ≡ statement.Insert y → x ≡ y
    insert_is x y h = cc
