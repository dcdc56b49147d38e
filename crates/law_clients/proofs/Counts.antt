-- The count of a VACUUM is fixed by the databases before it and after it.
use Rattle.std.proofs.Common.{◌≡◌, ℕ, ℤ, Bool, true, false, List, [], ◌∷◌, inl, inr, refl, sym, ap, subst, ◌∙◌, suc}
use Rattle.std.specs.Prelude.{◌&&◌, ◌||◌, if◌then◌else◌, length, is_some, not}
use Rattle.law_clients.specs.Types.{Key, Table}
use Rattle.sdb_types.specs.Order.{same_key}
use Rattle.sdb_types.proofs.Public.{and_first, and_second, false_true, same_key_of, same_key_self, same_key_decides}
use Rattle.sdb_model.specs.declared.answer.Answer.TheVariants as answer
use Rattle.sdb_model.specs.Exec.{Tables}
use Rattle.law_clients.specs.Database.{Database, is_listed}
use Rattle.law_clients.specs.Tombstones.{AreOnce, HasNoTombstone, HasVacuumed, is_among, is_deleted, is_removed}
use Rattle.law_clients.specs.Session.{Exchange, IsSerialSession, is_vacuum}

-- keys without one of them
abbrev without : Key → List Key → List Key
without k [] = []
without k (j ∷ js) = if same_key k j then js else j ∷ without k js

without_shorter : (k : Key) (js : List Key) → is_among js k ≡ true → length js ≡ suc (length (without k js))
without_shorter k [] e = false_true e
without_shorter k (j ∷ js) e = by (same_key k j) refl (without_shorter k js)
  where
    by : (b : Bool) → same_key k j ≡ b → (is_among js k ≡ true → length js ≡ suc (length (without k js))) → length (j ∷ js) ≡ suc (length (without k (j ∷ js)))
    by true f rest = ap (λ x. suc (length (if x then js else j ∷ without k js))) (sym f)
    by false f rest = ap suc (rest (sym (ap (λ x. x || is_among js k) f) ∙ e)) ∙ ap (λ x. suc (length (if x then js else j ∷ without k js))) (sym f)

-- the other keys stay
without_other : (k : Key) (js : List Key) (q : Key) → same_key q k ≡ false → is_among (without k js) q ≡ is_among js q
without_other k [] q n = refl
without_other k (j ∷ js) q n = elim (same_key_decides k j) [
  | inl e ↦ ap (λ x. is_among (if x then js else j ∷ without k js) q) e.0 ∙ sym (ap (λ x. x || is_among js q) (ap (same_key q) (sym e.1) ∙ n))
  | inr f ↦ ap (λ x. is_among (if x then js else j ∷ without k js) q) f.0 ∙ ap (λ x. same_key q j || x) (without_other k js q n)
]

-- and the key is gone
without_gone : (k : Key) (js : List Key) → AreOnce js → is_among (without k js) k ≡ false
without_gone k [] once = refl
without_gone k (j ∷ js) once = elim (same_key_decides k j) [
  | inl e ↦ ap (λ x. is_among (if x then js else j ∷ without k js) k) e.0 ∙ ap (is_among js) e.1 ∙ once.0
  | inr f ↦ ap (λ x. is_among (if x then js else j ∷ without k js) k) f.0 ∙ ap (λ x. x || is_among (without k js) k) f.0 ∙ without_gone k js once.1
]

other_way : (k j : Key) → same_key k j ≡ false → same_key j k ≡ false
other_way k j n = elim (same_key_decides j k) [ inl e ↦ false_true (sym n ∙ same_key_of k j (sym e.1)) | inr f ↦ f.0 ]

without_once : (k : Key) (js : List Key) → AreOnce js → AreOnce (without k js)
without_once k [] once = tt
without_once k (j ∷ js) once = by (same_key k j) refl (without_once k js once.1)
  where
    by : (b : Bool) → same_key k j ≡ b → AreOnce (without k js) → AreOnce (without k (j ∷ js))
    by true f rest = subst (λ x. AreOnce (if x then js else j ∷ without k js)) (sym f) once.1
    by false f rest = subst (λ x. AreOnce (if x then js else j ∷ without k js)) (sym f) (without_other k js j (other_way k j f) ∙ once.0, rest)

-- lists of the same keys, each once, are of one length
same_length : (ks js : List Key) → AreOnce ks → AreOnce js → ((q : Key) → is_among ks q ≡ is_among js q) → length ks ≡ length js
same_length [] [] a b same = refl
same_length [] (j ∷ js) a b same = false_true (same j ∙ ap (λ x. x || is_among js j) (same_key_self j))
same_length (k ∷ ks) js a b same = ap suc (same_length ks (without k js) a.1 (without_once k js b) rest) ∙ sym (without_shorter k js there)
  where
    there : is_among js k ≡ true
    there = sym (same k) ∙ ap (λ x. x || is_among ks k) (same_key_self k)

    rest : (q : Key) → is_among ks q ≡ is_among (without k js) q
    rest q = elim (same_key_decides q k) [
      | inl e ↦ ap (is_among ks) e.1 ∙ a.0 ∙ sym (ap (is_among (without k js)) e.1 ∙ without_gone k js b)
      | inr n ↦ sym (ap (λ x. x || is_among ks q) n.0) ∙ same q ∙ sym (without_other k js q n.0)
    ]

---- counts

pub one_count : (catalog : List Table) (was now : Database) (at moment : ℤ) (n m : ℕ) → HasVacuumed catalog was now at n → HasVacuumed catalog was now moment m → n ≡ m
one_count catalog was now at moment n m x y = sym x.count ∙ same_length x.keys y.keys x.once y.once (λ k. x.exact k ∙ sym (y.exact k)) ∙ y.count

-- where there was no tombstone none was removed
pub none_counted : (catalog : List Table) (was now : Database) (at : ℤ) (n : ℕ) → HasVacuumed catalog was now at n → HasNoTombstone catalog was → n ≡ 0
none_counted catalog was now at n x none = sym x.count ∙ by x.keys x.exact
  where
    by : (ks : List Key) → ((k : Key) → is_among ks k ≡ is_removed catalog was now k) → length ks ≡ 0
    by [] exact = refl
    by (k ∷ ks) exact =
        let removed : is_removed catalog was now k ≡ true = sym (exact k) ∙ ap (λ b. b || is_among ks k) (same_key_self k) in
        let listed = and_first (is_listed catalog k) (is_deleted was k && not (is_some (now k))) removed in
        let deleted = and_first (is_deleted was k) (not (is_some (now k))) (and_second (is_listed catalog k) (is_deleted was k && not (is_some (now k))) removed) in
        false_true (sym (none k listed) ∙ deleted)

pub none_answered : (catalog : List Table) (opening last : Database) (before : Tables) (e : Exchange) (n : ℕ) → IsSerialSession catalog opening last before (e ∷ []) → is_vacuum e.says ≡ true → e.answer ≡ answer.Count n → HasNoTombstone catalog opening → n ≡ 0
none_answered catalog opening last before e n s vacuum counted none = none_counted catalog opening s.steps.0 e.moment n (s.steps.2.counted n vacuum counted) none
