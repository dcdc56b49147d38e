-- What the test of two keys says.
use Rattle.std.proofs.Common.{◌≡◌, ◌≢◌, Bool, true, false, ◌⊎◌, inl, inr, refl, sym, ◌∙◌, ap}
use Rattle.std.specs.Ordering.{is_eq}
use Rattle.std.specs.Cmp.{tied_itself}
use Rattle.std.proofs.lemmas.Bool.Decides.{nat_tests}
use Rattle.sdb_types.specs.declared.key.Key.{Key}
use Rattle.sdb_types.specs.contracts.key.KeyPartialEq.TheImpl as key_eq
use Rattle.sdb_types.specs.Exact.{equal_of}
use Rattle.sdb_types.specs.Exactness.{key_is_exact}
use Rattle.sdb_types.specs.Order.{key_cmp, same_key}
use Rattle.sdb_types.proofs.KeyOrder.{key_total, key_exact}
use Rattle.sdb_types.proofs.Basics.{by_test}

-- keys are one where their order ties them
pub same_key_is : (a b : Key) → same_key a b ≡ is_eq (key_cmp a b)
unfolding same_key
same_key_is a b = refl

pub same_key_self : (a : Key) → same_key a a ≡ true
unfolding same_key
same_key_self a = ap is_eq (tied_itself key_total a)

pub same_key_exact : (a b : Key) → same_key a b ≡ true → a ≡ b
unfolding same_key
same_key_exact a b h = key_exact a b (equal_of (key_cmp a b) h)

pub same_key_of : (a b : Key) → a ≡ b → same_key a b ≡ true
same_key_of a b e = ap (same_key a) (sym e) ∙ same_key_self a

pub same_key_decides : (a b : Key) → ((same_key a b ≡ true) × (a ≡ b)) ⊎ ((same_key a b ≡ false) × (a ≢ b))
same_key_decides a b = answered (same_key a b) refl
  where
    answered : (t : Bool) → same_key a b ≡ t → ((same_key a b ≡ true) × (a ≡ b)) ⊎ ((same_key a b ≡ false) × (a ≢ b))
    answered true h = inl (h, same_key_exact a b h)
    answered false h = inr (h, λ e. clash (sym (same_key_of a b e) ∙ h))
      where
        clash : true ≡ false → ⊥
        clash e = absurd (cc)

pub same_key_turned : (a b : Key) → same_key a b ≡ same_key b a
same_key_turned a b = by (same_key_decides a b) (same_key_decides b a)
  where
    by : ((same_key a b ≡ true) × (a ≡ b)) ⊎ ((same_key a b ≡ false) × (a ≢ b)) → ((same_key b a ≡ true) × (b ≡ a)) ⊎ ((same_key b a ≡ false) × (b ≢ a)) → same_key a b ≡ same_key b a
    by (inl x) (inl y) = x.0 ∙ sym y.0
    by (inl x) (inr y) = absurd (y.1 (sym x.1))
    by (inr x) (inl y) = absurd (x.1 (sym y.1))
    by (inr x) (inr y) = x.0 ∙ sym y.0

-- `==` of keys is that test
pub key_eq_is : (a b : Key) → (key_eq.ghosts).eq a b ≡ same_key a b
key_eq_is a b =
    by_test (same_key a b)
    (λ t. (key_is_exact a b).1 (same_key_exact a b t) ∙ sym t)
    (λ t. by_test ((key_eq.ghosts).eq a b)
    (λ u. u ∙ sym (same_key_of a b ((key_is_exact a b).0 u)))
    (λ u. u ∙ sym t))

pub key_eq_is_same : (key_eq.ghosts).eq ≡ same_key
key_eq_is_same = λ i a b. key_eq_is a b i

pub ruleset tests = (nat_tests, same_key_decides)
