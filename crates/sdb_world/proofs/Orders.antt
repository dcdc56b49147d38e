-- The recorded transactions, given in any order, by their points.
use Rattle.std.proofs.Common.{◌≡◌, ◌≢◌, ◌⊎◌, inl, inr, ℕ, ◌<◌, false, List, [], ◌∷◌, Some, refl, sym, subst, arith}
use Rattle.std.specs.Prelude.{◌==◌, nat_lt}
use Rattle.std.proofs.lemmas.Bool.Decides.{nat_tests}
use Rattle.sdb_record.specs.declared.coordinator.Decision.TheVariants.{Committed}
use Rattle.law_protocol.specs.Explained.{PointsDiffer}
use Rattle.law_protocol.specs.History.{History}
use Rattle.law_protocol.specs.Serial.{AllAbove, IsIn, IsOrdered, IsRising}
use Rattle.sdb_types.proofs.Public.{by_test, eq_of, lt_of}

-- one number is less, the same, or greater
compared : {G : Type 0} (a b : ℕ) → (a < b → G) → (a ≡ b → G) → (b < a → G) → G
compared a b less same greater = by_test (nat_lt a b) (λ t. less (lt_of a b t)) (λ t. by_test (a == b) (λ e. same (eq_of a b e)) (λ e. greater (above a b t e)))
  where
    above : (m n : ℕ) → nat_lt m n ≡ false → (m == n) ≡ false → n < m
    above m n t e = grind (arith, nat_tests)

same_number : (a b : ℕ) → (a ≢ b → ⊥) → a ≡ b
same_number a b h = by_test (a == b) (λ e. eq_of a b e) (λ e. absurd (h (differ a b e)))
  where
    differ : (m n : ℕ) → (m == n) ≡ false → m ≡ n → ⊥
    differ m n e f = grind (arith, nat_tests)

module _ (w : History) where
  lower : (m n : ℕ) (us : List ℕ) → m < n → AllAbove w n us → AllAbove w m us
  lower m n [] l above = tt
  lower m n (u ∷ us) l above = (less l above.0, lower m n us l above.1)
    where
      less : {a b c : ℕ} → a < b → b < c → a < c
      less k j = omega arith

  -- one transaction more among those that rise by their points
  record WithOne (t : ℕ) (us : List ℕ) : Type 0 where
    all : List ℕ
    rising : IsRising w all
    here : IsIn t all
    kept : (x : ℕ) → IsIn x us → IsIn x all
    from : (x : ℕ) → IsIn x all → (x ≡ t) ⊎ IsIn x us
    above : (n : ℕ) → n < w.protocol.point t → AllAbove w n us → AllAbove w n all

  with_one : (t : ℕ) (us : List ℕ) → IsRising w us → ((u : ℕ) → IsIn u us → w.protocol.point t ≡ w.protocol.point u → t ≡ u) → WithOne t us
  with_one t [] rises apart = record { all = t ∷ []; rising = (tt, tt); here = inl refl; kept = λ x h. absurd h; from = λ x h. h; above = λ n l all. (l, tt) }
  with_one t (u ∷ us) rises apart =
      compared (w.protocol.point t) (w.protocol.point u)
      (λ l. record { all = t ∷ u ∷ us; rising = ((l, lower (w.protocol.point t) (w.protocol.point u) us l rises.0), rises); here = inl refl; kept = λ x h. inr h; from = λ x h. h; above = λ n k all. (k, all) })
      (λ e. record { all = u ∷ us; rising = rises; here = inl (apart u (inl refl) e); kept = λ x h. h; from = λ x h. inr h; above = λ n k all. all })
      (λ g. later g (with_one t us rises.1 (λ v h. apart v (inr h))))
    where
      later : w.protocol.point u < w.protocol.point t → WithOne t us → WithOne t (u ∷ us)
      later g rest = record {
        all = u ∷ rest.all;
        rising = (rest.above (w.protocol.point u) g rises.0, rest.rising);
        here = inr rest.here;
        kept = λ x h. elim h [ inl e ↦ inl e | inr k ↦ inr (rest.kept x k) ];
        from = λ x h. elim h [ inl e ↦ inr (inl e) | inr k ↦ elim (rest.from x k) [ inl e ↦ inl e | inr j ↦ inr (inr j) ] ];
        above = λ n k all. (all.0, rest.above n k all.1);
      }

  -- the same transactions, by their points
  record Risen (ids : List ℕ) : Type 0 where
    order : List ℕ
    rising : IsRising w order
    kept : (x : ℕ) → IsIn x ids → IsIn x order
    from : (x : ℕ) → IsIn x order → IsIn x ids

  risen : PointsDiffer w → (ids : List ℕ) → ((t : ℕ) → IsIn t ids → w.row t ≡ Some Committed) → Risen ids
  risen differ [] recorded = record { order = []; rising = tt; kept = λ x h. h; from = λ x h. h }
  risen differ (t ∷ ts) recorded =
      let rest = risen differ ts (λ u h. recorded u (inr h)) in
      let one = with_one t rest.order rest.rising (λ u h e. same_number t u (λ ne. differ t u (recorded t (inl refl)) (recorded u (inr (rest.from u h))) ne e)) in
      record {
        order = one.all;
        rising = one.rising;
        kept = λ x h. elim h [ inl e ↦ subst (λ y. IsIn y one.all) (sym e) one.here | inr k ↦ one.kept x (rest.kept x k) ];
        from = λ x h. elim (one.from x h) [ inl e ↦ inl e | inr k ↦ inr (rest.from x k) ];
      }

  -- a list of all recorded transactions and no others gives their order
  pub ordered : PointsDiffer w → (ids : List ℕ) → ((t : ℕ) → w.row t ≡ Some Committed → IsIn t ids) → ((t : ℕ) → IsIn t ids → w.row t ≡ Some Committed) → (order : List ℕ) × IsOrdered w order
  ordered differ ids all recorded =
      let r = risen differ ids recorded in
      (r.order, record { recorded = λ t. (λ h. r.kept t (all t h), λ h. recorded t (r.from t h)); rising = r.rising })
