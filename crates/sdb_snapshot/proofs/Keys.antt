-- Notes and writes under their keys.
use Rattle.std.proofs.Common.{◌≡◌, ℕ, zero, suc, Bool, true, false, cond, List, [], ◌∷◌, ◌++◌, take, Option, Some, None, refl, ap, ◌∙◌}
use Rattle.std.specs.Prelude.{is_some}
use Rattle.std.specs.FinMap.{find}
use Rattle.std.specs.Ordering.{is_eq}
use Rattle.sdb_types.specs.declared.key.Key.{Key}
use Rattle.sdb_types.specs.Order.{key_cmp, same_key}
use Rattle.sdb_snapshot.specs.Entries.{value_at, with_value}
use Rattle.sdb_types.proofs.Public.{by_test, or_else, same_key_is}

pub value_is : {V : Type 0} (es : List (Key × V)) (key : Key) → value_at es key ≡ find key_cmp key es
value_is [] key = refl
value_is (e ∷ es) key = ap (λ (b : Bool). cond b (Some e.1) (value_at es key)) (same_key_is key e.0) ∙ ap (λ o. cond (is_eq (key_cmp key e.0)) (Some e.1) o) (value_is es key)

some_none : {A : Type 0} (b : Bool) (x : A) (o : Option A) → is_some (cond b (Some x) o) ≡ false → b ≡ true → ⊥
some_none true x o h t = absurd (cc)
some_none false x o h t = absurd (cc)

later_none : {A : Type 0} (b : Bool) (x : A) (o : Option A) → is_some (cond b (Some x) o) ≡ false → is_some o ≡ false
later_none true x o h = absurd (cc)
later_none false x o h = h

-- a new key goes last
pub put_new : {V : Type 0} (es : List (Key × V)) (key : Key) (v : V) → is_some (value_at es key) ≡ false → with_value es key v ≡ es ++ (key, v) ∷ []
put_new [] key v h = refl
put_new (e ∷ es) key v h =
    by_test (same_key key e.0)
    (λ t. absurd (some_none (same_key key e.0) e.1 (value_at es key) h t))
    (λ t. ap (λ (b : Bool). cond b ((e.0, v) ∷ es) (e ∷ with_value es key v)) t ∙ ap (λ xs. e ∷ xs) (put_new es key v (later_none (same_key key e.0) e.1 (value_at es key) h)))

or_step : {A : Type 0} (b : Bool) (x : A) (o p q : Option A) → q ≡ or_else o p → cond b (Some x) q ≡ or_else (cond b (Some x) o) p
or_step true x o p q h = refl
or_step false x o p q h = h

pub value_last : {V : Type 0} (es : List (Key × V)) (k : Key) (v : V) (q : Key) → value_at (es ++ (k, v) ∷ []) q ≡ or_else (value_at es q) (cond (same_key q k) (Some v) None)
value_last [] k v q = refl
value_last (e ∷ es) k v q = or_step (same_key q e.0) e.1 (value_at es q) _ _ (value_last es k v q)

pub value_take : {V : Type 0} (es : List (Key × V)) (n : ℕ) (q : Key) → is_some (value_at (take n es) q) ≡ true → is_some (value_at es q) ≡ true
value_take [] zero q h = h
value_take [] (suc n) q h = h
value_take (e ∷ es) zero q h = absurd (cc)
value_take (e ∷ es) (suc n) q h = step (same_key q e.0) (value_at (take n es) q) (value_at es q) h (value_take es n q)
  where
    step : (b : Bool) (o p : Option _) → is_some (cond b (Some e.1) o) ≡ true → (is_some o ≡ true → is_some p ≡ true) → is_some (cond b (Some e.1) p) ≡ true
    step true o p h g = refl
    step false o p h g = g h
