-- Words at the start of a line, and what follows them.
use Rattle.std.proofs.Common.{◌≡◌, ◌⊎◌, inl, inr, ℕ, true, false, List, ◌++◌, drop, Option, Some, None, refl, sym, ap, ◌∙◌, MatchOption}
use Rattle.std.specs.Borrow.{Bor}
use Rattle.std.specs.Option.{option_copied, option_map, option_map_or, option_and_then}
use Rattle.std.specs.Str.{is_utf8, IsUtf8, bytes_eq}
use Rattle.std.specs.Str.Pattern.{FindsTextPrefix, StripsPrefix}
use Rattle.std.proofs.lemmas.Str.{IsUtf8-from_is_utf8}
use Rattle.std.proofs.lemmas.Slice.Eq.{bytes_eq-Decides}
use Rattle.sdb_types.specs.NameText.{after_front}
use Rattle.sdb_types.proofs.Public.{after_front-append, by_test, no_front, some_is}

pub no_utf8 : (text : List ℕ) → (IsUtf8 text → ⊥) → false ≡ is_utf8 text
no_utf8 text h = by_test (is_utf8 text) (λ t. absurd (h (IsUtf8-from_is_utf8 text t))) (λ t. sym t)

-- what `strip_prefix` gives
pub stripped : (word text : List ℕ) (r : Option (Bor (List ℕ))) → MatchOption r (FindsTextPrefix word text None) (λ x. StripsPrefix (FindsTextPrefix word) text x.now) → option_copied r ≡ after_front word text
stripped word text None h = sym (no_front word text h)
stripped word text (Some x) h =
    let e : text ≡ word ++ drop h.0 text = h.1.1 in
    let f : word ++ drop h.0 text ≡ word ++ x.now = ap (λ (r : List ℕ). word ++ r) (sym h.2) in
    sym (ap (after_front word) (e ∙ f) ∙ after_front-append word x.now)

pub same_bytes : (a b : List ℕ) → bytes_eq a b ≡ true → a ≡ b
same_bytes a b h = (bytes_eq-Decides a b).0 h

pub itself : (a : List ℕ) → bytes_eq a a ≡ true
itself a = (bytes_eq-Decides a a).1 refl

pub no_some : {A G : Type 0} (x : A) → ◌≡◌ {A = Option A} None (Some x) → G
no_some x e = absurd cc

pub map_is : {A B : Type 0} (f : A → B) (o : Option A) (y : B) → option_map f o ≡ Some y → (x : A) × (o ≡ Some x) × (f x ≡ y)
map_is f (Some x) y e = (x, refl, some_is _ _ e)
map_is f None y e = no_some y e

pub bind_is : {A B : Type 0} (f : A → Option B) (o : Option A) (y : B) → option_and_then f o ≡ Some y → (x : A) × (o ≡ Some x) × (f x ≡ Some y)
bind_is f (Some x) y e = (x, refl, e)
bind_is f None y e = no_some y e

-- a choice by an option, at either of its forms
pub map_or_is : {A B : Type 0} (f : A → B) (y : B) (o : Option A) (z : B) → option_map_or f o y ≡ z → ((x : A) × (o ≡ Some x) × (f x ≡ z)) ⊎ ((o ≡ None) × (y ≡ z))
map_or_is f y (Some x) z h = inl (x, refl, h)
map_or_is f y None z h = inr (refl, h)
