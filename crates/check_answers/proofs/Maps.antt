-- Counts and tests of lists that are mapped or filtered.
use Rattle.std.proofs.Common.{◌≡◌, ℕ, ◌+◌, Bool, true, false, List, [], ◌∷◌, length, map, Option, Some, None, refl, sym, ap, ◌∙◌, arith}
use Rattle.std.specs.Prelude.{◌&&◌, ◌||◌, count_by, filter, fold, cond}
use Rattle.std.specs.List.{list_any}
use Rattle.std.specs.Option.{option_map_or}
use Rattle.sdb_types.specs.declared.record.Put.{Put}
use Rattle.sdb_types.specs.declared.record.Request.TheVariants.{PutAll}
use Rattle.sdb_types.proofs.Public.{clash}
use Rattle.sdb_model.specs.Requests.{records_put}

pub one_left : (b : Bool) → b ≡ (b && true)
one_left true = refl
one_left false = refl

counted : {X Y : Type 0} (f : Y → Bool) (g : X → Y) (n : ℕ) (xs : List X) → fold (λ a y. a + cond (f y) 1 0) n (map g xs) ≡ fold (λ a x. a + cond (f (g x)) 1 0) n xs
counted f g n [] = refl
counted f g n (x ∷ xs) = counted f g (n + cond (f (g x)) 1 0) xs

pub count_mapped : {X Y : Type 0} (f : Y → Bool) (g : X → Y) (xs : List X) → count_by f (map g xs) ≡ count_by (λ x. f (g x)) xs
count_mapped f g xs = counted f g 0 xs

-- a count from some number on
pub count_from : {X : Type 0} (f : X → Bool) (n : ℕ) (xs : List X) → fold (λ a x. a + cond (f x) 1 0) n xs ≡ n + count_by f xs
count_from f n [] = omega arith
count_from f n (x ∷ xs) = by (cond (f x) 1 0) (count_from f (n + cond (f x) 1 0) xs) (count_from f (0 + cond (f x) 1 0) xs)
  where
    by : (c : ℕ) → fold (λ a y. a + cond (f y) 1 0) (n + c) xs ≡ (n + c) + count_by f xs → fold (λ a y. a + cond (f y) 1 0) (0 + c) xs ≡ (0 + c) + count_by f xs → fold (λ a y. a + cond (f y) 1 0) (n + c) xs ≡ n + fold (λ a y. a + cond (f y) 1 0) (0 + c) xs
    by c e k = omega (arith, e, k)

pub count_more : {X : Type 0} (f : X → Bool) (x : X) (xs : List X) → count_by f (x ∷ xs) ≡ cond (f x) 1 0 + count_by f xs
count_more f x xs = by (cond (f x) 1 0) (count_from f (0 + cond (f x) 1 0) xs)
  where
    by : (c : ℕ) → fold (λ a y. a + cond (f y) 1 0) (0 + c) xs ≡ (0 + c) + count_by f xs → fold (λ a y. a + cond (f y) 1 0) (0 + c) xs ≡ c + count_by f xs
    by c e = omega (arith, e)

pub kept_count : {X Y : Type 0} (p : Y → Bool) (g : X → Y) (xs : List X) → length (filter p (map g xs)) ≡ count_by (λ x. p (g x)) xs
kept_count p g [] = refl
kept_count p g (x ∷ xs) = by (p (g x)) (kept_count p g xs) ∙ sym (count_more (λ x. p (g x)) x xs)
  where
    by : (b : Bool) → length (filter p (map g xs)) ≡ count_by (λ x. p (g x)) xs → length (cond b (g x ∷ filter p (map g xs)) (filter p (map g xs))) ≡ cond b 1 0 + count_by (λ x. p (g x)) xs
    by true e = omega (arith, e)
    by false e = omega (arith, e)

pub filter_count : {X : Type 0} (p : X → Bool) (xs : List X) → length (filter p xs) ≡ count_by p xs
filter_count p [] = refl
filter_count p (x ∷ xs) = by (p x) (filter_count p xs) ∙ sym (count_more p x xs)
  where
    by : (b : Bool) → length (filter p xs) ≡ count_by p xs → length (cond b (x ∷ filter p xs) (filter p xs)) ≡ cond b 1 0 + count_by p xs
    by true e = omega (arith, e)
    by false e = omega (arith, e)

pub any_kept : {X Y : Type 0} (f p : Y → Bool) (g : X → Y) (xs : List X) → list_any f (filter p (map g xs)) ≡ list_any (λ x. p (g x) && f (g x)) xs
any_kept f p g [] = refl
any_kept f p g (x ∷ xs) = by (p (g x)) (any_kept f p g xs)
  where
    by : (b : Bool) → list_any f (filter p (map g xs)) ≡ list_any (λ x. p (g x) && f (g x)) xs → list_any f (cond b (g x ∷ filter p (map g xs)) (filter p (map g xs))) ≡ ((b && f (g x)) || list_any (λ x. p (g x) && f (g x)) xs)
    by true e = ap (λ c. f (g x) || c) e
    by false e = e

-- two tests of which one at most holds, and a third that is both
pub count_both : {X : Type 0} (f g h : X → Bool) → ((x : X) → cond (f x) 1 0 + cond (g x) 1 0 ≡ cond (h x) 1 0) → (xs : List X) → count_by f xs + count_by g xs ≡ count_by h xs
count_both f g h e [] = refl
count_both f g h e (x ∷ xs) = by (cond (f x) 1 0) (cond (g x) 1 0) (cond (h x) 1 0) (e x) (count_both f g h e xs) (count_more f x xs) (count_more g x xs) (count_more h x xs)
  where
    by : (a b c : ℕ) → a + b ≡ c → count_by f xs + count_by g xs ≡ count_by h xs → count_by f (x ∷ xs) ≡ a + count_by f xs → count_by g (x ∷ xs) ≡ b + count_by g xs → count_by h (x ∷ xs) ≡ c + count_by h xs → count_by f (x ∷ xs) + count_by g (x ∷ xs) ≡ count_by h (x ∷ xs)
    by a b c s more i j k = omega (arith, s, more, i, j, k)

pub some_of : {X : Type 0} (f : X → Bool) (o : Option X) → option_map_or f o false ≡ true → (x : X) × (o ≡ Some x) × (f x ≡ true)
some_of f None h = clash (sym h)
some_of f (Some x) h = (x, refl, h)

pub of_some : {X : Type 0} (f : X → Bool) (o : Option X) (x : X) → o ≡ Some x → f x ≡ true → option_map_or f o false ≡ true
of_some f o x e h = ap (λ p. option_map_or f p false) e ∙ h

-- a batch puts as many records as it has puts
pub batch_length : (b : List Put) → length b ≡ length (records_put (PutAll b))
batch_length [] = refl
batch_length (p ∷ b) = let e = batch_length b in omega (arith, e)
