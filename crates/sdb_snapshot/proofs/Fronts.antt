-- Lists that begin with another.
use Rattle.std.proofs.Common.{◌≡◌, ◌<◌, ℕ, List, [], ◌∷◌, ◌++◌, length, take, Option, Some, None, false, refl, sym, ap, ◌∙◌, arith}
use Rattle.std.specs.Prelude.{Result, Ok, Err, OnOk, slice_get}
use Rattle.std.specs.Result.{is_err}
use Rattle.std.specs.Slice.{IsItemAt}
use Rattle.std.specs.Option.{option_copied}
use Rattle.std.specs.Borrow.{Bor}
use Rattle.std.proofs.lemmas.Option.{slice_get-get_or}
use Rattle.std.proofs.lemmas.Bool.Decides.{nat_tests}
use Rattle.sdb_snapshot.specs.Sets.{StartsWith}

pub starts_itself : {A : Type 0} (xs : List A) → StartsWith xs xs
starts_itself [] = tt
starts_itself (x ∷ xs) = (refl, starts_itself xs)

pub starts_more : {A : Type 0} (xs ys zs : List A) → StartsWith xs ys → StartsWith xs (ys ++ zs)
starts_more [] ys zs h = tt
starts_more (x ∷ xs) [] zs h = absurd h
starts_more (x ∷ xs) (y ∷ ys) zs h = (h.0, starts_more xs ys zs h.1)

pub starts_take : {A : Type 0} (xs ys : List A) → StartsWith xs ys → take (length xs) ys ≡ xs
starts_take [] [] h = refl
starts_take [] (y ∷ ys) h = refl
starts_take (x ∷ xs) [] h = absurd h
starts_take (x ∷ xs) (y ∷ ys) h = (λ i. sym h.0 i ∷ starts_take xs ys h.1 i)

-- the item that is lent at a place
pub item_is : {A : Type 0} (xs : List A) (i : ℕ) (r : Option (Bor A)) → IsItemAt xs i r → i < length xs → option_copied r ≡ slice_get xs i
item_is xs i None h g = absurd (grind (arith, nat_tests, h.0, g))
item_is xs i (Some b) h g = sym (slice_get-get_or xs i b.now g ∙ ap Some (sym h.1))

pub ok_of : {A E : Type 0} (P : Type 0) (r : Result A E) → is_err r ≡ false → OnOk r P → P
ok_of P (Ok x) none ok = ok
ok_of P (Err e) none ok = absurd (cc)
