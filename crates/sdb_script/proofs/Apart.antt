-- Names that differ, and texts that are among others.
use Rattle.std.proofs.Common.{◌≡◌, ◌≢◌, ℕ, suc, Bool, true, false, List, [], ◌∷◌, ◌++◌, refl, sym, subst, arith, map}
use Rattle.std.specs.Prelude.{All, AllPairs, Contains}
use Rattle.std.specs.List.{list_any}
use Rattle.std.specs.Str.{bytes_eq}
use Rattle.std.proofs.lemmas.List.{map-append}
use Rattle.std.proofs.lemmas.List.Elements.{All-nil, All-cons, All-contains, Contains-append_right}
use Rattle.std.proofs.lemmas.List.Folds.{list_any_at}
use Rattle.std.proofs.lemmas.List.Quantifiers.{all_pairs_push}
use Rattle.std.proofs.lemmas.Map.Views.{Contains-from_any}
use Rattle.sdb_script.proofs.Pieces.{same_bytes, itself}
use Rattle.sdb_types.proofs.Public.{by_test}

abbrev pub Text : Type 0
Text = List ℕ

abbrev pub AreApart : List Text → Type 0
AreApart names = AllPairs ◌≢◌ names

-- whether a name has this text, by what holds names
abbrev pub has_name : {A : Type 0} → (A → Text) → List A → Text → Bool
has_name f xs name = list_any (λ x. bytes_eq (f x) name) xs

pub none_apart : AreApart []
none_apart = λ i j d less end. absurd (omega arith)

other_than : {A : Type 0} (f : A → Text) (xs : List A) (name : Text) → has_name f xs name ≡ false → All (λ n. n ≢ name) (map f xs)
other_than f [] name h = All-nil (λ n. n ≢ name)
other_than f (x ∷ xs) name h =
    by_test (bytes_eq (f x) name)
    (λ t. let k : true ≡ false = rw t at h in absurd cc)
    (λ t. All-cons (λ n. n ≢ name) (f x) (map f xs) (λ is. let u : bytes_eq (f x) name ≡ true = rw is (itself name) in absurd cc) (other_than f xs name (rw t at h)))

-- one more, whose name none has
pub more_apart : {A : Type 0} (f : A → Text) (xs : List A) (x : A) → AreApart (map f xs) → has_name f xs (f x) ≡ false → AreApart (map f (xs ++ x ∷ []))
more_apart f xs x a h = subst AreApart (sym (map-append f xs (x ∷ []))) (all_pairs_push ◌≢◌ (map f xs) (f x) a (other_than f xs (f x) h))

fewer : (n : Text) (ns : List Text) → AreApart (n ∷ ns) → AreApart ns
fewer n ns h = λ i j d less end. h (suc i) (suc j) d (omega arith) (omega arith)

first_apart : (n : Text) (ns rest : List Text) (m : Text) → AreApart (n ∷ (ns ++ m ∷ rest)) → n ≢ m
first_apart n ns rest m h =
    let tails : All (λ k. n ≢ k) (ns ++ m ∷ rest) = λ k d less. h 0 (suc k) d (omega arith) (omega arith) in
    All-contains (λ k. n ≢ k) (ns ++ m ∷ rest) m tails (Contains-append_right ns (m ∷ rest) m (0, omega arith, refl))

new_at : {A : Type 0} (f : A → Text) (xs : List A) (m : Text) (rest : List Text) → AreApart (map f xs ++ m ∷ rest) → has_name f xs m ≡ false
new_at f [] m rest h = refl
new_at f (x ∷ xs) m rest h =
    by_test (bytes_eq (f x) m)
    (λ t. absurd (first_apart (f x) (map f xs) rest m h (same_bytes (f x) m t)))
    (λ t. rw t (new_at f xs m rest (fewer (f x) (map f xs ++ m ∷ rest) h)))

-- a name that comes after others is none of them
pub new_again : {A : Type 0} (f : A → Text) (xs : List A) (x : A) (rest : List A) → AreApart (map f (xs ++ x ∷ rest)) → has_name f xs (f x) ≡ false
new_again f xs x rest h = new_at f xs (f x) (map f rest) (subst AreApart (map-append f xs (x ∷ rest)) h)

pub attached_of : (stores : List Text) (store : Text) → list_any (bytes_eq store) stores ≡ true → Contains stores store
attached_of stores store h = Contains-from_any same_bytes store stores h

pub attached_again : (stores : List Text) (store : Text) → Contains stores store → list_any (bytes_eq store) stores ≡ true
attached_again stores store c = list_any_at (bytes_eq store) stores c.0 store c.1 (rw c.2 (itself store))

-- what holds of each holds of the one after others
pub at_next : {A : Type 0} (P : A → Type 0) (xs : List A) (x : A) (rest : List A) → All P (xs ++ x ∷ rest) → P x
at_next P xs x rest h = All-contains P (xs ++ x ∷ rest) x h (Contains-append_right xs (x ∷ rest) x (0, omega arith, refl))
