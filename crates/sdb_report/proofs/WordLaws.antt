-- Words and names: what is read is there, and what is there is read.
use Rattle.std.proofs.Common.{◌≡◌, ℕ, ◌+◌, ◌<◌, Bool, true, false, cond, ◌==◌, List, [], ◌∷◌, ◌++◌, length, take, drop, Option, Some, None, refl, sym, ap, subst, ◌∙◌, append_assoc, arith}
use Rattle.std.specs.List.{list_all, prefix_len}
use Rattle.std.specs.Str.{is_utf8, IsUtf8}
use Rattle.std.proofs.lemmas.Bool.{eqb-true}
use Rattle.std.proofs.lemmas.Bool.Decides.{nat_tests}
use Rattle.std.proofs.lemmas.List.{drop_more, take_at, drop_at}
use Rattle.std.proofs.lemmas.Option.{same_Some, cond_some}
use Rattle.std.proofs.lemmas.Str.{IsUtf8-from_is_utf8}
use Rattle.std.proofs.Common.{take-append-drop}
use Rattle.sdb_types.specs.Identifier.{is_part, is_name}
use Rattle.sdb_types.proofs.Public.{and_first, and_second, bind_some, by_test, one_more, parts}
use Rattle.sdb_report.specs.FieldReading.{Read, case_of, after, name_of, name_at}

---- steps

pub case_some : {A B G : Type 0} (o : Option A) (f : A → B) (d y : B) → case_of o f d ≡ y → ((x : A) → o ≡ Some x → f x ≡ y → G) → (o ≡ None → d ≡ y → G) → G
case_some (Some x) f d y e there other = there x refl e
case_some None f d y e there other = other refl e

-- one part after another
pub join : (x y c : List ℕ) {a b : List ℕ} → a ≡ x ++ b → b ≡ y ++ c → a ≡ (x ++ y) ++ c
join x y c p q = p ∙ ap (λ (t : List ℕ). x ++ t) q ∙ sym (append_assoc x y c)

-- what was read: the text of a value, which has P, and the rest
pub record Says {X : Type 0} (text : X → List ℕ) (P : X → Type 0) (bytes : List ℕ) (x : X × List ℕ) : Type 0 where
  pub parts : bytes ≡ text x.0 ++ x.1
  pub fits : P x.0

-- what every reader of a value does
abbrev pub Sound : {X : Type 0} → (List ℕ → Read X) → (X → List ℕ) → (X → Type 0) → Type 0
Sound {X} read text P = (bytes : List ℕ) (x : X × List ℕ) → read bytes ≡ Some x → Says text P bytes x

abbrev pub Again : {X : Type 0} → (List ℕ → Read X) → (X → List ℕ) → (X → Type 0) → Type 0
Again {X} read text P = (x : X) (rest : List ℕ) → P x → read (text x ++ rest) ≡ Some (x, rest)

---- words

pub after_is : (w bytes rest : List ℕ) → after w bytes ≡ Some rest → bytes ≡ w ++ rest
after_is [] bytes rest h = same_Some bytes rest h
after_is (w ∷ ws) [] rest h = absurd cc
after_is (w ∷ ws) (b ∷ bs) rest h =
    by_test (w == b)
    (λ q. let k : after ws bs ≡ Some rest = rw q at h in let head : w ≡ b = eqb-true w b q in λ i. sym head i ∷ after_is ws bs rest k i)
    (λ q. let k : None ≡ Some rest = rw q at h in absurd cc)

pub after_again : (w rest : List ℕ) → after w (w ++ rest) ≡ Some rest
after_again [] rest = refl
after_again (w ∷ ws) rest = let k : (w == w) ≡ true = grind (arith, nat_tests) in rw k (after_again ws rest)

pub after_short : (ws bs : List ℕ) (i : ℕ) → i < length ws → length bs < 1 → after (drop i ws) bs ≡ None
after_short ws [] i h short = rw (drop_more ws i 0 h) refl
after_short ws (b ∷ bs) i h short = absurd (omega arith)

---- fronts

-- a byte is at the start that the test refuses, or none
abbrev pub stops_at : (ℕ → Bool) → List ℕ → Bool
stops_at p [] = true
stops_at p (c ∷ cs) = cond (p c) false true

front_ends : (p : ℕ → Bool) (rest : List ℕ) → stops_at p rest ≡ true → prefix_len p rest ≡ 0
front_ends p [] h = refl
front_ends p (c ∷ cs) h = by_test (p c) (λ e. let k : false ≡ true = rw e at h in absurd cc) (λ e. rw e refl)

pub front_again : (p : ℕ → Bool) (w rest : List ℕ) → list_all p w ≡ true → stops_at p rest ≡ true → prefix_len p (w ++ rest) ≡ length w
front_again p [] rest h e = front_ends p rest e
front_again p (b ∷ bs) rest h e = rw (and_first (p b) _ h, front_again p bs rest (and_second (p b) _ h) e) (one_more (length bs))

---- names

pub not_utf8 : (bs : List ℕ) → (IsUtf8 bs → ⊥) → is_utf8 bs ≡ false
not_utf8 bs h = by_test (is_utf8 bs) (λ q. absurd (h (IsUtf8-from_is_utf8 bs q))) (λ q. q)

abbrev pub itself : List ℕ → List ℕ
itself text = text

abbrev pub IsName : List ℕ → Type 0
IsName name = is_name name ≡ true

pub name_sound : Sound name_at itself IsName
unfolding name_at
name_sound bytes x h =
    let n : ℕ = prefix_len is_part bytes in
    let a = bind_some (name_of (take n bytes)) (λ name. Some (name, drop n bytes)) x h in
    let named = cond_some (is_name (take n bytes)) (take n bytes) a.0 a.1 in
    let made : (a.0, drop n bytes) ≡ x = same_Some (a.0, drop n bytes) x a.2 in
    subst (Says itself IsName bytes) made (record {
      parts = sym (take-append-drop n bytes) ∙ ap (λ (t : List ℕ). t ++ drop n bytes) named.1;
      fits = subst IsName named.1 named.0;
    })

pub name_again : (name rest : List ℕ) → IsName name → stops_at is_part rest ≡ true → name_at (name ++ rest) ≡ Some (name, rest)
unfolding name_at
name_again name rest h e =
    let n : prefix_len is_part (name ++ rest) ≡ length name = front_again is_part name rest (parts name h) e in
    rw (n, take_at name rest (length name) refl, drop_at name rest (length name) refl, h) refl
