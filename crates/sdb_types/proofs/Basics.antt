-- What many proofs cite of truth values, options, numbers and lists, and std doesn't have.
use Rattle.std.proofs.Common.{◌≡◌, ◌⊎◌, inl, inr, ℕ, zero, suc, ◌+◌, ◌*◌, ◌^◌, ◌<◌, ◌≤◌, ◌==◌, Bool, true, false, not, ◌&&◌, ◌||◌, cond, List, [], ◌∷◌, ◌++◌, map, take, drop, length, get_or, Option, Some, None, Result, Ok, T, refl, sym, ap, ◌∙◌, arith, add-one, drop-cons, length-append}
use Rattle.std.specs.Prelude.{nat_le, nat_lt, position, Contains}
use Rattle.std.specs.List.{AllByRecursion, list_all, position_or_len, before_first, after_first, prefix_len}
use Rattle.std.specs.declared.cmp.Ordering.{Ordering}
use Rattle.std.specs.declared.cmp.Ordering.TheVariants.{Less, Equal, Greater}
use Rattle.std.specs.Ordering.{is_lt}
use Rattle.std.proofs.lemmas.Bool.Decides.{nat_tests}
use Rattle.std.proofs.lemmas.Grind.{common_steps}
use Rattle.std.proofs.lemmas.List.Sums.{fails_before_first, split_at_first, passes_at_first}
use Rattle.sdb_types.specs.Identifier.{is_part}
use Rattle.sdb_types.proofs.Bools.{and_first, and_second, and_both}
use Rattle.std.proofs.Math.Seq.{take-append_seam, drop-append-add}
use Rattle.std.proofs.lemmas.List.Elements.{Contains-append_cases, Contains-push_cases}
use Rattle.sdb_types.specs.NameText.{around}
use Rattle.sdb_types.specs.Options.{◌>>=◌}

pub some_is : {A : Type 0} (x y : A) → Some x ≡ Some y → x ≡ y
some_is x y h = cc

pub none_some : {A B : Type 0} (x : A) → ◌≡◌ {A = Option A} None (Some x) → B
none_some x e = absurd (cc)

pub clash : {A : Type 0} → true ≡ false → A
clash e = absurd (cc)

-- the two cases of a test, each with its outcome
pub by_test : {G : Type 0} (t : Bool) → (t ≡ true → G) → (t ≡ false → G) → G
by_test true a b = a refl
by_test false a b = b refl

pub less_of : (r : Ordering) → is_lt r ≡ true → r ≡ Less
less_of Less h = refl
less_of Equal h = cc
less_of Greater h = cc

pub or_second : (a b : Bool) → b ≡ true → (a || b) ≡ true
or_second true b h = refl
or_second false b h = h

pub and_parts : (a b : Bool) → (a && b) ≡ true → (a ≡ true) × (b ≡ true)
and_parts true b h = (refl, h)
and_parts false b h = absurd cc

pub truth : (b : Bool) → T b → b ≡ true
truth true h = refl
truth false h = absurd h

pub one_more : (n : ℕ) → 1 + n ≡ suc n
one_more n = omega arith

pub lt_of : (a b : ℕ) → nat_lt a b ≡ true → a < b
lt_of a b h = grind (arith, nat_tests)

pub longer : (n : ℕ) → nat_le n 64 ≡ true → nat_le n 71 ≡ true
longer n h = grind (arith, nat_tests)

pub eq_of : (a b : ℕ) → (a == b) ≡ true → a ≡ b
eq_of a b h = grind (arith, nat_tests)

abbrev pub lacks : ℕ → List ℕ → Bool
lacks c text = list_all (λ b. not (b == c)) text

pub suc_of : (n m : ℕ) → n ≡ m → 1 + n ≡ suc m
suc_of n m h = omega arith

pub below : (n m : ℕ) → n < m → nat_lt n m ≡ true
below n m h = grind (arith, nat_tests)

pub front_shorter : (front : List ℕ) (c : ℕ) (back : List ℕ) → length front < length (front ++ c ∷ back)
front_shorter front c back = omega (arith, length-append front (c ∷ back))

abbrev pub around_at : ℕ → List ℕ → Option (List ℕ × List ℕ)
around_at n text = cond (nat_lt n (length text)) (Some (take n text, drop (n + 1) text)) None

pub and_true : (b : Bool) → (b && true) ≡ b
and_true true = refl
and_true false = refl

pub drop_next : {A : Type 0} (xs : List A) (i : ℕ) (x : A) → i < length xs → x ≡ get_or xs i x → drop i xs ≡ x ∷ drop (i + 1) xs
drop_next xs i x h is = drop-cons xs i x h ∙ ap (λ y. y ∷ drop (suc i) xs) (sym is) ∙ ap (λ n. x ∷ drop n xs) (sym (add-one i))

pub t_both : (a b : Bool) → a ≡ true → T b → T (a && b)
t_both true b h g = g
t_both false b h g = absurd (cc)

pub both_t : (a b : Bool) → T a → T b → T (a && b)
both_t true b h g = g
both_t false b h g = absurd h

pub all_last : {A : Type 0} (P : A → Type 0) (xs : List A) (x : A) → AllByRecursion P xs → P x → AllByRecursion P (xs ++ x ∷ [])
all_last P [] x h p = (p, tt)
all_last P (y ∷ ys) x h p = (h.0, all_last P ys x h.1 p)

abbrev pub or_else : {A : Type 0} → Option A → Option A → Option A
or_else None o = o
or_else (Some x) o = Some x

pub cond_some : {X : Type 0} (b : Bool) (x y : Option X) → (b ≡ true → x ≡ y) → cond b x None ≡ cond b y None
cond_some true x y e = e refl
cond_some false x y e = refl

pub or_true : (b : Bool) → (b || true) ≡ true
or_true true = refl
or_true false = refl

pub or_false : (b : Bool) → (b || false) ≡ b
or_false true = refl
or_false false = refl

pub and_false : (b : Bool) → (b && false) ≡ false
and_false true = refl
and_false false = refl

pub or_neither : (a b : Bool) → (a || b) ≡ false → (a ≡ false) × (b ≡ false)
or_neither true b h = absurd (cc)
or_neither false b h = (refl, h)

pub nat_at_most : (m n : ℕ) → nat_le m n ≡ true → m ≤ n
nat_at_most m n h = grind (arith, nat_tests)

pub at_most_nat : (m n : ℕ) → m ≤ n → nat_le m n ≡ true
at_most_nat m n h = grind (arith, nat_tests)

pub not_true : (b : Bool) → not b ≡ true → b ≡ false
not_true true e = absurd (cc)
not_true false e = refl

pub append_all : {A : Type 0} (P : A → Type 0) (xs ys : List A) → AllByRecursion P xs → AllByRecursion P ys → AllByRecursion P (xs ++ ys)
append_all P [] ys h g = g
append_all P (x ∷ xs) ys h g = (h.0, append_all P xs ys h.1 g)

pub all_each : {A : Type 0} (P Q : A → Type 0) (xs : List A) → ((x : A) → P x → Q x) → AllByRecursion P xs → AllByRecursion Q xs
all_each P Q [] f h = tt
all_each P Q (x ∷ xs) f h = (f x h.0, all_each P Q xs f h.1)

pub first_t : (a b : Bool) → T (a && b) → T a
first_t true b p = tt
first_t false b p = p

pub second_t : (a b : Bool) → T (a && b) → T b
second_t true b p = p
second_t false b p = absurd p

pub false_true : {X : Type 0} → false ≡ true → X
false_true h = absurd (let e : false ≡ true = h in cc)

pub none_before : {A : Type 0} (p : A → Bool) (xs : List A) (d : A) → position p xs ≡ None → (k : ℕ) → k < length xs → p (get_or xs k d) ≡ false
none_before p xs d e k inside =
    let n : length xs ≤ position_or_len p xs = grind (arith, common_steps) in fails_before_first p xs k d (omega (arith, n))

abbrev pub done : {A : Type 0} → A → Result A ℕ
done x = Ok x

abbrev pub onto : ℕ → List ℕ × List ℕ → List ℕ × List ℕ
onto c p = (c ∷ p.0, p.1)

pub itself : (c : ℕ) → (c == c) ≡ true
itself c = grind (arith, nat_tests)

pub length_more : {A : Type 0} (xs : List A) (x : A) → length (xs ++ x ∷ []) ≡ length xs + 1
length_more [] x = refl
length_more (y ∷ xs) x = ap suc (length_more xs x) ∙ plus (length xs)
  where
    plus : (n : ℕ) → suc (n + 1) ≡ suc n + 1
    plus n = omega arith

pub id_fits : (c n : ℕ) → c < 2 ^ 64 → n < 2 ^ 64 → c * 2 ^ 64 + n < 2 ^ 128
id_fits c n a b = omega arith

pub false_by : (b : Bool) → (b ≡ true → ⊥) → b ≡ false
false_by true h = absurd (h refl)
false_by false h = refl

pub fails_second : (a b : Bool) → b ≡ false → (a && b) ≡ false
fails_second true b h = h
fails_second false b h = refl

pub assoc : {A : Type 0} (xs ys zs : List A) → (xs ++ ys) ++ zs ≡ xs ++ (ys ++ zs)
assoc [] ys zs = refl
assoc (x ∷ xs) ys zs = ap (λ r. x ∷ r) (assoc xs ys zs)

pub map_last : {A B : Type 0} (f : A → B) (xs : List A) (x : A) → map f (xs ++ x ∷ []) ≡ map f xs ++ f x ∷ []
map_last f [] x = refl
map_last f (y ∷ xs) x = ap (λ r. f y ∷ r) (map_last f xs x)

pub either : (a b : Bool) → (a || b) ≡ true → (a ≡ true) ⊎ (b ≡ true)
either true b h = inl refl
either false b h = inr h

pub decides : (a : Bool) → (a ≡ true) ⊎ (a ≡ false)
decides true = inl refl
decides false = inr refl

pub take_all : {A : Type 0} (xs : List A) (i : ℕ) → length xs ≤ i → take i xs ≡ xs
take_all [] zero h = refl
take_all [] (suc i) h = refl
take_all (x ∷ xs) zero h = absurd (omega arith)
take_all (x ∷ xs) (suc i) h = ap (λ ys. x ∷ ys) (take_all xs i (omega arith))

pub cond_by : {X : Type 0} (P : X → Type 0) (b : Bool) (x y : X) → (b ≡ true → P x) → (b ≡ false → P y) → P (cond b x y)
cond_by P true x y f g = f refl
cond_by P false x y f g = g refl

pub by_option : {A G : Type 0} (r : Option A) → ((x : A) → r ≡ Some x → G) → (r ≡ None → G) → G
by_option (Some x) f g = f x refl
by_option None f g = g refl

pub at_byte : (c : ℕ) (text : List ℕ) → nat_lt (position_or_len (λ b. b == c) text) (length text) ≡ true → text ≡ before_first (λ b. b == c) text ++ (c ∷ after_first (λ b. b == c) text)
at_byte c text q =
    let h = lt_of _ _ q in
    split_at_first (λ b. b == c) text 0 h ∙ ap (λ (b : ℕ). before_first (λ b. b == c) text ++ (b ∷ after_first (λ b. b == c) text)) (eq_of _ c (passes_at_first (λ b. b == c) text 0 h))

pub all_lack : (c : ℕ) (each : (b : ℕ) → is_part b ≡ true → not (b == c) ≡ true) (text : List ℕ) → list_all is_part text ≡ true → lacks c text ≡ true
all_lack c each [] h = refl
all_lack c each (b ∷ bs) h = and_both (not (b == c)) (lacks c bs) (each b (and_first (is_part b) (list_all is_part bs) h)) (all_lack c each bs (and_second (is_part b) (list_all is_part bs) h))

pub place_behind : (c : ℕ) (front back : List ℕ) → (c == c) ≡ true → lacks c front ≡ true → position_or_len (λ b. b == c) (front ++ c ∷ back) ≡ length front
place_behind c [] back r h = simp r refl
place_behind c (x ∷ xs) back r h =
    simp (and_first (not (x == c)) (lacks c xs) h) (suc_of _ _ (place_behind c xs back r (and_second (not (x == c)) (lacks c xs) h)))

pub around_at-seam : (front : List ℕ) (c : ℕ) (back : List ℕ) → around_at (length front) (front ++ c ∷ back) ≡ Some (front, back)
around_at-seam front c back =
    let first = take-append_seam front (c ∷ back) in
    let second : drop (length front + 1) (front ++ c ∷ back) ≡ back = drop-append-add front (c ∷ back) 1 in
    ap (λ (b : Bool). cond b (Some (take (length front) (front ++ c ∷ back), drop (length front + 1) (front ++ c ∷ back))) None) (below _ _ (front_shorter front c back))
    ∙ ap (λ (x : List ℕ). Some (x, drop (length front + 1) (front ++ c ∷ back))) first ∙ ap (λ (y : List ℕ). Some (front, y)) second

pub front_passes : (p : ℕ → Bool) (bs : List ℕ) → list_all p (take (prefix_len p bs) bs) ≡ true
front_passes p [] = refl
front_passes p (b ∷ bs) = by_test (p b) (λ e. rw (e, one_more, e) (front_passes p bs)) (λ e. rw e refl)

pub one_of : {X : Type 0} (x y : X) (xs : List X) → Contains (x ∷ xs) y → (x ≡ y) ⊎ Contains xs y
one_of {X = X} x y xs has = by (Contains-append_cases (x ∷ []) xs y has)
  where
    none : Contains {X = X} [] y → ⊥
    none h = absurd (omega (arith, h.1))

    first : Contains [] y ⊎ (x ≡ y) → (x ≡ y) ⊎ Contains xs y
    first (inl h) = absurd (none h)
    first (inr h) = inl h

    by : Contains (x ∷ []) y ⊎ Contains xs y → (x ≡ y) ⊎ Contains xs y
    by (inl h) = first (Contains-push_cases [] x y h)
    by (inr h) = inr h

pub around_behind : (c : ℕ) (front back : List ℕ) → (c == c) ≡ true → lacks c front ≡ true → around c (front ++ c ∷ back) ≡ Some (front, back)
around_behind c front back r h = ap (λ n. around_at n (front ++ c ∷ back)) (place_behind c front back r h) ∙ around_at-seam front c back

pub bind_some : {A B : Type 0} (r : Option A) (f : A → Option B) (y : B) → (r >>= f) ≡ Some y → (x : A) × (r ≡ Some x) × (f x ≡ Some y)
bind_some (Some x) f y e = (x, refl, e)
bind_some None f y e = absurd cc

pub or_none : {X : Type 0} (o : Option X) → or_else o None ≡ o
or_none None = refl
or_none (Some x) = refl
