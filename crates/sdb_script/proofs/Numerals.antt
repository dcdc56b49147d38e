-- Numerals, and words before a space.
use Rattle.std.proofs.Common.{◌≡◌, ℕ, ◌+◌, ◌-◌, ◌*◌, ◌/◌, ◌%◌, ◌^◌, ◌<◌, ◌≤◌, ◌==◌, Bool, true, false, not, ◌&&◌, ◌||◌, List, [], ◌∷◌, ◌++◌, length, Some, None, refl, sym, ap, subst, ◌∙◌, append_assoc, append-nil, arith, fold}
use Rattle.std.specs.Prelude.{nat_le, nat_lt}
use Rattle.std.specs.Fmt.{decimal}
use Rattle.std.specs.List.{list_all, position_or_len}
use Rattle.std.proofs.lemmas.Bool.Decides.{nat_tests}
use Rattle.std.proofs.lemmas.Fmt.{decimal_by_steps, decimal_digit, decimal_step}
use Rattle.std.proofs.lemmas.List.Sums.{fold_push}
use Rattle.std.proofs.lemmas.List.{length-append}
use Rattle.std.proofs.Math.Seq.{take-append_seam, drop-append-add}
use Rattle.sdb_types.specs.Identifier.{is_start, is_part, is_identifier}
use Rattle.sdb_types.proofs.Public.{and_both, and_first, and_second, at_byte, by_test, some_is}
use Rattle.sdb_model.specs.SqlTokens.{is_digit, digits_value}
use Rattle.sdb_model.specs.Form.{is_client_name}
use Rattle.sdb_script.specs.Words.{is_numeral, Counts, numeral_in}
use Rattle.sdb_script.proofs.Pieces.{no_some}
use Rattle.sdb_types.specs.NameText.{around}
use Rattle.sdb_model.proofs.Public.{digit_is}

---- words before a space

abbrev pub is_space : ℕ → Bool
is_space b = b == 32

abbrev pub HasNoSpace : List ℕ → Type 0
HasNoSpace [] = Unit {0}
HasNoSpace (c ∷ cs) = ((c == 32) ≡ false) × HasNoSpace cs

pub part_no_space : (c : ℕ) → is_part c ≡ true → (c == 32) ≡ false
part_no_space c h = grind (arith, nat_tests)

start_no_space : (c : ℕ) → is_start c ≡ true → (c == 32) ≡ false
start_no_space c h = grind (arith, nat_tests)

digit_no_space : (c : ℕ) → is_digit c ≡ true → (c == 32) ≡ false
digit_no_space c h = grind (arith, nat_tests)

parts_no_space : (cs : List ℕ) → list_all is_part cs ≡ true → HasNoSpace cs
parts_no_space [] h = tt
parts_no_space (c ∷ cs) h = (part_no_space c (and_first (is_part c) _ h), parts_no_space cs (and_second (is_part c) _ h))

digits_no_space : (cs : List ℕ) → list_all is_digit cs ≡ true → HasNoSpace cs
digits_no_space [] h = tt
digits_no_space (c ∷ cs) h = (digit_no_space c (and_first (is_digit c) _ h), digits_no_space cs (and_second (is_digit c) _ h))

identifier_no_space : (cs : List ℕ) → is_identifier cs ≡ true → HasNoSpace cs
identifier_no_space [] h = tt
identifier_no_space (c ∷ cs) h = (start_no_space c (and_first (is_start c) _ h), parts_no_space cs (and_second (is_start c) _ h))

pub name_no_space : (name : List ℕ) → is_client_name name ≡ true → HasNoSpace name
name_no_space name h = identifier_no_space name (and_second (nat_le (length name) 64) _ h)

pub numeral_no_space : (word : List ℕ) → is_numeral word ≡ true → HasNoSpace word
numeral_no_space [] h = tt
numeral_no_space (c ∷ cs) h =
    let d = and_first (is_digit c && list_all is_digit cs) _ h in
    (digit_no_space c (and_first (is_digit c) _ d), digits_no_space cs (and_second (is_digit c) _ d))

first_space : (word rest : List ℕ) → HasNoSpace word → position_or_len is_space (word ++ 32 ∷ rest) ≡ length word
first_space [] rest h = refl
first_space (c ∷ cs) rest h = rw h.0 (omega (arith, first_space cs rest h.1))

nowhere : (word : List ℕ) → HasNoSpace word → position_or_len is_space word ≡ length word
nowhere [] h = refl
nowhere (c ∷ cs) h = rw h.0 (omega (arith, nowhere cs h.1))

pub around_again : (word rest : List ℕ) → HasNoSpace word → around 32 (word ++ 32 ∷ rest) ≡ Some (word, rest)
around_again word rest h =
    let less : nat_lt (length word) (length (word ++ 32 ∷ rest)) ≡ true = grind (arith, nat_tests, length-append word (32 ∷ rest)) in
    rw (first_space word rest h, less, take-append_seam word (32 ∷ rest), drop-append-add word (32 ∷ rest) 1) refl

pub around_none : (word : List ℕ) → HasNoSpace word → around 32 word ≡ None
around_none word h =
    let same : nat_lt (length word) (length word) ≡ false = grind (arith, nat_tests) in
    rw (nowhere word h, same) refl

pub around_is : (text : List ℕ) (w : List ℕ × List ℕ) → around 32 text ≡ Some w → text ≡ w.0 ++ 32 ∷ w.1
around_is text w h =
    by_test (nat_lt (position_or_len is_space text) (length text))
    (λ t. subst (λ (x : List ℕ × List ℕ). text ≡ x.0 ++ 32 ∷ x.1) (some_is _ w (rw t at h)) (at_byte 32 text t))
    (λ t. no_some w (rw t at h))

---- numerals

pub counted_is : (word : List ℕ) (n : ℕ) → numeral_in word ≡ Some n → Counts word n
counted_is word n h = by_test (is_numeral word) (λ t. (t, some_is _ n (rw t at h))) (λ t. no_some n (rw t at h))

pub counted_again : (word : List ℕ) (n : ℕ) → Counts word n → numeral_in word ≡ Some n
counted_again word n k = rw k.0 (ap (λ (x : ℕ). Some x) k.1)

---- numbers as texts

all_more : (ds : List ℕ) (d : ℕ) → list_all is_digit ds ≡ true → is_digit d ≡ true → list_all is_digit (ds ++ d ∷ []) ≡ true
all_more [] d h k = rw k refl
all_more (c ∷ cs) d h k = and_both (is_digit c) (list_all is_digit (cs ++ d ∷ [])) (and_first (is_digit c) _ h) (all_more cs d (and_second (is_digit c) _ h) k)

some_more : (d : ℕ) (cs : List ℕ) → (length (d ∷ cs) == 0) ≡ false
some_more d cs = grind (arith, nat_tests)

-- a numeral that isn't 0 doesn't begin with 0
leads : (c : ℕ) (cs : List ℕ) → is_numeral (c ∷ cs) ≡ true → 1 ≤ digits_value (c ∷ cs) → not (c == 48) ≡ true
leads c [] h big = let e : not (c == 48) ≡ true = grind (arith, nat_tests) in e
leads c (d ∷ cs) h big =
    let more : (length (d ∷ cs) == 0) ≡ false = some_more d cs in
    let k : (not (c == 48) || false) ≡ true = rw more at (and_second (is_digit c && list_all is_digit (d ∷ cs)) (not (c == 48) || length (d ∷ cs) == 0) h) in
    by_test (c == 48) (λ t. let q : false ≡ true = rw t at k in absurd cc) (λ t. rw t refl)

one_digit : (n : ℕ) → n < 10 → Counts ((48 + n) ∷ []) n
one_digit n lt =
    let k = digit_is n lt in
    let e : (not (48 + n == 48) || true) ≡ true = by_test (48 + n == 48) (λ t. rw t refl) (λ t. rw t refl) in
    (rw (k, e) refl, omega arith)

both_parts : (c : ℕ) (cs : List ℕ) → is_digit c ≡ true → list_all is_digit cs ≡ true → not (c == 48) ≡ true → is_numeral (c ∷ cs) ≡ true
both_parts c cs h k l = rw (h, k, l) refl

more_digits : (n : ℕ) (ds : List ℕ) → 10 ≤ n → Counts ds (n / 10) → Counts (ds ++ ((48 + n % 10) ∷ [])) n
more_digits n [] ge h = absurd (let k : false ≡ true = h.0 in cc)
more_digits n (c ∷ cs) ge h =
    let k = digit_is (n % 10) (omega arith) in
    let d = and_first (is_digit c && list_all is_digit cs) _ h.0 in
    let big : 1 ≤ digits_value (c ∷ cs) = omega (arith, h.1) in
    let lead = leads c cs h.0 big in
    let v = fold_push (λ a b. a * 10 + (b - 48)) 0 (c ∷ cs) (48 + n % 10) in
    let e : digits_value (c ∷ cs) * 10 + (48 + n % 10 - 48) ≡ n = omega (arith, h.1) in
    (both_parts c (cs ++ (48 + n % 10) ∷ []) (and_first (is_digit c) _ d) (all_more cs (48 + n % 10) (and_second (is_digit c) _ d) k) lead, v ∙ e)

-- the decimal text of a number is its numeral
pub text_counts : (n : ℕ) → n < 2 ^ 64 → Counts (decimal n) n
text_counts n lt = decimal_by_steps (λ m ds. Counts ds m) one_digit more_digits n lt

abbrev read_on : ℕ → List ℕ → ℕ
read_on n ds = fold (λ a b. a * 10 + (b - 48)) n ds

grows : (n : ℕ) (cs : List ℕ) → n ≤ read_on n cs
grows n [] = omega arith
grows n (c ∷ cs) = omega (arith, grows (n * 10 + (c - 48)) cs)

next_text : (n c : ℕ) → 1 ≤ n → is_digit c ≡ true → n * 10 + (c - 48) < 2 ^ 64 → decimal (n * 10 + (c - 48)) ≡ decimal n ++ c ∷ []
next_text n c ge h lt =
    let low : 48 ≤ c = grind (arith, nat_tests) in
    let high : c ≤ 57 = grind (arith, nat_tests) in
    let whole : (n * 10 + (c - 48)) / 10 ≡ n = omega arith in
    let last : 48 + (n * 10 + (c - 48)) % 10 ≡ c = omega arith in
    decimal_step (n * 10 + (c - 48)) (omega arith) lt ∙ ap (λ (m : ℕ). decimal m ++ (48 + (n * 10 + (c - 48)) % 10) ∷ []) whole ∙ ap (λ (d : ℕ). decimal n ++ d ∷ []) last

spelled : (n : ℕ) (cs : List ℕ) → 1 ≤ n → list_all is_digit cs ≡ true → read_on n cs < 2 ^ 64 → decimal (read_on n cs) ≡ decimal n ++ cs
spelled n [] ge h lt = sym (append-nil (decimal n))
spelled n (c ∷ cs) ge h lt =
    let small : n * 10 + (c - 48) < 2 ^ 64 = omega (arith, grows (n * 10 + (c - 48)) cs) in
    spelled (n * 10 + (c - 48)) cs (omega arith) (and_second (is_digit c) _ h) lt
    ∙ ap (λ (ds : List ℕ). ds ++ cs) (next_text n c ge (and_first (is_digit c) _ h) small) ∙ append_assoc (decimal n) (c ∷ []) cs

first_text : (c : ℕ) → is_digit c ≡ true → decimal (c - 48) ≡ c ∷ []
first_text c h =
    let low : 48 ≤ c = grind (arith, nat_tests) in
    let high : c ≤ 57 = grind (arith, nat_tests) in
    let same : 48 + (c - 48) ≡ c = omega arith in
    decimal_digit (c - 48) (omega arith) ∙ ap (λ (d : ℕ). d ∷ []) same

digits_text : (c : ℕ) (cs : List ℕ) → is_numeral (c ∷ cs) ≡ true → digits_value (c ∷ cs) < 2 ^ 64 → decimal (digits_value (c ∷ cs)) ≡ c ∷ cs
digits_text c [] h lt =
    let same : digits_value (c ∷ []) ≡ c - 48 = omega arith in
    ap decimal same ∙ first_text c (and_first (is_digit c) _ (and_first (is_digit c && true) _ h))
digits_text c (e ∷ cs) h lt =
    let d = and_first (is_digit c && list_all is_digit (e ∷ cs)) _ h in
    let digit = and_first (is_digit c) _ d in
    let more : (length (e ∷ cs) == 0) ≡ false = some_more e cs in
    let k : (not (c == 48) || false) ≡ true = rw more at (and_second (is_digit c && list_all is_digit (e ∷ cs)) (not (c == 48) || length (e ∷ cs) == 0) h) in
    let low : 48 ≤ c = grind (arith, nat_tests) in
    let big : 1 ≤ 0 * 10 + (c - 48) = by_test (c == 48) (λ t. let q : false ≡ true = rw t at k in absurd cc) (λ t. grind (arith, nat_tests)) in
    let same : 0 * 10 + (c - 48) ≡ c - 48 = omega arith in
    spelled (0 * 10 + (c - 48)) (e ∷ cs) big (and_second (is_digit c) _ d) lt ∙ ap (λ (ds : List ℕ). ds ++ e ∷ cs) (ap decimal same ∙ first_text c digit)

-- a numeral is the decimal text of its number
pub counts_text : (word : List ℕ) (n : ℕ) → Counts word n → n < 2 ^ 64 → word ≡ decimal n
counts_text [] n k lt = absurd (let q : false ≡ true = k.0 in cc)
counts_text (c ∷ cs) n k lt = sym (digits_text c cs k.0 (omega (arith, k.1))) ∙ ap decimal k.1
