-- Values and rows: what is read is there, and what is there is read.
use Rattle.std.proofs.Common.{◌≡◌, ℕ, suc, ◌^◌, ◌<◌, Bool, true, false, cond, ltb, ◌==◌, ◌||◌, List, [], ◌∷◌, ◌++◌, length, take, Option, Some, None, Result, Ok, Err, refl, sym, ap, subst, ◌∙◌, append_assoc, arith, ℤ, pos, negsuc, inl, inr, flat_map, ◌/◌, ◌%◌}
use Rattle.std.specs.Prelude.{FitsSigned, codes, slice_index}
use Rattle.std.specs.Char.{is_ascii_digit}
use Rattle.std.specs.Fmt.{decimal, signed_decimal}
use Rattle.std.specs.Int.{w32}
use Rattle.std.specs.List.{list_all, prefix_len, AllByRecursion}
use Rattle.std.specs.Result.{result_ok}
use Rattle.std.specs.Str.{is_utf8, IsUtf8}
use Rattle.std.proofs.lemmas.Bool.{eqb-true, ltb-true, lt-ltb}
use Rattle.std.proofs.lemmas.Bool.Decides.{nat_tests}
use Rattle.std.proofs.lemmas.List.{append-nil, take_at}
use Rattle.std.proofs.lemmas.List.Elements.{All-from_recursion, recursion_from_All}
use Rattle.std.proofs.lemmas.Option.{same_Some, cond_some}
use Rattle.std.proofs.lemmas.Str.{IsUtf8-from_is_utf8, is_utf8-from_IsUtf8}
use Rattle.hex.specs.Hex.{IsBytes, decode_of, encode_with, encode_upper, hex_digit_value, upper_digits}
use Rattle.sdb_report.specs.Types.{FromHexError, Value}
use Rattle.hex.proofs.HexLemmas.{decode_of-ok, decode_of-encode_upper, IsDigits-upper_digits}
use Rattle.sdb_types.specs.Fits.{AreBytes, text_fits, value_fits}
use Rattle.sdb_types.specs.declared.value.Value.TheVariants as value
use Rattle.sdb_model.specs.Texts.{doubled, quoted, value_text_of, values_text_of, row_text_of}
use Rattle.sdb_model.specs.Plain.{values_are_plain}
use Rattle.sdb_report.specs.FieldReading.{case_of, after, text_of, integer_at, int_of, begins_number, numeral_at, quoted_on, text_at, is_unquoted, blob_at, value_at, many, next_value_at, some_values_at, values_at, row_at}
use Rattle.sdb_report.proofs.WordLaws.{case_some, join, Says, Sound, Again, after_is, after_again, stops_at, front_again}
use Rattle.sdb_report.proofs.NumberLaws.{digits_go, begins_digit, integer_sound, integer_again, IsLong}
use Rattle.sdb_report.proofs.Lists.{Each-all, Each-from_all, many_is, many_again, count_le}
use lib.Utf8.{scalar, scalars, encode, encodes, next, scalar_cases}
use Rattle.sdb_types.proofs.Public.{and_parts, bind_some, by_test}
use Rattle.sdb_model.proofs.Public.{are_bytes, is_bytes}
use Rattle.sdb_types.specs.Options.{◌>>=◌}

---- a text in UTF-8 is bytes

next_small : (n : ℕ) → next n < 256
next_small n = omega arith

-- the bytes of one character
one_small : (c : ℕ) → c < 1114112 → AllByRecursion (λ b. b < 256) (encode c)
unfolding encode
one_small c lt =
    by_test (ltb c 128)
    (λ p. rw p (let k : c < 128 = ltb-true c 128 p in (omega arith, tt)))
    (λ p.
    by_test (ltb c 2048)
    (λ q. rw (p, q) (let k : c < 2048 = ltb-true c 2048 q in (omega arith, (next_small c, tt))))
    (λ q.
    by_test (ltb c 65536)
    (λ r. rw (p, q, r) (let k : c < 65536 = ltb-true c 65536 r in (omega arith, (next_small (c / 64), (next_small c, tt)))))
    (λ r. rw (p, q, r) (omega arith, (next_small (c / 4096), (next_small (c / 64), (next_small c, tt)))))))

all_append : (P : ℕ → Type 0) (xs ys : List ℕ) → AllByRecursion P xs → AllByRecursion P ys → AllByRecursion P (xs ++ ys)
all_append P [] ys h k = k
all_append P (x ∷ xs) ys h k = (h.0, all_append P xs ys h.1 k)

scalar_small : (c : ℕ) → scalar c ≡ true → c < 1114112
scalar_small c h = elim (scalar_cases c h) [ inl k ↦ omega arith | inr k ↦ k.1 ]

all_small : (cs : List ℕ) → scalars cs ≡ true → AllByRecursion (λ b. b < 256) (encodes cs)
all_small [] h = tt
all_small (c ∷ cs) h =
    let p = and_parts (scalar c) (scalars cs) h in
    all_append (λ b. b < 256) (encode c) (encodes cs) (one_small c (scalar_small c p.0)) (all_small cs p.1)

pub utf8_fits : (text : List ℕ) → IsUtf8 text → text_fits text
utf8_fits text u = record { bytes = subst AreBytes u.1.1 (All-from_recursion (λ b. b < 256) (encodes u.0) (all_small u.0 u.1.0)); utf8 = u }

---- quoted texts

abbrev Unquoted : Bool → List ℕ → List ℕ → List ℕ × List ℕ → Type 0
Unquoted second front bytes x = (more : List ℕ) × (x.0 ≡ front ++ more) × (cond second (39 ∷ bytes) bytes ≡ flat_map doubled more ++ 39 ∷ x.1)

plain_byte : (b : ℕ) → (b == 39) ≡ false → doubled b ≡ b ∷ []
plain_byte b q = rw q refl

-- one more byte of the text
onward : (b : ℕ) (front rest : List ℕ) (x : List ℕ × List ℕ) → (b == 39) ≡ false → Unquoted false (front ++ b ∷ []) rest x → Unquoted false front (b ∷ rest) x
onward b front rest x q m =
    (b ∷ m.0, m.1 ∙ append_assoc front (b ∷ []) m.0, ap (λ (t : List ℕ). b ∷ t) m.2 ∙ ap (λ (t : List ℕ). (t ++ flat_map doubled m.0) ++ 39 ∷ x.1) (sym (plain_byte b q)))

pub quoted_is : (second : Bool) (front bytes : List ℕ) (x : List ℕ × List ℕ) → quoted_on second front bytes ≡ Some x → Unquoted second front bytes x
quoted_is true front [] x h = subst (Unquoted true front []) (same_Some (front, []) x h) ([], sym (append-nil front), refl)
quoted_is false front [] x h = absurd cc
quoted_is true front (b ∷ bs) x h =
    by_test (b == 39)
    (λ q.
    let k : quoted_on false (front ++ b ∷ []) bs ≡ Some x = rw q at h in
    let m = quoted_is false (front ++ b ∷ []) bs x k in
    let is : b ≡ 39 = eqb-true b 39 q in
    (39 ∷ m.0, m.1 ∙ append_assoc front (b ∷ []) m.0 ∙ ap (λ (c : ℕ). front ++ c ∷ m.0) is, ap (λ (c : ℕ). 39 ∷ c ∷ bs) is ∙ ap (λ (t : List ℕ). 39 ∷ 39 ∷ t) m.2))
    (λ q. let k : Some (front, b ∷ bs) ≡ Some x = rw q at h in subst (Unquoted true front (b ∷ bs)) (same_Some (front, b ∷ bs) x k) ([], sym (append-nil front), refl))
quoted_is false front (b ∷ bs) x h =
    by_test (b == 39)
    (λ q.
    let k : quoted_on true front bs ≡ Some x = rw q at h in
    let m = quoted_is true front bs x k in
    let is : b ≡ 39 = eqb-true b 39 q in
    (m.0, m.1, ap (λ (c : ℕ). c ∷ bs) is ∙ m.2))
    (λ q. let k : quoted_on false (front ++ b ∷ []) bs ≡ Some x = rw q at h in onward b front bs x q (quoted_is false (front ++ b ∷ []) bs x k))

abbrev pub is_quote : ℕ → Bool
is_quote b = b == 39

quote_ends : (text rest : List ℕ) → stops_at is_quote rest ≡ true → quoted_on true text rest ≡ Some (text, rest)
quote_ends text [] e = refl
quote_ends text (c ∷ cs) e = by_test (c == 39) (λ q. let k : false ≡ true = rw q at e in absurd cc) (λ q. rw q refl)

one_byte : (b : ℕ) (text rest : List ℕ) → quoted_on false text (doubled b ++ rest) ≡ quoted_on false (text ++ b ∷ []) rest
one_byte b text rest =
    by_test (b == 39)
    (λ e. let is : b ≡ 39 = eqb-true b 39 e in rw is refl)
    (λ e. rw (e, e) refl)

pub quoted_again : (text front rest : List ℕ) → stops_at is_quote rest ≡ true → quoted_on false front (flat_map doubled text ++ 39 ∷ rest) ≡ Some (front ++ text, rest)
quoted_again [] front rest e = quote_ends front rest e ∙ ap (λ (t : List ℕ). Some (t, rest)) (sym (append-nil front))
quoted_again (b ∷ bs) front rest e =
    let regrouped : flat_map doubled (b ∷ bs) ++ 39 ∷ rest ≡ doubled b ++ (flat_map doubled bs ++ 39 ∷ rest) = append_assoc (doubled b) (flat_map doubled bs) (39 ∷ rest) in
    ap (quoted_on false front) regrouped ∙ one_byte b front (flat_map doubled bs ++ 39 ∷ rest) ∙ quoted_again bs (front ++ b ∷ []) rest e ∙ ap (λ (t : List ℕ). Some (t, rest)) (append_assoc front (b ∷ []) bs)

---- blobs

ok_is : (r : Result (List ℕ) FromHexError) (blob : List ℕ) → result_ok r ≡ Some blob → r ≡ Ok blob
ok_is (Ok b) blob h = ap Ok (same_Some b blob h)
ok_is (Err e) blob h = absurd cc

no_quote : (c d : ℕ) → hex_digit_value c ≡ Some d → is_unquoted c ≡ true
no_quote c d h =
    by_test (c == 39)
    (λ e. let is : c ≡ 39 = eqb-true c 39 e in let bad : hex_digit_value 39 ≡ Some d = subst (λ (x : ℕ). hex_digit_value x ≡ Some d) is h in absurd cc)
    (λ e. rw e refl)

hex_unquoted : (bs : List ℕ) → IsBytes bs → list_all is_unquoted (encode_upper bs) ≡ true
unfolding encode_with
hex_unquoted [] fits = refl
hex_unquoted (b ∷ bs) fits =
    let small : b < 256 = fits 0 in
    let high = no_quote (slice_index upper_digits (b / 16)) (b / 16) (IsDigits-upper_digits (b / 16) (omega arith)) in
    let low = no_quote (slice_index upper_digits (b % 16)) (b % 16) (IsDigits-upper_digits (b % 16) (omega arith)) in
    rw (high, low) (hex_unquoted bs (λ i. fits (suc i)))

---- values

abbrev ValueSays : List ℕ → Value × List ℕ → Type 0
ValueSays bytes x = Says value_text_of value_fits bytes x

int_fits : (z : ℤ) (i : ℤ) → int_of z ≡ Some i → (z ≡ i) × FitsSigned w32 i
int_fits (pos n) i h =
    let c = cond_some (ltb n (2 ^ 31)) (pos n) i h in
    (c.1, subst (FitsSigned w32) c.1 (record { sfits = ltb-true n (2 ^ 31) c.0 }))
int_fits (negsuc n) i h =
    let c = cond_some (ltb n (2 ^ 31)) (negsuc n) i h in
    (c.1, subst (FitsSigned w32) c.1 (record { sfits = ltb-true n (2 ^ 31) c.0 }))

numeral_sound : Sound numeral_at value_text_of value_fits
unfolding numeral_at
numeral_sound bytes x h =
    let small : ℤ × List ℕ → Option (Value × List ℕ) = λ n. int_of n.0 >>= λ i. Some (value.Int i, n.1) in
    let a = bind_some (integer_at bytes) (λ n. case_of (after (codes "L") n.1) (λ rest. Some (value.BigInt n.0, rest)) (small n)) x h in
    let s = integer_sound bytes a.0 a.1 in
    case_some (after (codes "L") a.0.1) (λ rest. Some (value.BigInt a.0.0, rest)) (small a.0) (Some x) a.2
    (λ rest q k. subst (ValueSays bytes) (same_Some (value.BigInt a.0.0, rest) x k)
    (record { parts = join (signed_decimal a.0.0) (codes "L") rest s.parts (after_is (codes "L") a.0.1 rest q); fits = s.fits }))
    (λ q k.
    let b = bind_some (int_of a.0.0) (λ i. Some (value.Int i, a.0.1)) x k in
    let f = int_fits a.0.0 b.0 b.1 in
    subst (ValueSays bytes) (same_Some (value.Int b.0, a.0.1) x b.2)
    (record { parts = s.parts ∙ ap (λ (z : ℤ). signed_decimal z ++ a.0.1) f.0; fits = f.1 }))

text_sound : (bytes : List ℕ) (x : Value × List ℕ) → text_at bytes ≡ Some x → ValueSays (39 ∷ bytes) x
unfolding text_at
text_sound bytes x h =
    let a = bind_some (quoted_on false [] bytes) (λ t. text_of t.0 >>= λ text. Some (value.Text text, t.1)) x h in
    let b = bind_some (text_of a.0.0) (λ text. Some (value.Text text, a.0.1)) x a.2 in
    let m = quoted_is false [] bytes a.0 a.1 in
    let u = cond_some (is_utf8 a.0.0) a.0.0 b.0 b.1 in
    let same : m.0 ≡ b.0 = sym m.1 ∙ u.1 in
    let whole : 39 ∷ bytes ≡ quoted m.0 ++ a.0.1 = ap (λ (t : List ℕ). 39 ∷ t) (m.2 ∙ sym (append_assoc (flat_map doubled m.0) (codes "'") a.0.1)) in
    subst (ValueSays (39 ∷ bytes)) (same_Some (value.Text b.0, a.0.1) x b.2)
    (record { parts = whole ∙ ap (λ (t : List ℕ). quoted t ++ a.0.1) same; fits = utf8_fits b.0 (IsUtf8-from_is_utf8 b.0 (subst (λ (t : List ℕ). is_utf8 t ≡ true) u.1 u.0)) })

blob_sound : (bytes : List ℕ) (x : Value × List ℕ) → blob_at bytes ≡ Some x → ValueSays (codes "X'" ++ bytes) x
unfolding blob_at
blob_sound bytes x h =
    let digits : List ℕ = take (prefix_len is_unquoted bytes) bytes in
    let a = bind_some (result_ok (decode_of digits)) (λ blob. after (encode_upper blob) bytes >>= λ rest. after (codes "'") rest >>= λ rest. Some (value.Blob blob, rest)) x h in
    let b = bind_some (after (encode_upper a.0) bytes) (λ rest. after (codes "'") rest >>= λ rest. Some (value.Blob a.0, rest)) x a.2 in
    let c = bind_some (after (codes "'") b.0) (λ rest. Some (value.Blob a.0, rest)) x b.2 in
    let one : codes "X'" ++ bytes ≡ (codes "X'" ++ encode_upper a.0) ++ b.0 = ap (λ (t : List ℕ). codes "X'" ++ t) (after_is (encode_upper a.0) bytes b.0 b.1) in
    let all : codes "X'" ++ bytes ≡ ((codes "X'" ++ encode_upper a.0) ++ codes "'") ++ c.0 = join (codes "X'" ++ encode_upper a.0) (codes "'") c.0 one (after_is (codes "'") b.0 c.0 c.1) in
    let fits = (decode_of-ok digits a.0 (ok_is (decode_of digits) a.0 a.1)).3 in
    subst (ValueSays (codes "X'" ++ bytes)) (same_Some (value.Blob a.0, c.0) x c.2)
    (record { parts = all; fits = All-from_recursion (λ b. b < 256) a.0 (are_bytes a.0 fits) })

-- a value that is one word
word_sound : (word : List ℕ) (v : Value) (bytes rest : List ℕ) (x : Value × List ℕ) → value_text_of v ≡ word → value_fits v → after word bytes ≡ Some rest → Some (v, rest) ≡ Some x → ValueSays bytes x
word_sound word v bytes rest x e fits q k =
    subst (ValueSays bytes) (same_Some (v, rest) x k) (record { parts = after_is word bytes rest q ∙ ap (λ (t : List ℕ). t ++ rest) (sym e); fits = fits })

pub value_sound : Sound value_at value_text_of value_fits
unfolding value_at
value_sound bytes x h =
    by_test (begins_number bytes)
    (λ n. let k : numeral_at bytes ≡ Some x = rw n at h in numeral_sound bytes x k)
    (λ n.
    let fifth = case_of (after (codes "X'") bytes) blob_at None in
    let fourth = case_of (after (codes "'") bytes) text_at fifth in
    let third = case_of (after (codes "FALSE") bytes) (λ rest. Some (value.Bool false, rest)) fourth in
    let second = case_of (after (codes "TRUE") bytes) (λ rest. Some (value.Bool true, rest)) third in
    let k : case_of (after (codes "NULL") bytes) (λ rest. Some (value.Null, rest)) second ≡ Some x = rw n at h in
    case_some (after (codes "NULL") bytes) (λ rest. Some (value.Null, rest)) second (Some x) k (λ rest q e. word_sound (codes "NULL") value.Null bytes rest x refl tt q e) (λ q k.
    case_some (after (codes "TRUE") bytes) (λ rest. Some (value.Bool true, rest)) third (Some x) k (λ rest q e. word_sound (codes "TRUE") (value.Bool true) bytes rest x refl tt q e) (λ q k.
    case_some (after (codes "FALSE") bytes) (λ rest. Some (value.Bool false, rest)) fourth (Some x) k (λ rest q e. word_sound (codes "FALSE") (value.Bool false) bytes rest x refl tt q e) (λ q k.
    case_some (after (codes "'") bytes) text_at fifth (Some x) k
    (λ rest q e. subst (λ (b : List ℕ). ValueSays b x) (sym (after_is (codes "'") bytes rest q)) (text_sound rest x e)) (λ q k.
    case_some (after (codes "X'") bytes) blob_at None (Some x) k
    (λ rest q e. subst (λ (b : List ℕ). ValueSays b x) (sym (after_is (codes "X'") bytes rest q)) (blob_sound rest x e)) (λ q k. absurd cc))))))

-- what may come after a value
abbrev pub ends_value : List ℕ → Bool
ends_value [] = false
ends_value (c ∷ cs) = c == 44 || c == 59 || c == 41 || c == 125

ends_digits : (rest : List ℕ) → ends_value rest ≡ true → stops_at is_ascii_digit rest ≡ true
ends_digits [] e = refl
ends_digits (c ∷ cs) e = grind (arith, nat_tests)

ends_quote : (rest : List ℕ) → ends_value rest ≡ true → stops_at is_quote rest ≡ true
ends_quote [] e = refl
ends_quote (c ∷ cs) e = grind (arith, nat_tests)

no_suffix : (rest : List ℕ) → ends_value rest ≡ true → after (codes "L") rest ≡ None
no_suffix [] e = refl
no_suffix (c ∷ cs) e = let k : (76 == c) ≡ false = grind (arith, nat_tests) in rw k refl

digit_begins : (bs : List ℕ) → begins_digit bs ≡ true → begins_number bs ≡ true
digit_begins [] e = e
digit_begins (c ∷ cs) e = rw e refl

number_begins : (z : ℤ) (rest : List ℕ) → IsLong z → begins_number (signed_decimal z ++ rest) ≡ true
number_begins (pos n) rest long = let lt : n < 2 ^ 63 = long.sfits in digit_begins (decimal n ++ rest) (digits_go n (omega arith) (omega arith) rest).1
number_begins (negsuc n) rest long = refl

is_int : (z : ℤ) → FitsSigned w32 z → int_of z ≡ Some z
is_int (pos n) h = rw (lt-ltb n (2 ^ 31) h.sfits) refl
is_int (negsuc n) h = rw (lt-ltb n (2 ^ 31) h.sfits) refl

pub is_long : (z : ℤ) → FitsSigned w32 z → IsLong z
is_long (pos n) h = let lt : n < 2 ^ 31 = h.sfits in record { sfits = omega arith }
is_long (negsuc n) h = let lt : n < 2 ^ 31 = h.sfits in record { sfits = omega arith }

pub value_again : (v : Value) (rest : List ℕ) → value_fits v → ends_value rest ≡ true → value_at (value_text_of v ++ rest) ≡ Some (v, rest)
unfolding value_at numeral_at text_at blob_at
value_again value.Null rest fits e = refl
value_again (value.Bool true) rest fits e = refl
value_again (value.Bool false) rest fits e = refl
value_again (value.Int z) rest fits e =
    rw (number_begins z rest (is_long z fits), integer_again z rest (is_long z fits) (ends_digits rest e), no_suffix rest e, is_int z fits) refl
value_again (value.BigInt z) rest fits e =
    let regrouped : value_text_of (value.BigInt z) ++ rest ≡ signed_decimal z ++ 76 ∷ rest = append_assoc (signed_decimal z) (76 ∷ []) rest in
    ap value_at regrouped ∙ rw (number_begins z (76 ∷ rest) fits, integer_again z (76 ∷ rest) fits refl) refl
value_again (value.Text text) rest fits e =
    let regrouped : (flat_map doubled text ++ 39 ∷ []) ++ rest ≡ flat_map doubled text ++ 39 ∷ rest = append_assoc (flat_map doubled text) (39 ∷ []) rest in
    ap text_at regrouped ∙ rw (quoted_again text [] rest (ends_quote rest e), is_utf8-from_IsUtf8 text fits.utf8) refl
value_again (value.Blob bytes) rest fits e =
    let known : IsBytes bytes = is_bytes bytes (recursion_from_All (λ b. b < 256) bytes fits) in
    let regrouped : (encode_upper bytes ++ 39 ∷ []) ++ rest ≡ encode_upper bytes ++ 39 ∷ rest = append_assoc (encode_upper bytes) (39 ∷ []) rest in
    let n : prefix_len is_unquoted (encode_upper bytes ++ 39 ∷ rest) ≡ length (encode_upper bytes) = front_again is_unquoted (encode_upper bytes) (39 ∷ rest) (hex_unquoted bytes known) refl in
    let t : take (length (encode_upper bytes)) (encode_upper bytes ++ 39 ∷ rest) ≡ encode_upper bytes = take_at (encode_upper bytes) (39 ∷ rest) _ refl in
    ap blob_at regrouped ∙ rw (n, t, decode_of-encode_upper bytes known, after_again (encode_upper bytes) (39 ∷ rest)) refl

---- lists of values

abbrev pub behind : Value → List ℕ
behind v = codes "," ++ value_text_of v

abbrev pub ValueAfter : List Value → Value → Type 0
ValueAfter xs v = value_fits v

next_sound : (xs : List Value) (bytes : List ℕ) (x : Value × List ℕ) → next_value_at xs bytes ≡ Some x → Says behind (ValueAfter xs) bytes x
next_sound xs bytes x h =
    let a = bind_some (after (codes ",") bytes) value_at x h in
    let s = value_sound a.0 x a.2 in
    record { parts = join (codes ",") (value_text_of x.0) x.1 (after_is (codes ",") bytes a.0 a.1) s.parts; fits = s.fits }

-- one value or more
abbrev pub SomeFit : List Value → Type 0
SomeFit vs = values_are_plain vs × (0 < length vs)

pub some_values_sound : Sound some_values_at values_text_of SomeFit
unfolding some_values_at
some_values_sound bytes x h =
    let a = bind_some (value_at bytes) (λ v. Some (many next_value_at (length v.1) (v.0 ∷ []) v.1)) x h in
    let first = value_sound bytes a.0 a.1 in
    let y : List Value × List ℕ = many next_value_at (length a.0.1) (a.0.0 ∷ []) a.0.1 in
    let m = many_is next_value_at behind ValueAfter next_sound (length a.0.1) (a.0.0 ∷ []) a.0.1 in
    let all : AllByRecursion value_fits (a.0.0 ∷ m.items) = (first.fits, Each-all ValueAfter value_fits (λ xs v f. f) (a.0.0 ∷ []) m.items m.each) in
    let parts : bytes ≡ values_text_of (a.0.0 ∷ m.items) ++ y.1 = join (value_text_of a.0.0) (flat_map behind m.items) y.1 first.parts m.parts in
    subst (Says values_text_of SomeFit bytes) (same_Some y x a.2)
    (record {
      parts = parts ∙ ap (λ (vs : List Value). values_text_of vs ++ y.1) (sym m.all);
      fits = subst SomeFit (sym m.all) (All-from_recursion value_fits (a.0.0 ∷ m.items) all, omega arith);
    })

pub values_sound : Sound values_at values_text_of values_are_plain
unfolding values_at
values_sound bytes x h =
    case_some (some_values_at bytes) (λ vs. Some vs) (Some ([], bytes)) (Some x) h
    (λ y q k. let s = some_values_sound bytes y q in subst (Says values_text_of values_are_plain bytes) (same_Some y x k) (record { parts = s.parts; fits = s.fits.0 }))
    (λ q k. subst (Says values_text_of values_are_plain bytes) (same_Some ([], bytes) x k) (record { parts = refl; fits = All-from_recursion value_fits [] tt }))

-- what may come after values
abbrev pub ends_values : List ℕ → Bool
ends_values [] = false
ends_values (c ∷ cs) = c == 59 || c == 41

abbrev pub EndsValue : List ℕ → Type 0
EndsValue rest = ends_value rest ≡ true

ends_either : (rest : List ℕ) → ends_values rest ≡ true → EndsValue rest
ends_either [] e = absurd cc
ends_either (c ∷ cs) e = grind (arith, nat_tests)

no_comma : (rest : List ℕ) → ends_values rest ≡ true → after (codes ",") rest ≡ None
no_comma [] e = refl
no_comma (c ∷ cs) e = let k : (44 == c) ≡ false = grind (arith, nat_tests) in rw k refl

no_next : (rest : List ℕ) → ends_values rest ≡ true → (xs : List Value) → next_value_at xs rest ≡ None
no_next rest e xs = rw (no_comma rest e) refl

next_again : (xs : List Value) (v : Value) (rest : List ℕ) → ValueAfter xs v → EndsValue rest → next_value_at xs (behind v ++ rest) ≡ Some (v, rest)
next_again xs v rest fits e = value_again v rest fits e

behind_some : (v : Value) → 0 < length (behind v)
behind_some v = omega arith

behind_ends : (vs : List Value) (rest : List ℕ) → EndsValue rest → EndsValue (flat_map behind vs ++ rest)
behind_ends [] rest e = e
behind_ends (v ∷ vs) rest e = refl

pub some_values_again : (v : Value) (vs : List Value) (rest : List ℕ) → values_are_plain (v ∷ vs) → ends_values rest ≡ true → some_values_at (values_text_of (v ∷ vs) ++ rest) ≡ Some (v ∷ vs, rest)
unfolding some_values_at
some_values_again v vs rest fits e =
    let known = recursion_from_All value_fits (v ∷ vs) fits in
    let after : List ℕ = flat_map behind vs ++ rest in
    let regrouped : (value_text_of v ++ flat_map behind vs) ++ rest ≡ value_text_of v ++ after = append_assoc (value_text_of v) (flat_map behind vs) rest in
    let first : value_at (value_text_of v ++ after) ≡ Some (v, after) = value_again v after known.0 (behind_ends vs rest (ends_either rest e)) in
    let others : many next_value_at (length after) (v ∷ []) after ≡ (v ∷ vs, rest) =
    many_again next_value_at behind ValueAfter EndsValue rest next_again (λ w r. refl) (ends_either rest e) (no_next rest e) vs (length after) (v ∷ []) (count_le behind behind_some vs rest)
    (Each-from_all ValueAfter value_fits (λ xs w f. f) (v ∷ []) vs known.1) in
    ap some_values_at regrouped ∙ rw (first, others) refl

no_values : (rest : List ℕ) → ends_values rest ≡ true → some_values_at rest ≡ None
unfolding some_values_at value_at
no_values [] e = refl
no_values (c ∷ cs) e =
    let number : (is_ascii_digit c || c == 45) ≡ false = grind (arith, nat_tests) in
    let n : (78 == c) ≡ false = grind (arith, nat_tests) in
    let t : (84 == c) ≡ false = grind (arith, nat_tests) in
    let f : (70 == c) ≡ false = grind (arith, nat_tests) in
    let q : (39 == c) ≡ false = grind (arith, nat_tests) in
    let x : (88 == c) ≡ false = grind (arith, nat_tests) in
    rw (number, n, t, f, q, x) refl

pub values_again : (vs : List Value) (rest : List ℕ) → values_are_plain vs → ends_values rest ≡ true → values_at (values_text_of vs ++ rest) ≡ Some (vs, rest)
unfolding values_at
values_again [] rest fits e = rw (no_values rest e) refl
values_again (v ∷ vs) rest fits e = rw (some_values_again v vs rest fits e) refl

---- rows

pub row_sound : Sound row_at row_text_of values_are_plain
unfolding row_at
row_sound bytes x h =
    let a = bind_some (after (codes "(") bytes) (λ rest. values_at rest >>= λ vs. after (codes ")") vs.1 >>= λ rest. Some (vs.0, rest)) x h in
    let b = bind_some (values_at a.0) (λ vs. after (codes ")") vs.1 >>= λ rest. Some (vs.0, rest)) x a.2 in
    let c = bind_some (after (codes ")") b.0.1) (λ rest. Some (b.0.0, rest)) x b.2 in
    let vs = values_sound a.0 b.0 b.1 in
    let two = join (codes "(") (values_text_of b.0.0) b.0.1 (after_is (codes "(") bytes a.0 a.1) vs.parts in
    subst (Says row_text_of values_are_plain bytes) (same_Some (b.0.0, c.0) x c.2)
    (record { parts = join (codes "(" ++ values_text_of b.0.0) (codes ")") c.0 two (after_is (codes ")") b.0.1 c.0 c.1); fits = vs.fits })

pub row_again : Again row_at row_text_of values_are_plain
unfolding row_at
row_again vs rest fits =
    let regrouped : (values_text_of vs ++ codes ")") ++ rest ≡ values_text_of vs ++ 41 ∷ rest = append_assoc (values_text_of vs) (codes ")") rest in
    rw (regrouped, values_again vs (41 ∷ rest) fits refl) refl
