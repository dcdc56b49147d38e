-- Each token's text is read as that token, whatever clear end follows it.
use Rattle.std.proofs.Common.{◌≡◌, ℕ, suc, ◌+◌, ◌-◌, ◌*◌, ◌/◌, ◌%◌, ◌^◌, ◌<◌, ◌≤◌, ℤ, pos, negsuc, Bool, true, false, ◌||◌, ◌==◌, eqb, List, [], ◌∷◌, ◌++◌, length, drop, Option, Some, None, Ok, refl, ap, subst, ◌∙◌, arith, append_assoc, ◌⊎◌, inl, inr}
use Rattle.std.specs.Prelude.{slice_index, codes, nat_le, nat_lt, decimal}
use Rattle.std.specs.List.{list_all, prefix_len, flat_map}
use Rattle.std.specs.Str.{is_utf8}
use Rattle.std.proofs.Math.Seq.{take-append_seam}
use Rattle.std.proofs.lemmas.Bool.Decides.{nat_tests}
use Rattle.std.proofs.lemmas.Bool.{lt-ltb}
use Rattle.std.proofs.lemmas.List.{length-append}
use Rattle.std.proofs.lemmas.List.Sums.{fold_push}
use Rattle.std.proofs.lemmas.Fmt.{decimal_by_steps}
use Rattle.hex.specs.Hex.{IsBytes, hex_digit_value, upper_digits, encode_with, encode_upper}
use Rattle.hex.proofs.HexLemmas.{IsDigits-upper_digits, decode_of-encode_upper}
use Rattle.sdb_types.specs.Identifier.{is_start, is_part, is_identifier}
use Rattle.sdb_model.specs.Texts.{doubled, quoted}
use Rattle.sdb_model.specs.SqlTokens.{keyword_text, keyword_of, sign_text, sign_of, is_digit, is_single_quote, begins, name_token, word_or_name, word_at, quoted_name_at, digits_len, digits_value, number_of, number_at, negative_at, onto_text, enclosed, text_at, quote_place, blob_in, begins_blob, letter_at, sign_token, token_at}
use Rattle.sdb_model.specs.Sql.{token_text, sticks_after, CanSpell}
use Rattle.sdb_sqltext.specs.Types.{Keyword, Sign, Token}
use Rattle.sdb_model.specs.declared.token.Keyword.TheVariants as word
use Rattle.sdb_model.specs.declared.token.Sign.TheVariants as sign
use Rattle.sdb_model.specs.declared.token.Token.TheVariants.{Word, Name, Number, Text, Blob, Sign as Mark}
use Rattle.sdb_sqltext.proofs.Enclosed.{encloses_none, encloses_byte, encloses_quote}
use Rattle.sdb_types.proofs.Public.{and_parts as and_true, by_test, fails_second as and_false, one_more, start_part as start_is_part}
use Rattle.sdb_model.proofs.Public.{digit_is}

-- ---- what ends a token: the end of the text, a space, `,` `)` or `.`

abbrev pub ends_token : ℕ → Bool
ends_token b = b == 32 || b == 44 || b == 41 || b == 46

abbrev pub clear : List ℕ → Bool
clear [] = true
clear (b ∷ bs) = ends_token b

not_part : (b : ℕ) → ends_token b ≡ true → is_part b ≡ false
not_part b h = grind (arith, nat_tests)

not_digit : (b : ℕ) → ends_token b ≡ true → is_digit b ≡ false
not_digit b h = grind (arith, nat_tests)

not_quote : (b : ℕ) → ends_token b ≡ true → is_single_quote b ≡ false
not_quote b h = grind (arith, nat_tests)

pub clear_of : (p : ℕ → Bool) → ((b : ℕ) → ends_token b ≡ true → p b ≡ false) → (rest : List ℕ) → clear rest ≡ true → begins p rest ≡ false
clear_of p fails [] h = refl
clear_of p fails (b ∷ bs) h = fails b h

-- what passes at the start, where what follows doesn't
pub front_len : (p : ℕ → Bool) (w rest : List ℕ) → list_all p w ≡ true → begins p rest ≡ false → prefix_len p (w ++ rest) ≡ length w
front_len p [] [] all e = refl
front_len p [] (b ∷ bs) all e = rw e refl
front_len p (c ∷ cs) rest all e =
    let a = and_true (p c) (list_all p cs) all in
    rw a.0 (one_more (prefix_len p (cs ++ rest)) ∙ ap suc (front_len p cs rest a.1 e))

pub drop_seam : (xs ys : List ℕ) → drop (length xs) (xs ++ ys) ≡ ys
drop_seam [] ys = refl
drop_seam (x ∷ xs) ys = drop_seam xs ys

-- ---- words and names

all_parts : (w : List ℕ) → is_identifier w ≡ true → list_all is_part w ≡ true
all_parts [] h = absurd cc
all_parts (b ∷ bs) h =
    let a = and_true (is_start b) (list_all is_part bs) h in
    rw (start_is_part b a.0) a.1

begins_word : (w rest : List ℕ) → is_identifier w ≡ true → begins is_start (w ++ rest) ≡ true
begins_word [] rest h = absurd cc
begins_word (b ∷ bs) rest h = (and_true (is_start b) (list_all is_part bs) h).0

pub word_again : (w rest : List ℕ) → is_identifier w ≡ true → begins is_part rest ≡ false → word_at (w ++ rest) ≡ Ok (word_or_name w (keyword_of w), length w)
unfolding word_at
word_again w rest h e = rw (front_len is_part w rest (all_parts w h) e, take-append_seam w rest) refl

part_no_quote : (b : ℕ) → is_part b ≡ true → is_single_quote b ≡ false
part_no_quote b h = grind (arith, nat_tests)

second_no_quote : (w rest : List ℕ) → is_identifier w ≡ true → list_all is_part w ≡ true → begins is_single_quote rest ≡ false → begins is_single_quote (drop 1 (w ++ rest)) ≡ false
second_no_quote [] rest i h e = absurd cc
second_no_quote (b ∷ []) rest i h e = e
second_no_quote (b ∷ c ∷ cs) rest i h e = part_no_quote c (and_true (is_part c) (list_all is_part cs) (and_true (is_part b) (list_all is_part (c ∷ cs)) h).1).0

pub letters_again : (w rest : List ℕ) → is_identifier w ≡ true → clear rest ≡ true → token_at (w ++ rest) ≡ Ok (word_or_name w (keyword_of w), length w)
unfolding token_at letter_at
letters_again w rest h e =
    let no_blob : begins_blob (w ++ rest) ≡ false = and_false _ _ (second_no_quote w rest h (all_parts w h) (clear_of is_single_quote not_quote rest e)) in
    rw (begins_word w rest h, no_blob) (word_again w rest h (clear_of is_part not_part rest e))

keyword_known : (k : Keyword) → keyword_of (keyword_text k) ≡ Some k
unfolding keyword_of
keyword_known word.Begin = refl
keyword_known word.Commit = refl
keyword_known word.Rollback = refl
keyword_known word.Vacuum = refl
keyword_known word.Insert = refl
keyword_known word.Upsert = refl
keyword_known word.Into = refl
keyword_known word.Values = refl
keyword_known word.Update = refl
keyword_known word.Set = refl
keyword_known word.Where = refl
keyword_known word.Delete = refl
keyword_known word.From = refl
keyword_known word.Select = refl
keyword_known word.Limit = refl
keyword_known word.And = refl
keyword_known word.Is = refl
keyword_known word.Not = refl
keyword_known word.Null = refl
keyword_known word.True = refl
keyword_known word.False = refl

pub keyword_identifier : (k : Keyword) → is_identifier (keyword_text k) ≡ true
keyword_identifier word.Begin = refl
keyword_identifier word.Commit = refl
keyword_identifier word.Rollback = refl
keyword_identifier word.Vacuum = refl
keyword_identifier word.Insert = refl
keyword_identifier word.Upsert = refl
keyword_identifier word.Into = refl
keyword_identifier word.Values = refl
keyword_identifier word.Update = refl
keyword_identifier word.Set = refl
keyword_identifier word.Where = refl
keyword_identifier word.Delete = refl
keyword_identifier word.From = refl
keyword_identifier word.Select = refl
keyword_identifier word.Limit = refl
keyword_identifier word.And = refl
keyword_identifier word.Is = refl
keyword_identifier word.Not = refl
keyword_identifier word.Null = refl
keyword_identifier word.True = refl
keyword_identifier word.False = refl

-- a token is read again, with its length
abbrev pub Again : Token → List ℕ → Type 0
Again t rest = token_at (token_text t ++ rest) ≡ Ok (t, length (token_text t))

pub word_read : (k : Keyword) (rest : List ℕ) → clear rest ≡ true → Again (Word k) rest
word_read k rest e = letters_again (keyword_text k) rest (keyword_identifier k) e ∙ ap (λ o. Ok (word_or_name (keyword_text k) o, length (keyword_text k))) (keyword_known k)

pub by_keyword : {G : Type 0} (o : Option Keyword) → ((k : Keyword) → o ≡ Some k → G) → (o ≡ None → G) → G
by_keyword (Some k) a b = a k refl
by_keyword None a b = b refl

quoted_read : (n rest : List ℕ) → is_identifier n ≡ true → quoted_name_at (n ++ codes "\"" ++ rest) ≡ Ok (name_token n, length n + 2)
unfolding quoted_name_at
quoted_read n rest h =
    let g : n ++ codes "\"" ++ rest ≡ n ++ (34 ∷ rest) = append_assoc n (codes "\"") rest in
    rw (g, begins_word n (34 ∷ rest) h, front_len is_part n (34 ∷ rest) (all_parts n h) refl, take-append_seam n (34 ∷ rest), drop_seam n (34 ∷ rest)) refl

quoted_token : (n rest : List ℕ) → is_identifier n ≡ true → token_at (codes "\"" ++ n ++ codes "\"" ++ rest) ≡ Ok (name_token n, length (codes "\"" ++ n ++ codes "\""))
unfolding token_at
quoted_token n rest h =
    quoted_read n rest h ∙ ap (λ k. Ok (name_token n, k)) (let e : length n + 2 ≡ length (codes "\"" ++ n ++ codes "\"") = omega (arith, length-append n (codes "\"")) in e)

pub name_read : (n rest : List ℕ) → CanSpell (Name n) → clear rest ≡ true → Again (Name n) rest
name_read n rest fits e =
    let short : name_token n ≡ Name n = rw (fits.1) refl in
    by_keyword (keyword_of n)
    (λ k known. rw (known) (quoted_token n rest fits.0 ∙ ap (λ t. Ok (t, length (codes "\"" ++ n ++ codes "\""))) short))
    (λ none. rw (none) (letters_again n rest fits.0 e ∙ ap (λ o. Ok (word_or_name n o, length n)) none ∙ ap (λ t. Ok (t, length n)) short))

-- ---- signs

sign_clear : (b : ℕ) → ends_token b ≡ true → (eqb 62 b ≡ false) × (eqb 61 b ≡ false)
sign_clear b h = (grind (arith, nat_tests), grind (arith, nat_tests))

sign_found : (s : Sign) (rest : List ℕ) → ((sticks_after (Mark s) ≡ true) ⊎ (clear rest ≡ true)) → sign_of (sign_text s ++ rest) ≡ Some s
unfolding sign_of
sign_found sign.NotEqual rest h = refl
sign_found sign.LessOrEqual rest h = refl
sign_found sign.GreaterOrEqual rest h = refl
sign_found sign.Less [] h = refl
sign_found sign.Less (b ∷ bs) (inl h) = absurd cc
sign_found sign.Less (b ∷ bs) (inr h) = let c = sign_clear b h in rw (c.0, c.1) refl
sign_found sign.Greater [] h = refl
sign_found sign.Greater (b ∷ bs) (inl h) = absurd cc
sign_found sign.Greater (b ∷ bs) (inr h) = let c = sign_clear b h in rw c.1 refl
sign_found sign.Equal rest h = refl
sign_found sign.Dot rest h = refl
sign_found sign.Comma rest h = refl
sign_found sign.Open rest h = refl
sign_found sign.Close rest h = refl
sign_found sign.Star rest h = refl
sign_found sign.Semicolon rest h = refl

sign_front : (s : Sign) (rest : List ℕ) → token_at (sign_text s ++ rest) ≡ sign_token (sign_of (sign_text s ++ rest))
unfolding token_at
sign_front sign.NotEqual rest = refl
sign_front sign.LessOrEqual rest = refl
sign_front sign.GreaterOrEqual rest = refl
sign_front sign.Less rest = refl
sign_front sign.Greater rest = refl
sign_front sign.Equal rest = refl
sign_front sign.Dot rest = refl
sign_front sign.Comma rest = refl
sign_front sign.Open rest = refl
sign_front sign.Close rest = refl
sign_front sign.Star rest = refl
sign_front sign.Semicolon rest = refl

pub sign_read : (s : Sign) (rest : List ℕ) → ((sticks_after (Mark s) ≡ true) ⊎ (clear rest ≡ true)) → Again (Mark s) rest
sign_read s rest h = sign_front s rest ∙ ap sign_token (sign_found s rest h)

-- ---- numbers

all_more : (p : ℕ → Bool) (ds : List ℕ) (d : ℕ) → list_all p ds ≡ true → p d ≡ true → list_all p (ds ++ d ∷ []) ≡ true
all_more p [] d h k = rw k refl
all_more p (c ∷ cs) d h k =
    let a = and_true (p c) (list_all p cs) h in
    rw a.0 (all_more p cs d a.1 k)

abbrev Digits : ℕ → List ℕ → Type 0
Digits n ds = (list_all is_digit ds ≡ true) × (begins is_digit ds ≡ true) × (digits_value ds ≡ n)

pub begins_more : (p : ℕ → Bool) (ds rest : List ℕ) → begins p ds ≡ true → begins p (ds ++ rest) ≡ true
begins_more p [] rest h = absurd cc
begins_more p (d ∷ ds) rest h = h

digits_one : (n : ℕ) → n < 10 → Digits n ((48 + n) ∷ [])
digits_one n lt =
    let k = digit_is n lt in
    (rw k refl, k, omega arith)

digits_more : (n : ℕ) (ds : List ℕ) → 10 ≤ n → Digits (n / 10) ds → Digits n (ds ++ ((48 + n % 10) ∷ []))
digits_more n ds ge h =
    let k = digit_is (n % 10) (omega arith) in
    let v = fold_push (λ n b. n * 10 + (b - 48)) 0 ds (48 + n % 10) in
    let e : digits_value ds * 10 + (48 + n % 10 - 48) ≡ n = omega (arith, h.2) in
    (all_more is_digit ds (48 + n % 10) h.0 k, begins_more is_digit ds ((48 + n % 10) ∷ []) h.1, v ∙ e)

decimal_digits : (n : ℕ) → n < 2 ^ 64 → Digits n (decimal n)
decimal_digits n lt = decimal_by_steps Digits digits_one digits_more n lt

number_value : (n : ℕ) (rest : List ℕ) → n < 2 ^ 64 → clear rest ≡ true → (number_of (decimal n ++ rest) ≡ n) × (digits_len (decimal n ++ rest) ≡ length (decimal n)) × (begins is_digit (decimal n ++ rest) ≡ true)
number_value n rest lt e =
    let d = decimal_digits n lt in
    let len = front_len is_digit (decimal n) rest d.0 (clear_of is_digit not_digit rest e) in
    (rw (len, take-append_seam (decimal n) rest) d.2, len, begins_more is_digit (decimal n) rest d.1)

digit_no_start : (b : ℕ) → is_digit b ≡ true → is_start b ≡ false
digit_no_start b h = grind (arith, nat_tests)

digits_no_start : (bs : List ℕ) → begins is_digit bs ≡ true → begins is_start bs ≡ false
digits_no_start [] h = absurd cc
digits_no_start (b ∷ bs) h = digit_no_start b h

positive_read : (n : ℕ) (rest : List ℕ) → n < 2 ^ 63 → clear rest ≡ true → token_at (decimal n ++ rest) ≡ Ok (Number (pos n), length (decimal n))
unfolding token_at number_at
positive_read n rest lt e =
    let v = number_value n rest (omega arith) e in
    let s = digits_no_start (decimal n ++ rest) v.2 in
    let k : nat_lt n (2 ^ 63) ≡ true = lt-ltb _ _ lt in
    rw (s, v.2, v.0, v.1, k) refl

negative_read : (n : ℕ) (rest : List ℕ) → n < 2 ^ 63 → clear rest ≡ true → token_at (45 ∷ decimal (suc n) ++ rest) ≡ Ok (Number (negsuc n), length (decimal (suc n)) + 1)
unfolding token_at negative_at
negative_read n rest lt e =
    let v = number_value (suc n) rest (omega arith) e in
    let k : nat_le (suc n) (2 ^ 63) ≡ true = grind (arith, nat_tests) in
    rw (v.2, v.0, v.1, k) refl

pub number_read : (z : ℤ) (rest : List ℕ) → CanSpell (Number z) → clear rest ≡ true → Again (Number z) rest
number_read (pos n) rest fits e = positive_read n rest (omega arith) e
number_read (negsuc n) rest fits e = negative_read n rest (omega arith) e ∙ ap (λ k. Ok (Number (negsuc n), k)) (let e : length (decimal (suc n)) + 1 ≡ suc (length (decimal (suc n))) = omega arith in e)

-- ---- texts

quote_is : (b : ℕ) → is_single_quote b ≡ true → b ≡ 39
quote_is b h = grind (arith, nat_tests)

one_doubled : (b : ℕ) (bs : List ℕ) → enclosed (doubled b ++ bs) ≡ onto_text (b ∷ []) (length (doubled b)) (enclosed bs)
one_doubled b bs =
    by_test (is_single_quote b)
    (λ q. let is = quote_is b q in rw is (encloses_quote 39 (39 ∷ bs) refl refl))
    (λ q. rw q (encloses_byte b bs q))

enclosed_again : (t rest : List ℕ) → begins is_single_quote rest ≡ false → enclosed (flat_map doubled t ++ (39 ∷ rest)) ≡ Some (t, length (flat_map doubled t) + 1)
enclosed_again [] rest e = encloses_none 39 rest refl e
enclosed_again (b ∷ bs) rest e =
    let g : flat_map doubled (b ∷ bs) ++ (39 ∷ rest) ≡ doubled b ++ (flat_map doubled bs ++ (39 ∷ rest)) = append_assoc (doubled b) (flat_map doubled bs) (39 ∷ rest) in
    let l : length (doubled b) + (length (flat_map doubled bs) + 1) ≡ length (flat_map doubled (b ∷ bs)) + 1 = omega (arith, length-append (doubled b) (flat_map doubled bs)) in
    ap enclosed g ∙ one_doubled b (flat_map doubled bs ++ (39 ∷ rest)) ∙ ap (onto_text (b ∷ []) (length (doubled b))) (enclosed_again bs rest e) ∙ ap (λ k. Some (b ∷ bs, k)) l

text_front : (t rest : List ℕ) → is_utf8 t ≡ true → begins is_single_quote rest ≡ false → token_at (39 ∷ (flat_map doubled t ++ (39 ∷ rest))) ≡ Ok (Text t, length (flat_map doubled t) + 1 + 1)
unfolding token_at text_at
text_front t rest u e = rw (enclosed_again t rest e, u) refl

pub text_read : (t rest : List ℕ) → CanSpell (Text t) → clear rest ≡ true → Again (Text t) rest
text_read t rest u e =
    let g : quoted t ++ rest ≡ 39 ∷ (flat_map doubled t ++ (39 ∷ rest)) = simp append_assoc in
    let l : length (flat_map doubled t) + 1 + 1 ≡ length (quoted t) = omega (arith, length-append (flat_map doubled t) (codes "'")) in
    ap token_at g ∙ text_front t rest u (clear_of is_single_quote not_quote rest e) ∙ ap (λ k. Ok (Text t, k)) l

-- ---- blobs

digit_no_quote : (c d : ℕ) → hex_digit_value c ≡ Some d → is_single_quote c ≡ false
digit_no_quote c d h =
    by_test (is_single_quote c)
    (λ q. let bad : hex_digit_value 39 ≡ Some d = subst (λ (x : ℕ). hex_digit_value x ≡ Some d) (quote_is c q) h in absurd cc)
    (λ q. q)

quote_behind : (bs rest : List ℕ) → IsBytes bs → quote_place (encode_upper bs ++ (39 ∷ rest)) ≡ length (encode_upper bs)
unfolding encode_with
quote_behind [] rest fits = refl
quote_behind (b ∷ bs) rest fits =
    let small : b < 256 = fits 0 in
    let high : is_single_quote (slice_index upper_digits (b / 16)) ≡ false = digit_no_quote _ (b / 16) (IsDigits-upper_digits (b / 16) (omega arith)) in
    let low : is_single_quote (slice_index upper_digits (b % 16)) ≡ false = digit_no_quote _ (b % 16) (IsDigits-upper_digits (b % 16) (omega arith)) in
    rw (high, low, quote_behind bs rest (λ i. fits (suc i))) (omega arith)

blob_inside : (bs rest : List ℕ) → IsBytes bs → begins is_single_quote rest ≡ false → blob_in (encode_upper bs ++ (39 ∷ rest)) ≡ Some (Blob bs, length (encode_upper bs) + 3)
unfolding blob_in
blob_inside bs rest fits e =
    rw (quote_behind bs rest fits, drop_seam (encode_upper bs) (39 ∷ rest), e, take-append_seam (encode_upper bs) (39 ∷ rest), decode_of-encode_upper bs fits) refl

blob_front : (bs rest : List ℕ) → IsBytes bs → begins is_single_quote rest ≡ false → token_at (88 ∷ 39 ∷ (encode_upper bs ++ (39 ∷ rest))) ≡ Ok (Blob bs, length (encode_upper bs) + 3)
unfolding token_at letter_at
blob_front bs rest fits e = rw (blob_inside bs rest fits e) refl

pub blob_read : (bs rest : List ℕ) → IsBytes bs → clear rest ≡ true → Again (Blob bs) rest
blob_read bs rest fits e =
    let g : token_text (Blob bs) ++ rest ≡ 88 ∷ 39 ∷ (encode_upper bs ++ (39 ∷ rest)) = simp append_assoc in
    let l : length (encode_upper bs) + 3 ≡ length (token_text (Blob bs)) = omega (arith, length-append (encode_upper bs) (codes "'")) in
    ap token_at g ∙ blob_front bs rest fits (clear_of is_single_quote not_quote rest e) ∙ ap (λ k. Ok (Blob bs, k)) l
