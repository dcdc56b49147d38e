-- A text can spell each token that a text has, but for overlong ones.
use Rattle.std.proofs.Common.{◌≡◌, ℕ, zero, suc, ◌+◌, ◌-◌, ◌<◌, ◌^◌, pos, Bool, true, false, ◌&&◌, ◌==◌, List, [], ◌∷◌, length, take, drop, Option, Some, None, Result, Ok, Err, refl, subst, arith, inl, inr}
use Rattle.std.specs.Prelude.{nat_le, nat_lt, FitsSigned}
use Rattle.std.specs.Int.{w64}
use Rattle.std.specs.List.{AllByRecursion}
use Rattle.std.specs.Str.{is_utf8}
use Rattle.std.proofs.lemmas.Bool.Decides.{nat_tests}
use Rattle.std.proofs.lemmas.List.Elements.{All-from_recursion}
use Rattle.hex.specs.Hex.{decode_of}
use Rattle.sdb_sqltext.specs.Types.{FromHexError, Keyword, Placed, Sign, Token}
use Rattle.hex.proofs.HexLemmas.{decode_of-ok}
use Rattle.sdb_types.specs.Identifier.{is_start, is_identifier}
use Rattle.sdb_model.specs.SqlTokens.{Bad, Wide, Lexeme, Lexed, keyword_of, sign_of, is_gap, is_digit, is_single_quote, begins, name_token, word_or_name, word_len, word_at, quoted_name_at, digits_len, number_of, minus, number_at, negative_at, enclosed, text_token, text_at, quote_place, closes, blob_token, blob_in, or_word, begins_blob, letter_at, sign_token, token_at, behind, first_token, tokens_from, lexed}
use Rattle.sdb_model.specs.Sql.{tokens_of}
use Rattle.sdb_model.specs.declared.token.Token.TheVariants.{Name, Overlong, Number, Text}
use Rattle.sdb_sqltext.specs.Spelled.{IsSpelled}
use Rattle.sdb_sqltext.proofs.Words.{front_is_identifier}
use Rattle.sdb_types.proofs.Public.{by_test, cond_by as either}
use Rattle.sdb_model.proofs.Public.{are_bytes}

abbrev Fine : Lexeme → Type 0
Fine (Ok p) = IsSpelled p.0
Fine (Err f) = Unit {0}

abbrev FineIf : Option (Token × ℕ) → Type 0
FineIf (Some p) = IsSpelled p.0
FineIf None = Unit {0}

and_left : (a b : Bool) → (a && b) ≡ true → a ≡ true
and_left true b h = refl
and_left false b h = absurd cc

-- ---- names and words

name_fine : (w : List ℕ) → is_identifier w ≡ true → IsSpelled (name_token w)
name_fine w h = either IsSpelled (nat_le (length w) 64) (Name w) Overlong (λ e. inl (h, e)) (λ e. inr refl)

word_or_name_fine : (w : List ℕ) (k : Option Keyword) → is_identifier w ≡ true → IsSpelled (word_or_name w k)
word_or_name_fine w (Some k) h = inl tt
word_or_name_fine w None h = name_fine w h

word_fine : (bytes : List ℕ) → begins is_start bytes ≡ true → Fine (word_at bytes)
unfolding word_at
word_fine bytes h = word_or_name_fine (take (word_len bytes) bytes) (keyword_of (take (word_len bytes) bytes)) (front_is_identifier bytes h)

quoted_fine : (bytes : List ℕ) → Fine (quoted_name_at bytes)
unfolding quoted_name_at
quoted_fine bytes =
    either Fine (begins is_start bytes && begins (λ b. b == 34) (drop (word_len bytes) bytes)) (Ok (name_token (take (word_len bytes) bytes), word_len bytes + 2)) (Err Bad)
    (λ e. name_fine (take (word_len bytes) bytes) (front_is_identifier bytes (and_left (begins is_start bytes) _ e))) (λ e. tt)

-- ---- numbers

positive_fits : (n : ℕ) → nat_lt n (2 ^ 63) ≡ true → FitsSigned w64 (pos n)
positive_fits n h = grind (arith, nat_tests)

minus_fits : (n : ℕ) → nat_le n (2 ^ 63) ≡ true → FitsSigned w64 (minus n)
minus_fits zero h = grind (arith, nat_tests)
minus_fits (suc n) h = grind (arith, nat_tests)

number_fine : (bytes : List ℕ) → Fine (number_at bytes)
unfolding number_at
number_fine bytes =
    either Fine (nat_lt (number_of bytes) (2 ^ 63)) (Ok (Number (pos (number_of bytes)), digits_len bytes)) (Err Wide) (λ e. inl (positive_fits (number_of bytes) e)) (λ e. tt)

negative_fine : (bytes : List ℕ) → Fine (negative_at bytes)
unfolding negative_at
negative_fine bytes =
    by_test (begins is_digit bytes)
    (λ d. rw d (either Fine (nat_le (number_of bytes) (2 ^ 63)) (Ok (Number (minus (number_of bytes)), digits_len bytes + 1)) (Err Wide) (λ e. inl (minus_fits (number_of bytes) e)) (λ e. tt)))
    (λ d. rw d tt)

-- ---- texts and blobs

text_token_fine : (r : Option (List ℕ × ℕ)) → Fine (text_token r)
text_token_fine None = tt
text_token_fine (Some p) = either Fine (is_utf8 p.0) (Ok (Text p.0, p.1 + 1)) (Err Bad) (λ e. inl e) (λ e. tt)

text_fine : (bytes : List ℕ) → Fine (text_at bytes)
unfolding text_at
text_fine bytes = text_token_fine (enclosed bytes)

blob_token_fine : (n : ℕ) (digits : List ℕ) (r : Result (List ℕ) FromHexError) → decode_of digits ≡ r → FineIf (blob_token n r)
blob_token_fine n digits (Ok bytes) h = inl (All-from_recursion (λ b. b < 256) bytes (are_bytes bytes (decode_of-ok digits bytes h).3))
blob_token_fine n digits (Err e) h = tt

blob_fine : (bytes : List ℕ) → FineIf (blob_in bytes)
unfolding blob_in
blob_fine bytes =
    either FineIf (closes (drop (quote_place bytes) bytes)) (blob_token (quote_place bytes) (decode_of (take (quote_place bytes) bytes))) None
    (λ e. blob_token_fine (quote_place bytes) (take (quote_place bytes) bytes) (decode_of (take (quote_place bytes) bytes)) refl) (λ e. tt)

or_word_fine : (bytes : List ℕ) (r : Option (Token × ℕ)) → begins is_start bytes ≡ true → FineIf r → Fine (or_word bytes r)
or_word_fine bytes (Some p) h valid = valid
or_word_fine bytes None h valid = word_fine bytes h

letter_fine : (bytes : List ℕ) → begins is_start bytes ≡ true → Fine (letter_at bytes)
unfolding letter_at
letter_fine bytes h =
    either Fine (begins_blob bytes) (or_word bytes (blob_in (drop 2 bytes))) (word_at bytes)
    (λ e. or_word_fine bytes (blob_in (drop 2 bytes)) h (blob_fine (drop 2 bytes))) (λ e. word_fine bytes h)

-- ---- any token, and all

sign_fine : (s : Option Sign) → Fine (sign_token s)
sign_fine (Some s) = inl tt
sign_fine None = tt

token_fine : (bytes : List ℕ) → Fine (token_at bytes)
unfolding token_at
token_fine bytes =
    either Fine (begins is_start bytes) (letter_at bytes) _ (letter_fine bytes) (λ a.
    either Fine (begins is_digit bytes) (number_at bytes) _ (λ e. number_fine bytes) (λ b.
    either Fine (begins (λ b. b == 34) bytes) (quoted_name_at (drop 1 bytes)) _ (λ e. quoted_fine (drop 1 bytes)) (λ c.
    either Fine (begins (λ b. b == 45) bytes) (negative_at (drop 1 bytes)) _ (λ e. negative_fine (drop 1 bytes)) (λ d.
    either Fine (begins is_single_quote bytes) (text_at (drop 1 bytes)) (sign_token (sign_of bytes)) (λ e. text_fine (drop 1 bytes)) (λ e. sign_fine (sign_of bytes))))))

abbrev AllFine : Lexed → Type 0
AllFine (Ok ps) = AllByRecursion IsSpelled (tokens_of ps)
AllFine (Err f) = Unit {0}

behind_fine : (p : Placed) (r : Lexed) → IsSpelled p.token → AllFine r → AllFine (behind (p ∷ []) r)
behind_fine p (Ok ps) h more = (h, more)
behind_fine p (Err f) h more = tt

first_fine : (place : ℕ) (r : Lexeme) (rest : ℕ → Lexed) → Fine r → ((n : ℕ) → AllFine (rest n)) → AllFine (first_token place r rest)
first_fine place (Ok t) rest h more = behind_fine (record { at = place; token = t.0 }) (rest t.1) h (more t.1)
first_fine place (Err f) rest h more = tt

tokens_fine : (place n : ℕ) (bytes : List ℕ) → AllFine (tokens_from place n bytes)
tokens_fine place n [] = tt
tokens_fine place (suc n) (b ∷ bs) = tokens_fine (place + 1) n bs
tokens_fine place zero (b ∷ bs) =
    either AllFine (is_gap b) (tokens_from (place + 1) 0 bs) (first_token place (token_at (b ∷ bs)) (λ n. tokens_from (place + 1) (n - 1) bs))
    (λ e. tokens_fine (place + 1) 0 bs)
    (λ e. first_fine place (token_at (b ∷ bs)) (λ n. tokens_from (place + 1) (n - 1) bs) (token_fine (b ∷ bs)) (λ n. tokens_fine (place + 1) (n - 1) bs))

pub lexed_spelled : (text : List ℕ) (ps : List Placed) → lexed text ≡ Ok ps → AllByRecursion IsSpelled (tokens_of ps)
unfolding lexed
lexed_spelled text ps h = subst AllFine h (tokens_fine 0 0 text)
