-- A text is read as COMMIT exactly where it spells it.
use Rattle.std.proofs.Common.{rules, ◌≡◌, ℕ, suc, ◌+◌, ◌-◌, ◌<◌, ◌≤◌, ◌^◌, pos, ℤ, Bool, true, false, ◌&&◌, ◌||◌, ◌==◌, cond, List, [], ◌∷◌, take, drop, length, Option, Some, None, Result, Ok, Err, refl, sym, ap, subst, ◌∙◌, arith}
use Rattle.std.specs.Prelude.{nat_lt, nat_le, find}
use Rattle.std.specs.List.{list_all, prefix_len, starts_with}
use Rattle.std.specs.Str.{is_utf8}
use Rattle.std.proofs.lemmas.Bool.{eqb-true}
use Rattle.hex.specs.Hex.{decode_of}
use Rattle.sdb_sqltext.specs.Types.{FromHexError, Keyword, Sign, Token}
use denote.Enum.Bare.{same_true}
use Rattle.sdb_types.specs.Identifier.{is_start, is_part}
use Rattle.sdb_model.specs.contracts.token.Keyword as keyword_type
use Rattle.sdb_model.specs.declared.token.Keyword.TheVariants as word
use Rattle.sdb_model.specs.declared.token.Sign.TheVariants as sign
use Rattle.sdb_model.specs.declared.token.Token.TheVariants.{Word, Name, Overlong, Number, Text, Blob, Sign as Mark}
use Rattle.sdb_model.specs.Sql.{is_lexed_word, is_sign, is_word, reads_commit}
use Rattle.sdb_model.specs.SqlTokens.{Lexed, Lexeme, Bad, Wide, minus, begins, begins_blob, behind, blob_in, blob_token, closes, enclosed, first_token, digits_len, is_digit, is_gap, is_single_quote, keyword_of, letter_at, lexed, name_token, negative_at, number_at, number_of, or_word, quote_place, quoted_name_at, sign_of, sign_text, sign_token, signs, text_at, text_token, token_at, tokens_from, word_at, word_len, word_or_name}
use Rattle.sdb_sqltext.specs.OneWord.{after_gaps, ends_text, is_commit, is_commit_at, is_end, spells_commit}
use Rattle.sdb_sqltext.proofs.Lexing.{gap_turn, token_turn}
use Rattle.sdb_types.proofs.Public.{by_test, cond_by as either, one_more, start_part as start_is_part}

both_pass : (a b c : Bool) → a ≡ true → b ≡ true → (a && (b && c)) ≡ c
both_pass a b c s h = rw (s, h) refl

first_fails : (a b : Bool) → a ≡ false → (a && b) ≡ false
first_fails a b h = rw h refl

second_fails : (a b c : Bool) → b ≡ false → (a && (b && c)) ≡ false
second_fails true b c h = rw h refl
second_fails false b c h = refl

-- what begins with a byte that is no blank begins with a token
solid : (place b : ℕ) (bs : List ℕ) → is_gap b ≡ false → tokens_from place 0 (b ∷ bs) ≡ first_token place (token_at (b ∷ bs)) (λ n. tokens_from (place + 1) (n - 1) bs)
solid place b bs g = rw g refl

---- tokens that a test of words or signs doesn't pass

-- A test that no name, number, text or blob passes.
record Tells (f : Token → Bool) : Type 0 where
  name : (n : List ℕ) → f (Name n) ≡ false
  overlong : f Overlong ≡ false
  number : (n : ℤ) → f (Number n) ≡ false
  text : (t : List ℕ) → f (Text t) ≡ false
  blob : (t : List ℕ) → f (Blob t) ≡ false

tells_word : Tells (is_word word.Commit)
tells_word = record { name = λ n. refl; overlong = refl; number = λ n. refl; text = λ t. refl; blob = λ t. refl }

tells_sign : Tells (is_sign sign.Semicolon)
tells_sign = record { name = λ n. refl; overlong = refl; number = λ n. refl; text = λ t. refl; blob = λ t. refl }

abbrev Fails : (Token → Bool) → Lexeme → Type 0
Fails f (Ok p) = f p.0 ≡ false
Fails f (Err e) = Unit {0}

abbrev FailsIf : (Token → Bool) → Option (Token × ℕ) → Type 0
FailsIf f (Some p) = f p.0 ≡ false
FailsIf f None = Unit {0}

-- a keyword that the start spells, or a sign there, doesn't pass
abbrev NoWord : (Token → Bool) → Option Keyword → Type 0
NoWord f None = Unit {0}
NoWord f (Some k) = f (Word k) ≡ false

abbrev NoSign : (Token → Bool) → Option Sign → Type 0
NoSign f None = Unit {0}
NoSign f (Some s) = f (Mark s) ≡ false

module _ (f : Token → Bool) (is_known : Tells f) where
  name_fails : (w : List ℕ) → f (name_token w) ≡ false
  name_fails w = either (λ t. f t ≡ false) (nat_le (length w) 64) (Name w) Overlong (λ e. is_known.name w) (λ e. is_known.overlong)

  word_or_name_fails : (w : List ℕ) (k : Option Keyword) → NoWord f k → f (word_or_name w k) ≡ false
  word_or_name_fails w (Some k) h = h
  word_or_name_fails w None h = name_fails w

  word_fails : (bytes : List ℕ) → NoWord f (keyword_of (take (word_len bytes) bytes)) → Fails f (word_at bytes)
  unfolding word_at
  word_fails bytes h = word_or_name_fails (take (word_len bytes) bytes) (keyword_of (take (word_len bytes) bytes)) h

  quoted_fails : (bytes : List ℕ) → Fails f (quoted_name_at bytes)
  unfolding quoted_name_at
  quoted_fails bytes =
      either (Fails f) (begins is_start bytes && begins (λ b. b == 34) (drop (word_len bytes) bytes)) (Ok (name_token (take (word_len bytes) bytes), word_len bytes + 2)) (Err Bad)
      (λ e. name_fails (take (word_len bytes) bytes)) (λ e. tt)

  number_fails : (bytes : List ℕ) → Fails f (number_at bytes)
  unfolding number_at
  number_fails bytes = either (Fails f) (nat_lt (number_of bytes) (2 ^ 63)) (Ok (Number (pos (number_of bytes)), digits_len bytes)) (Err Wide) (λ e. is_known.number (pos (number_of bytes))) (λ e. tt)

  negative_fails : (bytes : List ℕ) → Fails f (negative_at bytes)
  unfolding negative_at
  negative_fails bytes =
      by_test (begins is_digit bytes)
      (λ d. rw d (either (Fails f) (nat_le (number_of bytes) (2 ^ 63)) (Ok (Number (minus (number_of bytes)), digits_len bytes + 1)) (Err Wide) (λ e. is_known.number (minus (number_of bytes))) (λ e. tt)))
      (λ d. rw d tt)

  text_token_fails : (r : Option (List ℕ × ℕ)) → Fails f (text_token r)
  text_token_fails None = tt
  text_token_fails (Some p) = either (Fails f) (is_utf8 p.0) (Ok (Text p.0, p.1 + 1)) (Err Bad) (λ e. is_known.text p.0) (λ e. tt)

  text_fails : (bytes : List ℕ) → Fails f (text_at bytes)
  unfolding text_at
  text_fails bytes = text_token_fails (enclosed bytes)

  blob_token_fails : (n : ℕ) (r : Result (List ℕ) FromHexError) → FailsIf f (blob_token n r)
  blob_token_fails n (Ok bytes) = is_known.blob bytes
  blob_token_fails n (Err e) = tt

  blob_fails : (bytes : List ℕ) → FailsIf f (blob_in bytes)
  unfolding blob_in
  blob_fails bytes =
      either (FailsIf f) (closes (drop (quote_place bytes) bytes)) (blob_token (quote_place bytes) (decode_of (take (quote_place bytes) bytes))) None
      (λ e. blob_token_fails (quote_place bytes) (decode_of (take (quote_place bytes) bytes))) (λ e. tt)

  or_word_fails : (bytes : List ℕ) (r : Option (Token × ℕ)) → NoWord f (keyword_of (take (word_len bytes) bytes)) → FailsIf f r → Fails f (or_word bytes r)
  or_word_fails bytes (Some p) h other = other
  or_word_fails bytes None h other = word_fails bytes h

  letter_fails : (bytes : List ℕ) → NoWord f (keyword_of (take (word_len bytes) bytes)) → Fails f (letter_at bytes)
  unfolding letter_at
  letter_fails bytes h =
      either (Fails f) (begins_blob bytes) (or_word bytes (blob_in (drop 2 bytes))) (word_at bytes)
      (λ e. or_word_fails bytes (blob_in (drop 2 bytes)) h (blob_fails (drop 2 bytes))) (λ e. word_fails bytes h)

  sign_fails : (s : Option Sign) → NoSign f s → Fails f (sign_token s)
  sign_fails None h = tt
  sign_fails (Some s) h = h

  token_fails : (bytes : List ℕ) → (begins is_start bytes ≡ true → NoWord f (keyword_of (take (word_len bytes) bytes))) → NoSign f (sign_of bytes) → Fails f (token_at bytes)
  unfolding token_at
  token_fails bytes word sign =
      either (Fails f) (begins is_start bytes) (letter_at bytes) _ (λ a. letter_fails bytes (word a)) (λ a.
      either (Fails f) (begins is_digit bytes) (number_at bytes) _ (λ e. number_fails bytes) (λ c.
      either (Fails f) (begins (λ x. x == 34) bytes) (quoted_name_at (drop 1 bytes)) _ (λ e. quoted_fails (drop 1 bytes)) (λ d.
      either (Fails f) (begins (λ x. x == 45) bytes) (negative_at (drop 1 bytes)) _ (λ e. negative_fails (drop 1 bytes)) (λ g.
      either (Fails f) (begins is_single_quote bytes) (text_at (drop 1 bytes)) (sign_token (sign_of bytes)) (λ e. text_fails (drop 1 bytes)) (λ e. sign_fails (sign_of bytes) sign)))))

found_passes : {X : Type 0} (p : X → Bool) (xs : List X) (x : X) → find p xs ≡ Some x → p x ≡ true
found_passes p [] x h = absurd (cc)
found_passes p (y ∷ ys) x h =
    elim (p y) as (λ b. p y ≡ b → cond b (Some y) (find p ys) ≡ Some x → p x ≡ true) [
      | true ↦ λ e k. let same : y ≡ x = cc in subst (λ z. p z ≡ true) same e
      | false ↦ λ e k. found_passes p ys x k
    ] refl h

first_is : (b : ℕ) (bs : List ℕ) → starts_with ◌==◌ (b ∷ bs) (sign_text sign.Semicolon) ≡ true → (b == 59) ≡ true
first_is b bs h =
    let front : (59 == b) ≡ true = elim (59 == b) as (λ t. (t && true) ≡ true → t ≡ true) [ true ↦ λ k. refl | false ↦ λ k. k ] h in
    subst (λ (x : ℕ). (x == 59) ≡ true) (eqb-true 59 b front) refl

no_semicolon : (b : ℕ) (bs : List ℕ) → (b == 59) ≡ false → NoSign (is_sign sign.Semicolon) (sign_of (b ∷ bs))
unfolding sign_of
no_semicolon b bs h = by_sign (sign_of (b ∷ bs)) refl
  where
    by_sign : (s : Option Sign) → sign_of (b ∷ bs) ≡ s → NoSign (is_sign sign.Semicolon) s
    by_sign None e = tt
    by_sign (Some sign.Semicolon) e = absurd (let t : (b == 59) ≡ true = first_is b bs (found_passes (λ s. starts_with ◌==◌ (b ∷ bs) (sign_text s)) signs sign.Semicolon e) in cc)
    by_sign (Some sign.NotEqual) e = refl
    by_sign (Some sign.LessOrEqual) e = refl
    by_sign (Some sign.GreaterOrEqual) e = refl
    by_sign (Some sign.Less) e = refl
    by_sign (Some sign.Greater) e = refl
    by_sign (Some sign.Equal) e = refl
    by_sign (Some sign.Dot) e = refl
    by_sign (Some sign.Comma) e = refl
    by_sign (Some sign.Open) e = refl
    by_sign (Some sign.Close) e = refl
    by_sign (Some sign.Star) e = refl

no_word : (k : Option Keyword) → is_commit k ≡ false → NoWord (is_word word.Commit) k
no_word None h = tt
no_word (Some k) h = h

no_sign : (s : Option Sign) → NoSign (is_word word.Commit) s
no_sign None = tt
no_sign (Some s) = refl

any_word : (k : Option Keyword) → NoWord (is_sign sign.Semicolon) k
any_word None = tt
any_word (Some k) = refl

semicolon : (bs : List ℕ) → token_at (59 ∷ bs) ≡ Ok (Mark sign.Semicolon, 1)
unfolding token_at sign_of
semicolon bs = refl

---- COMMIT at the start

commit_is : (k : Option Keyword) → is_commit k ≡ true → k ≡ Some word.Commit
commit_is None h = absurd (cc)
commit_is (Some k) h = ap Some (same_true keyword_type.the_type (search rules) k word.Commit h)

-- what begins as a blob does is the word X
x_is_no_word : (x c : ℕ) (cs : List ℕ) → (x == 88 || x == 120) ≡ true → (c == 39) ≡ true → is_commit (keyword_of (take (word_len (x ∷ c ∷ cs)) (x ∷ c ∷ cs))) ≡ false
unfolding keyword_of
x_is_no_word x c cs h k =
    subst (λ d. is_commit (keyword_of (take (word_len (x ∷ d ∷ cs)) (x ∷ d ∷ cs))) ≡ false) (sym (eqb-true c 39 k))
    (elim (x == 88) as (λ b. (x == 88) ≡ b → (b || x == 120) ≡ true → is_commit (keyword_of (take (word_len (x ∷ 39 ∷ cs)) (x ∷ 39 ∷ cs))) ≡ false) [
      | true ↦ λ e g. subst (λ y. is_commit (keyword_of (take (word_len (y ∷ 39 ∷ cs)) (y ∷ 39 ∷ cs))) ≡ false) (sym (eqb-true x 88 e)) refl
      | false ↦ λ e g. subst (λ y. is_commit (keyword_of (take (word_len (y ∷ 39 ∷ cs)) (y ∷ 39 ∷ cs))) ≡ false) (sym (eqb-true x 120 g)) refl
    ] refl h)

no_blob : (bytes : List ℕ) → is_commit (keyword_of (take (word_len bytes) bytes)) ≡ true → begins_blob bytes ≡ false
no_blob [] h = refl
no_blob (x ∷ []) h = elim (x == 88 || x == 120) as (λ b. (b && false) ≡ false) [ true ↦ refl | false ↦ refl ]
no_blob (x ∷ c ∷ cs) h =
    elim (x == 88 || x == 120) as (λ b. (x == 88 || x == 120) ≡ b → (b && c == 39) ≡ false) [
      | true ↦ λ e. elim (c == 39) as (λ b. (c == 39) ≡ b → b ≡ false) [ true ↦ λ k. absurd (let no : is_commit (keyword_of (take (word_len (x ∷ c ∷ cs)) (x ∷ c ∷ cs))) ≡ false = x_is_no_word x c cs e k in cc) | false ↦ λ k. refl ] refl
      | false ↦ λ e. refl
    ] refl

word_commit : (bytes : List ℕ) → is_commit (keyword_of (take (word_len bytes) bytes)) ≡ true → word_at bytes ≡ Ok (Word word.Commit, word_len bytes)
unfolding word_at
word_commit bytes h = ap (λ k. Ok (word_or_name (take (word_len bytes) bytes) k, word_len bytes)) (commit_is (keyword_of (take (word_len bytes) bytes)) h)

letter_commit : (bytes : List ℕ) → is_commit (keyword_of (take (word_len bytes) bytes)) ≡ true → letter_at bytes ≡ Ok (Word word.Commit, word_len bytes)
unfolding letter_at
letter_commit bytes h = rw (no_blob bytes h) (word_commit bytes h)

token_commit : (bytes : List ℕ) → begins is_start bytes ≡ true → is_commit (keyword_of (take (word_len bytes) bytes)) ≡ true → token_at bytes ≡ Ok (Word word.Commit, word_len bytes)
unfolding token_at
token_commit bytes s h = rw s (letter_commit bytes h)

---- what is after it

abbrev is_none_left : Lexed → Bool
is_none_left (Ok []) = true
is_none_left (Ok (p ∷ ps)) = false
is_none_left (Err f) = false

abbrev is_tail : Lexed → Bool
is_tail (Ok []) = true
is_tail (Ok (p ∷ [])) = is_sign sign.Semicolon p.token
is_tail (Ok (p ∷ q ∷ ps)) = false
is_tail (Err f) = false

some_left : (place : ℕ) (r : Lexeme) (rest : ℕ → Lexed) → is_none_left (first_token place r rest) ≡ false
some_left place (Err f) rest = refl
some_left place (Ok t) rest = of_rest (rest t.1)
  where
    of_rest : (l : Lexed) → is_none_left (behind (record { at = place; token = t.0 } ∷ []) l) ≡ false
    of_rest (Ok ps) = refl
    of_rest (Err f) = refl

blank_left : (place : ℕ) (bs : List ℕ) → is_none_left (tokens_from place 0 bs) ≡ list_all is_gap bs
blank_left place [] = refl
blank_left place (b ∷ bs) =
    elim (is_gap b) as (λ g. is_none_left (cond g (tokens_from (place + 1) 0 bs) (first_token place (token_at (b ∷ bs)) (λ n. tokens_from (place + 1) (n - 1) bs))) ≡ (g && list_all is_gap bs)) [
      | true ↦ blank_left (place + 1) bs
      | false ↦ some_left place (token_at (b ∷ bs)) (λ n. tokens_from (place + 1) (n - 1) bs)
    ]

other_tail : (place : ℕ) (r : Lexeme) (rest : ℕ → Lexed) → Fails (is_sign sign.Semicolon) r → is_tail (first_token place r rest) ≡ false
other_tail place (Err f) rest h = refl
other_tail place (Ok t) rest h = of_rest (rest t.1)
  where
    of_rest : (l : Lexed) → is_tail (behind (record { at = place; token = t.0 } ∷ []) l) ≡ false
    of_rest (Ok []) = h
    of_rest (Ok (p ∷ ps)) = refl
    of_rest (Err f) = refl

semicolon_tail : (place : ℕ) (l : Lexed) → is_tail (behind (record { at = place; token = Mark sign.Semicolon } ∷ []) l) ≡ is_none_left l
semicolon_tail place (Ok []) = refl
semicolon_tail place (Ok (p ∷ ps)) = refl
semicolon_tail place (Err f) = refl

gap_passed : (b : ℕ) (bs : List ℕ) → is_gap b ≡ true → after_gaps (b ∷ bs) ≡ after_gaps bs
gap_passed b bs g = rw (g, one_more) refl

no_gap : (b : ℕ) (bs : List ℕ) → is_gap b ≡ false → after_gaps (b ∷ bs) ≡ b ∷ bs
no_gap b bs g = rw g refl

tail_at : (place b : ℕ) (bs : List ℕ) → is_tail (first_token place (token_at (b ∷ bs)) (λ n. tokens_from (place + 1) (n - 1) bs)) ≡ (b == 59 && list_all is_gap bs)
tail_at place b bs =
    elim (b == 59) as (λ t. (b == 59) ≡ t → is_tail (first_token place (token_at (b ∷ bs)) (λ n. tokens_from (place + 1) (n - 1) bs)) ≡ (t && list_all is_gap bs)) [
      | true ↦ λ e. subst (λ (x : ℕ). is_tail (first_token place (token_at (x ∷ bs)) (λ n. tokens_from (place + 1) (n - 1) bs)) ≡ list_all is_gap bs) (sym (eqb-true b 59 e))
          (ap (λ (l : Lexeme). is_tail (first_token place l (λ n. tokens_from (place + 1) (n - 1) bs))) (semicolon bs) ∙ semicolon_tail place (tokens_from (place + 1) 0 bs) ∙ blank_left (place + 1) bs)
      | false ↦ λ e. other_tail place (token_at (b ∷ bs)) (λ n. tokens_from (place + 1) (n - 1) bs) (token_fails (is_sign sign.Semicolon) tells_sign (b ∷ bs) (λ s. any_word (keyword_of (take (word_len (b ∷ bs)) (b ∷ bs)))) (no_semicolon b bs e))
    ] refl

tail_left : (place : ℕ) (bs : List ℕ) → is_tail (tokens_from place 0 bs) ≡ ends_text bs
tail_left place [] = refl
tail_left place (b ∷ bs) =
    by_test (is_gap b)
    (λ g. ap is_tail (gap_turn place b bs g) ∙ tail_left (place + 1) bs ∙ ap is_end (sym (gap_passed b bs g)))
    (λ g. ap is_tail (solid place b bs g) ∙ tail_at place b bs ∙ ap is_end (sym (no_gap b bs g)))

---- the whole

lexed_commit : (place : ℕ) (l : Lexed) → is_lexed_word word.Commit (behind (record { at = place; token = Word word.Commit } ∷ []) l) ≡ is_tail l
lexed_commit place (Ok []) = refl
lexed_commit place (Ok (p ∷ [])) = refl
lexed_commit place (Ok (p ∷ q ∷ ps)) = refl
lexed_commit place (Err f) = refl

no_commit : (place : ℕ) (r : Lexeme) (rest : ℕ → Lexed) → Fails (is_word word.Commit) r → is_lexed_word word.Commit (first_token place r rest) ≡ false
no_commit place (Err f) rest h = refl
no_commit place (Ok t) rest h = of_rest (rest t.1)
  where
    of_rest : (l : Lexed) → is_lexed_word word.Commit (behind (record { at = place; token = t.0 } ∷ []) l) ≡ false
    of_rest (Ok []) = h
    of_rest (Ok (p ∷ [])) = rw h refl
    of_rest (Ok (p ∷ q ∷ ps)) = refl
    of_rest (Err f) = refl

word_some : (b : ℕ) (bs : List ℕ) → is_start b ≡ true → 0 < word_len (b ∷ bs)
word_some b bs s = let p = start_is_part b s in rw p (omega arith)

passing_within : (p : ℕ → Bool) (bs : List ℕ) → prefix_len p bs ≤ length bs
passing_within p [] = omega arith
passing_within p (b ∷ bs) = let rest = passing_within p bs in elim (p b) as (λ t. cond t (1 + prefix_len p bs) 0 ≤ suc (length bs)) [ true ↦ omega (arith, rest) | false ↦ omega arith ]

commit_at : (place b : ℕ) (bs : List ℕ) → is_gap b ≡ false → is_lexed_word word.Commit (tokens_from place 0 (b ∷ bs)) ≡ is_commit_at (b ∷ bs)
commit_at place b bs g =
    let bytes : List ℕ = b ∷ bs in
    let spelled : Option Keyword = keyword_of (take (word_len bytes) bytes) in
    let other : ((begins is_start bytes && (is_commit spelled && ends_text (drop (word_len bytes) bytes))) ≡ false) → (begins is_start bytes ≡ true → is_commit spelled ≡ false) → is_lexed_word word.Commit (tokens_from place 0 bytes) ≡ is_commit_at bytes = λ no quiet.
    ap (is_lexed_word word.Commit) (solid place b bs g) ∙ no_commit place (token_at bytes) (λ n. tokens_from (place + 1) (n - 1) bs) (token_fails (is_word word.Commit) tells_word bytes (λ s. no_word spelled (quiet s)) (no_sign (sign_of bytes))) ∙ sym no in
    by_test (begins is_start bytes)
    (λ s. by_test (is_commit spelled)
    (λ c. ap (is_lexed_word word.Commit) (token_turn place b bs (Word word.Commit) (word_len bytes) g (token_commit bytes s c) (word_some b bs s) (passing_within is_part bytes))
    ∙ lexed_commit place (tokens_from (place + word_len bytes) 0 (drop (word_len bytes) bytes)) ∙ tail_left (place + word_len bytes) (drop (word_len bytes) bytes) ∙ sym (both_pass (begins is_start bytes) (is_commit spelled) (ends_text (drop (word_len bytes) bytes)) s c))
    (λ c. other (second_fails (begins is_start bytes) (is_commit spelled) (ends_text (drop (word_len bytes) bytes)) c) (λ x. c)))
    (λ s. other (first_fails (begins is_start bytes) (is_commit spelled && ends_text (drop (word_len bytes) bytes)) s) (λ x. absurd (cc)))

commit_left : (place : ℕ) (bs : List ℕ) → is_lexed_word word.Commit (tokens_from place 0 bs) ≡ spells_commit bs
commit_left place [] = refl
commit_left place (b ∷ bs) =
    by_test (is_gap b)
    (λ g. ap (is_lexed_word word.Commit) (gap_turn place b bs g) ∙ commit_left (place + 1) bs ∙ ap is_commit_at (sym (gap_passed b bs g)))
    (λ g. commit_at place b bs g ∙ ap is_commit_at (sym (no_gap b bs g)))

pub commit_spelled : (text : List ℕ) → spells_commit text ≡ reads_commit text
unfolding lexed
commit_spelled text = sym (commit_left 0 text)
