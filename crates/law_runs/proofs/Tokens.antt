-- The literals of a statement that a text without an LF is read as have none.
use Rattle.std.proofs.Common.{◌≡◌, ℕ, zero, suc, ◌+◌, ◌-◌, Bool, true, false, cond, List, [], ◌∷◌, ◌++◌, length, take, drop, flat_map, Option, Some, None, IfSome, Result, Ok, Err, inl, inr, refl, subst}
use Rattle.std.specs.Prelude.{nat_le, nat_lt, not, ◌^◌, ◌&&◌}
use Rattle.std.specs.List.{AllByRecursion}
use Rattle.std.specs.Str.{is_utf8}
use Rattle.hex.specs.Hex.{decode_of}
use Rattle.law_runs.specs.Types.{FromHexError, Insert, Keyword, Pair, Placed, Sign, Statement, Test, Token, Value}
use Rattle.sdb_types.specs.Identifier.{is_start}
use Rattle.sdb_types.specs.declared.value.Value.TheVariants as value
use Rattle.sdb_types.proofs.Public.{and_first, and_second, append_all}
use Rattle.sdb_model.specs.declared.statement.Statement.TheVariants as statement
use Rattle.sdb_model.specs.declared.statement.Test.TheVariants.{Compare, IsNull, NotNull}
use Rattle.sdb_model.specs.declared.token.Keyword.TheVariants as word
use Rattle.sdb_model.specs.declared.token.Sign.TheVariants as sign
use Rattle.sdb_model.specs.declared.token.Token.TheVariants.{Word, Name, Overlong, Number, Text, Blob, Sign as Mark}
use Rattle.sdb_model.specs.Plain.{is_no_lf, is_one_line}
use Rattle.sdb_model.specs.Sql.{Reads, Spells, Tokens, columns_tokens, insert_tokens, limit_tokens, literal_token, literal_tokens, names_tokens, separated, set_tokens, statement_tokens, table_tokens, test_tokens, tokens_of, where_tokens}
use Rattle.sdb_model.specs.SqlTokens.{Bad, Lexed, Lexeme, Wide, begins, begins_blob, behind, blob_in, blob_token, closes, digits_len, enclosed, first_token, is_digit, is_gap, is_single_quote, keyword_of, letter_at, lexed, minus, name_token, negative_at, number_at, number_of, onto_text, or_word, quote_place, quoted_name_at, sign_of, sign_token, text_at, text_token, token_at, tokens_from, word_at, word_len, word_or_name}
use Rattle.sdb_report.specs.OneLine.{ValueHasNoLf}
use Rattle.sdb_report.proofs.Public.{IsLine, lines_joined}
use Rattle.law_runs.proofs.Clear.{AreClear}
use Rattle.law_runs.proofs.PlainStatements.{StatementClear, TestClear, TestsClear}

---- tokens

abbrev TokenClear : Token → Type 0
TokenClear (Word w) = Unit {0}
TokenClear (Name n) = Unit {0}
TokenClear Overlong = Unit {0}
TokenClear (Number n) = Unit {0}
TokenClear (Text text) = IsLine text
TokenClear (Blob bytes) = Unit {0}
TokenClear (Mark s) = Unit {0}

abbrev LexemeClear : Lexeme → Type 0
LexemeClear (Ok t) = TokenClear t.0
LexemeClear (Err f) = Unit {0}

abbrev PlacedClear : Placed → Type 0
PlacedClear p = TokenClear p.token

abbrev LexedClear : Lexed → Type 0
LexedClear (Ok ps) = AllByRecursion PlacedClear ps
LexedClear (Err f) = Unit {0}

abbrev EnclosedClear : Option (List ℕ × ℕ) → Type 0
EnclosedClear o = IfSome o (λ p. IsLine p.0)

onto_clear : (front : List ℕ) (n : ℕ) (o : Option (List ℕ × ℕ)) → IsLine front → EnclosedClear o → EnclosedClear (onto_text front n o)
onto_clear front n None h k = tt
onto_clear front n (Some p) h k = lines_joined front p.0 h k

one_byte : (c : ℕ) → is_no_lf c ≡ true → IsLine (c ∷ [])
one_byte c h = rw h refl

enclosed_clear : (bs : List ℕ) → IsLine bs → EnclosedClear (enclosed bs)
enclosed_clear [] h = tt
enclosed_clear (c ∷ []) h = elim (is_single_quote c) as (λ b. EnclosedClear (cond b (Some ([], 1)) None)) [ true ↦ refl | false ↦ tt ]
enclosed_clear (c ∷ d ∷ ds) h =
    let later : IsLine (d ∷ ds) = and_second (is_no_lf c) _ h in
    let own = onto_clear (c ∷ []) 1 (enclosed (d ∷ ds)) (one_byte c (and_first (is_no_lf c) _ h)) (enclosed_clear (d ∷ ds) later) in
    let two = onto_clear (39 ∷ []) 2 (enclosed ds) refl (enclosed_clear ds (and_second (is_no_lf d) _ later)) in
    by (is_single_quote c) (is_single_quote d) own two
  where
    by : (a b : Bool) → EnclosedClear (onto_text (c ∷ []) 1 (enclosed (d ∷ ds))) → EnclosedClear (onto_text (39 ∷ []) 2 (enclosed ds)) → EnclosedClear (cond a (cond b (onto_text (39 ∷ []) 2 (enclosed ds)) (Some ([], 1))) (onto_text (c ∷ []) 1 (enclosed (d ∷ ds))))
    by true true own two = two
    by true false own two = refl
    by false b own two = own

text_clear : (bytes : List ℕ) → IsLine bytes → LexemeClear (text_at bytes)
unfolding text_at
text_clear bytes h = by (enclosed bytes) (enclosed_clear bytes h)
  where
    by : (o : Option (List ℕ × ℕ)) → EnclosedClear o → LexemeClear (text_token o)
    by None k = tt
    by (Some p) k = elim (is_utf8 p.0) as (λ b. LexemeClear (cond b (Ok (Text p.0, p.1 + 1)) (Err Bad))) [ true ↦ k | false ↦ tt ]

name_clear : (text : List ℕ) → TokenClear (name_token text)
name_clear text = elim (nat_le (length text) 64) as (λ b. TokenClear (cond b (Name text) Overlong)) [ true ↦ tt | false ↦ tt ]

word_clear : (bytes : List ℕ) → LexemeClear (word_at bytes)
unfolding word_at
word_clear bytes = by (keyword_of (take (word_len bytes) bytes))
  where
    by : (o : Option Keyword) → TokenClear (word_or_name (take (word_len bytes) bytes) o)
    by (Some k) = tt
    by None = name_clear (take (word_len bytes) bytes)

quoted_clear : (bytes : List ℕ) → LexemeClear (quoted_name_at bytes)
unfolding quoted_name_at
quoted_clear bytes =
    elim (begins is_start bytes && begins (λ b. Rattle.std.specs.Prelude.◌==◌ b 34) (drop (word_len bytes) bytes)) as (λ b. LexemeClear (cond b (Ok (name_token (take (word_len bytes) bytes), word_len bytes + 2)) (Err Bad))) [
      | true ↦ name_clear (take (word_len bytes) bytes)
      | false ↦ tt
    ]

number_clear : (bytes : List ℕ) → LexemeClear (number_at bytes)
unfolding number_at
number_clear bytes = elim (nat_lt (number_of bytes) (2 ^ 63)) as (λ b. LexemeClear (cond b (Ok (Number (Rattle.std.specs.Prelude.pos (number_of bytes)), digits_len bytes)) (Err Wide))) [ true ↦ tt | false ↦ tt ]

negative_clear : (bytes : List ℕ) → LexemeClear (negative_at bytes)
unfolding negative_at
negative_clear bytes = by (not (begins is_digit bytes)) (nat_le (number_of bytes) (2 ^ 63))
  where
    by : (a b : Bool) → LexemeClear (cond a (Err Bad) (cond b (Ok (Number (minus (number_of bytes)), digits_len bytes + 1)) (Err Wide)))
    by true b = tt
    by false true = tt
    by false false = tt

abbrev BlobClear : Option (Token × ℕ) → Type 0
BlobClear o = IfSome o (λ p. TokenClear p.0)

blob_clear : (bytes : List ℕ) → BlobClear (blob_in bytes)
unfolding blob_in
blob_clear bytes = by (closes (drop (quote_place bytes) bytes)) (decode_of (take (quote_place bytes) bytes))
  where
    by : (b : Bool) (r : Result (List ℕ) FromHexError) → BlobClear (cond b (blob_token (quote_place bytes) r) None)
    by true (Ok x) = tt
    by true (Err e) = tt
    by false r = tt

letter_clear : (bytes : List ℕ) → LexemeClear (letter_at bytes)
unfolding letter_at
letter_clear bytes = by (begins_blob bytes) (blob_in (drop 2 bytes)) (blob_clear (drop 2 bytes))
  where
    by : (b : Bool) (o : Option (Token × ℕ)) → BlobClear o → LexemeClear (cond b (or_word bytes o) (word_at bytes))
    by true (Some p) k = k
    by true None k = word_clear bytes
    by false o k = word_clear bytes

signs_clear : (o : Option Sign) → LexemeClear (sign_token o)
signs_clear (Some s) = tt
signs_clear None = tt

rest_one : (b : ℕ) (bs : List ℕ) → IsLine (b ∷ bs) → IsLine bs
rest_one b bs h = and_second (is_no_lf b) _ h

token_clear : (b : ℕ) (bs : List ℕ) → IsLine (b ∷ bs) → LexemeClear (token_at (b ∷ bs))
unfolding token_at
token_clear b bs h = by (is_start b) (is_digit b) (Rattle.std.specs.Prelude.◌==◌ b 34) (Rattle.std.specs.Prelude.◌==◌ b 45) (is_single_quote b)
  where
    by : (s d q m t : Bool) → LexemeClear (cond s (letter_at (b ∷ bs)) (cond d (number_at (b ∷ bs)) (cond q (quoted_name_at bs) (cond m (negative_at bs) (cond t (text_at bs) (sign_token (sign_of (b ∷ bs))))))))
    by true d q m t = letter_clear (b ∷ bs)
    by false true q m t = number_clear (b ∷ bs)
    by false false true m t = quoted_clear bs
    by false false false true t = negative_clear bs
    by false false false false true = text_clear bs (rest_one b bs h)
    by false false false false false = signs_clear (sign_of (b ∷ bs))

behind_clear : (front : List Placed) (l : Lexed) → AllByRecursion PlacedClear front → LexedClear l → LexedClear (behind front l)
behind_clear front (Ok ps) h k = append_all PlacedClear front ps h k
behind_clear front (Err f) h k = tt

first_clear : (place : ℕ) (x : Lexeme) (rest : ℕ → Lexed) → LexemeClear x → ((n : ℕ) → LexedClear (rest n)) → LexedClear (first_token place x rest)
first_clear place (Ok t) rest h k = behind_clear (record { at = place; token = t.0 } ∷ []) (rest t.1) (h, tt) (k t.1)
first_clear place (Err f) rest h k = tt

from_clear : (place n : ℕ) (bs : List ℕ) → IsLine bs → LexedClear (tokens_from place n bs)
from_clear place n [] h = tt
from_clear place (suc n) (b ∷ bs) h = from_clear (place + 1) n bs (rest_one b bs h)
from_clear place zero (b ∷ bs) h = by (is_gap b) (from_clear (place + 1) 0 bs (rest_one b bs h)) (λ n. from_clear (place + 1) n bs (rest_one b bs h))
  where
    by : (g : Bool) → LexedClear (tokens_from (place + 1) 0 bs) → ((n : ℕ) → LexedClear (tokens_from (place + 1) n bs)) → LexedClear (cond g (tokens_from (place + 1) 0 bs) (first_token place (token_at (b ∷ bs)) (λ n. tokens_from (place + 1) (n - 1) bs)))
    by true here later = here
    by false here later = first_clear place (token_at (b ∷ bs)) (λ n. tokens_from (place + 1) (n - 1) bs) (token_clear b bs h) (λ n. later (n - 1))

lexed_clear : (text : List ℕ) → IsLine text → LexedClear (lexed text)
unfolding lexed
lexed_clear text h = from_clear 0 0 text h

---- the tokens of statements

abbrev TokensClear : Tokens → Type 0
TokensClear ts = AllByRecursion TokenClear ts

of_placed : (ps : List Placed) → AllByRecursion PlacedClear ps → TokensClear (tokens_of ps)
of_placed [] h = tt
of_placed (p ∷ ps) h = (h.0, of_placed ps h.1)

front_clear : (xs ys : Tokens) → TokensClear (xs ++ ys) → TokensClear xs
front_clear [] ys h = tt
front_clear (x ∷ xs) ys h = (h.0, front_clear xs ys h.1)

back_clear : (xs ys : Tokens) → TokensClear (xs ++ ys) → TokensClear ys
back_clear [] ys h = h
back_clear (x ∷ xs) ys h = back_clear xs ys h.1

literal_so : (v : Value) → TokenClear (literal_token v) → ValueHasNoLf v
literal_so value.Null h = tt
literal_so (value.Bool b) h = tt
literal_so (value.Int n) h = tt
literal_so (value.BigInt n) h = tt
literal_so (value.Text text) h = h
literal_so (value.Blob bytes) h = tt

-- what is so of the tokens of each item is so of each item
module _ {X : Type 0} (between : Token) (f : X → Tokens) (P : X → Type 0) (each : (x : X) → TokensClear (f x) → P x) where
  more_so : (xs : List X) → TokensClear (flat_map (λ y. between ∷ f y) xs) → AllByRecursion P xs
  more_so [] h = tt
  more_so (x ∷ xs) h = (each x (front_clear (f x) _ h.1), more_so xs (back_clear (f x) _ h.1))

  items_so : (xs : List X) → TokensClear (separated between f xs) → AllByRecursion P xs
  items_so [] h = tt
  items_so (x ∷ xs) h = (each x (front_clear (f x) _ h), more_so xs (back_clear (f x) _ h))

test_so : (t : Test) → TokensClear (test_tokens t) → TestClear t
test_so (Compare n c v) h = literal_so v h.1.1.0
test_so (IsNull n) h = tt
test_so (NotNull n) h = tt

tests_so : (ts : List Test) → TokensClear (where_tokens ts) → TestsClear ts
tests_so [] h = tt
tests_so (t ∷ ts) h = items_so (Word word.And) test_tokens TestClear test_so (t ∷ ts) h.1

insert_so : (verb : Keyword) (i : Insert) → TokensClear (insert_tokens verb i) → AreClear i.values
insert_so verb i h =
    let literals : Tokens = separated (Mark sign.Comma) literal_tokens i.values in
    let after : Tokens = Mark sign.Close ∷ Word word.Values ∷ Mark sign.Open ∷ literals in
    let rest : TokensClear after = back_clear (names_tokens i.columns) after (front_clear (names_tokens i.columns ++ after) (Mark sign.Close ∷ []) h.1.1.1.1.1.1) in
    items_so (Mark sign.Comma) literal_tokens ValueHasNoLf (λ v k. literal_so v k.0) i.values rest.1.1.1

statement_so : (st : Statement) → TokensClear (statement_tokens st) → StatementClear st
statement_so statement.Begin h = tt
statement_so statement.Commit h = tt
statement_so statement.Rollback h = tt
statement_so statement.Vacuum h = tt
statement_so (statement.Insert i) h = insert_so word.Insert i h
statement_so (statement.Upsert i) h = insert_so word.Upsert i h
statement_so (statement.Update u) h =
    let rest = h.1.1.1.1.1 in (
      items_so (Mark sign.Comma) set_tokens (λ (p : Pair). ValueHasNoLf p.value) (λ p k. literal_so p.value k.1.1.0) u.sets (front_clear (separated (Mark sign.Comma) set_tokens u.sets) _ rest),
      tests_so u.tests (back_clear (separated (Mark sign.Comma) set_tokens u.sets) _ rest),
    )
statement_so (statement.Delete d) h = tests_so d.tests h.1.1.1.1.1
statement_so (statement.Select s) h =
    let named : Tokens = columns_tokens s.columns ++ Word word.From ∷ table_tokens s.table in
    tests_so s.tests (back_clear named (where_tokens s.tests) (front_clear (named ++ where_tokens s.tests) (limit_tokens s.limit) h.1))

spelled_so : (ts : Tokens) (st : Statement) → Spells ts st → TokensClear ts → TokensClear (statement_tokens st)
spelled_so ts st (inl e) h = subst TokensClear e h
spelled_so ts st (inr e) h = front_clear (statement_tokens st) (Mark sign.Semicolon ∷ []) (subst TokensClear e h)

-- the literals of a statement that a text is read as
pub read_clear : (text : List ℕ) (st : Statement) → is_one_line text ≡ true → Reads text st → StatementClear st
read_clear text st h r =
    let lexed_so : LexedClear (Ok r.0) = subst LexedClear r.1 (lexed_clear text h) in
    statement_so st (spelled_so (tokens_of r.0) st r.3 (of_placed r.0 lexed_so))
