-- The tokens of a statement's text: how each is spelled, where each is, and the bytes that begin none. The longest
-- token is accepted. Tokens are separated by spaces and tabs, or by nothing where it is clear where one ends.
use Rattle.std.specs.Prelude.{ℕ, ℤ, pos, negsuc, zero, suc, ◌+◌, ◌-◌, ◌*◌, ◌^◌, ◌==◌, nat_le, nat_lt, Bool, false, not, ◌&&◌, ◌||◌, if◌then◌else◌, List, [], ◌∷◌, ◌++◌, length, map, take, drop, codes, Option, Some, None, is_some, Result, Ok, Err, find, fold}
use Rattle.std.specs.Char.{to_ascii_lowercase}
use Rattle.std.specs.List.{prefix_len, position_or_len, starts_with}
use Rattle.std.specs.Str.{is_utf8, bytes_eq}
use Rattle.hex.specs.Hex.{decode_of}
use Rattle.hex.specs.declared.error.FromHexError.{FromHexError}
use Rattle.sdb_types.specs.Identifier.{is_start, is_part}
use Rattle.sdb_model.specs.declared.token.Keyword.{Keyword}
use Rattle.sdb_model.specs.declared.token.Keyword.TheVariants as word
use Rattle.sdb_model.specs.declared.token.Sign.{Sign}
use Rattle.sdb_model.specs.declared.token.Sign.TheVariants as sign
use Rattle.sdb_model.specs.declared.token.Token.{Token}
use Rattle.sdb_model.specs.declared.token.Token.TheVariants.{Word, Name, Overlong, Number, Text, Blob, Sign as Mark}
use Rattle.sdb_model.specs.declared.token.Placed.{Placed}

---- words and signs

abbrev pub keyword_text : Keyword → List ℕ
keyword_text word.Begin = codes "BEGIN"
keyword_text word.Commit = codes "COMMIT"
keyword_text word.Rollback = codes "ROLLBACK"
keyword_text word.Vacuum = codes "VACUUM"
keyword_text word.Insert = codes "INSERT"
keyword_text word.Upsert = codes "UPSERT"
keyword_text word.Into = codes "INTO"
keyword_text word.Values = codes "VALUES"
keyword_text word.Update = codes "UPDATE"
keyword_text word.Set = codes "SET"
keyword_text word.Where = codes "WHERE"
keyword_text word.Delete = codes "DELETE"
keyword_text word.From = codes "FROM"
keyword_text word.Select = codes "SELECT"
keyword_text word.Limit = codes "LIMIT"
keyword_text word.And = codes "AND"
keyword_text word.Is = codes "IS"
keyword_text word.Not = codes "NOT"
keyword_text word.Null = codes "NULL"
keyword_text word.True = codes "TRUE"
keyword_text word.False = codes "FALSE"

abbrev pub keywords : List Keyword
keywords =
    word.Begin ∷ word.Commit ∷ word.Rollback ∷ word.Vacuum ∷ word.Insert ∷ word.Upsert ∷ word.Into ∷ word.Values ∷ word.Update ∷ word.Set ∷ word.Where
    ∷ word.Delete ∷ word.From ∷ word.Select ∷ word.Limit ∷ word.And ∷ word.Is ∷ word.Not ∷ word.Null ∷ word.True ∷ word.False ∷ []

abbrev pub lower : List ℕ → List ℕ
lower = map to_ascii_lowercase

-- the keyword that a word spells, in any case
unfoldable pub keyword_of : List ℕ → Option Keyword
keyword_of text = find (λ k. bytes_eq (lower text) (lower (keyword_text k))) keywords

abbrev pub sign_text : Sign → List ℕ
sign_text sign.NotEqual = codes "<>"
sign_text sign.LessOrEqual = codes "<="
sign_text sign.GreaterOrEqual = codes ">="
sign_text sign.Less = codes "<"
sign_text sign.Greater = codes ">"
sign_text sign.Equal = codes "="
sign_text sign.Dot = codes "."
sign_text sign.Comma = codes ","
sign_text sign.Open = codes "("
sign_text sign.Close = codes ")"
sign_text sign.Star = codes "*"
sign_text sign.Semicolon = codes ";"

-- the signs, each before those that are its prefixes
abbrev pub signs : List Sign
signs =
    sign.NotEqual ∷ sign.LessOrEqual ∷ sign.GreaterOrEqual ∷ sign.Less ∷ sign.Greater ∷ sign.Equal ∷ sign.Dot ∷ sign.Comma ∷ sign.Open ∷ sign.Close ∷ sign.Star
    ∷ sign.Semicolon ∷ []

-- the longest sign at the start
unfoldable pub sign_of : List ℕ → Option Sign
sign_of bytes = find (λ s. starts_with ◌==◌ bytes (sign_text s)) signs

---- kinds of bytes

abbrev pub is_gap : ℕ → Bool
is_gap b = b == 32 || b == 9

abbrev pub is_digit : ℕ → Bool
is_digit b = nat_le 48 b && nat_le b 57

abbrev pub is_single_quote : ℕ → Bool
is_single_quote b = b == 39

abbrev pub begins : (ℕ → Bool) → List ℕ → Bool
begins test [] = false
begins test (b ∷ bs) = test b

---- tokens

-- Why no token is read: no token begins here, or the number is outside 64 signed bits.
pub data Fault : Type 0 where
  Bad : Fault
  Wide : Fault

-- a token and its length in bytes
abbrev pub Lexeme : Type 0
Lexeme = Result (Token × ℕ) Fault

-- an identifier of at most 64 bytes is a name
abbrev pub name_token : List ℕ → Token
name_token text = if nat_le (length text) 64 then Name text else Overlong

abbrev pub word_or_name : List ℕ → Option Keyword → Token
word_or_name text (Some k) = Word k
word_or_name text None = name_token text

-- how many letters, digits and `_` are at the start
abbrev pub word_len : List ℕ → ℕ
word_len = prefix_len is_part

unfoldable pub word_at : List ℕ → Lexeme
word_at bytes = Ok (word_or_name (take (word_len bytes) bytes) (keyword_of (take (word_len bytes) bytes)), word_len bytes)

-- a name in double quotes, after the first of them
unfoldable pub quoted_name_at : List ℕ → Lexeme
quoted_name_at bytes =
    if begins is_start bytes && begins (λ b. b == 34) (drop (word_len bytes) bytes)
    then Ok (name_token (take (word_len bytes) bytes), word_len bytes + 2)
    else Err Bad

abbrev pub digits_len : List ℕ → ℕ
digits_len = prefix_len is_digit

-- the number that digits are
abbrev pub digits_value : List ℕ → ℕ
digits_value = fold (λ n b. n * 10 + (b - 48)) 0

-- the number that the digits at the start are
abbrev pub number_of : List ℕ → ℕ
number_of bytes = digits_value (take (digits_len bytes) bytes)

abbrev pub minus : ℕ → ℤ
minus zero = pos 0
minus (suc n) = negsuc n

unfoldable pub number_at : List ℕ → Lexeme
number_at bytes = if nat_lt (number_of bytes) (2 ^ 63) then Ok (Number (pos (number_of bytes)), digits_len bytes) else Err Wide

-- a number below zero, after its `-`
unfoldable pub negative_at : List ℕ → Lexeme
negative_at bytes =
    if not (begins is_digit bytes) then Err Bad
    else if nat_le (number_of bytes) (2 ^ 63) then Ok (Number (minus (number_of bytes)), digits_len bytes + 1)
    else Err Wide

abbrev pub onto_text : List ℕ → ℕ → Option (List ℕ × ℕ) → Option (List ℕ × ℕ)
onto_text front n None = None
onto_text front n (Some p) = Some (front ++ p.0, n + p.1)

-- What a quote encloses, after the first quote, and how many bytes that takes with the last: a quote ends it, but two
-- quotes mean one.
abbrev pub enclosed : List ℕ → Option (List ℕ × ℕ)
enclosed [] = None
enclosed (c ∷ []) = if is_single_quote c then Some ([], 1) else None
enclosed (c ∷ d ∷ ds) =
    if is_single_quote c then (if is_single_quote d then onto_text (39 ∷ []) 2 (enclosed ds) else Some ([], 1))
    else onto_text (c ∷ []) 1 (enclosed (d ∷ ds))

abbrev pub text_token : Option (List ℕ × ℕ) → Lexeme
text_token None = Err Bad
text_token (Some p) = if is_utf8 p.0 then Ok (Text p.0, p.1 + 1) else Err Bad

-- a text, after its first quote
unfoldable pub text_at : List ℕ → Lexeme
text_at bytes = text_token (enclosed bytes)

-- where the next quote is
abbrev pub quote_place : List ℕ → ℕ
quote_place = position_or_len is_single_quote

-- a quote that no second one follows
abbrev pub closes : List ℕ → Bool
closes [] = false
closes (c ∷ cs) = is_single_quote c && not (begins is_single_quote cs)

abbrev pub blob_token : ℕ → Result (List ℕ) FromHexError → Option (Token × ℕ)
blob_token n (Ok bytes) = Some (Blob bytes, n + 3)
blob_token n (Err e) = None

-- what `X'` or `x'` begins, after the quote: a blob where all up to the closing quote are pairs of hexadecimal digits
unfoldable pub blob_in : List ℕ → Option (Token × ℕ)
blob_in bytes = if closes (drop (quote_place bytes) bytes) then blob_token (quote_place bytes) (decode_of (take (quote_place bytes) bytes)) else None

abbrev pub or_word : List ℕ → Option (Token × ℕ) → Lexeme
or_word bytes (Some p) = Ok p
or_word bytes None = word_at bytes

abbrev pub begins_blob : List ℕ → Bool
begins_blob bytes = begins (λ b. b == 88 || b == 120) bytes && begins is_single_quote (drop 1 bytes)

-- what a letter or `_` begins: a blob, a keyword or a name
unfoldable pub letter_at : List ℕ → Lexeme
letter_at bytes = if begins_blob bytes then or_word bytes (blob_in (drop 2 bytes)) else word_at bytes

abbrev pub sign_token : Option Sign → Lexeme
sign_token (Some s) = Ok (Mark s, length (sign_text s))
sign_token None = Err Bad

-- the token at the start
unfoldable pub token_at : List ℕ → Lexeme
token_at bytes =
    if begins is_start bytes then letter_at bytes
    else if begins is_digit bytes then number_at bytes
    else if begins (λ b. b == 34) bytes then quoted_name_at (drop 1 bytes)
    else if begins (λ b. b == 45) bytes then negative_at (drop 1 bytes)
    else if begins is_single_quote bytes then text_at (drop 1 bytes)
    else sign_token (sign_of bytes)

---- all tokens of a text

-- the tokens of a text, or the first fault and its place
abbrev pub Lexed : Type 0
Lexed = Result (List Placed) (Fault × ℕ)

abbrev pub behind : List Placed → Lexed → Lexed
behind front (Ok ps) = Ok (front ++ ps)
behind front (Err f) = Err f

abbrev pub first_token : ℕ → Lexeme → (ℕ → Lexed) → Lexed
first_token place (Ok t) rest = behind (record { at = place; token = t.0 } ∷ []) (rest t.1)
first_token place (Err f) rest = Err (f, place)

-- the tokens of the bytes from a place on, of which the first n belong to a token before
abbrev pub tokens_from : ℕ → ℕ → List ℕ → Lexed
tokens_from place n [] = Ok []
tokens_from place (suc n) (b ∷ bs) = tokens_from (place + 1) n bs
tokens_from place zero (b ∷ bs) =
    if is_gap b then tokens_from (place + 1) 0 bs
    else first_token place (token_at (b ∷ bs)) (λ n. tokens_from (place + 1) (n - 1) bs)

unfoldable pub lexed : List ℕ → Lexed
lexed text = tokens_from 0 0 text

---- printing

-- a name is in quotes exactly where it is a keyword
abbrev pub name_text : List ℕ → List ℕ
name_text name = if is_some (keyword_of name) then codes "\"" ++ name ++ codes "\"" else name
