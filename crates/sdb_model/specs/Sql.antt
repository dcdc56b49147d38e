-- Which statement a text is: the tokens of each statement, and what a text that is none is refused for.
use Rattle.std.specs.Prelude.{◌≡◌, ◌⊎◌, ℕ, ℤ, pos, negsuc, Bool, true, false, ◌&&◌, ◌||◌, nat_le, if◌then◌else◌, List, [], ◌∷◌, ◌++◌, length, map, codes, Option, Some, None, IfSome, Ok, Err, FitsSigned}
use Rattle.std.specs.List.{flat_map, AllByRecursion}
use Rattle.std.specs.Int.{w64}
use Rattle.std.specs.Str.{is_utf8}
use Rattle.std.specs.Fmt.{signed_decimal}
use Rattle.hex.specs.Hex.{encode_upper}
use denote.Enum.Bare.{sameb}
use Rattle.sdb_types.specs.Fits.{AreBytes}
use Rattle.sdb_types.specs.Identifier.{is_identifier}
use Rattle.sdb_model.specs.Types.{Pair, TableName, Value}
use Rattle.sdb_types.specs.declared.value.Value.TheVariants as value
use Rattle.sdb_model.specs.Texts.{quoted}
use Rattle.sdb_model.specs.contracts.token.Keyword as keyword_type
use Rattle.sdb_model.specs.contracts.token.Sign as sign_type
use Rattle.sdb_model.specs.SqlTokens.{keyword_text, sign_text, name_text, Bad, Wide, Lexed, lexed}
use Rattle.sdb_model.specs.declared.answer.Refusal.{Refusal}
use Rattle.sdb_model.specs.declared.statement.Comparison.{Comparison}
use Rattle.sdb_model.specs.declared.statement.Comparison.TheVariants.{Eq, Ne, Lt, Le, Gt, Ge}
use Rattle.sdb_model.specs.declared.statement.Insert.{Insert}
use Rattle.sdb_model.specs.declared.statement.Update.{Update}
use Rattle.sdb_model.specs.declared.statement.Delete.{Delete}
use Rattle.sdb_model.specs.declared.statement.Select.{Select}
use Rattle.sdb_model.specs.declared.statement.Statement.{Statement}
use Rattle.sdb_model.specs.declared.statement.Statement.TheVariants as statement
use Rattle.sdb_model.specs.declared.statement.Test.{Test}
use Rattle.sdb_model.specs.declared.statement.Test.TheVariants.{Compare, IsNull, NotNull}
use Rattle.sdb_model.specs.declared.token.Keyword.{Keyword}
use Rattle.sdb_model.specs.declared.token.Keyword.TheVariants as word
use Rattle.sdb_model.specs.declared.token.Placed.{Placed}
use Rattle.sdb_model.specs.declared.token.Sign.{Sign}
use Rattle.sdb_model.specs.declared.token.Sign.TheVariants as sign
use Rattle.sdb_model.specs.declared.token.Token.{Token}
use Rattle.sdb_model.specs.declared.token.Token.TheVariants.{Word, Name, Overlong, Number, Text, Blob, Sign as Mark}

---- the tokens of each statement

abbrev pub Tokens : Type 0
Tokens = List Token

-- items with a token between
abbrev pub separated : {X : Type 0} → Token → (X → Tokens) → List X → Tokens
separated between f [] = []
separated between f (x ∷ xs) = f x ++ flat_map (λ y. between ∷ f y) xs

abbrev pub name_tokens : List ℕ → Tokens
name_tokens n = Name n ∷ []

-- names with commas between
abbrev pub names_tokens : List (List ℕ) → Tokens
names_tokens = separated (Mark sign.Comma) name_tokens

abbrev pub table_tokens : TableName → Tokens
table_tokens t = Name t.ns ∷ Mark sign.Dot ∷ Name t.table ∷ []

abbrev pub bool_word : Bool → Keyword
bool_word true = word.True
bool_word false = word.False

abbrev pub literal_token : Value → Token
literal_token value.Null = Word word.Null
literal_token (value.Bool b) = Word (bool_word b)
literal_token (value.Int n) = Number n
literal_token (value.BigInt n) = Number n
literal_token (value.Text text) = Text text
literal_token (value.Blob bytes) = Blob bytes

abbrev pub literal_tokens : Value → Tokens
literal_tokens v = literal_token v ∷ []

abbrev pub literals_tokens : List Value → Tokens
literals_tokens = separated (Mark sign.Comma) literal_tokens

abbrev pub comparison_sign : Comparison → Sign
comparison_sign Eq = sign.Equal
comparison_sign Ne = sign.NotEqual
comparison_sign Lt = sign.Less
comparison_sign Le = sign.LessOrEqual
comparison_sign Gt = sign.Greater
comparison_sign Ge = sign.GreaterOrEqual

abbrev pub test_tokens : Test → Tokens
test_tokens (Compare n c v) = Name n ∷ Mark (comparison_sign c) ∷ literal_token v ∷ []
test_tokens (IsNull n) = Name n ∷ Word word.Is ∷ Word word.Null ∷ []
test_tokens (NotNull n) = Name n ∷ Word word.Is ∷ Word word.Not ∷ Word word.Null ∷ []

abbrev pub where_tokens : List Test → Tokens
where_tokens [] = []
where_tokens (t ∷ ts) = Word word.Where ∷ separated (Word word.And) test_tokens (t ∷ ts)

abbrev pub limit_tokens : Option ℤ → Tokens
limit_tokens None = []
limit_tokens (Some n) = Word word.Limit ∷ Number n ∷ []

-- the columns of SELECT, or `*`
abbrev pub columns_tokens : Option (List (List ℕ)) → Tokens
columns_tokens None = Mark sign.Star ∷ []
columns_tokens (Some names) = names_tokens names

abbrev pub set_tokens : Pair → Tokens
set_tokens p = Name p.name ∷ Mark sign.Equal ∷ literal_token p.value ∷ []

abbrev pub insert_tokens : Keyword → Insert → Tokens
insert_tokens verb i =
    Word verb ∷ Word word.Into ∷ (table_tokens i.table ++ Mark sign.Open ∷ names_tokens i.columns ++ Mark sign.Close ∷ Word word.Values ∷ Mark sign.Open ∷ literals_tokens i.values ++ Mark sign.Close ∷ [])

abbrev pub update_tokens : Update → Tokens
update_tokens u = Word word.Update ∷ (table_tokens u.table ++ Word word.Set ∷ separated (Mark sign.Comma) set_tokens u.sets ++ where_tokens u.tests)

abbrev pub delete_tokens : Delete → Tokens
delete_tokens d = Word word.Delete ∷ Word word.From ∷ (table_tokens d.table ++ where_tokens d.tests)

abbrev pub select_tokens : Select → Tokens
select_tokens s = Word word.Select ∷ (columns_tokens s.columns ++ Word word.From ∷ table_tokens s.table ++ where_tokens s.tests ++ limit_tokens s.limit)

abbrev pub statement_tokens : Statement → Tokens
statement_tokens statement.Begin = Word word.Begin ∷ []
statement_tokens statement.Commit = Word word.Commit ∷ []
statement_tokens statement.Rollback = Word word.Rollback ∷ []
statement_tokens statement.Vacuum = Word word.Vacuum ∷ []
statement_tokens (statement.Insert i) = insert_tokens word.Insert i
statement_tokens (statement.Upsert i) = insert_tokens word.Upsert i
statement_tokens (statement.Update u) = update_tokens u
statement_tokens (statement.Delete d) = delete_tokens d
statement_tokens (statement.Select s) = select_tokens s

-- the tokens of a statement, or those with `;` after them
abbrev pub Spells : Tokens → Statement → Type 0
Spells ts st = (ts ≡ statement_tokens st) ⊎ (ts ≡ statement_tokens st ++ Mark sign.Semicolon ∷ [])

---- which statements have tokens

abbrev pub HasItems : {X : Type 0} → List X → Type 0
HasItems [] = ⊥
HasItems (x ∷ xs) = Unit {0}

-- a literal: a number in a statement is held as a BigInt
abbrev pub IsLiteral : Value → Type 0
IsLiteral value.Null = Unit {0}
IsLiteral (value.Bool b) = Unit {0}
IsLiteral (value.Int n) = ⊥
IsLiteral (value.BigInt n) = Unit {0}
IsLiteral (value.Text text) = Unit {0}
IsLiteral (value.Blob bytes) = Unit {0}

-- what a column is compared with: a literal that is not NULL
abbrev pub IsValue : Value → Type 0
IsValue value.Null = ⊥
IsValue (value.Bool b) = Unit {0}
IsValue (value.Int n) = ⊥
IsValue (value.BigInt n) = Unit {0}
IsValue (value.Text text) = Unit {0}
IsValue (value.Blob bytes) = Unit {0}

abbrev pub IsTest : Test → Type 0
IsTest (Compare n c v) = IsValue v
IsTest (IsNull n) = Unit {0}
IsTest (NotNull n) = Unit {0}

abbrev pub IsSet : Pair → Type 0
IsSet p = IsLiteral p.value

abbrev pub IsFromZero : ℤ → Type 0
IsFromZero (pos n) = Unit {0}
IsFromZero (negsuc n) = ⊥

-- as many literals as names, and at least one
abbrev pub IsInsert : Insert → Type 0
IsInsert i = HasItems i.columns × (length i.columns ≡ length i.values) × AllByRecursion IsLiteral i.values

-- a statement that tokens can spell
abbrev pub IsWhole : Statement → Type 0
IsWhole statement.Begin = Unit {0}
IsWhole statement.Commit = Unit {0}
IsWhole statement.Rollback = Unit {0}
IsWhole statement.Vacuum = Unit {0}
IsWhole (statement.Insert i) = IsInsert i
IsWhole (statement.Upsert i) = IsInsert i
IsWhole (statement.Update u) = HasItems u.sets × AllByRecursion IsSet u.sets × AllByRecursion IsTest u.tests
IsWhole (statement.Delete d) = AllByRecursion IsTest d.tests
IsWhole (statement.Select s) = IfSome s.columns HasItems × AllByRecursion IsTest s.tests × IfSome s.limit IsFromZero

---- texts of statements

abbrev pub tokens_of : List Placed → Tokens
tokens_of = map (λ p. p.token)

-- A text is read as a statement: it is made of tokens, and they are the statement's.
abbrev pub Reads : List ℕ → Statement → Type 0
Reads text st = (ps : List Placed) × (lexed text ≡ Ok ps) × IsWhole st × Spells (tokens_of ps) st

---- statements of one word

-- a token is this keyword
abbrev pub is_word : Keyword → Token → Bool
is_word k (Word w) = sameb keyword_type.the_type w k
is_word k (Name n) = false
is_word k Overlong = false
is_word k (Number n) = false
is_word k (Text t) = false
is_word k (Blob b) = false
is_word k (Mark s) = false

-- a token is this sign
abbrev pub is_sign : Sign → Token → Bool
is_sign k (Word w) = false
is_sign k (Name n) = false
is_sign k Overlong = false
is_sign k (Number n) = false
is_sign k (Text t) = false
is_sign k (Blob b) = false
is_sign k (Mark s) = sameb sign_type.the_type s k

-- tokens are this keyword alone, or with `;` after it
abbrev pub are_word : Keyword → Tokens → Bool
are_word k [] = false
are_word k (t ∷ []) = is_word k t
are_word k (t ∷ u ∷ []) = is_word k t && is_sign sign.Semicolon u
are_word k (t ∷ u ∷ v ∷ ts) = false

-- what a text is made of is this keyword alone, or with `;` after it
abbrev pub is_lexed_word : Keyword → Lexed → Bool
is_lexed_word k (Ok ps) = are_word k (tokens_of ps)
is_lexed_word k (Err f) = false

-- a text is read as the statement of this one word, however it is spelled
abbrev pub reads_word : Keyword → List ℕ → Bool
reads_word k text = is_lexed_word k (lexed text)

abbrev pub reads_begin : List ℕ → Bool
reads_begin = reads_word word.Begin

abbrev pub reads_commit : List ℕ → Bool
reads_commit = reads_word word.Commit

abbrev pub reads_rollback : List ℕ → Bool
reads_rollback = reads_word word.Rollback

abbrev pub reads_vacuum : List ℕ → Bool
reads_vacuum = reads_word word.Vacuum

---- texts that tokens have

-- a token that statements have and that some text spells
abbrev pub CanSpell : Token → Type 0
CanSpell (Word w) = Unit {0}
CanSpell (Name n) = (is_identifier n ≡ true) × (nat_le (length n) 64 ≡ true)
CanSpell Overlong = ⊥
CanSpell (Number n) = FitsSigned w64 n
CanSpell (Text text) = is_utf8 text ≡ true
CanSpell (Blob bytes) = AreBytes bytes
CanSpell (Mark s) = Unit {0}

abbrev pub insert_word : Bool → Keyword
insert_word false = word.Insert
insert_word true = word.Upsert

-- Some statement begins with these tokens and goes on with more that are as asked. That an INSERT has as many literals as
-- names is asked for at the `)` that closes the literals, so up to there their numbers may differ.
abbrev pub BeginsBy : (Tokens → Type 0) → Tokens → Type 0
BeginsBy Asked ts =
    ((st : Statement) × (more : Tokens) × Asked more × IsWhole st × Spells (ts ++ more) st)
    ⊎ ((upsert : Bool) × (i : Insert) × (next : Token) × (more : Tokens) × Asked (next ∷ more) × HasItems i.columns × HasItems i.values × AllByRecursion IsLiteral i.values
    × (ts ++ next ∷ more ≡ insert_tokens (insert_word upsert) i))

-- a statement begins so, and goes on with tokens that a text can spell
abbrev pub Begins : Tokens → Type 0
Begins = BeginsBy (AllByRecursion CanSpell)

-- no statement begins so, whatever it goes on with
abbrev pub NoneBegins : Tokens → Type 0
NoneBegins ts = BeginsBy (λ more. Unit {0}) ts → ⊥

-- The fault is at the first token such that no statement begins with the tokens up to it; or at the text's end, where some
-- statement begins with all tokens and none ends there.
abbrev pub IsFirstWrong : List Placed → ℕ → ℕ → Type 0
IsFirstWrong ps end at =
    ((front : List Placed) × (p : Placed) × (back : List Placed) × (ps ≡ front ++ p ∷ back) × (at ≡ p.at) × Begins (tokens_of front) × NoneBegins (tokens_of front ++ p.token ∷ []))
    ⊎ ((at ≡ end) × Begins (tokens_of ps) × ((st : Statement) → IsWhole st → Spells (tokens_of ps) st → ⊥))

-- a text has bytes that begin no token, at this offset, and no fault before
abbrev pub IsBadToken : List ℕ → ℕ → Type 0
IsBadToken text at = lexed text ≡ Err (Bad, at)

-- a text has a number outside 64 signed bits, at this offset, and no fault before
abbrev pub IsTooWide : List ℕ → ℕ → Type 0
IsTooWide text at = lexed text ≡ Err (Wide, at)

-- a text is made of tokens, and no statement has the tokens up to this offset as a prefix
abbrev pub IsNoStatement : List ℕ → ℕ → Type 0
IsNoStatement text at = (ps : List Placed) × (lexed text ≡ Ok ps) × IsFirstWrong ps (length text) at

-- What a text that is no statement is refused for: 1 for bytes that begin no token and 3 for a number too wide, whichever
-- comes first, and else 2 for tokens that are no statement's.
abbrev pub Refuses : List ℕ → Refusal → Type 0
Refuses text r = ((r.kind ≡ 1) × IsBadToken text r.place) ⊎ ((r.kind ≡ 2) × IsNoStatement text r.place) ⊎ ((r.kind ≡ 3) × IsTooWide text r.place)

---- the text that is printed

-- Keywords are in upper case, blobs too, numbers in their shortest form, and a name in quotes where it is a keyword.
abbrev pub token_text : Token → List ℕ
token_text (Word w) = keyword_text w
token_text (Name n) = name_text n
token_text Overlong = []
token_text (Number n) = signed_decimal n
token_text (Text text) = quoted text
token_text (Blob bytes) = codes "X'" ++ encode_upper bytes ++ codes "'"
token_text (Mark s) = sign_text s

-- no space comes before these
abbrev pub sticks_before : Token → Bool
sticks_before (Mark sign.Comma) = true
sticks_before (Mark sign.Close) = true
sticks_before (Mark sign.Dot) = true
sticks_before _ = false

-- no space comes after these
abbrev pub sticks_after : Token → Bool
sticks_after (Mark sign.Open) = true
sticks_after (Mark sign.Dot) = true
sticks_after _ = false

-- what is between two tokens: one space, but none before `,` `)` `.` and none after `(` `.`
abbrev pub gap : Token → Token → List ℕ
gap t u = if sticks_after t || sticks_before u then [] else codes " "

-- the tokens after a first one, each after its gap
abbrev pub more_text : Token → Tokens → List ℕ
more_text t [] = []
more_text t (u ∷ us) = gap t u ++ token_text u ++ more_text u us

abbrev pub tokens_text : Tokens → List ℕ
tokens_text [] = []
tokens_text (t ∷ ts) = token_text t ++ more_text t ts

-- a statement's text, without `;`
abbrev pub statement_text_of : Statement → List ℕ
statement_text_of st = tokens_text (statement_tokens st)
