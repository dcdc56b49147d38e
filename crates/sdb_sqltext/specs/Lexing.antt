-- How what the reader of tokens answers agrees with the definition of tokens.
use Rattle.std.specs.Prelude.{◌≡◌, ◌<◌, ◌≤◌, ℕ, Result, Ok, Err, List}
use Rattle.sdb_model.specs.SqlTokens.{Fault, Bad, Wide, Lexed}
use Rattle.sdb_sqltext.specs.Types.{Placed, Token}
use Rattle.sdb_sqltext.specs.declared.lex_fault.LexError.{LexError}
use Rattle.sdb_sqltext.specs.declared.lex_fault.LexError.TheVariants as error
use Rattle.sdb_sqltext.specs.declared.lex_fault.LexRefused.{LexRefused}
use Rattle.sdb_sqltext.specs.declared.lex_fault.LexRefused.TheVariants as refused

abbrev pub Fails : {Y : Type 0} → LexError → Result Y Fault → Type 0
Fails error.NoMemory read = Unit {0}
Fails error.Bad read = read ≡ Err Bad
Fails error.Wide read = read ≡ Err Wide

-- the answer is what is defined, unless memory runs out
abbrev pub Agrees : {X Y : Type 0} → (X → Y) → Result X LexError → Result Y Fault → Type 0
Agrees view (Ok x) read = read ≡ Ok (view x)
Agrees view (Err e) read = Fails e read

-- a token takes some bytes, and no more than there are
abbrev pub Takes : ℕ → Token × ℕ → Type 0
Takes most t = (0 < t.1) × (t.1 ≤ most)

-- the tokens of a text, or the first fault
abbrev pub GivesTokens : Result (List Placed) LexRefused → Lexed → Type 0
GivesTokens (Ok ps) read = read ≡ Ok ps
GivesTokens (Err refused.NoMemory) read = Unit {0}
GivesTokens (Err (refused.BadToken at)) read = read ≡ Err (Bad, at)
GivesTokens (Err (refused.TooWide at)) read = read ≡ Err (Wide, at)
