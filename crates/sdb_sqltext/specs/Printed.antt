-- What is printed is read again.
use Rattle.std.specs.Prelude.{◌≡◌, Result, Ok, Err, List}
use Rattle.sdb_model.specs.Sql.{Tokens, tokens_of}
use Rattle.sdb_model.specs.declared.token.Placed.{Placed}
use Rattle.sdb_sqltext.specs.declared.lex_fault.LexRefused.{LexRefused}
use Rattle.sdb_sqltext.specs.declared.lex_fault.LexRefused.TheVariants as refused

-- these tokens are read, unless memory runs out
abbrev pub GivesAll : Result (List Placed) LexRefused → Tokens → Type 0
GivesAll (Ok ps) ts = tokens_of ps ≡ ts
GivesAll (Err refused.NoMemory) ts = Unit {0}
GivesAll (Err (refused.BadToken at)) ts = ⊥
GivesAll (Err (refused.TooWide at)) ts = ⊥
