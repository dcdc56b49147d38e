-- Which texts are read as a statement of one word: those whose tokens are that keyword, or that keyword and `;`.
use Rattle.std.proofs.Common.{◌≡◌, ℕ, true, List, [], ◌∷◌, ◌++◌, Ok, Err, refl, sym, ap, ◌∙◌, inl, inr}
use Rattle.std.specs.Prelude.{◌↔◌}
use Rattle.sdb_sqltext.specs.Types.{Keyword, Statement, Token}
use Rattle.sdb_model.specs.declared.statement.Statement.TheVariants as statement
use Rattle.sdb_model.specs.declared.token.Keyword.TheVariants as word
use Rattle.sdb_model.specs.declared.token.Sign.TheVariants as sign
use Rattle.sdb_model.specs.declared.token.Token.TheVariants.{Word, Sign as Mark}
use Rattle.sdb_model.specs.SqlTokens.{Lexed, lexed}
use Rattle.sdb_model.specs.Sql.{Tokens, IsWhole, Reads, Spells, is_word, is_sign, are_word, is_lexed_word, reads_word, statement_tokens, tokens_of}
use Rattle.sdb_sqltext.proofs.Reached.{word_is, sign_is}
use Rattle.sdb_types.proofs.Public.{and_parts as and_both}

are_spelled : (k : Keyword) (st : Statement) → statement_tokens st ≡ Word k ∷ [] → (ts : Tokens) → are_word k ts ≡ true → Spells ts st
are_spelled k st e [] h = absurd cc
are_spelled k st e (t ∷ []) h = inl (ap (λ (x : Token). x ∷ []) (word_is k t h) ∙ sym e)
are_spelled k st e (t ∷ u ∷ []) h =
    let b = and_both (is_word k t) (is_sign sign.Semicolon u) h in
    inr (ap (λ (x : Token). x ∷ u ∷ []) (word_is k t b.0) ∙ ap (λ (x : Token). Word k ∷ x ∷ []) (sign_is sign.Semicolon u b.1) ∙ ap (λ (x : Tokens). x ++ Mark sign.Semicolon ∷ []) (sym e))
are_spelled k st e (t ∷ u ∷ v ∷ ts) h = absurd cc

read_as : (k : Keyword) (st : Statement) → statement_tokens st ≡ Word k ∷ [] → IsWhole st → (text : List ℕ) (l : Lexed) → lexed text ≡ l → is_lexed_word k l ≡ true → Reads text st
read_as k st e whole text (Ok ps) is h = (ps, is, whole, are_spelled k st e (tokens_of ps) h)
read_as k st e whole text (Err f) is h = absurd cc

spelled_so : (k : Keyword) (st : Statement) → statement_tokens st ≡ Word k ∷ [] → is_word k (Word k) ≡ true → (ts : Tokens) → Spells ts st → are_word k ts ≡ true
spelled_so k st e self ts (inl h) = ap (are_word k) (h ∙ e) ∙ self
spelled_so k st e self ts (inr h) = ap (are_word k) (h ∙ ap (λ (x : Tokens). x ++ Mark sign.Semicolon ∷ []) e) ∙ rw self refl

word_read : (k : Keyword) (st : Statement) → statement_tokens st ≡ Word k ∷ [] → is_word k (Word k) ≡ true → (text : List ℕ) → Reads text st → reads_word k text ≡ true
word_read k st e self text (ps, is, whole, spelled) = ap (is_lexed_word k) is ∙ spelled_so k st e self (tokens_of ps) spelled

one_word : (k : Keyword) (st : Statement) → statement_tokens st ≡ Word k ∷ [] → is_word k (Word k) ≡ true → IsWhole st → (text : List ℕ) → (reads_word k text ≡ true) ↔ Reads text st
one_word k st e self whole text = (read_as k st e whole text (lexed text) refl, word_read k st e self text)

pub begin_read : (text : List ℕ) → (reads_word word.Begin text ≡ true) ↔ Reads text statement.Begin
begin_read = one_word word.Begin statement.Begin refl refl tt

pub commit_read : (text : List ℕ) → (reads_word word.Commit text ≡ true) ↔ Reads text statement.Commit
commit_read = one_word word.Commit statement.Commit refl refl tt

pub rollback_read : (text : List ℕ) → (reads_word word.Rollback text ≡ true) ↔ Reads text statement.Rollback
rollback_read = one_word word.Rollback statement.Rollback refl refl tt

pub vacuum_read : (text : List ℕ) → (reads_word word.Vacuum text ≡ true) ↔ Reads text statement.Vacuum
vacuum_read = one_word word.Vacuum statement.Vacuum refl refl tt
