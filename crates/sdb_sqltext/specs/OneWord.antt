-- A text that is COMMIT, found without its tokens.
use Rattle.std.specs.Prelude.{ℕ, Bool, true, false, ◌&&◌, ◌==◌, List, [], ◌∷◌, take, drop, Option, Some, None}
use Rattle.std.specs.List.{list_all, prefix_len}
use Rattle.sdb_types.specs.Identifier.{is_start}
use Rattle.sdb_model.specs.declared.token.Keyword.{Keyword}
use Rattle.sdb_model.specs.declared.token.Keyword.TheVariants as word
use Rattle.sdb_model.specs.declared.token.Token.TheVariants.{Word}
use Rattle.sdb_model.specs.Sql.{is_word}
use Rattle.sdb_model.specs.SqlTokens.{begins, is_gap, keyword_of, word_len}

-- the bytes after the blanks at the start
abbrev pub after_gaps : List ℕ → List ℕ
after_gaps bytes = drop (prefix_len is_gap bytes) bytes

abbrev pub is_end : List ℕ → Bool
is_end [] = true
is_end (b ∷ bs) = b == 59 && list_all is_gap bs

-- nothing but blanks, and one `;` among them at most
abbrev pub ends_text : List ℕ → Bool
ends_text bytes = is_end (after_gaps bytes)

abbrev pub is_commit : Option Keyword → Bool
is_commit None = false
is_commit (Some w) = is_word word.Commit (Word w)

-- a word at the start is COMMIT, and nothing else follows
abbrev pub is_commit_at : List ℕ → Bool
is_commit_at bytes = begins is_start bytes && (is_commit (keyword_of (take (word_len bytes) bytes)) && ends_text (drop (word_len bytes) bytes))

abbrev pub spells_commit : List ℕ → Bool
spells_commit text = is_commit_at (after_gaps text)
