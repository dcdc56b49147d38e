-- What some short texts read as.
use Rattle.std.proofs.Common.{◌≡◌, ℕ, true, false, List, [], ◌∷◌, Some, refl}
use Rattle.std.specs.Option.{option_map}
use Rattle.std.specs.Result.{result_ok}
use Rattle.sdb_model.specs.declared.token.Keyword.TheVariants as word
use Rattle.sdb_model.specs.declared.token.Token.TheVariants.{Word}
use Rattle.std.specs.Prelude.{codes}
use Rattle.sdb_model.specs.SqlTokens.{keyword_of, letter_at, lexed, number_at, sign_of, token_at, word_at}
use Rattle.sdb_model.specs.Sql.{reads_begin, reads_commit, reads_rollback, tokens_of}

pub begin_begins : reads_begin (codes "BEGIN") ≡ true
unfolding lexed token_at letter_at word_at keyword_of
begin_begins = refl

pub commit_commits : reads_commit (codes "COMMIT") ≡ true
unfolding lexed token_at letter_at word_at keyword_of
commit_commits = refl

pub commit_begins_not : reads_begin (codes "COMMIT") ≡ false
unfolding lexed token_at letter_at word_at keyword_of
commit_begins_not = refl

pub rollback_rolls : reads_rollback (codes "ROLLBACK") ≡ true
unfolding lexed token_at letter_at word_at keyword_of
rollback_rolls = refl

pub rollback_commits_not : reads_commit (codes "ROLLBACK") ≡ false
unfolding lexed token_at letter_at word_at keyword_of
rollback_commits_not = refl

pub rollback_begins_not : reads_begin (codes "ROLLBACK") ≡ false
unfolding lexed token_at letter_at word_at keyword_of
rollback_begins_not = refl

pub vacuum_tokens : option_map tokens_of (result_ok (lexed (codes "VACUUM"))) ≡ Some (Word word.Vacuum ∷ [])
unfolding lexed token_at letter_at word_at keyword_of
vacuum_tokens = refl

abbrev pub select_text : List ℕ
select_text = codes "SELECT balance FROM bank.account WHERE id = 1"

pub select_begins_not : reads_begin select_text ≡ false
unfolding lexed token_at letter_at word_at number_at sign_of keyword_of
select_begins_not = refl

pub select_commits_not : reads_commit select_text ≡ false
unfolding lexed token_at letter_at word_at number_at sign_of keyword_of
select_commits_not = refl

pub select_rolls_not : reads_rollback select_text ≡ false
unfolding lexed token_at letter_at word_at number_at sign_of keyword_of
select_rolls_not = refl
