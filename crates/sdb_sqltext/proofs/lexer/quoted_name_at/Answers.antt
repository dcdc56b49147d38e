use Rattle.std.proofs.Common.{sym, ◌∙◌}
use Rattle.sdb_sqltext.proofs.Words.{front_is_identifier}
use Rattle.sdb_sqltext.proofs.lexer.quoted_name_at.Goals as goal

pub name_token-requires : goal.name_token-requires
name_token-requires c = rw c.word_len-n.ensures.len (front_is_identifier c.args.bytes.now (sym c.begins_start.ensures ∙ c.if-begins_start.true))
