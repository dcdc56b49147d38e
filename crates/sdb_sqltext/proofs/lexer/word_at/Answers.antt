use Rattle.sdb_sqltext.proofs.Words.{front_is_identifier}
use Rattle.sdb_sqltext.proofs.lexer.word_at.Goals as goal

pub word_token-requires : goal.word_token-requires
word_token-requires c = rw c.word_len-n.ensures.len (front_is_identifier c.args.bytes.now c.requires)
