use Rattle.sdb_sqltext.proofs.Words.{identifier_is_text}
use Rattle.sdb_sqltext.proofs.lexer.name_token.Goals as goal

pub unreachable-requires : goal.unreachable-requires
unreachable-requires c = c.in_default.ensures.cases.0 (identifier_is_text c.args.word.now c.requires)
