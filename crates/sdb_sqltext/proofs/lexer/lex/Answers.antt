use Rattle.std.proofs.Common.{ap, ◌∙◌}
use Rattle.sdb_model.specs.SqlTokens.{lexed}
use Rattle.sdb_sqltext.proofs.AllPrinted.{printed_read, gives_all}
use Rattle.sdb_sqltext.proofs.lexer.lex.Goals as goal

pub returns-clause-printed : goal.returns-clause-printed
returns-clause-printed c = λ ts fits is.
    let read = printed_read ts fits in
    gives_all c.read_tokens.result (lexed c.args.bytes.now) read.0 ts c.read_tokens.ensures (ap lexed is ∙ read.1) read.2
