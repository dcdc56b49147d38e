use Rattle.std.proofs.Common.{length, subst}
use Rattle.sdb_model.specs.SqlTokens.{lexed}
use Rattle.sdb_sqltext.specs.Answers.{Gives}
use Rattle.sdb_sqltext.proofs.Answered.{parsed_reads, parsed_accepts, parsed_refuses}
use Rattle.sdb_sqltext.proofs.Follow.{read_link}
use Rattle.sdb_sqltext.proofs.Within.{refused_inside}
use Rattle.sdb_sqltext.proofs.parse.parse_statement.Goals as goal

pub returns-clause-read : goal.returns-clause-read
returns-clause-read c = parsed_reads c.parse.result c.args.text.now (subst (Gives c.parse.result) (read_link (length c.args.text.now) (lexed c.args.text.now)) c.parse.ensures)

pub returns-clause-accepted : goal.returns-clause-accepted
returns-clause-accepted c = parsed_accepts c.parse.result c.args.text.now (subst (Gives c.parse.result) (read_link (length c.args.text.now) (lexed c.args.text.now)) c.parse.ensures)

pub returns-clause-refused : goal.returns-clause-refused
returns-clause-refused c = parsed_refuses c.parse.result c.args.text.now (subst (Gives c.parse.result) (read_link (length c.args.text.now) (lexed c.args.text.now)) c.parse.ensures)

pub returns-clause-place : goal.returns-clause-place
returns-clause-place c = refused_inside c.parse.result c.args.text.now (subst (Gives c.parse.result) (read_link (length c.args.text.now) (lexed c.args.text.now)) c.parse.ensures)
