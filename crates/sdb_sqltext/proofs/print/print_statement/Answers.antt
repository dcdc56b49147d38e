use Rattle.sdb_sqltext.proofs.Again.{printed_reads, printed_again}
use Rattle.sdb_sqltext.proofs.print.print_statement.Goals as goal

pub returns-clause-read : goal.returns-clause-read
returns-clause-read c = printed_reads c.statement_text.result c.args.statement.now c.statement_text.ensures

pub returns-clause-again : goal.returns-clause-again
returns-clause-again c = λ text reads. printed_again c.statement_text.result c.args.statement.now text c.statement_text.ensures reads
