use Rattle.sdb_script.proofs.PrintedBack.{again_of}
use Rattle.sdb_script.proofs.print.print_script.Goals as goal

pub returns-clause-again : goal.returns-clause-again
returns-clause-again c = again_of c.text_of.result c.args.script.now c.len-tables.ensures.catalog c.text_of.ensures
