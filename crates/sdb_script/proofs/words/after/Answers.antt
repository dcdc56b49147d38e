use Rattle.sdb_script.proofs.Pieces.{stripped}
use Rattle.sdb_script.proofs.words.after.Goals as goal

pub returns : goal.returns
returns c = stripped c.args.word.now c.args.text.now c.strip_prefix.result c.strip_prefix.ensures.cases
