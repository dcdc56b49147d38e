use Rattle.sdb_words.proofs.Forms.{exact}
use Rattle.sdb_words.proofs.laws.words_are_exact.Goals as goal

pub returns : goal.returns
returns c = exact
