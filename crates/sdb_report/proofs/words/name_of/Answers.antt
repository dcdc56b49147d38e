use Rattle.std.proofs.Common.{refl}
use Rattle.sdb_codec.proofs.Public.{not_name}
use Rattle.sdb_report.proofs.words.name_of.Goals as goal

pub returns-in_default : goal.returns-in_default
returns-in_default c = rw (not_name c.args.word.now c.in_default.ensures.cases.0) refl
