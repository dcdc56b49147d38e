use Rattle.sdb_report.proofs.PartLaws.{one_text_of}
use Rattle.sdb_report.proofs.laws.one_text.Goals as goal

pub returns : goal.returns
returns c = one_text_of
