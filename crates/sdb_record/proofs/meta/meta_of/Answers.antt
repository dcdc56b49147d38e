use Rattle.sdb_record.proofs.ImageLaws.{checked-state}
use Rattle.sdb_record.proofs.meta.meta_of.Goals as goal

pub returns-in-Ok-clause-state : goal.returns-in-Ok-clause-state
returns-in-Ok-clause-state c = checked-state c.args.rec.now.columns c.in-Ok.meta c.in-Ok.ensures.checked
