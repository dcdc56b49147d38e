use Rattle.sdb_record.proofs.Checked.{accepted-keep}
use Rattle.sdb_record.proofs.roll.committed_image.Goals as goal

pub kept_record-requires : goal.kept_record-requires
kept_record-requires c = accepted-keep c.args.rec.now c.requires
