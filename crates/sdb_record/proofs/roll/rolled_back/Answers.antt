use Rattle.std.proofs.Common.{not}
use Rattle.sdb_types.specs.declared.record.State.TheVariants.{Committed}
use Rattle.sdb_types.proofs.Public.{and_first}
use Rattle.sdb_record.specs.Meta.{is_transactional, is_in}
use Rattle.sdb_record.proofs.Checked.{accepted-keep}
use Rattle.sdb_record.proofs.roll.rolled_back.Goals as goal

pub kept_record-requires : goal.kept_record-requires
kept_record-requires c =
    accepted-keep c.args.rec.now (and_first (is_transactional c.args.rec.now) (not (is_in Committed c.args.rec.now.columns)) c.requires)
