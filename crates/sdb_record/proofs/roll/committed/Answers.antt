use Rattle.std.proofs.Common.{rules}
use Rattle.sdb_record.proofs.CommittedRecords.{as_committed}
use Rattle.sdb_record.proofs.roll.committed.Goals as goal

pub returns : goal.returns
returns c =
    as_committed c.args.write.now c.args.id c.args.now c.args.created_at c.in_ok-copy.field-0 c.row_pairs-row.result.now c.in_ok-columns.columns c.set_resolved.new.columns c.requires (search rules) c.row_pairs-row.ensures.pairs c.in_ok-columns.ensures (search rules)
