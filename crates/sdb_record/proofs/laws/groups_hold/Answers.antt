use Rattle.sdb_record.proofs.Grouping.{each_group, same_writes, grouped_again}
use Rattle.sdb_record.proofs.laws.groups_hold.Goals as goal

pub returns : goal.returns
returns c = record { each = each_group; same = same_writes; again = grouped_again }
