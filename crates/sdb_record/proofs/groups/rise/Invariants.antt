use Rattle.std.proofs.Common.{◌≡◌, drop, None}
use Rattle.std.specs.Option.{option_copied}
use Rattle.sdb_record.specs.Groups.{rise_from}
use Rattle.sdb_record.proofs.groups.rise.Given as goal

abbrev pub invariant-loop-write : goal.invariant-loop-write
invariant-loop-write l = rise_from (option_copied l.last) (drop l.write-index l.writes) ≡ rise_from None l.writes
