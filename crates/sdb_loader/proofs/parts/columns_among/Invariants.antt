use Rattle.std.proofs.Common.{◌≡◌, ◌++◌}
use Rattle.serde_json.specs.View.{members_view}
use Rattle.sdb_loader.specs.Fields.{columns_among}
use Rattle.sdb_loader.proofs.parts.columns_among.Given as goal

abbrev pub invariant-loop-name : goal.invariant-loop-name
invariant-loop-name l = l.columns ++ columns_among (members_view l.name-iterator) ≡ columns_among (members_view l.members.entries)
