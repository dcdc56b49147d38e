use Rattle.std.proofs.Common.{◌≡◌}
use Rattle.serde_json.specs.View.{members_view}
use Rattle.sdb_loader.specs.Fields.{unknown_among}
use Rattle.sdb_loader.proofs.fields.unknown_among.Given as goal

abbrev pub invariant-loop-name : goal.invariant-loop-name
invariant-loop-name l = unknown_among (members_view l.name-iterator) ≡ unknown_among (members_view l.members.entries)
