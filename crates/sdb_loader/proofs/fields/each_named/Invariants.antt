use Rattle.std.proofs.Common.{◌≡◌}
use Rattle.serde_json.specs.View.{members_view}
use Rattle.sdb_loader.specs.Fields.{each_named}
use Rattle.sdb_loader.proofs.fields.each_named.Given as goal

abbrev pub invariant-loop-name : goal.invariant-loop-name
invariant-loop-name l = each_named (members_view l.name-iterator) ≡ each_named (members_view l.members.entries)
