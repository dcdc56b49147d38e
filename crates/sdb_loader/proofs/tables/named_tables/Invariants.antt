use Rattle.std.proofs.Common.{◌≡◌, ◌++◌, map}
use Rattle.serde_json.specs.View.{members_view}
use Rattle.sdb_loader.specs.Described.{bad_name, named}
use Rattle.sdb_loader.specs.NamedData.{named_data}
use Rattle.sdb_loader.proofs.tables.named_tables.Given as goal

abbrev pub invariant-loop-text : goal.invariant-loop-text
invariant-loop-text l = record {
  named : map named_data l.tables ++ named (members_view l.text-iterator) ≡ named (members_view l.members.entries);
  good : bad_name (members_view l.text-iterator) ≡ bad_name (members_view l.members.entries);
}
