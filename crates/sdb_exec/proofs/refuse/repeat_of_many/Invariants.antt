use Rattle.std.proofs.Common.{◌≡◌, take, drop, []}
use Rattle.std.specs.BTreeSet.{contains}
use Rattle.std.specs.List.{list_any}
use Rattle.sdb_types.specs.Order.{name_cmp}
use Rattle.sdb_model.specs.Rows.{Name}
use Rattle.sdb_model.specs.Refused.{is_named_by, repeat_place}
use Rattle.sdb_exec.proofs.refuse.repeat_of_many.Given as goal

abbrev pub invariant-loop-i : goal.invariant-loop-i
invariant-loop-i l = record {
  same : repeat_place (take l.i l.mentions) (drop l.i l.mentions) ≡ repeat_place [] l.mentions;
  passed : (name : Name) → contains name_cmp l.passed name ≡ list_any (is_named_by name) (take l.i l.mentions);
}
