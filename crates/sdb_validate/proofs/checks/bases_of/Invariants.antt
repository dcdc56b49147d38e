use Rattle.std.proofs.Common.{◌≡◌, drop}
use Rattle.std.specs.BTreeMap.{get}
use Rattle.std.specs.Option.{option_or}
use Rattle.sdb_types.specs.declared.key.Key.{Key}
use Rattle.sdb_types.specs.Order.{key_cmp}
use Rattle.sdb_phases.specs.Checks.{base_of}
use Rattle.sdb_validate.proofs.checks.bases_of.Given as goal

abbrev pub invariant-loop-write : goal.invariant-loop-write
invariant-loop-write l = (key : Key) → option_or (get key_cmp l.bases key) (base_of (drop l.write-index l.own) key) ≡ base_of l.own key
