use Rattle.std.proofs.Common.{◌≡◌, Some, sym, subst}
use Rattle.std.specs.Prelude.{position}
use Rattle.std.specs.BTreeMap.{get}
use Rattle.std.specs.Map.{keys_of}
use Rattle.sdb_types.specs.Order.{key_cmp, same_key}
use Rattle.sdb_snapshot.proofs.Kept.{replaced}
use Rattle.sdb_snapshot.proofs.key_map.KeyMap.replace.Goals as goal

pub invariant_of-self : goal.invariant_of-self
invariant_of-self g c =
    let found = subst (λ es. position (same_key c.args.key) (keys_of es) ≡ Some c.args.i) (sym c.self.view_is) c.requires in
    replaced c.self.inside.entries c.replace.new.self c.args.i c.args.key c.args.value (get key_cmp c.self.inside.places) found c.replace.ensures c.self.invariant
