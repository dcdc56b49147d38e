use Rattle.std.proofs.Common.{◌≡◌, None, sym, subst}
use Rattle.std.specs.Prelude.{position}
use Rattle.std.specs.BTreeMap.{get}
use Rattle.std.specs.Map.{keys_of}
use Rattle.sdb_types.specs.Order.{key_cmp, same_key}
use Rattle.sdb_snapshot.proofs.Kept.{pushed}
use Rattle.sdb_snapshot.proofs.key_map.KeyMap.push.Goals as goal

pub invariant_of-self-2 : goal.invariant_of-self-2
invariant_of-self-2 g c =
    let new = subst (λ es. position (same_key c.args.key) (keys_of es) ≡ None) (sym c.self.view_is) c.requires in
    pushed c.self.inside.entries c.push.new.self c.push.result c.len.result c.args.key c.args.value c.in_ok-copy.field-0 (get key_cmp c.self.inside.places) (get key_cmp c.insert.new.self) c.len.ensures c.in_ok-copy.ensures new c.in_ok-insert.ensures.updates.0 c.push.ensures.ok c.push.ensures.err c.self.invariant
