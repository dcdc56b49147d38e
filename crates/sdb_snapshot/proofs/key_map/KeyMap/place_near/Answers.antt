use Rattle.std.proofs.Common.{sym, subst, ◌∙◌}
use Rattle.std.specs.BTreeMap.{get}
use Rattle.std.specs.Map.{keys_of}
use Rattle.sdb_types.specs.Order.{key_cmp}
use Rattle.sdb_snapshot.specs.Places.{HaveIndexes}
use Rattle.sdb_snapshot.proofs.Firsts.{here}
use Rattle.sdb_snapshot.proofs.key_map.KeyMap.place_near.Goals as goal

pub returns-then-is_key_at : goal.returns-then-is_key_at
returns-then-is_key_at g c =
    let index = get key_cmp c.self.inside.places in
    let have = subst (λ es. HaveIndexes (keys_of es) index) c.self.view_is c.self.invariant in
    sym (here (keys_of c.args.self.now) index c.args.key.now c.args.i have (sym c.is_key_at.ensures ∙ c.if-is_key_at.true))
