use Rattle.std.proofs.Common.{IfOk, subst}
use Rattle.std.specs.BTreeMap.{get}
use Rattle.std.specs.Map.{keys_of}
use Rattle.sdb_types.specs.Order.{key_cmp}
use Rattle.sdb_snapshot.specs.Places.{AreKeysIn}
use Rattle.sdb_snapshot.proofs.Among.{keys_told}
use Rattle.sdb_snapshot.proofs.Firsts.{first_indexes}
use Rattle.sdb_snapshot.proofs.key_map.KeyMap.keys_in.Goals as goal

pub returns : goal.returns
returns g c =
    let have = first_indexes (keys_of c.self.inside.entries) (get key_cmp c.self.inside.places) c.self.invariant in
    subst (λ es. IfOk c.keys_among.result (λ keys. AreKeysIn es c.args.span.now keys)) c.self.view_is
    (keys_told c.self.inside.entries c.self.inside.places.entries c.keys_among.result c.args.span.now have c.keys_among.ensures.keys c.keys_among.ensures.ordered)
