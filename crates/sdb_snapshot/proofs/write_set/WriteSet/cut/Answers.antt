use Rattle.std.proofs.Common.{◌≡◌, List, take, subst, sym}
use Rattle.sdb_snapshot.specs.Types.{Key, Write}
use Rattle.sdb_snapshot.specs.Sets.{AreIndexed}
use Rattle.sdb_snapshot.proofs.Places.{placed_first}
use Rattle.sdb_snapshot.proofs.write_set.WriteSet.cut.Goals as goal

pub invariant_of-self : goal.invariant_of-self
invariant_of-self c =
    let ws : c.cut.new.items ≡ take c.args.len c.self.inside.writes = c.cut.ensures in
    let ps : c.truncate.new.self ≡ take c.args.len c.self.inside.places = c.truncate.ensures in
    subst (λ (x : List Write). AreIndexed c.truncate.new.self x) (sym ws)
    (subst (λ (y : List (Key × Unit {0})). AreIndexed y (take c.args.len c.self.inside.writes)) (sym ps) (placed_first c.self.inside.places c.self.inside.writes c.args.len c.self.invariant))
