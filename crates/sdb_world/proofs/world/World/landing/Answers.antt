use Rattle.std.proofs.Common.{rules, ◌≡◌, ◌≤◌, length, suc}
use Rattle.sdb_world.proofs.Landings.{none_past, takes_flight}
use Rattle.sdb_world.proofs.world.World.landing.Goals as goal

pub returns-then-place-len-clause-left : goal.returns-then-place-len-clause-left
returns-then-place-len-clause-left c =
    let is : c.args.number ≡ suc c.in_ok-place.place = search rules in
    takes_flight _ c.args.self.now c.self.view_is c.args.number c.in_ok-place.place c.take.result c.take.new.self is c.take.ensures.taken c.take.ensures.left

pub returns-else-place-len-clause-left : goal.returns-else-place-len-clause-left
returns-else-place-len-clause-left c =
    let is : c.args.number ≡ suc c.in_ok-place.place = search rules in
    let past : length c.self.inside.flights ≤ c.in_ok-place.place = search rules in
    none_past _ c.args.self.now c.self.view_is c.args.number c.in_ok-place.place is past
