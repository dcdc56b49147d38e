use Rattle.std.proofs.Common.{◌≡◌, ◌++◌, drop}
use Rattle.std.specs.String.{string_bytes}
use Rattle.sdb_picture.specs.Svg.{stores_svg}
use Rattle.sdb_picture.proofs.heading.put_stores.Given as goal

abbrev pub invariant-loop-lane : goal.invariant-loop-lane
invariant-loop-lane l = string_bytes l.out ++ stores_svg l.lanes l.rows l.lane (drop l.lane l.stores) ≡ string_bytes l.fn.out ++ stores_svg l.lanes l.rows 0 l.stores
