use Rattle.std.proofs.Common.{◌≡◌, ◌++◌, drop}
use Rattle.std.specs.String.{string_bytes}
use Rattle.sdb_picture.specs.Svg.{clients_svg}
use Rattle.sdb_picture.proofs.heading.put_clients.Given as goal

abbrev pub invariant-loop-lane : goal.invariant-loop-lane
invariant-loop-lane l = string_bytes l.out ++ clients_svg l.rows l.lane (drop l.lane l.clients) ≡ string_bytes l.fn.out ++ clients_svg l.rows 0 l.clients
