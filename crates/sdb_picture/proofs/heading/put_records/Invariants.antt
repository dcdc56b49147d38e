use Rattle.std.proofs.Common.{◌≡◌, ◌++◌, drop}
use Rattle.std.specs.String.{string_bytes}
use Rattle.sdb_picture.specs.Svg.{records_svg}
use Rattle.sdb_picture.proofs.heading.put_records.Given as goal

abbrev pub invariant-loop-lane : goal.invariant-loop-lane
invariant-loop-lane l = string_bytes l.out ++ records_svg l.lanes l.lane (drop l.lane l.records) ≡ string_bytes l.fn.out ++ records_svg l.lanes 0 l.records
