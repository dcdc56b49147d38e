use Rattle.std.proofs.Common.{◌≡◌, ◌+◌, ◌++◌, drop}
use Rattle.std.specs.List.{flat_map}
use Rattle.std.specs.String.{string_bytes}
use Rattle.sdb_picture.specs.Marks.{points_of}
use Rattle.sdb_picture.specs.Svg.{mark_svg}
use Rattle.sdb_picture.proofs.rows.put_points.Given as goal

abbrev pub invariant-loop-i : goal.invariant-loop-i
invariant-loop-i l =
    string_bytes l.out ++ flat_map (mark_svg l.lanes) (points_of l.events (l.i + 1) (drop l.i l.order))
    ≡ string_bytes l.fn.out ++ flat_map (mark_svg l.lanes) (points_of l.events 1 l.order)
