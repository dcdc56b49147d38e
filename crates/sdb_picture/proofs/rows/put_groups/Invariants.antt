use Rattle.std.proofs.Common.{◌≡◌, ◌++◌, drop}
use Rattle.std.specs.List.{flat_map}
use Rattle.std.specs.String.{string_bytes}
use Rattle.sdb_picture.specs.Marks.{groups_of}
use Rattle.sdb_picture.specs.Svg.{group_svg}
use Rattle.sdb_picture.proofs.rows.put_groups.Given as goal

abbrev pub invariant-loop-row : goal.invariant-loop-row
invariant-loop-row l =
    string_bytes l.out ++ flat_map (group_svg l.lanes) (groups_of l.lanes l.events l.row (drop l.row l.events))
    ≡ string_bytes l.fn.out ++ flat_map (group_svg l.lanes) (groups_of l.lanes l.events 0 l.events)
