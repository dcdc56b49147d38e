use Rattle.std.proofs.Common.{codes}
use Rattle.std.specs.Prelude.{decimal}
use Rattle.std.specs.String.{string_bytes}
use Rattle.sdb_picture.specs.Svg.{wedge_svg}
use Rattle.sdb_picture.proofs.Pieces.{two_values}
use Rattle.sdb_picture.proofs.drawing.put_wedge.Goals as goal

pub returns : goal.returns
unfolding wedge_svg
returns c =
    two_values
    (string_bytes c.args.out.now)
    (codes "<path class=\"answer\" d=\"M")
    (decimal c.args.x)
    (codes ",")
    (decimal c.args.y)
    (codes "m-15,0l10,-5v10z\"/>\n")
    c.in_ok-write.ensures.bytes
