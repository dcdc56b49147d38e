use Rattle.std.proofs.Common.{codes}
use Rattle.std.specs.Prelude.{decimal}
use Rattle.std.specs.String.{string_bytes}
use Rattle.sdb_picture.specs.Svg.{cross_svg}
use Rattle.sdb_picture.proofs.Pieces.{two_values}
use Rattle.sdb_picture.proofs.drawing.put_cross.Goals as goal

pub returns : goal.returns
unfolding cross_svg
returns c =
    two_values
    (string_bytes c.args.out.now)
    (codes "<path class=\"rest\" d=\"M")
    (decimal c.args.x)
    (codes ",")
    (decimal c.args.y)
    (codes "m-5,-5l10,10m0,-10l-10,10\"/>\n")
    c.in_ok-write.ensures.bytes
