use Rattle.std.proofs.Common.{codes}
use Rattle.std.specs.Prelude.{decimal}
use Rattle.std.specs.String.{string_bytes}
use Rattle.sdb_picture.specs.Svg.{line_svg}
use Rattle.sdb_picture.proofs.Pieces.{four_values}
use Rattle.sdb_picture.proofs.drawing.put_line.Goals as goal

pub returns : goal.returns
unfolding line_svg
returns c =
    four_values
    (string_bytes c.args.out.now)
    (codes "<path class=\"call ")
    c.args.class.now
    (codes "\" d=\"M")
    (decimal c.args.from)
    (codes ",")
    (decimal c.args.y)
    (codes "H")
    (decimal c.args.to)
    (codes "\"/>\n")
    c.in_ok-write.ensures.bytes
