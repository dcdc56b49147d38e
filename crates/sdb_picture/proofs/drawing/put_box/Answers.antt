use Rattle.std.proofs.Common.{codes}
use Rattle.std.specs.Prelude.{decimal}
use Rattle.std.specs.String.{string_bytes}
use Rattle.sdb_picture.specs.Svg.{box_svg}
use Rattle.sdb_picture.proofs.Pieces.{three_values}
use Rattle.sdb_picture.proofs.drawing.put_box.Goals as goal

pub returns : goal.returns
unfolding box_svg
returns c =
    three_values
    (string_bytes c.args.out.now)
    (codes "\" x=\"")
    (decimal c.args.x)
    (codes "\" y=\"")
    (decimal c.args.y)
    (codes "\" width=\"20\" height=\"")
    (decimal c.args.height)
    (codes "\"/>\n")
    c.in_ok-write.ensures.bytes
