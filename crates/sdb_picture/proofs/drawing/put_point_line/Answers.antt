use Rattle.std.proofs.Common.{codes}
use Rattle.std.specs.Prelude.{decimal}
use Rattle.std.specs.String.{string_bytes}
use Rattle.sdb_picture.specs.Svg.{point_line_svg}
use Rattle.sdb_picture.proofs.Pieces.{three_values}
use Rattle.sdb_picture.proofs.drawing.put_point_line.Goals as goal

pub returns : goal.returns
unfolding point_line_svg
returns c =
    three_values
    (string_bytes c.args.out.now)
    (codes "<path class=\"point\" d=\"M58,")
    (decimal c.args.y)
    (codes "H")
    (decimal c.args.width)
    (codes "\"/>\n<circle class=\"badge\" cx=\"48\" cy=\"")
    (decimal c.args.y)
    (codes "\" r=\"10\"/>\n")
    c.in_ok-write.ensures.bytes
