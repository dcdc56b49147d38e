use Rattle.std.proofs.Common.{codes}
use Rattle.std.specs.Prelude.{decimal}
use Rattle.std.specs.String.{string_bytes}
use Rattle.sdb_picture.specs.Svg.{dot_svg}
use Rattle.sdb_picture.proofs.Pieces.{two_values}
use Rattle.sdb_picture.proofs.drawing.put_dot.Goals as goal

pub returns : goal.returns
unfolding dot_svg
returns c =
    two_values
    (string_bytes c.args.out.now)
    (codes "<circle class=\"take\" cx=\"")
    (decimal c.args.x)
    (codes "\" cy=\"")
    (decimal c.args.y)
    (codes "\" r=\"4\"/>\n")
    c.in_ok-write.ensures.bytes
