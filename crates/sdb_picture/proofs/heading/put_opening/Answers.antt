use Rattle.std.proofs.Common.{codes}
use Rattle.std.specs.Prelude.{decimal}
use Rattle.std.specs.String.{string_bytes}
use Rattle.sdb_picture.specs.Svg.{opening_svg}
use Rattle.sdb_picture.proofs.Pieces.{two_values}
use Rattle.sdb_picture.proofs.heading.put_opening.Goals as goal

pub returns : goal.returns
unfolding opening_svg
returns c =
    two_values
    (string_bytes c.args.out.now)
    (codes "<svg xmlns=\"http://www.w3.org/2000/svg\" style=\"width:100%;height:auto\" viewBox=\"0 0 ")
    (decimal c.args.width)
    (codes " ")
    (decimal c.args.height)
    (codes "\">\n")
    c.in_ok-write.ensures.bytes
