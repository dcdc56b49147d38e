use Rattle.std.proofs.Common.{codes}
use Rattle.std.specs.Prelude.{decimal}
use Rattle.std.specs.String.{string_bytes}
use Rattle.sdb_picture.specs.Svg.{paper_svg}
use Rattle.sdb_picture.proofs.Pieces.{two_values}
use Rattle.sdb_picture.proofs.heading.put_paper.Goals as goal

pub returns : goal.returns
unfolding paper_svg
returns c =
    two_values
    (string_bytes c.args.out.now)
    (codes "<rect class=\"paper\" width=\"")
    (decimal c.args.width)
    (codes "\" height=\"")
    (decimal c.args.height)
    (codes "\"/>\n")
    c.in_ok-write.ensures.bytes
