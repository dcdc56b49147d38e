use Rattle.std.proofs.Common.{codes}
use Rattle.std.specs.Prelude.{decimal}
use Rattle.std.specs.String.{string_bytes}
use Rattle.sdb_picture.specs.Svg.{tag_svg}
use Rattle.sdb_picture.proofs.Pieces.{three_values}
use Rattle.sdb_picture.proofs.drawing.put_tag.Goals as goal

pub returns : goal.returns
unfolding tag_svg
returns c =
    three_values
    (string_bytes c.args.out.now)
    (codes "<text class=\"")
    c.args.class.now
    (codes "\" x=\"")
    (decimal c.args.x)
    (codes "\" y=\"")
    (decimal c.args.y)
    (codes "\">")
    c.in_ok-write.ensures.bytes
