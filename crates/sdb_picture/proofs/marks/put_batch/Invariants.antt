use Rattle.std.proofs.Common.{◌≡◌, ◌++◌, drop}
use Rattle.std.specs.List.{flat_map}
use Rattle.std.specs.String.{string_bytes}
use Rattle.sdb_picture.specs.Known.{effect_at}
use Rattle.sdb_picture.specs.Marks.{written_marks}
use Rattle.sdb_picture.specs.Svg.{mark_svg}
use Rattle.sdb_picture.proofs.marks.put_batch.Given as goal

abbrev pub invariant-loop-put : goal.invariant-loop-put
invariant-loop-put l =
    string_bytes l.out ++ flat_map (mark_svg l.lanes) (flat_map (λ p. written_marks l.lanes l.past l.row l.store l.request p.rec p.condition (effect_at l.past l.store p.rec.key l.request l.how l.reply) l.rest) (drop l.put-index l.batch))
    ≡ string_bytes l.fn.out ++ flat_map (mark_svg l.lanes) (flat_map (λ p. written_marks l.lanes l.past l.row l.store l.request p.rec p.condition (effect_at l.past l.store p.rec.key l.request l.how l.reply) l.rest) l.batch)
