use Rattle.std.proofs.Common.{◌≡◌, ◌∙◌, ◌+◌, List, ◌++◌, drop, ap, sym, append_assoc}
use Rattle.std.specs.List.{flat_map}
use Rattle.std.specs.String.{string_bytes}
use Rattle.std.proofs.lemmas.List.Concat.{flat_map-append}
use Rattle.sdb_types.specs.declared.record.Put.{Put}
use Rattle.sdb_types.proofs.Public.{drop_next}
use Rattle.sdb_picture.specs.Known.{effect_at}
use Rattle.sdb_picture.specs.Marks.{Mark, written_marks}
use Rattle.sdb_picture.specs.Svg.{mark_svg}
use Rattle.sdb_picture.proofs.marks.put_batch.Goals as goal

pub loop-put-preserved : goal.loop-put-preserved
loop-put-preserved c =
    let a = c.args in
    let marks : Put → List Mark = λ p. written_marks a.lanes.now a.past.now a.row a.store.now a.request.now p.rec p.condition (effect_at a.past.now a.store.now p.rec.key a.request.now a.how a.reply.now) a.rest.now in
    let svg = mark_svg a.lanes.now in
    let i = c.loop-put.put-index in
    let left = flat_map marks (drop (i + 1) a.batch.now) in
    ap (λ bytes. bytes ++ flat_map svg left) c.in_ok-put_of_batch.ensures
    ∙ append_assoc (string_bytes c.loop-put.out) (flat_map svg (marks c.put-item.result)) (flat_map svg left)
    ∙ ap (λ more. string_bytes c.loop-put.out ++ more) (sym (flat_map-append svg (marks c.put-item.result) left))
    ∙ ap (λ puts. string_bytes c.loop-put.out ++ flat_map svg (flat_map marks puts)) (sym (drop_next a.batch.now i c.put-item.result (rw c.as_slice-put-items.ensures at c.loop-put-test.true) (rw c.as_slice-put-items.ensures at c.put-item.is)))
    ∙ c.loop-put.invariant
