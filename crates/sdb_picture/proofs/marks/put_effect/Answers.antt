use Rattle.std.proofs.Common.{◌≡◌, ◌++◌, subst, sym}
use Rattle.std.specs.Prelude.{OnOk}
use Rattle.std.specs.List.{flat_map}
use Rattle.std.specs.String.{string_bytes}
use Rattle.sdb_picture.specs.Types.{Request}
use Rattle.sdb_picture.specs.Known.{effect_at}
use Rattle.sdb_picture.specs.Marks.{effect_marks, written_marks}
use Rattle.sdb_picture.specs.Svg.{mark_svg}
use Rattle.sdb_picture.proofs.marks.put_effect.Goals as goal

pub returns-in-PutAll : goal.returns-in-PutAll
returns-in-PutAll c =
    let a = c.args in
    subst (λ (q : Request). OnOk c.put_batch.result (string_bytes c.put_batch.new.out ≡ string_bytes a.out.now ++ flat_map (mark_svg a.lanes.now) (effect_marks a.lanes.now a.past.now a.row a.store.now q a.how a.reply.now a.rest.now))) (sym c.in-PutAll.is)
    (subst (λ (q : Request). OnOk c.put_batch.result (string_bytes c.put_batch.new.out ≡ string_bytes a.out.now ++ flat_map (mark_svg a.lanes.now) (flat_map (λ p. written_marks a.lanes.now a.past.now a.row a.store.now q p.rec p.condition (effect_at a.past.now a.store.now p.rec.key q a.how a.reply.now) a.rest.now) c.in-PutAll.batch))) c.in-PutAll.is c.put_batch.ensures)
