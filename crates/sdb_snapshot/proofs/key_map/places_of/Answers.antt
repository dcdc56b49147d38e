use Rattle.std.proofs.Common.{◌≡◌, ◌+◌, ◌≤◌, length, arith, rules, ap, subst, sym, ◌∙◌}
use Rattle.std.specs.BTreeMap.{get}
use Rattle.std.specs.Vec.{vec_len}
use Rattle.std.proofs.lemmas.Iterator.{items_from_drains}
use Rattle.std.proofs.lemmas.Iterator.Adapters.{YieldsList-from_vec}
use Rattle.std.proofs.lemmas.List.{map-id}
use Rattle.sdb_types.specs.Order.{key_cmp}
use Rattle.sdb_snapshot.proofs.Filled.{ArePlaced, all_placed, index_by, one_placed}
use Rattle.sdb_snapshot.proofs.key_map.places_of.Goals as goal

pub loop-entry-preserved : goal.loop-entry-preserved
loop-entry-preserved g c =
    let i = c.loop-entry.entry-index in
    subst (ArePlaced c.args.entries.now (i + 1)) (sym c.in_ok-push.ensures.ok)
    (one_placed c.args.entries.now i c.len-place.result c.entry-item.result c.in_ok-copy.field-0 c.loop-entry.places c.requires c.loop-entry-test.true c.entry-item.is c.in_ok-copy.ensures c.len-place.ensures c.loop-entry.invariant)

pub returns : goal.returns
returns g c =
    let ran = c.in_ok-from_iter.ensures.ran in
    let size : vec_len c.into_vec.result ≡ length c.into_vec.result.items = search rules in
    let came : ran.1 ≡ c.loop-entry.places = sym (map-id ran.1) ∙ items_from_drains ran.1 ran.3 (YieldsList-from_vec c.into_vec.result.items ran.2.0 (ran.2.1 ∙ size)) ∙ c.into_vec.ensures in
    let all : length c.args.entries.now ≤ c.loop-entry.entry-index = omega (arith, c.loop-entry-test.false) in
    all_placed c.args.entries.now c.loop-entry.entry-index c.loop-entry.places (get key_cmp c.in_ok-from_iter.field-0) all c.loop-entry.invariant (λ q. ran.4.0 q ∙ ap (λ ps. index_by ps q) came)
