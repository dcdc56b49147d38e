use Rattle.std.proofs.Common.{◌≡◌, ◌<◌, ◌∙◌, List, [], ◌∷◌, ◌++◌, Some, None, ap, arith, length, slice_set, subst, sym}
use Rattle.std.specs.BTreeMap.{get}
use Rattle.sdb_types.specs.Order.{key_cmp}
use Rattle.sdb_record.specs.declared.write.Write.{Write}
use Rattle.sdb_record.specs.Groups.{HaveLatest, IsLatest, placed}
use Rattle.sdb_record.proofs.Grouping.{none_joins, on_ok, placed_fresh, placed_latest}
use Rattle.sdb_record.proofs.Latest.{latest_at, latest_joined}
use Rattle.sdb_record.proofs.groups.place.Goals.{in-Some+else-len-lt-MOST, in-None}
use Rattle.sdb_record.proofs.groups.place.Goals as goal

pub returns-then-len-lt-MOST-clause-groups : goal.returns-then-len-lt-MOST-clause-groups
returns-then-len-lt-MOST-clause-groups c =
    let gs = c.args.groups.now.items in
    let it : IsLatest c.args.write.key gs c.in-Some.i = latest_at (get key_cmp c.args.latest.now) gs c.args.write.key c.in_ok-partition.partition (Some c.in-Some.i) c.in_ok-partition.ensures c.in-Some.ensures c.requires in
    let few : length c.index.result.now < 64 = omega (arith, c.len.ensures, c.if-len-lt-MOST.true) in
    on_ok c.push.result _ _ (λ e. ap (slice_set gs c.in-Some.i) e ∙ sym (placed_latest c.args.write gs c.in-Some.i c.index_mut.result.now c.index.result.now it c.index_mut.ensures.value c.index.ensures few)) c.push.ensures.ok

pub returns-then-len-lt-MOST-clause-latest : goal.returns-then-len-lt-MOST-clause-latest
returns-then-len-lt-MOST-clause-latest c =
    let gs = c.args.groups.now.items in
    let at = get key_cmp c.args.latest.now in
    let it : IsLatest c.args.write.key gs c.in-Some.i = latest_at at gs c.args.write.key c.in_ok-partition.partition (Some c.in-Some.i) c.in_ok-partition.ensures c.in-Some.ensures c.requires in
    on_ok c.push.result _ _ (λ e. subst (λ (xs : List (List Write)). HaveLatest at xs) (ap (slice_set gs c.in-Some.i) (sym e)) (latest_joined at gs c.in-Some.i c.index_mut.result.now c.args.write it c.index_mut.ensures.value c.requires)) c.push.ensures.ok

pub returns-clause-groups : goal.returns-clause-groups
returns-clause-groups c =
    let gs = c.args.groups.now.items in
    let at = get key_cmp c.args.latest.now in
    let new : placed c.args.write gs ≡ gs ++ (c.args.write ∷ []) ∷ [] = elim c.match-index_of.branch [
      | in-Some+else-len-lt-MOST w ↦
          placed_fresh c.args.write gs w.in-Some.i w.index.result.now (latest_at at gs c.args.write.key c.in_ok-partition.partition (Some w.in-Some.i) c.in_ok-partition.ensures w.in-Some.ensures c.requires) w.index.ensures (omega (arith, w.len.ensures, w.if-len-lt-MOST.false))
      | in-None w ↦ none_joins c.args.write gs (latest_at at gs c.args.write.key c.in_ok-partition.partition None c.in_ok-partition.ensures w.in-None.ensures c.requires)
    ] in
    on_ok c.begin.result _ _ (λ e. e ∙ sym new) c.begin.ensures.groups
