use Rattle.std.proofs.Common.{◌≡◌, map, sym, ap, ◌∙◌, subst}
use Rattle.sdb_contents.specs.Order.{rising_from}
use Rattle.sdb_contents.proofs.Rising.{AreRisen, risen}
use Rattle.sdb_contents.proofs.order.order_of.Goals as goal
use Rattle.sdb_model.specs.Transactions.{point_at}

pub returns : goal.returns
returns c =
    let kept : c.in_ok-order.order ≡ rising_from 0 c.in_ok-sorted.sorted.items = c.in_ok-order.ensures ∙ ap (rising_from 0) c.as_slice-2.ensures.value in
    let of_ids : c.in_ok-points.points.items ≡ map (point_at c.args.events.now) c.in_ok-ids.ids.items = c.in_ok-points.ensures ∙ ap (map (point_at c.args.events.now)) c.as_slice.ensures.value in
    let all = subst (AreRisen c.args.events.now c.args.recorded.now) (sym kept)
    (risen c.args.events.now c.args.recorded.now c.in_ok-ids.ids.items c.in_ok-points.points.items c.in_ok-sorted.sorted.items of_ids c.in_ok-ids.ensures c.in_ok-sorted.ensures.permutation c.in_ok-sorted.ensures.sorted) in
    record { points = all.points; rising = all.rising; among = all.among; ids = all.whole }
