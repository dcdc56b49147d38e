use Rattle.std.proofs.Common.{◌≡◌, None, cond, ap, subst, sym, ◌∙◌}
use Rattle.std.specs.BTreeMap.{get}
use Rattle.std.specs.Ordering.{eq_by_cmp}
use Rattle.sdb_types.specs.Order.{name_cmp}
use Rattle.sdb_types.specs.declared.place.Place.{Place}
use Rattle.sdb_stores.specs.Routes.{HasRoutes}
use Rattle.sdb_stores.specs.Views.{route_of}
use Rattle.sdb_stores.proofs.Routes.{copied, more, undone}
use Rattle.sdb_stores.proofs.places.Places.push.Goals as goal

pub invariant_of-self-in-Ok : goal.invariant_of-self-in-Ok
invariant_of-self-in-Ok c =
    let places = c.self.inside.list.items in
    let old = c.self.inside.stores in
    let new = c.insert.new.self in
    let free = subst (λ ps. route_of c.args.place.ns ps ≡ None) (sym c.self.view_is) c.requires in
    let found = copied c.args.place c.in_ok-ns.ns c.in_ok-store.store old new c.in_ok-ns.ensures c.in_ok-store.ensures c.in_ok-insert.ensures.updates.0 in
    subst (λ ps. HasRoutes ps (get name_cmp new)) (sym c.in-Ok.ensures.items) (more places c.args.place free old new c.self.invariant found)

pub invariant_of-self-in-Err : goal.invariant_of-self-in-Err
invariant_of-self-in-Err c =
    let places = c.self.inside.list.items in
    let old = c.self.inside.stores in
    let mid = c.insert.new.self in
    let new = c.remove.new.self in
    let free = subst (λ ps. route_of c.args.place.ns ps ≡ None) (sym c.self.view_is) c.requires in
    let found = copied c.args.place c.in_ok-ns.ns c.in_ok-store.store old mid c.in_ok-ns.ensures c.in_ok-store.ensures c.in_ok-insert.ensures.updates.0 in
    subst (λ ps. HasRoutes ps (get name_cmp new)) (sym c.in-Err.ensures.items)
    (undone places c.args.place free old mid new c.self.invariant found (λ q.
    c.remove.ensures.updates.0 q ∙ ap (λ (p : Place). cond (eq_by_cmp name_cmp p.ns q) None (get name_cmp mid q)) c.in-Err.ensures.value_returned))
