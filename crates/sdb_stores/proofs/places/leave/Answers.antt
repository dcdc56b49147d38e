use Rattle.std.proofs.Common.{ap, subst, sym, ◌∙◌}
use Rattle.std.specs.BTreeMap.{get}
use Rattle.sdb_types.specs.Order.{name_cmp}
use Rattle.sdb_stores.specs.Routes.{HasRoutes}
use Rattle.sdb_stores.specs.Views.{places_without}
use Rattle.sdb_stores.proofs.Routes.{left}
use Rattle.sdb_stores.proofs.places.leave.Goals as goal

pub invariant_of-places : goal.invariant_of-places
invariant_of-places c =
    subst (λ ps. HasRoutes ps (get name_cmp c.leave_tree.new.stores)) (sym c.leave_list.ensures)
    (left c.args.store.now c.places.inside.list.items c.places.inside.stores c.leave_tree.new.stores c.leave_tree.ensures.ordered c.leave_tree.ensures.left c.places.invariant)

pub returns : goal.returns
returns c = c.leave_list.ensures ∙ ap (places_without c.args.store.now) c.places.view_is
