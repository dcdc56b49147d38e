use Rattle.std.proofs.Common.{sym, subst}
use Rattle.std.specs.BTreeSet.{contains}
use Rattle.sdb_types.specs.Order.{name_cmp}
use Rattle.sdb_script.specs.Placings.{HasNamespaces}
use Rattle.sdb_script.proofs.PlaceLaws.{one_more}
use Rattle.sdb_script.proofs.placings.Placings.push.Goals as goal

pub invariant_of-self-in-Ok : goal.invariant_of-self-in-Ok
invariant_of-self-in-Ok c =
    let new = contains name_cmp c.insert.new.self in
    subst (λ ps. HasNamespaces ps new) (sym c.in_ok-push.ensures.ok)
    (one_more c.self.inside.places (record { ns = c.args.ns; store = c.args.store }) c.in_ok-own.own (contains name_cmp c.self.inside.namespaces) new c.in_ok-own.ensures c.self.invariant c.in-Ok.ensures.updates.0)
