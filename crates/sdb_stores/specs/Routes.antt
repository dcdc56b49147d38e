-- The stores of namespaces, found by the namespace.
use Rattle.std.specs.Prelude.{◌≡◌, ℕ, List, map, Option}
use Rattle.std.specs.List.{IsDistinct}
use Rattle.std.specs.Ordering.{eq_by_cmp}
use Rattle.sdb_types.specs.Order.{name_cmp}
use Rattle.sdb_types.specs.declared.place.Place.{Place}
use Rattle.sdb_stores.specs.Views.{route_of}

-- `stores` has the store that each namespace is placed on, and no namespace is placed twice.
pub record HasRoutes (places : List Place) (stores : List ℕ → Option (List ℕ)) : Type 0 where
  pub finds : (ns : List ℕ) → stores ns ≡ route_of ns places
  pub once : IsDistinct (eq_by_cmp name_cmp) (map (λ p. p.ns) places)
