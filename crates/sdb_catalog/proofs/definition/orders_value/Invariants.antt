use Rattle.std.proofs.Common.{◌≡◌, map, take}
use Rattle.serde_json.specs.Data.{string}
use Rattle.serde_json.specs.View.{view}
use Rattle.sdb_catalog.specs.Definition.{order_text}
use Rattle.sdb_catalog.proofs.definition.orders_value.Given as goal

abbrev pub invariant-loop-order : goal.invariant-loop-order
invariant-loop-order l = map view l.items.items ≡ map (λ o. string (order_text o)) (take l.order-index l.orders)
