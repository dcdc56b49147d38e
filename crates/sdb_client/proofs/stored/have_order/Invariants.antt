use Rattle.std.proofs.Common.{◌≡◌, true, take}
use Rattle.std.specs.List.{list_all}
use Rattle.sdb_types.specs.Identifier.{is_name}
use Rattle.sdb_client.proofs.stored.have_order.Given as goal

abbrev pub invariant-loop-pair : goal.invariant-loop-pair
invariant-loop-pair l = list_all (λ p. is_name p.name) (take l.pair-index l.pair-items) ≡ true
