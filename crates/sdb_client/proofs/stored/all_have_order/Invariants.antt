use Rattle.std.proofs.Common.{◌≡◌, true, take}
use Rattle.std.specs.List.{list_all}
use Rattle.sdb_record.specs.Parts.{are_stored}
use Rattle.sdb_client.proofs.stored.all_have_order.Given as goal

abbrev pub invariant-loop-rec : goal.invariant-loop-rec
invariant-loop-rec l = list_all (λ x. are_stored x.columns) (take l.rec-index l.records) ≡ true
