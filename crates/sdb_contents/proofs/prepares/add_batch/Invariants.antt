use Rattle.std.proofs.Common.{◌≡◌, ◌<◌, ◌^◌, drop, Some}
use Rattle.std.specs.Prelude.{if◌then◌else◌}
use Rattle.std.specs.Ordering.{nat_cmp}
use Rattle.std.specs.BTreeMap.{get}
use Rattle.sdb_contents.specs.Types.{TxId}
use Rattle.sdb_types.specs.declared.record.Request.TheVariants as ask
use Rattle.sdb_model.specs.Transactions.{prepares}
use Rattle.sdb_contents.proofs.prepares.add_batch.Given as goal

abbrev pub invariant-loop-put : goal.invariant-loop-put
invariant-loop-put l =
    (id : TxId) → id.0 < 2 ^ 128
    → (if prepares id (ask.PutAll (drop l.put-index l.puts)) then Some l.number else get nat_cmp l.found id.0) ≡ (if prepares id (ask.PutAll l.puts) then Some l.number else get nat_cmp l.initial.found id.0)
