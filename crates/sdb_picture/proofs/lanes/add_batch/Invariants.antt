use Rattle.std.proofs.Common.{◌≡◌, drop}
use Rattle.std.specs.Prelude.{fold}
use Rattle.sdb_picture.specs.Lanes.{with_put}
use Rattle.sdb_picture.proofs.lanes.add_batch.Given as goal

abbrev pub invariant-loop-put : goal.invariant-loop-put
invariant-loop-put l = fold (λ places p. with_put l.store places p.rec) l.records (drop l.put-index l.batch) ≡ fold (λ places p. with_put l.store places p.rec) l.fn.records l.batch
