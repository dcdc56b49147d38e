use Rattle.std.proofs.Common.{◌≡◌, drop}
use Rattle.sdb_model.specs.Exec.{with_sets}
use Rattle.sdb_exec.proofs.change.put_sets.Given as goal

abbrev pub invariant-loop-pair : goal.invariant-loop-pair
invariant-loop-pair l = with_sets l.table (drop l.pair-index l.sets) l.columns ≡ with_sets l.table l.sets l.initial.columns
