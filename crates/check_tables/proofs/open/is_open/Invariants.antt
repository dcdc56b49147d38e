use Rattle.std.proofs.Common.{◌≡◌, drop}
use Rattle.std.specs.Prelude.{fold}
use Rattle.sdb_model.specs.Follows.{is_open, is_open_after}
use Rattle.sdb_contents.specs.Commits.{all_executed}
use Rattle.check_tables.proofs.open.is_open.Given as goal

abbrev pub invariant-loop-s : goal.invariant-loop-s
invariant-loop-s l = fold is_open_after l.now (all_executed (drop l.s-index l.s-items)) ≡ is_open l.past l.client
