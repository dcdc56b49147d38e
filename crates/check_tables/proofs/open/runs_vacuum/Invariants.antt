use Rattle.std.proofs.Common.{◌≡◌, drop}
use Rattle.std.specs.Prelude.{Bool, fold, ◌&&◌, is_none}
use Rattle.sdb_model.specs.Sql.{reads_vacuum}
use Rattle.sdb_model.specs.Follows.{runs_vacuum}
use Rattle.sdb_model.specs.Transactions.{Executed}
use Rattle.sdb_contents.specs.Commits.{all_executed}
use Rattle.check_tables.proofs.open.runs_vacuum.Given as goal

abbrev pub invariant-loop-s : goal.invariant-loop-s
invariant-loop-s l = fold (λ (was : Bool) (s : Executed). reads_vacuum s.text && is_none s.answer) l.runs (all_executed (drop l.s-index l.s-items)) ≡ runs_vacuum l.past l.client
