use Rattle.std.proofs.Common.{◌≡◌, drop}
use Rattle.std.specs.Prelude.{◌&&◌}
use Rattle.std.specs.List.{list_any}
use Rattle.sdb_types.specs.Order.{same_key}
use Rattle.check_answers.specs.Tests.{is_bad}
use Rattle.check_answers.proofs.bad.any_bad_at.Given as goal

abbrev pub invariant-loop-rec : goal.invariant-loop-rec
invariant-loop-rec l = list_any (λ x. same_key x.key l.key && is_bad x) (drop l.rec-index l.rows) ≡ list_any (λ x. same_key x.key l.key && is_bad x) l.rows
