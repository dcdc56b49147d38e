use Rattle.std.proofs.Common.{◌≡◌, drop}
use Rattle.check_tables.specs.Values.{all_items}
use Rattle.check_answers.specs.Tests.{is_rebased}
use Rattle.check_answers.proofs.conflict.is_rebased.Given as goal

abbrev pub invariant-loop-made : goal.invariant-loop-made
invariant-loop-made l = is_rebased (drop l.made-index l.calls) (all_items l.read_set) l.id l.key ≡ is_rebased l.calls (all_items l.read_set) l.id l.key
