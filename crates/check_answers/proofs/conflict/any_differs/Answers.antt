use Rattle.std.proofs.Common.{sym, ◌∙◌}
use Rattle.check_answers.specs.Tests.{scan_differs}
use Rattle.check_answers.proofs.Finds.{any_noted}
use Rattle.check_answers.proofs.conflict.any_differs.Goals as goal

pub returns : goal.returns
returns c = c.any_scan_differs.ensures ∙ sym (any_noted (scan_differs c.args.key.now c.args.base) c.args.read_set.now)
