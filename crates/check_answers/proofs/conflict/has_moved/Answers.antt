use Rattle.std.proofs.Common.{sym, ◌∙◌}
use Rattle.check_answers.specs.Tests.{is_changed}
use Rattle.check_answers.proofs.Finds.{any_noted}
use Rattle.check_answers.proofs.conflict.has_moved.Goals as goal

pub returns : goal.returns
returns c = c.any_moved.ensures ∙ sym (any_noted (is_changed c.args.key.now c.args.found.now) c.args.read_set.now)
