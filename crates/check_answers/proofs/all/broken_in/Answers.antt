use Rattle.std.proofs.Common.{◌∙◌}
use Rattle.sdb_model.specs.Counted.{is_broken}
use Rattle.check_answers.proofs.Maps.{filter_count}
use Rattle.check_answers.proofs.all.broken_in.Goals as goal

pub returns : goal.returns
returns c = c.broken.ensures.count ∙ filter_count is_broken c.args.events.now
