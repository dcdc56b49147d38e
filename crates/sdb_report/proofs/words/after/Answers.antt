use Rattle.std.proofs.Common.{sym, ◌∙◌}
use Rattle.sdb_report.proofs.WordLaws.{after_short}
use Rattle.sdb_report.proofs.words.after.Goals as goal

pub returns-in_default : goal.returns-in_default
returns-in_default c = sym (after_short _ _ _ c.loop-w-test.true c.in_default.len_below) ∙ c.loop-w.invariant
