use Rattle.std.proofs.Common.{refl}
use Rattle.sdb_model.specs.Report.{report_text_of}
use Rattle.sdb_app.specs.Promise.EndsOnce.{Answered, Stopped}
use Rattle.sdb_app.proofs.program.replay_once.Goals as goal

pub returns-in-Ok-clause-ended : goal.returns-in-Ok-clause-ended
returns-in-Ok-clause-ended g c = λ d undrawn. Answered (record { text = report_text_of c.in-Ok.outcome; answer = (c.in-Ok.ensures.answered, undrawn); ended = c.write_outcome.ensures.written })

pub returns-in-Err-clause-ended : goal.returns-in-Err-clause-ended
returns-in-Err-clause-ended g c = λ d undrawn. Stopped (record { cause = (c.in-Err.ensures.err, undrawn); unwritten = refl })
