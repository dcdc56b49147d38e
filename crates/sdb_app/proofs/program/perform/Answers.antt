use Rattle.sdb_app.specs.Ends.AreKeptOr.{Kept}
use Rattle.sdb_app.specs.Promise.EndsAs.{Session}
use Rattle.sdb_app.proofs.program.perform.Goals as goal

pub returns-then-is_session-clause-ended : goal.returns-then-is_session-clause-ended
returns-then-is_session-clause-ended g c = Session (c.is_session.ensures.0 c.if-is_session.true) c.sql.ensures.ended

pub returns-then-is_session-clause-kept : goal.returns-then-is_session-clause-kept
returns-then-is_session-clause-kept g c = Kept c.sql.ensures.kept
