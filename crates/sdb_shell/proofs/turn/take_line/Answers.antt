use Rattle.std.proofs.Common.{inl, inr, refl}
use Rattle.sdb_shell.proofs.Refusing.{stops_line}
use Rattle.sdb_shell.proofs.turn.take_line.Goals as goal

pub returns-clause-cut : goal.returns-clause-cut
returns-clause-cut g c = inl (record { held = refl; clock_same = refl; ids_same = refl; written_same = refl; same = refl }, c.in-Err.ensures.refused)

pub returns-in-Some-clause-cut : goal.returns-in-Some-clause-cut
returns-in-Some-clause-cut g c = inr (stops_line c.args.catalog.now _ c.in-Ok.next _ _ _ _ _ c.in-Ok.ensures.next c.in-Some.is c.in-Err-reply.ensures.stopped)
