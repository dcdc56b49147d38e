use Rattle.std.proofs.Common.{◌<◌, length, string_bytes}
use Rattle.sdb_contents.specs.Board.{GoOn}
use Rattle.sdb_client.specs.Client.{IsIdle}
use Rattle.sdb_shell.specs.Turns.{point}
use Rattle.sdb_shell.proofs.LoadSteps.{AreLoadedSoFar}
use Rattle.sdb_shell.proofs.loads.load_groups.Given as goal

-- the groups so far were loaded
abbrev pub invariant-loop-rest : goal.invariant-loop-rest
invariant-loop-rest g l = record {
  some : 0 < length (g.S.Registry.state l.stores).views;
  idle : IsIdle l.session.client;
  goes : GoOn (g.S.Registry.state l.fn.stores) (g.S.Registry.state l.stores);
  so : AreLoadedSoFar g.S.Registry.state l.catalog l.load l.rows l.size (point g.C.Clock.answered g.I.Ids.answered l.fn.stores l.fn.clock l.fn.ids l.initial.session) (point g.C.Clock.answered g.I.Ids.answered l.stores l.clock l.ids l.session) l.rest l.k (string_bytes l.out);
}

abbrev pub decreases-loop-rest : goal.decreases-loop-rest
decreases-loop-rest g l = length l.rest
