use Rattle.std.proofs.Common.{◌<◌, ◌≤◌, length, take}
use Rattle.sdb_contents.specs.Board.{GoOn}
use Rattle.sdb_client.specs.Client.{IsIdle}
use Rattle.sdb_shell.specs.Turns.{AreAllExecuted, point}
use Rattle.sdb_shell.proofs.loaded_rows.take_rows.Given as goal

-- the rows so far were accepted, and their statements answered Count or Duplicate
abbrev pub invariant-loop-row : goal.invariant-loop-row
invariant-loop-row g l = record {
  some : 0 < length (g.S.Registry.state l.stores).views;
  idle : IsIdle l.session.client;
  goes : GoOn (g.S.Registry.state l.fn.stores) (g.S.Registry.state l.stores);
  low : l.written ≤ l.row-index;
  so : AreAllExecuted g.S.Registry.state l.catalog l.load (take l.row-index l.rows) (point g.C.Clock.answered g.I.Ids.answered l.fn.stores l.fn.clock l.fn.ids l.fn.session) (point g.C.Clock.answered g.I.Ids.answered l.stores l.clock l.ids l.session) l.written;
}
