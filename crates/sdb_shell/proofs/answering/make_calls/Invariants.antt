use Rattle.std.proofs.Common.{◌<◌, length, List}
use Rattle.sdb_schema.specs.declared.table.Table.{Table}
use Rattle.sdb_stores.specs.Views.{HaveRisen}
use Rattle.law_clients.specs.Faults.{IsAfterFault}
use Rattle.sdb_contents.specs.Board.{GoOn}
use Rattle.law_clients.specs.About.{IsOfTables}
use Rattle.law_clients.specs.Between.{Waits}
use Rattle.law_clients.specs.Working.{IsAtWork}
use Rattle.sdb_shell.specs.Answering.{IsWorking, WaitsOver, database_in}
use Rattle.sdb_shell.proofs.answering.make_calls.Given as goal

-- the statement that waited when the calls began waits still
abbrev pub invariant-loop : goal.invariant-loop
invariant-loop g l = record {
  some : 0 < length (g.S.Registry.state l.stores).views;
  goes : GoOn (g.S.Registry.state l.initial.stores) (g.S.Registry.state l.stores);
  works : (w : IsWorking l.initial.client) → IsAtWork w.statement w.opened l.client;
  about : (catalog : List Table) → IsOfTables catalog l.initial.client → IsOfTables catalog l.client;
  faults : IsWorking l.initial.client → (IsAfterFault l.initial.client → ⊥) → IsAfterFault l.client → HaveRisen (g.S.Registry.state l.initial.stores).views (g.S.Registry.state l.stores).views;
  waits : (w : WaitsOver l.fn.now (g.S.Registry.state l.initial.stores) l.initial.client) → Waits w.catalog w.was l.fn.now w.statement (database_in (g.S.Registry.state l.stores)) w.opened l.client;
}
