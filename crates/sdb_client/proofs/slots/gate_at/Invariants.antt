use Rattle.std.proofs.Common.{◌≡◌, false, true}
use Rattle.sdb_client.specs.Execution.{IsOpenAt, IsInVacuumAt, IsUnopened, IsUnswept, SomeAt}
use Rattle.sdb_client.proofs.Fresh.{AreBefore}
use Rattle.sdb_client.proofs.slots.gate_at.Given as goal

abbrev pub invariant-loop-i : goal.invariant-loop-i
invariant-loop-i l = record {
  vacuums : l.gate.vacuum_runs ≡ false → AreBefore (IsUnswept l.client_slots) l.at l.i;
  opens : l.gate.open_elsewhere ≡ false → AreBefore (IsUnopened l.client_slots) l.at l.i;
  vacuumed : l.gate.vacuum_runs ≡ true → SomeAt IsInVacuumAt l.client_slots l.at;
  opened : l.gate.open_elsewhere ≡ true → SomeAt IsOpenAt l.client_slots l.at;
}
