use Rattle.std.proofs.Common.{◌≡◌, [], drop}
use Rattle.std.specs.Prelude.{fold}
use Rattle.sdb_picture.specs.Lanes.{with_client_of}
use Rattle.sdb_picture.proofs.lanes.clients_of.Given as goal

abbrev pub invariant-loop-event : goal.invariant-loop-event
invariant-loop-event l = fold with_client_of l.clients (drop l.event-index l.events) ≡ fold with_client_of [] l.events
