-- A delayed call and a dropped one are the same to their client.
use Rattle.std.proofs.Common.{ℕ, Option, ap, refl}
use Rattle.sdb_client.specs.Types.{Answer, How, Request}
use Rattle.sdb_client.specs.Execution.{FaultsTo, State, flights_after, with_flights}

pub faults_alike : (s t : State) (c : ℕ) (q : Request) (how other : How) (answer : Option Answer) → FaultsTo s c q how answer t → FaultsTo s c q other answer t
faults_alike s t c q how other answer f = record {
  place = f.place;
  client_slot = f.client_slot;
  client = f.client;
  number = f.number;
  at = f.at;
  goes_on = f.goes_on;
  pending = f.pending;
  can = f.can;
  stored = f.stored;
  late = λ e. refl;
  takes = f.takes;
  left = ap (λ (x : State). with_flights x (flights_after s.flights other q)) f.left;
}
