use Rattle.law_protocol.proofs.explained.flights_are_explained.Goals as goal
use Rattle.law_protocol.proofs.Flights.{flights_at}

pub returns : goal.returns
returns c = flights_at
