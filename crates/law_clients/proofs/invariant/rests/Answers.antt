use Rattle.law_clients.proofs.Rests.{invariant_alters, invariant_lands, invariant_rests, invariant_starts}
use Rattle.law_clients.proofs.InvariantTurns.{invariant_stops}
use Rattle.law_clients.proofs.invariant.rests.Goals as goal

pub returns : goal.returns
returns c = record {
  starts = invariant_starts;
  silent = λ p e silent. invariant_rests p.catalog p.fit p.events p.sys p.doing e silent p.running;
  lands = λ p e late. invariant_lands p.catalog p.fit p.events p.sys p.doing e late p.running;
  alters = λ p e adds. invariant_alters p.catalog p.fit p.events p.sys p.doing e adds p.running;
  stops = λ p c. invariant_stops p.catalog p.fit p.events p.sys p.doing p.running c;
}
