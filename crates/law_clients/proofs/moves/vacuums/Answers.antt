use Rattle.law_clients.proofs.Quiet.{sweep_starts, sweep_goes, sweep_ends}
use Rattle.law_clients.proofs.moves.vacuums.Goals as goal

pub returns : goal.returns
returns c = record {
  starts = λ k c span may. sweep_starts k.plan k.past k.sys c span (record { ok = k.ok; at = may.rests }) may.none_open may.of_data;
  goes_on = λ k c v span vacuums. sweep_goes k.plan k.past k.sys c v span (record { ok = k.ok; at = vacuums });
  ends = λ k c v vacuums. sweep_ends k.plan k.past k.sys c v (record { ok = k.ok; at = vacuums });
}
