use Rattle.std.proofs.Common.{subst}
use Rattle.law_clients.specs.Invariant.{RunInvariant}
use Rattle.law_clients.proofs.Rests.{going_starves}
use Rattle.law_clients.proofs.invariant.moves.Goals as goal

pub returns : goal.returns
returns c = record {
  starves = λ p c w s. going_starves p.catalog p.fit p.events p.sys p.doing p.running c w s;
  same = λ p other others is.
      subst (λ ds. RunInvariant p.catalog p.fit p.events other ds) (λ i k. is.running k i)
      (subst (λ y. RunInvariant p.catalog p.fit p.events y p.doing) (λ i. record { clients = λ k. is.clients k i; begun = λ k. is.begun k i }) p.running);
}
