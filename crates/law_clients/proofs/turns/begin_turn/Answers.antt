use Rattle.law_clients.proofs.Begin.{begin_turn}
use Rattle.law_clients.proofs.turns.begin_turn.Goals as goal

pub returns : goal.returns
returns c = λ k c text may. begin_turn k.plan k.past k.sys c text (record { ok = k.ok; at = may.rests }) may.begins may.none_run_vacuum
