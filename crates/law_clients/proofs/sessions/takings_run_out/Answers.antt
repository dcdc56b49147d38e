use Rattle.std.proofs.Common.{refl}
use Rattle.sdb_client.specs.Client.{out_of_memory}
use Rattle.law_clients.proofs.Starves.{starves}
use Rattle.law_clients.proofs.sessions.takings_run_out.Goals as goal

pub returns : goal.returns
returns c = λ t. starves t.exchange t.text (out_of_memory t.text t.before) t.reads t.memory t.between refl
