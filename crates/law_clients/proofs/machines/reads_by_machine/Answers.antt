use Rattle.law_clients.proofs.Machine.{machine_asks, machine_steps}
use Rattle.law_clients.proofs.machines.reads_by_machine.Goals as goal

pub returns : goal.returns
returns c = record { pending = machine_asks; steps = machine_steps }
