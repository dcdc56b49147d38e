use Rattle.sdb_phases.proofs.Starved.{starved-pending, starved-step, stopped-step}
use Rattle.sdb_phases.proofs.laws.out_of_memory_like.Goals as goal

pub returns : goal.returns
returns c = record { calls = starved-pending; steps = starved-step; stays = stopped-step }
