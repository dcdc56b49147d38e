use Rattle.std.proofs.Common.{◌≡◌, ◌++◌, map}
use Rattle.sdb_bench.specs.Draws.{numbers_below, state_after}
use Rattle.sdb_bench.specs.Script.{step_drawn}
use Rattle.sdb_bench.proofs.script.put_steps.Given as goal

abbrev pub invariant-loop-step : goal.invariant-loop-step
invariant-loop-step l =
    (l.draws.state ≡ state_after l.initial.draws.state l._step)
    × (l.moves ≡ l.initial.moves ++ map (step_drawn l.initial.draws.state) (numbers_below l._step))
