-- How many calls a recovery makes.
use Rattle.std.specs.Prelude.{ℕ}
use Rattle.sdb_phases.specs.declared.step.RecoverPhase.{RecoverPhase}
use Rattle.sdb_phases.specs.declared.step.RecoverPhase.TheVariants as phase

-- at most so many from here on: the look, the put of ABORTED, the second look, and the roll
abbrev pub calls_left : RecoverPhase → ℕ
calls_left phase.Look = 4
calls_left (phase.Abort now) = 3
calls_left phase.Again = 2
calls_left (phase.Forward created_at) = 1
calls_left phase.Back = 1
calls_left phase.Ended = 0
