use Rattle.std.proofs.Common.{◌≡◌, ◌*◌, map}
use Rattle.sdb_bench.specs.Draws.{numbers_below, state_after}
use Rattle.sdb_bench.specs.Script.{turn_of}
use Rattle.sdb_bench.proofs.clients.drawn_turns.Given as goal

abbrev pub invariant-loop-number : goal.invariant-loop-number
invariant-loop-number l = (l.draws.state ≡ state_after l.n (4 * l.number)) × (l.turns.items ≡ map (turn_of l.n) (numbers_below l.number))
