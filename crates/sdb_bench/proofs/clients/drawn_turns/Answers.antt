use Rattle.std.proofs.Common.{◌≡◌, ◌*◌, ◌∙◌, ap, arith, map}
use Rattle.sdb_bench.specs.Draws.{numbers_below, state_after}
use Rattle.sdb_bench.specs.Script.{turn_of}
use Rattle.sdb_bench.proofs.Drawing.{state_more, turn_more}
use Rattle.sdb_bench.proofs.clients.drawn_turns.Goals as goal

pub loop-number-preserved : goal.loop-number-preserved
loop-number-preserved c =
    let n = c.args.n in
    let t = c.loop-number.number in
    let s = c.loop-number.draws.state in (
      state_more n t s c.draw.new.draws.state c.loop-number.invariant.0 c.draw.ensures.state,
      turn_more n t s c.loop-number.turns.items c.push.new.self.items c.draw.result c.loop-number.invariant.0 c.draw.ensures.turn c.loop-number.invariant.1 c.in_ok-push.ensures.items,
    )

pub returns-clause-turns : goal.returns-clause-turns
returns-clause-turns c = let e : c.loop-number.number ≡ c.args.n = omega arith in c.loop-number.invariant.1 ∙ ap (λ k. map (turn_of c.args.n) (numbers_below k)) e

pub returns-clause-state : goal.returns-clause-state
returns-clause-state c = let e : c.loop-number.number ≡ c.args.n = omega arith in c.loop-number.invariant.0 ∙ ap (λ k. state_after c.args.n (4 * k)) e
