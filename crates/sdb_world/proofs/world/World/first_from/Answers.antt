use Rattle.std.proofs.Common.{◌≡◌, ◌∙◌, ◌-◌, ℕ, suc, false, sym, ap, arith}
use Rattle.sdb_model.specs.Follows.{has_work}
use Rattle.sdb_world.proofs.Rounds.{idle_none, idle_more, idle_up_to}
use Rattle.sdb_world.proofs.world.World.first_from.Goals as goal

pub loop-client-init : goal.loop-client-init
loop-client-init c = record { up = omega arith; none = idle_none c.args.self.now.script.clients c.args.self.now.events c.args.low }

pub overflow_sub-client : goal.overflow_sub-client
overflow_sub-client c = omega (arith, c.requires.low, c.loop-client.invariant.up)

pub has_work-requires-clause-at : goal.has_work-requires-clause-at
has_work-requires-clause-at c = omega (arith, c.requires.low, c.requires.high, c.requires.world.clients, c.loop-client.invariant.up)

pub returns-then-has_work-clause-some : goal.returns-then-has_work-clause-some
returns-then-has_work-clause-some c =
    let number : c.loop-client.client ≡ suc (c.loop-client.client - 1) = omega (arith, c.requires.low, c.loop-client.invariant.up) in
    record {
      among = (c.loop-client.invariant.up, c.loop-client-test.true);
      works = ap (λ (n : ℕ). has_work c.args.self.now.script.clients n c.args.self.now.events) number ∙ sym c.has_work.ensures ∙ c.if-has_work.true;
      before = c.loop-client.invariant.none;
    }

pub loop-client-preserved : goal.loop-client-preserved
loop-client-preserved c =
    let number : c.loop-client.client ≡ suc (c.loop-client.client - 1) = omega (arith, c.requires.low, c.loop-client.invariant.up) in
    let none : has_work c.args.self.now.script.clients c.loop-client.client c.args.self.now.events ≡ false = ap (λ (n : ℕ). has_work c.args.self.now.script.clients n c.args.self.now.events) number ∙ sym c.has_work.ensures ∙ c.if-has_work.false in
    record {
      up = omega (arith, c.loop-client.invariant.up);
      none = idle_more c.args.self.now.script.clients c.args.self.now.events c.args.low c.loop-client.client c.loop-client.invariant.none none;
    }

pub returns-clause-none : goal.returns-clause-none
returns-clause-none c = idle_up_to c.args.self.now.script.clients c.args.self.now.events c.args.low c.args.high c.loop-client.client c.loop-client-test.false c.loop-client.invariant.none
