use Rattle.std.proofs.Common.{rules, ◌≡◌, ◌<◌, ◌^◌, ℕ, None, IfOk, sym, ◌∙◌, subst}
use Rattle.sdb_model.specs.Transactions.{last_prepare}
use Rattle.sdb_contents.proofs.Ended.{read_only}
use Rattle.sdb_contents.proofs.order.event_of.Goals as goal

pub returns-in-None-clause-point : goal.returns-in-None-clause-point
returns-in-None-clause-point c =
    let small : c.args.id.0 < 2 ^ 128 = search rules in
    let none : last_prepare c.args.events.now c.args.id ≡ None = sym (c.requires.prepared c.args.id small) ∙ sym c.in-None.ensures.value in
    subst (λ (m : ℕ). IfOk c.accepted_of.result (λ n. n ≡ m)) (read_only c.args.events.now c.args.id none) c.accepted_of.ensures.accepted
