use mir.Val.{of_z, to_z}
use Rattle.std.proofs.Common.{rules, ◌≡◌, ℤ, ◌∙◌, ap, subst, w64}
use Rattle.std.specs.Prelude.{◌&&◌, not, is_some}
use Rattle.sdb_shell.specs.Answering.{IsAnswered}
use Rattle.sdb_shell.proofs.Moments.{moment_is}
use Rattle.sdb_shell.proofs.AnswerSessions.{has_answered}
use Rattle.sdb_shell.proofs.account.Session.answer.Goals as goal

pub returns-clause-answered : goal.returns-clause-answered
returns-clause-answered g c =
    let now : to_z w64 (of_z w64 c.now-now.result) ≡ c.now-now.result = search rules in
    let answered = subst (λ (m : ℤ). IsAnswered c.args.catalog.now c.args.text.now c.self.inside.fresh m (g.S.Registry.state c.args.stores.now) c.self.inside.client c.in_ok-answer.answer (g.S.Registry.state c.answer.new.stores) c.answer.new.client) now c.in_ok-answer.ensures.answered in
    has_answered c.args.catalog.now c.args.text.now (g.S.Registry.state c.args.stores.now) (g.S.Registry.state c.answer.new.stores) _ _ _ _ _ c.args.self.now c.self.view_is c.now-now.result
    (moment_is c.now-now.result c.now-now.ensures.low c.now-now.ensures.high) c.now-now.ensures.answered c.in_ok-answer.answer c.answer.new.client answered c.next_fresh-self-inside.result c.is_first-began.result
    (c.is_first-began.ensures ∙ ap (λ b. not b && c.is_open.result) c.is_open-was_open.ensures ∙ ap (λ b. not (is_some c.self.inside.client.txn) && b) c.is_open.ensures) c.next_fresh-self-inside.ensures
