use Rattle.std.proofs.Common.{ℕ, ◌≡◌, ◌-◌, length, ap, ◌∙◌}
use Rattle.std.specs.Prelude.{slice_set}
use Rattle.sdb_contents.specs.declared.executed.Executed.{Executed}
use Rattle.sdb_contents.specs.Commits.{all_executed}
use Rattle.sdb_contents.proofs.Saying.{last_answered, none_answered}
use Rattle.sdb_contents.proofs.executed.answer_last.Goals as goal

pub returns : goal.returns
returns c =
    let ss = c.args.executed.now in
    let whole = last_answered ss c.in-Some.last.now c.args.number c.args.answer.now c.in-Some.ensures.value in
    let put : c.replace.new.self ≡ slice_set ss (length ss - 1) c.in_ok-last-in-Some.last = c.replace.ensures ∙ ap (λ (n : ℕ). slice_set ss (n - 1) c.in_ok-last-in-Some.last) c.len-at.ensures in
    ap all_executed (put ∙ ap (λ (s : Executed). slice_set ss (length ss - 1) s) c.in_ok-last-in-Some.ensures) ∙ whole

pub returns-in-None : goal.returns-in-None
returns-in-None c = none_answered c.args.executed.now c.args.number c.args.answer.now c.in-None.ensures.value
