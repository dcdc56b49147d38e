use Rattle.std.proofs.Common.{◌≡◌, ℕ, None, ◌+◌, drop, refl, subst, ◌∙◌, arith}
use Rattle.std.specs.List.{enumerate_from}
use Rattle.sdb_contents.specs.Later.{IsLater}
use Rattle.sdb_contents.proofs.Laters.{all_read, none_yet}
use Rattle.sdb_contents.proofs.commits.commits_by.Goals as goal

pub loop-i-init : goal.loop-i-init
loop-i-init c = record {
  within = omega arith;
  later = none_yet c.args.client c.args.events.now (record { commits = c.new.result; first = 0; outcome = None }) c.new.ensures.items refl refl;
}

pub returns : goal.returns
returns c =
    let done : c.loop-i.i ≡ 0 = omega (arith, c.loop-i-test.false) in
    c.from_vec.ensures
    ∙ c.reverse.ensures.items
    ∙ all_read c.args.client c.args.events.now c.loop-i.later (subst (λ (i : ℕ). IsLater c.args.client (enumerate_from (i + 1) (drop i c.args.events.now)) c.loop-i.later) done c.loop-i.invariant.later)
