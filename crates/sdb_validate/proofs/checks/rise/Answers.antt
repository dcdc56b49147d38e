use Rattle.std.proofs.Common.{◌≤◌, ◌+◌, ◌-◌, length, sym, ◌∙◌, arith}
use Rattle.std.proofs.lemmas.Bool.Decides.{nat_tests}
use Rattle.sdb_validate.proofs.Unwritten.{last_rises}
use Rattle.sdb_validate.proofs.checks.rise.Goals as goal

pub returns : goal.returns
returns c =
    let end : length c.args.reads.now ≤ c.loop-i.i - 1 + 1 = grind (arith, nat_tests, c.loop-i-test.false, c.loop-i.invariant.within) in
    sym (last_rises c.args.reads.now (c.loop-i.i - 1) end) ∙ c.loop-i.invariant.same
