use Rattle.std.proofs.Common.{◌≡◌, ℕ, ◌<◌, false}
use Rattle.sdb_judge.specs.Input.{is_title_at}
use Rattle.sdb_judge.proofs.input.title_at.Given as goal

abbrev pub invariant-loop-i : goal.invariant-loop-i
invariant-loop-i l = (j : ℕ) → j < l.i → is_title_at l.bytes j ≡ false
