use Rattle.std.proofs.Common.{◌≡◌, ◌^◌, ◌-◌, take}
use Rattle.std.specs.Prelude.{min}
use Rattle.sdb_model.specs.SqlTokens as spec
use Rattle.sdb_sqltext.proofs.marks.digits_value.Given as goal

abbrev pub invariant-loop-b : goal.invariant-loop-b
invariant-loop-b l = l.n ≡ min (spec.digits_value (take l.b-index l.digits)) (2 ^ 64 - 1)
