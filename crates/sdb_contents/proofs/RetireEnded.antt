-- What the result of the last call makes of the whole.
use Rattle.std.proofs.Common.{◌≡◌, ℕ}
use Rattle.sdb_stores.specs.Views.{Attached}
use Rattle.std.specs.Prelude.{[], Result, Ok, Err, IfOk, IfErr, OnOk, OnErr}
use Rattle.sdb_stores.specs.Views.{index_at}
use Rattle.sdb_contents.specs.declared.retire_refused.RetireRefused.{RetireRefused}
use Rattle.sdb_contents.specs.declared.survey.Survey.{Survey}
use Rattle.sdb_contents.specs.Copying.{AreMade}
use Rattle.sdb_contents.specs.Retired.{AreAllMoved, IsHalted, IsLeft, IsSurvey, IsUnmoved, OthersArePreserved, Sides, copies_of, writes_of}
use Rattle.sdb_contents.specs.Writes.{GoOn, Hold, HoldFirst}
use Rattle.sdb_contents.proofs.Surveys.{all_moved, others_all, others_part, part_left, unmoved_halted}

---- the last call's result

pub moved_ok : (r : Result ℕ RetireRefused) (s : Sides) (v : Survey) (old mid new : Attached) → GoOn old mid → Hold [] old mid → IsSurvey s old v → IfOk r (λ n. n ≡ copies_of v) → OnOk r (AreMade (writes_of (index_at mid s.to) s v) mid new.views) → OnOk r (Hold (writes_of (index_at mid s.to) s v) mid new) → IfOk r (λ n. AreAllMoved s n old new)
moved_ok (Ok n) s v old mid new goes same observed count made h = all_moved old mid new s v n goes same observed count made h
moved_ok (Err e) s v old mid new goes same observed count made h = tt

pub left_err : (r : Result ℕ RetireRefused) (s : Sides) (v : Survey) (old mid new : Attached) → GoOn old mid → Hold [] old mid → IsSurvey s old v → OnErr r (HoldFirst (writes_of (index_at mid s.to) s v) mid new) → OnErr r (IsLeft s old new)
left_err (Ok n) s v old mid new goes same observed h = tt
left_err (Err e) s v old mid new goes same observed h = part_left old mid new s v goes same observed h

pub others_either : (r : Result ℕ RetireRefused) (s : Sides) (v : Survey) (old mid new : Attached) → GoOn old mid → Hold [] old mid → OnOk r (Hold (writes_of (index_at mid s.to) s v) mid new) → OnErr r (HoldFirst (writes_of (index_at mid s.to) s v) mid new) → OthersArePreserved s old new
others_either (Ok n) s v old mid new goes same h k = others_all old mid new s v goes same h
others_either (Err e) s v old mid new goes same h k = others_part old mid new s v goes same k

pub halted_err : (r : Result ℕ RetireRefused) (s : Sides) (v : Survey) (old mid new : Attached) → GoOn old mid → Hold [] old mid → IsSurvey s old v → IfErr r (IsHalted (index_at mid s.to) s v mid new.views) → IfErr r (IsUnmoved s old new)
halted_err (Ok n) s v old mid new goes same observed h = tt
halted_err (Err e) s v old mid new goes same observed h = unmoved_halted old mid new s v e goes same observed h
