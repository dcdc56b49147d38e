use Rattle.std.proofs.Common.{◌≡◌, false, take}
use Rattle.std.specs.List.{list_any}
use Rattle.sdb_exec.specs.Misfits.{is_misfit}
use Rattle.sdb_exec.proofs.refuse.has_misfit.Given as goal

abbrev pub invariant-loop-mention : goal.invariant-loop-mention
invariant-loop-mention l = list_any (is_misfit l.table) (take l.mention-index l.mentions) ≡ false
