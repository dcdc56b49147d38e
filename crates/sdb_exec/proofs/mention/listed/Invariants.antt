use Rattle.std.proofs.Common.{◌≡◌, drop, []}
use Rattle.sdb_exec.proofs.Gathered.{gathered}
use Rattle.sdb_exec.proofs.mention.listed.Given as goal

abbrev pub invariant-loop-name : goal.invariant-loop-name
invariant-loop-name l = gathered l.found (drop l.name-index l.names) l.values ≡ gathered [] l.names l.initial.values
