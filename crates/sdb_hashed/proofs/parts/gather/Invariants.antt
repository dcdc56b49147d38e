use Rattle.std.proofs.Common.{map}
use Rattle.std.specs.Map.Iter.{deref_pair}
use Rattle.sdb_hashed.proofs.Spans.{HasGathered}
use Rattle.sdb_hashed.proofs.parts.gather.Given as goal

abbrev pub invariant-loop-rows : goal.invariant-loop-rows
invariant-loop-rows g l = HasGathered g.R.Rows.contents l.span l.all (map deref_pair l.yielded)
