use Rattle.std.proofs.Common.{◌≡◌, map}
use Rattle.std.specs.Map.Iter.{deref_pair}
use Rattle.sdb_phases.specs.Checks.{wanted_of}
use Rattle.sdb_validate.proofs.key_map.listed.Given as goal

abbrev pub invariant-loop-key : goal.invariant-loop-key
invariant-loop-key l = l.wants ≡ map wanted_of (map deref_pair l.yielded)
