use Rattle.std.proofs.Common.{◌≡◌, [], ◌∷◌, map, take}
use Rattle.sdb_record.proofs.groups.apart.Given as goal

abbrev pub invariant-loop-write : goal.invariant-loop-write
invariant-loop-write l = l.groups ≡ map (λ w. w ∷ []) (take l.write-index l.writes)
