use Rattle.std.proofs.Common.{◌≡◌, ◌++◌, ◌-◌, take, drop, flat_map, codes}
use Rattle.std.specs.String.{string_bytes}
use Rattle.sdb_script.specs.Printed.{member_text}
use Rattle.sdb_script.proofs.print.put_others.Given as goal

abbrev pub invariant-loop-i : goal.invariant-loop-i
invariant-loop-i l = string_bytes l.out ≡ string_bytes l.initial.out ++ flat_map (λ t. codes "," ++ member_text t) (take (l.i - 1) (drop 1 l.catalog))
