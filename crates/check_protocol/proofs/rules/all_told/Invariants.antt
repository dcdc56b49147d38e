use Rattle.std.proofs.Common.{◌≡◌, drop}
use Rattle.std.specs.List.{list_all}
use Rattle.check_protocol.specs.Started.{acknowledged_in}
use Rattle.check_protocol.proofs.rules.all_told.Given as goal

abbrev pub invariant-loop-write : goal.invariant-loop-write
invariant-loop-write l = list_all (λ w. acknowledged_in l.past l.id.0 w.key) (drop l.write-index l.writes) ≡ list_all (λ w. acknowledged_in l.past l.id.0 w.key) l.writes
