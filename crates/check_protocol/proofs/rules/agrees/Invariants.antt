use Rattle.std.proofs.Common.{◌≡◌, drop}
use Rattle.std.specs.List.{list_all}
use Rattle.check_protocol.specs.Rules.{agrees_at}
use Rattle.check_protocol.proofs.rules.agrees.Given as goal

abbrev pub invariant-loop-write : goal.invariant-loop-write
invariant-loop-write l = list_all (agrees_at l.writes l.item) (drop l.write-index l.writes) ≡ list_all (agrees_at l.writes l.item) l.writes
