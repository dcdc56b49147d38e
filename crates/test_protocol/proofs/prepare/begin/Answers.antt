use Rattle.std.proofs.Common.{List, subst, sym}
use Rattle.std.specs.Prelude.{All}
use Rattle.sdb_record.specs.declared.write.Write.{Write}
use Rattle.sdb_record.specs.Rolls.{IsWrite}
use Rattle.test_protocol.proofs.Groups.{writes_grouped}
use Rattle.test_protocol.proofs.prepare.begin.Goals as goal

pub new-requires-clause-writes : goal.new-requires-clause-writes
new-requires-clause-writes c = subst (λ (gs : List (List Write)). All (All IsWrite) gs) (sym c.in_ok-groups.ensures) (writes_grouped c.args.writes.now c.requires)
