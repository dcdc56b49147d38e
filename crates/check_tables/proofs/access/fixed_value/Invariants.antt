use Rattle.std.proofs.Common.{◌≡◌, drop}
use Rattle.sdb_model.specs.Reads.{fixed}
use Rattle.check_tables.proofs.access.fixed_value.Given as goal

abbrev pub invariant-loop-test : goal.invariant-loop-test
invariant-loop-test l = fixed l.table (drop l.test-index l.tests) l.name ≡ fixed l.table l.tests l.name
