use Rattle.std.proofs.Common.{◌≡◌, drop}
use Rattle.sdb_model.specs.Reads.{all_fixed}
use Rattle.sdb_exec.proofs.Public.{after_values}
use Rattle.check_tables.proofs.access.fixed_values.Given as goal

abbrev pub invariant-loop-name : goal.invariant-loop-name
invariant-loop-name l = after_values l.values (all_fixed l.table l.tests (drop l.name-index l.names)) ≡ all_fixed l.table l.tests l.names
