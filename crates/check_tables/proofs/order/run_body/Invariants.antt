use Rattle.std.proofs.Common.{◌≡◌, ◌++◌, drop}
use Rattle.sdb_model.specs.Serial.{run_body}
use Rattle.check_tables.proofs.order.run_body.Given as goal

abbrev pub invariant-loop-statement : goal.invariant-loop-statement
invariant-loop-statement l = record {
  answered : l.answers ++ (run_body l.catalog (drop l.statement-index l.body) l.tables).0 ≡ (run_body l.catalog l.body l.fn.tables).0;
  left : (run_body l.catalog (drop l.statement-index l.body) l.tables).1 ≡ (run_body l.catalog l.body l.fn.tables).1;
}
