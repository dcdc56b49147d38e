use Rattle.std.proofs.Common.{◌≡◌, ◌++◌, drop}
use Rattle.std.specs.Prelude.{map}
use Rattle.sdb_model.specs.Serial.{Body, serial}
use Rattle.check_tables.proofs.order.serial.Given as goal

abbrev pub invariant-loop-body : goal.invariant-loop-body
invariant-loop-body l = record {
  answered : l.answers ++ (serial l.catalog (map Body (drop l.body-index l.bodies)) l.tables).0 ≡ (serial l.catalog (map Body l.bodies) l.fn.tables).0;
  left : (serial l.catalog (map Body (drop l.body-index l.bodies)) l.tables).1 ≡ (serial l.catalog (map Body l.bodies) l.fn.tables).1;
}
