use Rattle.std.proofs.Common.{◌≡◌, ◌+◌, ◌++◌, map, take, drop}
use Rattle.csv.specs.Records.{fields_of}
use Rattle.sdb_data.specs.Tables.{fault_from, row_of}
use Rattle.sdb_data.proofs.read.add_rows.Given as goal

abbrev pub invariant-loop-i : goal.invariant-loop-i
invariant-loop-i l = record {
  rows : l.rows ≡ l.fn.rows ++ map (λ r. row_of l.accepted (fields_of r)) (take l.i l.records);
  same : fault_from l.heads (l.i + 2) (map fields_of (drop l.i l.records)) ≡ fault_from l.heads 2 (map fields_of l.records);
}
