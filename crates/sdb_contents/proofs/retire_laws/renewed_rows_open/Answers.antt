use Rattle.std.proofs.Common.{[], refl}
use Rattle.sdb_contents.proofs.Settled.{follow_partly, follow_settled, tables_settled}
use Rattle.sdb_contents.proofs.retire_laws.renewed_rows_open.Goals as goal

pub returns : goal.returns
returns c = record {
  opened = λ r left still h. record { rows = refl; follow = follow_settled r.names left r.sides.from r.sides.to [] r.entries still h };
  again = λ r es there g h. follow_partly r.names r.sides.from r.sides.to [] [] r.entries es there tt g h;
  tables = λ r. tables_settled r.sides.from r.sides.to r.entries;
}
