use Rattle.std.proofs.Common.{◌≡◌, drop}
use Rattle.sdb_schema.specs.Table.{put_columns}
use Rattle.sdb_schema.proofs.make.put_all.Given as goal

abbrev pub invariant-loop-column : goal.invariant-loop-column
invariant-loop-column l = put_columns (drop l.column-index l.others) l.columns ≡ put_columns l.others l.initial.columns
