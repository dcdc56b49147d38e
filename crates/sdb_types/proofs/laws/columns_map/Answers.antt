use Rattle.sdb_types.proofs.ColumnLemmas.{with_column-are_columns}
use Rattle.sdb_types.proofs.ColumnMap.{column-with_column_same, column-with_column_other, same_columns}
use Rattle.sdb_types.proofs.laws.columns_map.Goals as goal

pub returns : goal.returns
returns c = record {
  set = column-with_column_same;
  others = λ p ps name h n. column-with_column_other p ps name n;
  columns = with_column-are_columns;
  equal = same_columns;
}
