-- Records put one after another.
use Rattle.std.specs.Prelude.{List, [], ◌∷◌}
use Rattle.std.specs.FinMap.{insert}
use Rattle.sdb_types.specs.Contents.{Contents}
use Rattle.sdb_types.specs.declared.record.Record.{Record}

-- the contents after the records are put, the last one first
abbrev pub with_rows : List Record → Contents → Contents
with_rows [] m = m
with_rows (r ∷ rs) m = insert (with_rows rs m) r.key r.columns
