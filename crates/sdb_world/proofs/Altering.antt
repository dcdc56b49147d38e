-- A column that a world adds to a table, whose names were copied.
use Rattle.std.proofs.Common.{◌≡◌, subst}
use Rattle.sdb_world.specs.Types.{Kind, TableName}
use Rattle.sdb_model.specs.Rows.{Name}
use Rattle.law_runs.specs.World.{WorldAt}
use Rattle.sdb_world.specs.Step.{HasAltered}

pub altered_by : (w v : WorldAt) (table copied : TableName) (column written : Name) (kind : Kind) → copied ≡ table → written ≡ column → HasAltered w copied written kind v → HasAltered w table column kind v
altered_by w v table copied column written kind a b h = subst (λ (n : Name). HasAltered w table n kind v) b (subst (λ (t : TableName). HasAltered w t written kind v) a h)
