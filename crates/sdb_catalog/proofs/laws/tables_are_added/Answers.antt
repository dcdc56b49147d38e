use Rattle.sdb_catalog.proofs.Added.{adds, keeps}
use Rattle.sdb_catalog.proofs.laws.tables_are_added.Goals as goal

pub returns : goal.returns
returns c = record { added = adds; kept = keeps }
