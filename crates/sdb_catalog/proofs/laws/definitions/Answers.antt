use Rattle.sdb_catalog.proofs.Again.{definition_again}
use Rattle.sdb_catalog.proofs.laws.definitions.Goals as goal

pub returns : goal.returns
returns c = record { again = definition_again }
