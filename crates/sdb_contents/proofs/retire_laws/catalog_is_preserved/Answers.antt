use Rattle.std.proofs.Common.{◌∙◌, ap}
use Rattle.sdb_catalog.specs.Opened.{tables_of}
use Rattle.sdb_catalog.proofs.Public.{one_reading}
use Rattle.sdb_contents.proofs.retire_laws.catalog_is_preserved.Goals as goal

pub returns : goal.returns
returns c = record { tables = λ r before h. h.returned.tables ∙ ap tables_of (one_reading r.names _ h.returned.entries h.now h.returned.opens h.opens) ∙ h.same }
