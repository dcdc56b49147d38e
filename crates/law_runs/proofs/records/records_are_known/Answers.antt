use Rattle.law_runs.proofs.StoredRecords.{are_known}
use Rattle.law_runs.proofs.Runs.{by_laws}
use Rattle.law_runs.proofs.records.records_are_known.Goals as goal

pub returns : goal.returns
returns c = λ t. let p = t.progress in are_known t.places p.events t.opening t.closing (by_laws p.catalog p.fit p.events p.sys p.doing t.places t.opening t.closing t.moments p.running t.trace t.empty)
