use Rattle.law_runs.proofs.Finding.{found_committed}
use Rattle.law_runs.proofs.dirty_reads.found_rows_are_committed.Goals as goal

pub returns : goal.returns
returns c = λ t x row apart stored_at decided found. found_committed t.catalog t.places t.events t.opening t.closing t.moments x.client x.executed x.key t.trace x.of_table apart stored_at row found decided
