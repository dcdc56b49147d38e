use Rattle.law_runs.proofs.Finding.{resolved_decided}
use Rattle.law_runs.proofs.dirty_reads.resolved_are_decided.Goals as goal

pub returns : goal.returns
returns c = λ t x apart. resolved_decided t.catalog t.places t.events t.opening t.closing t.moments x.client x.executed x.key t.trace x.of_table apart
