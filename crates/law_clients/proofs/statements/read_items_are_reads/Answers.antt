use Rattle.law_clients.proofs.Notes.{are_noted}
use Rattle.law_clients.proofs.statements.read_items_are_reads.Goals as goal

pub returns : goal.returns
returns c = are_noted
