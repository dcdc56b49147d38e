use Rattle.std.specs.Prelude.{pos}
use Rattle.law_clients.proofs.Checks.{read_checks}
use Rattle.law_clients.proofs.ReadRecords.{read_notes}
use Rattle.law_clients.proofs.Notes.{read_adds}
use Rattle.law_clients.proofs.statements.read_is_recorded.Goals as goal

pub returns : goal.returns
returns c = record { calls = read_notes; checks = read_checks; adds = λ s a images n. read_adds (record { 0 = 0 }) (pos 0) s a images n }
