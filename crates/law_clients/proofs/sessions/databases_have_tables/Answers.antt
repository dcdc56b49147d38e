use Rattle.law_clients.proofs.Plain.{plain_tables, own_at}
use Rattle.law_clients.proofs.sessions.databases_have_tables.Goals as goal

pub returns-clause-own : goal.returns-clause-own
returns-clause-own c = own_at

pub returns-clause-tables : goal.returns-clause-tables
returns-clause-tables c = plain_tables
