use Rattle.sdb_record.proofs.Public.{stripped}
use Rattle.check_protocol.proofs.records.kept_name.Goals as goal

pub returns : goal.returns
returns c = stripped c.args.name.now c.strip_prefix.result c.strip_prefix.ensures.cases
