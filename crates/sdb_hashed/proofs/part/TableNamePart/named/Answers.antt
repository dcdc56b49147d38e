use Rattle.sdb_hashed.proofs.Inside.{table_inside}
use Rattle.sdb_hashed.proofs.part.TableNamePart.named.Goals as goal

pub returns : goal.returns
returns c = table_inside c.args.span.now
