use Rattle.sdb_hashed.proofs.Inside.{named_inside}
use Rattle.sdb_hashed.proofs.part.ValuesPart.named.Goals as goal

pub returns : goal.returns
returns c = named_inside c.args.span.now c.as_ref.result c.as_ref.ensures.value
