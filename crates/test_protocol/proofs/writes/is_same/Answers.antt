use Rattle.std.proofs.Common.{◌∙◌, ap, sym}
use Rattle.std.specs.Ordering.{is_eq}
use Rattle.sdb_types.proofs.Public.{same_key_is}
use Rattle.test_protocol.proofs.writes.is_same.Goals as goal

pub returns : goal.returns
returns c = c.is_eq.ensures ∙ ap is_eq c.compare.ensures ∙ sym (same_key_is c.args.a.now c.args.b.now)
