use Rattle.std.proofs.Common.{ap, ◌∙◌}
use Rattle.std.specs.Option.{is_some}
use Rattle.check_protocol.specs.Started.{has_sign as has_sign_lem}
use Rattle.check_protocol.proofs.Lists.{found_any, found_entry}
use Rattle.check_protocol.proofs.labelled.any.Goals as goal

pub returns : goal.returns
returns c = c.is_some.ensures ∙ found_entry c.last.result ∙ ap is_some c.last.ensures ∙ found_any (has_sign_lem c.args.sign) c.args.past.now
