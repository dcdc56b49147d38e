use Rattle.std.proofs.Common.{ap, ◌∙◌}
use Rattle.std.specs.Ordering.{is_eq}
use Rattle.sdb_snapshot.proofs.Firsts.{key_there, no_key_there}
use Rattle.sdb_snapshot.proofs.key_map.KeyMap.is_key_at.Goals as goal

pub returns-in-Some : goal.returns-in-Some
returns-in-Some g c = c.is_eq.ensures ∙ ap is_eq c.compare.ensures ∙ key_there c.args.self.now c.args.i c.args.key.now c.in-Some.own.now _ c.in-Some.ensures

pub returns-in-None : goal.returns-in-None
returns-in-None g c = no_key_there c.args.self.now c.args.i c.args.key.now c.in-None.ensures
