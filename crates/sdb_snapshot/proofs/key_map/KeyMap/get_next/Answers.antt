use Rattle.std.proofs.Common.{sym, ◌∙◌}
use Rattle.sdb_types.specs.Order.{same_key}
use Rattle.sdb_snapshot.proofs.Firsts.{no_value, value_at_first}
use Rattle.sdb_snapshot.proofs.key_map.KeyMap.get_next.Goals as goal

pub returns-in-Some : goal.returns-in-Some
returns-in-Some g c = c.value_of.ensures ∙ sym (value_at_first (same_key c.args.key.now) c.args.self.now c.in-Some.i (sym c.in-Some.ensures))

pub returns-in-None : goal.returns-in-None
returns-in-None g c = sym (no_value (same_key c.args.key.now) c.args.self.now (sym c.in-None.ensures))
