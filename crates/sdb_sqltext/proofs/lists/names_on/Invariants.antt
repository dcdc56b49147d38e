use Rattle.std.proofs.Common.{◌≡◌, [], ◌∷◌, ◌-◌}
use Rattle.sdb_model.specs.declared.token.Sign.TheVariants as sign
use Rattle.sdb_sqltext.specs.Readers.{items_on, name_at, next_sign}
use Rattle.sdb_sqltext.proofs.lists.names_on.Given as goal

abbrev pub invariant-loop : goal.invariant-loop
invariant-loop l = items_on name_at (next_sign sign.Comma) l.end (l.turns - l.counter) l.names l.rest ≡ items_on name_at (next_sign sign.Comma) l.end l.turns (l.fn.first ∷ []) l.tokens
