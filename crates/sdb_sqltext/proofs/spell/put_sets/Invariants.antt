use Rattle.std.proofs.Common.{◌≡◌, ◌++◌, ◌∷◌, take}
use Rattle.std.specs.List.{flat_map}
use Rattle.sdb_model.specs.Sql.{set_tokens}
use Rattle.sdb_model.specs.declared.token.Sign.TheVariants as sign
use Rattle.sdb_model.specs.declared.token.Token.TheVariants.{Sign as Mark}
use Rattle.sdb_sqltext.proofs.spell.put_sets.Given as goal

abbrev pub invariant-loop-set : goal.invariant-loop-set
invariant-loop-set l = l.out ≡ l.initial.out ++ flat_map (λ y. Mark sign.Comma ∷ set_tokens y) (take l.set-index l.rest)
