use Rattle.std.proofs.Common.{◌≡◌, ◌++◌, ◌∷◌, take}
use Rattle.std.specs.List.{flat_map}
use Rattle.sdb_model.specs.Sql.{literal_tokens}
use Rattle.sdb_model.specs.declared.token.Sign.TheVariants as sign
use Rattle.sdb_model.specs.declared.token.Token.TheVariants.{Sign as Mark}
use Rattle.sdb_sqltext.proofs.spell.put_literals.Given as goal

abbrev pub invariant-loop-literal : goal.invariant-loop-literal
invariant-loop-literal l = l.out ≡ l.initial.out ++ flat_map (λ y. Mark sign.Comma ∷ literal_tokens y) (take l.literal-index l.rest)
