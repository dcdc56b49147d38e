use Rattle.std.proofs.Common.{◌≡◌, ◌++◌, ◌∷◌, take}
use Rattle.std.specs.List.{flat_map}
use Rattle.sdb_model.specs.Sql.{name_tokens}
use Rattle.sdb_model.specs.declared.token.Sign.TheVariants as sign
use Rattle.sdb_model.specs.declared.token.Token.TheVariants.{Sign as Mark}
use Rattle.sdb_sqltext.proofs.spell.put_names.Given as goal

abbrev pub invariant-loop-name : goal.invariant-loop-name
invariant-loop-name l = l.out ≡ l.initial.out ++ flat_map (λ y. Mark sign.Comma ∷ name_tokens y) (take l.name-index l.rest)
