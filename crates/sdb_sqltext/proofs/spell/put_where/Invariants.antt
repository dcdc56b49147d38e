use Rattle.std.proofs.Common.{◌≡◌, ◌++◌, ◌∷◌, take}
use Rattle.std.specs.List.{flat_map}
use Rattle.sdb_model.specs.Sql.{test_tokens}
use Rattle.sdb_model.specs.declared.token.Keyword.TheVariants as word
use Rattle.sdb_model.specs.declared.token.Token.TheVariants.{Word}
use Rattle.sdb_sqltext.proofs.spell.put_where.Given as goal

abbrev pub invariant-loop-test : goal.invariant-loop-test
invariant-loop-test l = l.out ≡ l.initial.out ++ flat_map (λ y. Word word.And ∷ test_tokens y) (take l.test-index l.rest)
