use Rattle.std.proofs.Common.{◌≡◌, [], ◌∷◌, ◌-◌}
use Rattle.sdb_model.specs.declared.token.Keyword.TheVariants as word
use Rattle.sdb_sqltext.specs.Readers.{items_on, test_at, next_word}
use Rattle.sdb_sqltext.proofs.lists.tests_on.Given as goal

abbrev pub invariant-loop : goal.invariant-loop
invariant-loop l = items_on test_at (next_word word.And) l.end (l.turns - l.counter) l.tests l.rest ≡ items_on test_at (next_word word.And) l.end l.turns (l.fn.first ∷ []) l.tokens
