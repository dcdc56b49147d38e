-- Which tokens a text has.
use Rattle.std.specs.Prelude.{◌≡◌, ◌⊎◌}
use Rattle.sdb_model.specs.declared.token.Token.{Token}
use Rattle.sdb_model.specs.declared.token.Token.TheVariants.{Overlong}
use Rattle.sdb_model.specs.Sql.{CanSpell}

-- a token that some text spells
abbrev pub IsSpelled : Token → Type 0
IsSpelled t = CanSpell t ⊎ (t ≡ Overlong)
