-- The items of a list whose copies share them.
use Rattle.std.specs.Prelude.{List, [], ◌∷◌}
use Rattle.sdb_types.specs.declared.shared.Items.{Items}
use Rattle.sdb_types.specs.declared.shared.Items.TheVariants.{Empty, One, Many}

module _ {T : Type 0} where
  abbrev pub shared_items : Items T → List T
  shared_items Empty = []
  shared_items (One item) = item.value ∷ []
  shared_items (Many items) = items.value
