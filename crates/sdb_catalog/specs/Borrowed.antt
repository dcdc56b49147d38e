-- The texts of a row, as the code borrows them.
use Rattle.sdb_catalog.specs.declared.read.Texts.{Texts as Borrowed}
use Rattle.sdb_catalog.specs.Rows.{Texts}

abbrev pub names_of_borrowed : Borrowed → Texts
names_of_borrowed t = record { name = t.name.now; definition = t.definition.now; store = t.store.now; revision = t.revision.now }
