-- What the program promises of a schema that is stored.
use Rattle.std.specs.Prelude.{◌≡◌, ℕ, List, drop, Ok, Err}
use Rattle.sdb_types.specs.Bytes.{HasRisen}
use Rattle.sdb_app.specs.Types.{CatalogRefused, Place, SchemaFault, Table}
use Rattle.sdb_loader.specs.Described.{catalog_in}
use Rattle.sdb_stores.specs.Views.{names_of}
use Rattle.sdb_catalog.specs.declared.refused.CatalogRefused.TheVariants as refused
use Rattle.sdb_catalog.specs.Calls.{IsUnread, first_contents}
use Rattle.sdb_catalog.specs.Known.{IsLeftBy, IsStoredIn}
use Rattle.sdb_catalog.specs.Written.{IsStored}
use Rattle.sdb_app.specs.declared.status.InputFault.{InputFault}
use Rattle.sdb_app.specs.declared.status.InputFault.TheVariants.{Json}
use Rattle.sdb_app.specs.declared.status.Status.{Status}
use Rattle.sdb_app.specs.declared.status.Status.TheVariants as status
use Rattle.sdb_app.specs.Ends.{AreUnchanged, Stream, Work}
use Rattle.sdb_app.specs.Input.{IsInput, IsInputLong}

---- the schema

-- The input was read to its end, and describes this catalog.
pub record IsSchemaRead (input rest : Stream) (catalog : List Table) : Type 0 where
  pub text : List ℕ
  pub whole : IsInput input rest text
  pub described : catalog_in text ≡ Ok catalog

-- The input was read to its end, and describes none because of this fault.
pub record IsSchemaBad (input rest : Stream) (fault : SchemaFault) : Type 0 where
  pub text : List ℕ
  pub whole : IsInput input rest text
  pub described : catalog_in text ≡ Err fault

-- What is wrong with the input is a fault of its schema, in line 1.
abbrev pub IsSchemaFault : Stream → Stream → ℕ → InputFault → Type 0
IsSchemaFault input rest n (Json fault) = (n ≡ 1) × IsSchemaBad input rest fault
IsSchemaFault input rest n _ = ⊥

-- Why no schema was read.
abbrev pub IsSchemaUnread : Stream → Stream → Status → Type 0
IsSchemaUnread input rest status.ReadFault = HasRisen input.faults rest.faults
IsSchemaUnread input rest status.NoMemory = Unit {0}
IsSchemaUnread input rest (status.BadInput n fault) = IsSchemaFault input rest n fault
IsSchemaUnread input rest (status.Limit n which) = IsInputLong input rest n which
IsSchemaUnread input rest _ = ⊥

---- the rows of its catalog

-- A schema was read, and its catalog was written with this answer: the lines are those that the calls on the first store gave. Where that
-- had known contents, the lines are what these give, and it now holds the rows of each table that was created, and else what it held.
-- The other stores are as they were.
pub record IsSchemaKept (places : List Place) (work : Work) (answer : List ℕ) : Type 0 where
  pub catalog : List Table
  pub read : IsSchemaRead work.input work.rest catalog
  pub stored : IsStored places catalog answer work.old work.left
  pub known : work.old.known 0 → IsStoredIn (names_of work.old.views) places catalog answer (first_contents work.old.views) (first_contents work.left)
  pub others : drop 1 work.left ≡ drop 1 work.old.views

-- A catalog was not written, for this cause. Where the first store had known contents, it holds what it held, and maybe the rows of the
-- catalog's first tables. The other stores are as they were.
pub record IsSchemaUnkept (places : List Place) (catalog : List Table) (work : Work) (cause : CatalogRefused) : Type 0 where
  pub refused : IsUnread work.old work.left cause
  pub known : work.old.known 0 → IsLeftBy cause (names_of work.old.views) places catalog (first_contents work.old.views) (first_contents work.left)
  pub others : drop 1 work.left ≡ drop 1 work.old.views

-- how the program ends where a catalog was not written or opened
abbrev pub status_of_catalog : CatalogRefused → Status
status_of_catalog refused.StoreFault = status.StoreFault
status_of_catalog (refused.BadRow key) = status.BadStore key
status_of_catalog refused.NoMemory = status.NoMemory

-- Why `schema` has no answer: no schema was read, and the stores are as they were; or one was, and its catalog was not written.
pub data StopsSchema (places : List Place) (work : Work) (s : Status) : Type 0 where
  Unread : IsSchemaUnread work.input work.rest s → AreUnchanged work → StopsSchema places work s
  Unkept : (catalog : List Table) (cause : CatalogRefused) → IsSchemaRead work.input work.rest catalog → IsSchemaUnkept places catalog work cause → s ≡ status_of_catalog cause → StopsSchema places work s
