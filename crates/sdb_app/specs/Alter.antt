-- What the program promises of a column that is added to a table.
use Rattle.std.specs.Prelude.{◌≡◌, ℕ, List, drop}
use Rattle.sdb_app.specs.Types.{AlterRefused, Column, TableName}
use Rattle.sdb_stores.specs.Views.{names_of}
use Rattle.sdb_catalog.specs.Altered.{IsAltered, IsAlteredIn, IsUnaltered, IsUnalteredIn}
use Rattle.sdb_catalog.specs.Calls.{first_contents}
use Rattle.sdb_catalog.specs.declared.refused.AlterRefused.TheVariants as refused
use Rattle.sdb_app.specs.declared.status.Status.{Status}
use Rattle.sdb_app.specs.declared.status.Status.TheVariants as status
use Rattle.sdb_app.specs.Ends.{Work}

-- The row of a table was put with a column more, or not, as the answer says, which is what the calls on the first store gave. Where that had
-- known contents, the answer is what these give, and it now holds the altered row, and else what it held. The other stores are as they were.
-- Nothing of the input was read.
pub record IsColumnAnswered (name : TableName) (c : Column) (work : Work) (answer : List ℕ) : Type 0 where
  pub altered : IsAltered name c answer work.old work.left
  pub known : work.old.known 0 → IsAlteredIn (names_of work.old.views) name c answer (first_contents work.old.views) (first_contents work.left)
  pub others : drop 1 work.left ≡ drop 1 work.old.views
  pub unread : work.rest ≡ work.input

-- how the program ends where there is no answer
abbrev pub status_of_alter : AlterRefused → Status
status_of_alter refused.StoreFault = status.StoreFault
status_of_alter (refused.BadRow key) = status.BadStore key
status_of_alter refused.NoTable = status.NoTable
status_of_alter refused.NoMemory = status.NoMemory

-- There is no answer, for this cause. Where the first store had known contents, it holds what it held, and maybe the altered row. The other
-- stores are as they were. Nothing of the input was read.
pub record IsColumnUnanswered (name : TableName) (c : Column) (work : Work) (cause : AlterRefused) : Type 0 where
  pub refused : IsUnaltered name work.old work.left cause
  pub known : work.old.known 0 → IsUnalteredIn (names_of work.old.views) name c (first_contents work.old.views) (first_contents work.left) cause
  pub others : drop 1 work.left ≡ drop 1 work.old.views
  pub unread : work.rest ≡ work.input

-- Why `alter` has no answer.
pub record StopsAlter (name : TableName) (c : Column) (work : Work) (s : Status) : Type 0 where
  pub cause : AlterRefused
  pub unanswered : IsColumnUnanswered name c work cause
  pub ends : s ≡ status_of_alter cause
