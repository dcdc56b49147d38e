-- What the laws of plans speak of.
use Rattle.std.specs.Prelude.{◌≡◌, Bool, true, List, Some, None}
use Rattle.std.specs.List.{list_all}
use Rattle.sdb_exec.specs.Types.{Image, Statement, Table}
use Rattle.sdb_schema.specs.Rows.{fits_table}
use Rattle.sdb_schema.specs.Table.{is_table}
use Rattle.sdb_model.specs.Access.{rows_at}
use Rattle.sdb_model.specs.Exec.{Tables, all_rows, named_table}
use Rattle.sdb_model.specs.Refused.{refusal_on}
use Rattle.sdb_exec.specs.Plans.{IsExec, Planned, are_shaped, first_unfit, has_all_literals, step_of}
use Rattle.sdb_model.specs.Reads.{access_of}

-- A plan whose rows were asked for, and whose table is the one of the catalog that the statement names.
pub record AskedPlan : Type 0 where
  pub catalog : List Table
  pub plan : Planned
  pub table : is_table plan.table ≡ true
  pub named : named_table catalog plan.statement ≡ Some plan.table
  pub asked : plan.asked ≡ true

-- the rows of its access
abbrev pub rows_read : AskedPlan → Tables → List Image
rows_read a d = rows_at (access_of a.plan.table a.plan.statement) d

-- The rows of its table have a value for each column of the primary key, and those that it reads fit.
pub record AreReadable (a : AskedPlan) (d : Tables) : Type 0 where
  pub shaped : are_shaped a.plan.table (all_rows d) ≡ true
  pub fit : first_unfit a.plan.table (rows_read a d) ≡ None

-- on these rows it finishes as its statement does on the whole tables
abbrev pub FinishesAsExec : AskedPlan → Tables → Type 0
FinishesAsExec a d = IsExec a.catalog a.plan d (step_of a.plan (rows_read a d))

-- A statement that its table doesn't refuse, with as many literals as names.
pub record AcceptedStatement : Type 0 where
  pub table : Table
  pub statement : Statement
  pub literals : has_all_literals statement ≡ true
  pub accepted : refusal_on table statement ≡ None

-- each row fits the table
abbrev pub rows_are_well_typed : Table → List Image → Bool
rows_are_well_typed t rows = list_all (λ r. fits_table t r.key r.columns) rows
