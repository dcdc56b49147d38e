-- What the texts of the statements mean over the table of the store.
use Rattle.std.proofs.Common.{◌≡◌, ℕ, pos, negsuc, List, [], ◌∷◌, codes, length, false, None, Ok, Err, Result, refl}
use Rattle.sqlite.specs.declared.types.Value.TheVariants.{Null, Int}
use Rattle.sqlite.specs.Term.{Term, lit, col, op2}
use Rattle.sqlite.specs.Query.{Query, inner, end}
use Rattle.sqlite.specs.Source.TheVariants.{Values}
use Rattle.sqlite.specs.Command.TheVariants.{Insert, Update, Delete, Select, CreateTable, CreateIndex, Nothing, Begin, Commit, Rollback}
use Rattle.sqlite.specs.Compile.{table_defined_by, index_defined_by}
use Rattle.sqlite.specs.Change.{created, indexed}
use Rattle.sqlite_sql.specs.declared.ops.BinaryOp.TheVariants.{Compare}
use Rattle.sqlite_sql.specs.declared.ops.CompareOp.TheVariants.{Eq}
use Rattle.sqlite_resolve.specs.declared.compiled.Compiled.{Compiled}
use Rattle.sqlite_resolve.specs.declared.error.CompileError.{CompileError}
use Rattle.sqlite.specs.Collation.TheVariants.{Binary}
use Rattle.sqlite_tied.specs.Compute.{everything}
use Rattle.sqlite.specs.Listing.{understood, reads_listing}
use Rattle.sqlite.proofs.Callers.{IsPlain, command_of, statement_of}
use Rattle.sdb_sqlite.specs.Table.{records, by_partition, no_schema, table_schema, records_schema}
use Rattle.sdb_sqlite.specs.Statements.{make_table, make_index, get_body, scan_table, scan_partition, add_row, change_row, remove_row, begin, commit, roll_back}

---- queries

abbrev pub equals : ℕ → ℕ → Term
equals column param = op2 (Compare Eq Binary) (col 1 column) (col 0 param)

abbrev pub by_k : List Term
by_k = equals 1 0 ∷ []

abbrev pub by_t : List Term
by_t = equals 2 0 ∷ []

abbrev pub by_p : List Term
by_p = equals 2 0 ∷ equals 3 1 ∷ []

abbrev pub selected : List Term → List Term → Query
selected terms shown = record {
  from = inner 0 end;
  filter = terms;
  group = None;
  project = shown;
  distinct = false;
  collations = [];
  order = [];
  limit = lit (Int (negsuc 0));
  offset = lit (Int (pos 0));
}

abbrev pub body_shown : List Term
body_shown = col 1 4 ∷ []

abbrev pub row_shown : List Term
row_shown = col 1 1 ∷ col 1 4 ∷ []

pub get_is : (command_of (understood records_schema get_body) ≡ Select (record { lets = []; body = selected by_k body_shown }) (codes "r" ∷ [])) × (reads_listing records_schema get_body ≡ false)
unfolding understood everything
get_is = (refl, refl)

pub get_plain : IsPlain (understood records_schema get_body)
unfolding understood everything
get_plain = (refl, refl)

pub table_is : (command_of (understood records_schema scan_table) ≡ Select (record { lets = []; body = selected by_t row_shown }) (codes "k" ∷ codes "r" ∷ [])) × (reads_listing records_schema scan_table ≡ false)
unfolding understood everything
table_is = (refl, refl)

pub table_plain : IsPlain (understood records_schema scan_table)
unfolding understood everything
table_plain = (refl, refl)

pub partition_is : (command_of (understood records_schema scan_partition) ≡ Select (record { lets = []; body = selected by_p row_shown }) (codes "k" ∷ codes "r" ∷ [])) × (reads_listing records_schema scan_partition ≡ false)
unfolding understood everything
partition_is = (refl, refl)

pub partition_plain : IsPlain (understood records_schema scan_partition)
unfolding understood everything
partition_plain = (refl, refl)

---- writes

abbrev pub insert_terms : List Term
insert_terms = lit Null ∷ col 0 0 ∷ col 0 1 ∷ col 0 2 ∷ col 0 3 ∷ []

pub insert_is : command_of (understood records_schema add_row) ≡ Insert 0 (Values insert_terms 5)
unfolding understood everything
insert_is = refl

pub insert_plain : IsPlain (understood records_schema add_row)
unfolding understood everything
insert_plain = (refl, refl)

abbrev pub update_shown : List Term
update_shown = col 1 0 ∷ col 1 0 ∷ col 1 1 ∷ col 1 2 ∷ col 1 3 ∷ col 0 1 ∷ []

pub update_is : command_of (understood records_schema change_row) ≡ Update 0 (record { lets = []; body = selected by_k update_shown })
unfolding understood everything
update_is = refl

pub update_plain : IsPlain (understood records_schema change_row)
unfolding understood everything
update_plain = (refl, refl)

abbrev pub delete_shown : List Term
delete_shown = col 1 0 ∷ []

pub delete_is : command_of (understood records_schema remove_row) ≡ Delete 0 (record { lets = []; body = selected by_k delete_shown })
unfolding understood everything
delete_is = refl

pub delete_plain : IsPlain (understood records_schema remove_row)
unfolding understood everything
delete_plain = (refl, refl)

---- transactions

-- the place where a compiled statement ends, and its number of parameters
abbrev pub tail_of : Result Compiled CompileError → ℕ
tail_of (Ok c) = c.tail
tail_of (Err e) = 0

abbrev pub names_of : Result Compiled CompileError → ℕ
names_of (Ok c) = length c.names
names_of (Err e) = 0

pub begin_is : command_of (understood records_schema begin) ≡ Begin
unfolding understood everything
begin_is = refl

pub begin_plain : IsPlain (understood records_schema begin)
unfolding understood everything
begin_plain = (refl, refl)

pub commit_is : command_of (understood records_schema commit) ≡ Commit
unfolding understood everything
commit_is = refl

pub commit_plain : IsPlain (understood records_schema commit)
unfolding understood everything
commit_plain = (refl, refl)

pub roll_back_is : command_of (understood records_schema roll_back) ≡ Rollback
unfolding understood everything
roll_back_is = refl

pub roll_back_plain : IsPlain (understood records_schema roll_back)
unfolding understood everything
roll_back_plain = (refl, refl)

pub roll_back_whole : (tail_of (understood records_schema roll_back) ≡ 8) × (names_of (understood records_schema roll_back) ≡ 0)
unfolding understood everything
roll_back_whole = (refl, refl)

---- the making

pub make_is : (command_of (understood no_schema make_table) ≡ CreateTable) × (table_defined_by (statement_of make_table (understood no_schema make_table)) ≡ Ok records)
unfolding understood everything
make_is = (refl, refl)

pub make_plain : IsPlain (understood no_schema make_table)
unfolding understood everything
make_plain = (refl, refl)

pub created_is : created no_schema records ≡ table_schema
unfolding understood everything
created_is = refl

pub made_table : command_of (understood table_schema make_table) ≡ Nothing
unfolding understood everything
made_table = refl

pub made_table_plain : IsPlain (understood table_schema make_table)
unfolding understood everything
made_table_plain = (refl, refl)

pub made_both : command_of (understood records_schema make_table) ≡ Nothing
unfolding understood everything
made_both = refl

pub made_both_plain : IsPlain (understood records_schema make_table)
unfolding understood everything
made_both_plain = (refl, refl)

pub index_is : (command_of (understood table_schema make_index) ≡ CreateIndex 0) × (index_defined_by records (statement_of make_index (understood table_schema make_index)) ≡ Ok (record by_partition { tree = 0 }))
unfolding understood everything
index_is = (refl, refl)

pub index_plain : IsPlain (understood table_schema make_index)
unfolding understood everything
index_plain = (refl, refl)

pub indexed_is : indexed table_schema records (record by_partition { tree = 0 }) ≡ records_schema
unfolding understood everything
indexed_is = refl

pub index_again : command_of (understood records_schema make_index) ≡ Nothing
unfolding understood everything
index_again = refl

pub index_again_plain : IsPlain (understood records_schema make_index)
unfolding understood everything
index_again_plain = (refl, refl)
