use Rattle.std.proofs.Common.{◌≡◌, ◌∙◌, List, [], true, Some, None, ap, sym}
use Rattle.sdb_schema.specs.Added.{column_refused_by, grown}
use Rattle.sdb_schema.specs.Table.{is_table}
use Rattle.sdb_schema.proofs.Public.{grown_is_table}
use Rattle.sdb_stores.specs.Views.{names_of}
use Rattle.sdb_catalog.specs.declared.entry.Entry.{Entry}
use Rattle.sdb_catalog.specs.declared.refused.AlterRefused.TheVariants as unaltered
use Rattle.sdb_catalog.specs.Altered.{cause_of, entry_named}
use Rattle.sdb_catalog.proofs.Altered.{altered_in, is_altered, left_by_text, left_in, stopped_cause, unread_cause, unread_in}
use Rattle.sdb_catalog.proofs.Altering.{entry_is_table, table_none}
use Rattle.sdb_catalog.proofs.Calling.{goes_more}
use Rattle.sdb_catalog.proofs.Known.{opens_in, passed_on}
use Rattle.sdb_catalog.proofs.alter.alter_table.Goals as goal

pub alter-requires-clause-table : goal.alter-requires-clause-table
alter-requires-clause-table g c =
    let old = g.R.Registry.state c.args.stores.now in
    let read = c.in_ok-entries.ensures.read in
    let found : entry_named c.in_ok-entries.entries c.args.table.now ≡ Some c.in-Some.entry.now = ap (λ (es : List Entry). entry_named es c.args.table.now) (sym c.as_slice.ensures) ∙ sym c.in-Some.ensures in
    entry_is_table (names_of old.views) [] c.in_ok-entries.entries c.args.table.now c.in-Some.entry.now read.opens.follow found

pub returns-clause-altered : goal.returns-clause-altered
returns-clause-altered g c =
    let old = g.R.Registry.state c.args.stores.now in
    let mid = g.R.Registry.state c.read_entries.new.stores in
    let new = g.R.Registry.state c.alter.new.stores in
    let read = c.in_ok-entries.ensures.read in
    let found : entry_named c.in_ok-entries.entries c.args.table.now ≡ Some c.in-Some.entry.now = ap (λ (es : List Entry). entry_named es c.args.table.now) (sym c.as_slice.ensures) ∙ sym c.in-Some.ensures in
    is_altered c.args.table.now c.args.column.now c.in_ok-alteration_text.field-0 c.in_ok-entries.entries c.in-Some.entry.now c.in_ok-outcome.outcome old mid new.views read c.in_ok-entries.ensures.goes.where_known found c.in_ok-outcome.ensures.came c.in_ok-alteration_text.ensures

pub returns-clause-known : goal.returns-clause-known
returns-clause-known g c =
    let old = g.R.Registry.state c.args.stores.now in
    let mid = g.R.Registry.state c.read_entries.new.stores in
    let new = g.R.Registry.state c.alter.new.stores in
    let read = c.in_ok-entries.ensures.read in
    let found : entry_named c.in_ok-entries.entries c.args.table.now ≡ Some c.in-Some.entry.now = ap (λ (es : List Entry). entry_named es c.args.table.now) (sym c.as_slice.ensures) ∙ sym c.in-Some.ensures in
    let own : column_refused_by c.in-Some.entry.now.table c.args.column.now ≡ None → is_table c.in-Some.entry.now.table ≡ true → is_table (grown c.in-Some.entry.now.table c.args.column.now) ≡ true = λ allowed h. grown_is_table c.in-Some.entry.now.table c.args.column.now h allowed c.requires.short c.as_str-name.ensures.named in
    altered_in c.args.table.now c.args.column.now c.in_ok-entries.entries c.in-Some.entry.now old mid read c.in_ok-entries.ensures.unchanged c.in_ok-entries.ensures.goes.where_known found own c.in_ok-alteration_text.field-0 c.in_ok-outcome.outcome new.views c.in_ok-outcome.ensures.came c.in_ok-alteration_text.ensures

pub returns-in_err-entries-clause-left : goal.returns-in_err-entries-clause-left
returns-in_err-entries-clause-left g c =
    let old = g.R.Registry.state c.args.stores.now in
    let mid = g.R.Registry.state c.read_entries.new.stores in
    passed_on _ c.from_residual.result (cause_of c.in_err-entries.field-0.0) c.from_residual.ensures.1
    (unread_in c.args.table.now c.args.column.now c.in_err-entries.field-0.0 old mid c.in_err-entries.ensures.err c.in_err-entries.ensures.unchanged)

pub returns-in_err-entries-clause-err : goal.returns-in_err-entries-clause-err
returns-in_err-entries-clause-err g c =
    let old = g.R.Registry.state c.args.stores.now in
    let mid = g.R.Registry.state c.read_entries.new.stores in
    passed_on _ c.from_residual.result (cause_of c.in_err-entries.field-0.0) c.from_residual.ensures.1 (unread_cause c.args.table.now c.in_err-entries.field-0.0 old mid.views c.in_err-entries.ensures.err)

pub returns-in_default-clause-left : goal.returns-in_default-clause-left
returns-in_default-clause-left g c =
    let old = g.R.Registry.state c.args.stores.now in
    let mid = g.R.Registry.state c.read_entries.new.stores in
    let read = c.in_ok-entries.ensures.read in
    let none : entry_named c.in_ok-entries.entries c.args.table.now ≡ None = ap (λ (es : List Entry). entry_named es c.args.table.now) (sym c.as_slice.ensures) ∙ sym c.in_default.ensures in
    λ t. (c.in_ok-entries.ensures.unchanged t, record { entries = c.in_ok-entries.entries; opens = opens_in c.in_ok-entries.entries old mid.views t read; none = table_none c.in_ok-entries.entries c.args.table.now none })

pub returns-in_default-clause-err : goal.returns-in_default-clause-err
returns-in_default-clause-err g c =
    let read = c.in_ok-entries.ensures.read in
    let none : entry_named c.in_ok-entries.entries c.args.table.now ≡ None = ap (λ (es : List Entry). entry_named es c.args.table.now) (sym c.as_slice.ensures) ∙ sym c.in_default.ensures in
    record { entries = c.in_ok-entries.entries; read = read; none = table_none c.in_ok-entries.entries c.args.table.now none }

pub returns-in_err-outcome-clause-left : goal.returns-in_err-outcome-clause-left
returns-in_err-outcome-clause-left g c =
    let old = g.R.Registry.state c.args.stores.now in
    let mid = g.R.Registry.state c.read_entries.new.stores in
    let new = g.R.Registry.state c.alter.new.stores in
    let read = c.in_ok-entries.ensures.read in
    let found : entry_named c.in_ok-entries.entries c.args.table.now ≡ Some c.in-Some.entry.now = ap (λ (es : List Entry). entry_named es c.args.table.now) (sym c.as_slice.ensures) ∙ sym c.in-Some.ensures in
    let own : column_refused_by c.in-Some.entry.now.table c.args.column.now ≡ None → is_table c.in-Some.entry.now.table ≡ true → is_table (grown c.in-Some.entry.now.table c.args.column.now) ≡ true = λ allowed h. grown_is_table c.in-Some.entry.now.table c.args.column.now h allowed c.requires.short c.as_str-name.ensures.named in
    passed_on _ c.from_residual-in_err-outcome.result (cause_of c.in_err-outcome.field-0.0) c.from_residual-in_err-outcome.ensures.1
    (left_in c.args.table.now c.args.column.now c.in_ok-entries.entries c.in-Some.entry.now old mid read c.in_ok-entries.ensures.unchanged c.in_ok-entries.ensures.goes.where_known found own c.in_err-outcome.field-0.0 new c.in_err-outcome.ensures.err c.in_err-outcome.ensures.left)

pub returns-in_err-outcome-clause-err : goal.returns-in_err-outcome-clause-err
returns-in_err-outcome-clause-err g c =
    let old = g.R.Registry.state c.args.stores.now in
    let mid = g.R.Registry.state c.read_entries.new.stores in
    let new = g.R.Registry.state c.alter.new.stores in
    passed_on _ c.from_residual-in_err-outcome.result (cause_of c.in_err-outcome.field-0.0) c.from_residual-in_err-outcome.ensures.1
    (stopped_cause c.args.table.now c.in_err-outcome.field-0.0 old mid new.views c.in_ok-entries.ensures.goes c.in_err-outcome.ensures.err)

pub returns-in_err-alteration_text-clause-left : goal.returns-in_err-alteration_text-clause-left
returns-in_err-alteration_text-clause-left g c =
    let old = g.R.Registry.state c.args.stores.now in
    let mid = g.R.Registry.state c.read_entries.new.stores in
    let new = g.R.Registry.state c.alter.new.stores in
    let read = c.in_ok-entries.ensures.read in
    let found : entry_named c.in_ok-entries.entries c.args.table.now ≡ Some c.in-Some.entry.now = ap (λ (es : List Entry). entry_named es c.args.table.now) (sym c.as_slice.ensures) ∙ sym c.in-Some.ensures in
    let own : column_refused_by c.in-Some.entry.now.table c.args.column.now ≡ None → is_table c.in-Some.entry.now.table ≡ true → is_table (grown c.in-Some.entry.now.table c.args.column.now) ≡ true = λ allowed h. grown_is_table c.in-Some.entry.now.table c.args.column.now h allowed c.requires.short c.as_str-name.ensures.named in
    passed_on _ c.from_residual-in_err-alteration_text.result unaltered.NoMemory c.from_residual-in_err-alteration_text.ensures.1
    (left_by_text c.args.table.now c.args.column.now c.in_ok-entries.entries c.in-Some.entry.now old mid read c.in_ok-entries.ensures.unchanged c.in_ok-entries.ensures.goes.where_known found own c.in_ok-outcome.outcome new c.in_ok-outcome.ensures.came)

pub returns-in_err-outcome-clause-places : goal.returns-in_err-outcome-clause-places
returns-in_err-outcome-clause-places g c =
    c.in_err-outcome.ensures.places ∙ c.in_ok-entries.ensures.places

pub returns-in_err-outcome-clause-goes : goal.returns-in_err-outcome-clause-goes
returns-in_err-outcome-clause-goes g c =
    goes_more (g.R.Registry.state c.args.stores.now) (g.R.Registry.state c.read_entries.new.stores) (g.R.Registry.state c.alter.new.stores) c.in_ok-entries.ensures.goes c.in_err-outcome.ensures.goes

pub returns-in_err-alteration_text-clause-places : goal.returns-in_err-alteration_text-clause-places
returns-in_err-alteration_text-clause-places g c =
    c.in_ok-outcome.ensures.places ∙ c.in_ok-entries.ensures.places

pub returns-in_err-alteration_text-clause-goes : goal.returns-in_err-alteration_text-clause-goes
returns-in_err-alteration_text-clause-goes g c =
    goes_more (g.R.Registry.state c.args.stores.now) (g.R.Registry.state c.read_entries.new.stores) (g.R.Registry.state c.alter.new.stores) c.in_ok-entries.ensures.goes c.in_ok-outcome.ensures.goes

pub returns-clause-places : goal.returns-clause-places
returns-clause-places g c =
    c.in_ok-outcome.ensures.places ∙ c.in_ok-entries.ensures.places

pub returns-clause-goes : goal.returns-clause-goes
returns-clause-goes g c =
    goes_more (g.R.Registry.state c.args.stores.now) (g.R.Registry.state c.read_entries.new.stores) (g.R.Registry.state c.alter.new.stores) c.in_ok-entries.ensures.goes c.in_ok-outcome.ensures.goes
