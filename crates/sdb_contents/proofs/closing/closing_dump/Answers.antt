use Rattle.std.proofs.Common.{◌≡◌, ◌∙◌, true, List, sym, ap, subst}
use Rattle.std.specs.Prelude.{Contains}
use Rattle.sdb_contents.specs.Types.{TableName, TxId}
use Rattle.sdb_types.specs.Contents.{are_rows_of}
use Rattle.sdb_types.proofs.Public.{and_first}
use Rattle.sdb_record.specs.Coordinator.{coordinator_table}
use Rattle.sdb_contents.specs.Board.{AreUsableFor}
use Rattle.sdb_contents.specs.Opening.{records_in, whole}
use Rattle.sdb_contents.proofs.GoesOn.{goes_more, known_more}
use Rattle.sdb_contents.specs.Decided.{decided}
use Rattle.sdb_contents.proofs.Closings.{closing_known, closing_once, closing_recorded, closing_tables, closing_well_formed, coordinator_fit, odd_in_rows, odd_in_tables, record_odd, row_odd}
use Rattle.sdb_contents.proofs.Coordinated.{recorded_small}
use Rattle.sdb_contents.proofs.Later.{dumps_later, odd_later, well_formed_later}
use Rattle.sdb_contents.proofs.Refusals.{passed, refused_as, risen_after}
use Rattle.sdb_contents.proofs.closing.closing_dump.Goals as goal

pub returns-clause-tables : goal.returns-clause-tables
returns-clause-tables g c =
    let catalog = c.args.catalog.now in
    let old = g.R.Registry.state c.args.stores.now in
    let mid = g.R.Registry.state c.scan.new.stores in
    let table = c.coordinator_table-table.ensures in
    let fit_table = λ (f : AreUsableFor coordinator_table old). subst (λ (t : TableName). AreUsableFor t old) (sym table) f in
    closing_tables catalog old mid c.as_slice.result.now (decided c.in_ok-decisions.decisions) c.in_ok-decisions.decisions.recorded c.in_ok-tables.tables
    (record { rows = λ f. c.as_slice.ensures ∙ c.in_ok-rows.ensures.rows (fit_table f) ∙ ap (records_in old) table; rising = and_first _ _ (ap (are_rows_of (whole c.coordinator_table-table.result)) c.as_slice.ensures ∙ c.in_ok-rows.ensures.of); decided = c.in_ok-decisions.ensures.decided; recorded = c.in_ok-decisions.ensures.recorded }) c.in_ok-rows.ensures.goes (λ fit. c.in_ok-rows.ensures.still (fit_table (coordinator_fit catalog old fit))) c.in_ok-tables.ensures.named c.in_ok-tables.ensures.tables

pub returns-clause-dumped : goal.returns-clause-dumped
returns-clause-dumped g c =
    let catalog = c.args.catalog.now in
    let old = g.R.Registry.state c.args.stores.now in
    let mid = g.R.Registry.state c.scan.new.stores in
    let table = c.coordinator_table-table.ensures in
    let fit_table = λ (f : AreUsableFor coordinator_table old). subst (λ (t : TableName). AreUsableFor t old) (sym table) f in
    dumps_later old (g.R.Registry.state c.dumps.new.stores) (goes_more _ _ _ c.in_ok-rows.ensures.goes c.in_ok-tables.ensures.goes) (known_more old mid (g.R.Registry.state c.dumps.new.stores) c.in_ok-rows.ensures.goes c.in_ok-rows.ensures.known c.in_ok-tables.ensures.known) catalog c.in_ok-tables.tables
    (closing_known catalog old mid c.as_slice.result.now (decided c.in_ok-decisions.decisions) c.in_ok-decisions.decisions.recorded c.in_ok-tables.tables
    (record { rows = λ f. c.as_slice.ensures ∙ c.in_ok-rows.ensures.rows (fit_table f) ∙ ap (records_in old) table; rising = and_first _ _ (ap (are_rows_of (whole c.coordinator_table-table.result)) c.as_slice.ensures ∙ c.in_ok-rows.ensures.of); decided = c.in_ok-decisions.ensures.decided; recorded = c.in_ok-decisions.ensures.recorded }) c.in_ok-rows.ensures.goes c.in_ok-rows.ensures.known c.in_ok-tables.ensures.named c.in_ok-tables.ensures.tables)

pub returns-clause-well_formed : goal.returns-clause-well_formed
returns-clause-well_formed g c =
    let catalog = c.args.catalog.now in
    let old = g.R.Registry.state c.args.stores.now in
    let mid = g.R.Registry.state c.scan.new.stores in
    let table = c.coordinator_table-table.ensures in
    let fit_table = λ (f : AreUsableFor coordinator_table old). subst (λ (t : TableName). AreUsableFor t old) (sym table) f in
    well_formed_later old (g.R.Registry.state c.dumps.new.stores) (goes_more _ _ _ c.in_ok-rows.ensures.goes c.in_ok-tables.ensures.goes) (known_more old mid (g.R.Registry.state c.dumps.new.stores) c.in_ok-rows.ensures.goes c.in_ok-rows.ensures.known c.in_ok-tables.ensures.known) catalog
    (closing_well_formed catalog old mid c.as_slice.result.now (decided c.in_ok-decisions.decisions) c.in_ok-decisions.decisions.recorded
    (record { rows = λ f. c.as_slice.ensures ∙ c.in_ok-rows.ensures.rows (fit_table f) ∙ ap (records_in old) table; rising = and_first _ _ (ap (are_rows_of (whole c.coordinator_table-table.result)) c.as_slice.ensures ∙ c.in_ok-rows.ensures.of); decided = c.in_ok-decisions.ensures.decided; recorded = c.in_ok-decisions.ensures.recorded }) c.in_ok-rows.ensures.goes c.in_ok-rows.ensures.known c.in_ok-decisions.ensures.valid c.in_ok-tables.ensures.well_formed)

pub returns-clause-recorded : goal.returns-clause-recorded
returns-clause-recorded g c =
    let old = g.R.Registry.state c.args.stores.now in
    let table = c.coordinator_table-table.ensures in
    let fit_table = λ (f : AreUsableFor coordinator_table old). subst (λ (t : TableName). AreUsableFor t old) (sym table) f in
    closing_recorded old c.as_slice.result.now (decided c.in_ok-decisions.decisions) c.in_ok-decisions.decisions.recorded (record { rows = λ f. c.as_slice.ensures ∙ c.in_ok-rows.ensures.rows (fit_table f) ∙ ap (records_in old) table; rising = and_first _ _ (ap (are_rows_of (whole c.coordinator_table-table.result)) c.as_slice.ensures ∙ c.in_ok-rows.ensures.of); decided = c.in_ok-decisions.ensures.decided; recorded = c.in_ok-decisions.ensures.recorded })

pub returns-clause-small : goal.returns-clause-small
returns-clause-small g c =
    λ id h. recorded_small c.as_slice.result.now id (subst (λ (ids : List TxId). Contains ids id) c.in_ok-decisions.ensures.recorded h)

pub returns-clause-once : goal.returns-clause-once
returns-clause-once g c =
    let old = g.R.Registry.state c.args.stores.now in
    let table = c.coordinator_table-table.ensures in
    let fit_table = λ (f : AreUsableFor coordinator_table old). subst (λ (t : TableName). AreUsableFor t old) (sym table) f in
    closing_once old c.as_slice.result.now (decided c.in_ok-decisions.decisions) c.in_ok-decisions.decisions.recorded (record { rows = λ f. c.as_slice.ensures ∙ c.in_ok-rows.ensures.rows (fit_table f) ∙ ap (records_in old) table; rising = and_first _ _ (ap (are_rows_of (whole c.coordinator_table-table.result)) c.as_slice.ensures ∙ c.in_ok-rows.ensures.of); decided = c.in_ok-decisions.ensures.decided; recorded = c.in_ok-decisions.ensures.recorded })

pub returns-clause-still : goal.returns-clause-still
returns-clause-still g c =
    let catalog = c.args.catalog.now in
    let old = g.R.Registry.state c.args.stores.now in
    let goes = c.in_ok-rows.ensures.goes in
    let table = c.coordinator_table-table.ensures in
    λ fit. c.in_ok-tables.ensures.still (goes.fit catalog fit) ∙ c.in_ok-rows.ensures.still (subst (λ (t : TableName). AreUsableFor t old) (sym table) (coordinator_fit catalog old fit))

pub returns-clause-known : goal.returns-clause-known
returns-clause-known g c = known_more (g.R.Registry.state c.args.stores.now) (g.R.Registry.state c.scan.new.stores) (g.R.Registry.state c.dumps.new.stores) c.in_ok-rows.ensures.goes c.in_ok-rows.ensures.known c.in_ok-tables.ensures.known

pub returns-clause-goes : goal.returns-clause-goes
returns-clause-goes g c =
    goes_more _ _ _ c.in_ok-rows.ensures.goes c.in_ok-tables.ensures.goes

pub returns-in_err-decisions-clause-first : goal.returns-in_err-decisions-clause-first
returns-in_err-decisions-clause-first g c =
    let catalog = c.args.catalog.now in
    let old = g.R.Registry.state c.args.stores.now in
    let table = c.coordinator_table-table.ensures in
    passed _ c.from_residual-in_err-decisions.result c.in_err-decisions.field-0.0 c.from_residual-in_err-decisions.ensures.1
    (refused_as _ _ ⊥ _ c.in_err-decisions.field-0.0
    (λ key first fit. odd_in_rows catalog old c.as_slice.result.now key (c.as_slice.ensures ∙ c.in_ok-rows.ensures.rows (subst (λ (t : TableName). AreUsableFor t old) (sym table) (coordinator_fit catalog old fit)) ∙ ap (records_in old) table) first)
    (λ h. absurd h) c.in_err-decisions.ensures.err)

pub returns-in_err-decisions-clause-err : goal.returns-in_err-decisions-clause-err
returns-in_err-decisions-clause-err g c =
    let catalog = c.args.catalog.now in
    let old = g.R.Registry.state c.args.stores.now in
    let table = c.coordinator_table-table.ensures in
    let mid = g.R.Registry.state c.scan.new.stores in
    let of : are_rows_of (whole coordinator_table) c.as_slice.result.now ≡ true =
    subst (λ (t : TableName). are_rows_of (whole t) c.as_slice.result.now ≡ true) table (ap (are_rows_of (whole c.coordinator_table-table.result)) c.as_slice.ensures ∙ c.in_ok-rows.ensures.of) in
    passed _ c.from_residual-in_err-decisions.result c.in_err-decisions.field-0.0 c.from_residual-in_err-decisions.ensures.1
    (refused_as _ _ ⊥ _ c.in_err-decisions.field-0.0
    (λ key first. odd_later old mid c.in_ok-rows.ensures.goes c.in_ok-rows.ensures.known catalog key (row_odd catalog old c.as_slice.result.now key (λ f. c.as_slice.ensures ∙ c.in_ok-rows.ensures.rows (subst (λ (t : TableName). AreUsableFor t old) (sym table) f) ∙ ap (records_in old) table) of first))
    (λ h. absurd h) c.in_err-decisions.ensures.err)

pub returns-in_err-tables-clause-first : goal.returns-in_err-tables-clause-first
returns-in_err-tables-clause-first g c =
    let catalog = c.args.catalog.now in
    let old = g.R.Registry.state c.args.stores.now in
    let mid = g.R.Registry.state c.scan.new.stores in
    let goes = c.in_ok-rows.ensures.goes in
    let table = c.coordinator_table-table.ensures in
    let fit_table = λ (f : AreUsableFor coordinator_table old). subst (λ (t : TableName). AreUsableFor t old) (sym table) f in
    passed _ c.from_residual-in_err-tables.result c.in_err-tables.field-0.0 c.from_residual-in_err-tables.ensures.1
    (refused_as _ _ _ _ c.in_err-tables.field-0.0
    (λ key first fit. odd_in_tables catalog old mid c.as_slice.result.now (decided c.in_ok-decisions.decisions) c.in_ok-decisions.decisions.recorded key
    (record { rows = λ f. c.as_slice.ensures ∙ c.in_ok-rows.ensures.rows (fit_table f) ∙ ap (records_in old) table; rising = and_first _ _ (ap (are_rows_of (whole c.coordinator_table-table.result)) c.as_slice.ensures ∙ c.in_ok-rows.ensures.of); decided = c.in_ok-decisions.ensures.decided; recorded = c.in_ok-decisions.ensures.recorded }) c.in_ok-decisions.ensures.valid goes c.in_ok-rows.ensures.known first fit)
    (risen_after old mid (g.R.Registry.state c.dumps.new.stores).views goes) c.in_err-tables.ensures.err)

pub returns-in_err-tables-clause-err : goal.returns-in_err-tables-clause-err
returns-in_err-tables-clause-err g c =
    let catalog = c.args.catalog.now in
    let old = g.R.Registry.state c.args.stores.now in
    let mid = g.R.Registry.state c.scan.new.stores in
    let goes = c.in_ok-rows.ensures.goes in
    let table = c.coordinator_table-table.ensures in
    let fit_table = λ (f : AreUsableFor coordinator_table old). subst (λ (t : TableName). AreUsableFor t old) (sym table) f in
    passed _ c.from_residual-in_err-tables.result c.in_err-tables.field-0.0 c.from_residual-in_err-tables.ensures.1
    (refused_as _ _ _ _ c.in_err-tables.field-0.0
    (λ key first. odd_later old (g.R.Registry.state c.dumps.new.stores) (goes_more _ _ _ goes c.in_err-tables.ensures.goes) (known_more old mid (g.R.Registry.state c.dumps.new.stores) goes c.in_ok-rows.ensures.known c.in_err-tables.ensures.known) catalog key (record_odd catalog old mid c.as_slice.result.now (decided c.in_ok-decisions.decisions) c.in_ok-decisions.decisions.recorded key
    (record { rows = λ f. c.as_slice.ensures ∙ c.in_ok-rows.ensures.rows (fit_table f) ∙ ap (records_in old) table; rising = and_first _ _ (ap (are_rows_of (whole c.coordinator_table-table.result)) c.as_slice.ensures ∙ c.in_ok-rows.ensures.of); decided = c.in_ok-decisions.ensures.decided; recorded = c.in_ok-decisions.ensures.recorded }) goes c.in_ok-rows.ensures.known first))
    (risen_after old mid (g.R.Registry.state c.dumps.new.stores).views goes) c.in_err-tables.ensures.err)

pub returns-in_err-tables-clause-still : goal.returns-in_err-tables-clause-still
returns-in_err-tables-clause-still g c =
    let catalog = c.args.catalog.now in
    let old = g.R.Registry.state c.args.stores.now in
    let goes = c.in_ok-rows.ensures.goes in
    let table = c.coordinator_table-table.ensures in
    λ fit. c.in_err-tables.ensures.still (goes.fit catalog fit) ∙ c.in_ok-rows.ensures.still (subst (λ (t : TableName). AreUsableFor t old) (sym table) (coordinator_fit catalog old fit))

pub returns-in_err-tables-clause-known : goal.returns-in_err-tables-clause-known
returns-in_err-tables-clause-known g c =
    known_more (g.R.Registry.state c.args.stores.now) (g.R.Registry.state c.scan.new.stores) (g.R.Registry.state c.dumps.new.stores) c.in_ok-rows.ensures.goes c.in_ok-rows.ensures.known c.in_err-tables.ensures.known

pub returns-in_err-tables-clause-goes : goal.returns-in_err-tables-clause-goes
returns-in_err-tables-clause-goes g c = goes_more _ _ _ c.in_ok-rows.ensures.goes c.in_err-tables.ensures.goes
