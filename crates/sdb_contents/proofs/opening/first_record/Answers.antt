use Rattle.std.proofs.Common.{◌≡◌, ◌∙◌, ◌≤◌, List, length, arith, subst}
use Rattle.sdb_types.specs.declared.key.TableName.{TableName}
use Rattle.sdb_contents.specs.Opening.{HoldNothing, IsFirstKey, run_tables}
use Rattle.sdb_contents.proofs.Empty.{first_found, look_done, look_found, look_on, looked_about, looked_at, none_found, none_more, still_behind}
use Rattle.sdb_contents.proofs.GoesOn.{goes_more, known_more, some_more}
use Rattle.sdb_contents.proofs.GoesOn.{passed, refused_after}
use Rattle.sdb_contents.proofs.opening.first_record.Goals as goal

pub loop-table-preserved : goal.loop-table-preserved
loop-table-preserved g c =
    let before = c.loop-table.invariant in
    let done = c.in_ok-rows.ensures in
    let old = g.R.Registry.state c.args.stores.now in
    let mid = g.R.Registry.state c.loop-table.stores in
    let ts = c.as_slice-table-items.result.now in
    let i = c.loop-table.table-index in
    let table = c.table-item.result in
    let all : ts ≡ run_tables c.args.catalog.now = c.as_slice-table-items.ensures ∙ c.in_ok-tables.ensures in
    let here = looked_at ts i table c.loop-table-test.true c.table-item.is in
    record {
      some = some_more _ _ done.goes.names before.some;
      goes = goes_more _ _ _ before.goes done.goes;
      still = still_behind c.args.catalog.now old mid (g.R.Registry.state c.scan.new.stores) table before.goes before.still done.still (looked_about c.args.catalog.now ts i table all here);
      known = known_more old mid (g.R.Registry.state c.scan.new.stores) before.goes before.known done.known;
      none_known = none_more old mid ts i table c.in_ok-rows.rows c.in_ok-key.field-0 here before.goes before.known before.none_known done.rows c.in_ok-key.ensures c.in_default.is;
      none = look_on c.args.catalog.now old mid ts i table c.in_ok-rows.rows c.in_ok-key.field-0 all here before.goes before.still before.none done.rows c.in_ok-key.ensures c.in_default.is;
    }

pub returns-in_err-rows-clause-goes : goal.returns-in_err-rows-clause-goes
returns-in_err-rows-clause-goes g c = goes_more _ _ _ c.loop-table.invariant.goes c.in_err-rows.ensures.goes

pub returns-in_err-rows-clause-err : goal.returns-in_err-rows-clause-err
returns-in_err-rows-clause-err g c =
    passed _ c.from_residual-in_err-rows.result c.in_err-rows.field-0.0 c.from_residual-in_err-rows.ensures.1
    (refused_after (g.R.Registry.state c.args.stores.now) (g.R.Registry.state c.loop-table.stores) (g.R.Registry.state c.scan.new.stores).views c.in_err-rows.field-0.0 c.loop-table.invariant.goes c.in_err-rows.ensures.err)

pub returns-in_err-key-clause-goes : goal.returns-in_err-key-clause-goes
returns-in_err-key-clause-goes g c = goes_more _ _ _ c.loop-table.invariant.goes c.in_ok-rows.ensures.goes

pub returns-in-Some-clause-first : goal.returns-in-Some-clause-first
returns-in-Some-clause-first g c =
    let before = c.loop-table.invariant in
    let ts = c.as_slice-table-items.result.now in
    let i = c.loop-table.table-index in
    let table = c.table-item.result in
    let all : ts ≡ run_tables c.args.catalog.now = c.as_slice-table-items.ensures ∙ c.in_ok-tables.ensures in
    let here = looked_at ts i table c.loop-table-test.true c.table-item.is in
    look_found c.args.catalog.now (g.R.Registry.state c.args.stores.now) (g.R.Registry.state c.loop-table.stores) ts i table c.in_ok-rows.rows c.in_ok-key.field-0 c.in-Some.key
    all here before.goes before.still before.none c.in_ok-rows.ensures.rows c.in_ok-key.ensures c.in-Some.is

pub returns-in-Some-clause-still : goal.returns-in-Some-clause-still
returns-in-Some-clause-still g c =
    let before = c.loop-table.invariant in
    let ts = c.as_slice-table-items.result.now in
    let i = c.loop-table.table-index in
    let table = c.table-item.result in
    let all : ts ≡ run_tables c.args.catalog.now = c.as_slice-table-items.ensures ∙ c.in_ok-tables.ensures in
    let here = looked_at ts i table c.loop-table-test.true c.table-item.is in
    still_behind c.args.catalog.now (g.R.Registry.state c.args.stores.now) (g.R.Registry.state c.loop-table.stores) (g.R.Registry.state c.scan.new.stores) table
    before.goes before.still c.in_ok-rows.ensures.still (looked_about c.args.catalog.now ts i table all here)

pub returns-in-Some-clause-goes : goal.returns-in-Some-clause-goes
returns-in-Some-clause-goes g c = goes_more _ _ _ c.loop-table.invariant.goes c.in_ok-rows.ensures.goes

pub returns-clause-first : goal.returns-clause-first
returns-clause-first g c =
    let ts = c.as_slice-table-items.result.now in
    let i = c.loop-table.table-index in
    let up : length ts ≤ i = omega arith in
    look_done c.args.catalog.now (g.R.Registry.state c.args.stores.now) ts i (c.as_slice-table-items.ensures ∙ c.in_ok-tables.ensures) up c.loop-table.invariant.none

pub returns-in-Some-clause-found : goal.returns-in-Some-clause-found
returns-in-Some-clause-found g c =
    let before = c.loop-table.invariant in
    let ts = c.as_slice-table-items.result.now in
    let i = c.loop-table.table-index in
    let table = c.table-item.result in
    let all : ts ≡ run_tables c.args.catalog.now = c.as_slice-table-items.ensures ∙ c.in_ok-tables.ensures in
    let here = looked_at ts i table c.loop-table-test.true c.table-item.is in
    subst (λ (xs : List TableName). IsFirstKey xs (g.R.Registry.state c.args.stores.now) c.in-Some.key) all
    (first_found (g.R.Registry.state c.args.stores.now) (g.R.Registry.state c.loop-table.stores) ts i table c.in_ok-rows.rows c.in_ok-key.field-0 c.in-Some.key here before.goes before.known before.none_known c.in_ok-rows.ensures.rows c.in_ok-rows.ensures.of c.in_ok-key.ensures c.in-Some.is)

pub returns-in-Some-clause-known : goal.returns-in-Some-clause-known
returns-in-Some-clause-known g c = known_more (g.R.Registry.state c.args.stores.now) (g.R.Registry.state c.loop-table.stores) (g.R.Registry.state c.scan.new.stores) c.loop-table.invariant.goes c.loop-table.invariant.known c.in_ok-rows.ensures.known

pub returns-clause-none : goal.returns-clause-none
returns-clause-none g c =
    let ts = c.as_slice-table-items.result.now in
    let i = c.loop-table.table-index in
    let up : length ts ≤ i = omega arith in
    λ _. subst (λ (xs : List TableName). HoldNothing xs (g.R.Registry.state c.args.stores.now)) (c.as_slice-table-items.ensures ∙ c.in_ok-tables.ensures) (none_found ts (g.R.Registry.state c.args.stores.now) i up c.loop-table.invariant.none_known)

pub returns-in_err-rows-clause-still : goal.returns-in_err-rows-clause-still
returns-in_err-rows-clause-still g c =
    let before = c.loop-table.invariant in
    let ts = c.as_slice-table-items.result.now in
    let i = c.loop-table.table-index in
    let table = c.table-item.result in
    let all : ts ≡ run_tables c.args.catalog.now = c.as_slice-table-items.ensures ∙ c.in_ok-tables.ensures in
    let here = looked_at ts i table c.loop-table-test.true c.table-item.is in
    still_behind c.args.catalog.now (g.R.Registry.state c.args.stores.now) (g.R.Registry.state c.loop-table.stores) (g.R.Registry.state c.scan.new.stores) table
    before.goes before.still c.in_err-rows.ensures.still (looked_about c.args.catalog.now ts i table all here)

pub returns-in_err-rows-clause-known : goal.returns-in_err-rows-clause-known
returns-in_err-rows-clause-known g c =
    known_more (g.R.Registry.state c.args.stores.now) (g.R.Registry.state c.loop-table.stores) (g.R.Registry.state c.scan.new.stores) c.loop-table.invariant.goes c.loop-table.invariant.known c.in_err-rows.ensures.known

pub returns-in_err-key-clause-still : goal.returns-in_err-key-clause-still
returns-in_err-key-clause-still g c =
    let before = c.loop-table.invariant in
    let ts = c.as_slice-table-items.result.now in
    let i = c.loop-table.table-index in
    let table = c.table-item.result in
    let all : ts ≡ run_tables c.args.catalog.now = c.as_slice-table-items.ensures ∙ c.in_ok-tables.ensures in
    let here = looked_at ts i table c.loop-table-test.true c.table-item.is in
    still_behind c.args.catalog.now (g.R.Registry.state c.args.stores.now) (g.R.Registry.state c.loop-table.stores) (g.R.Registry.state c.scan.new.stores) table
    before.goes before.still c.in_ok-rows.ensures.still (looked_about c.args.catalog.now ts i table all here)

pub returns-in_err-key-clause-known : goal.returns-in_err-key-clause-known
returns-in_err-key-clause-known g c =
    known_more (g.R.Registry.state c.args.stores.now) (g.R.Registry.state c.loop-table.stores) (g.R.Registry.state c.scan.new.stores) c.loop-table.invariant.goes c.loop-table.invariant.known c.in_ok-rows.ensures.known
