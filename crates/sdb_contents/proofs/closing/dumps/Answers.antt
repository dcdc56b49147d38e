use Rattle.std.proofs.Common.{◌≡◌, ◌∙◌, length}
use Rattle.sdb_contents.proofs.GoesOn.{fit_for, goes_more, known_more, some_more}
use Rattle.sdb_contents.specs.Decided.{decided}
use Rattle.sdb_contents.proofs.Closings.{dumps_more, ill_formed_among, named_more, named_size, played_at, well_formed_more}
use Rattle.sdb_contents.proofs.Refusals.{passed, refused_as, risen_after}
use Rattle.sdb_contents.proofs.closing.dumps.Goals as goal

pub loop-i-preserved : goal.loop-i-preserved
loop-i-preserved g c =
    let before = c.loop-i.invariant in
    let done = c.in_ok-rows.ensures in
    let catalog = c.args.catalog.now in
    let old = g.R.Registry.state c.args.stores.now in
    let mid = g.R.Registry.state c.loop-i.stores in
    let t = c.table_at-table.result.now in
    let decide = decided c.args.decisions.now in
    let here = c.table_at-table.ensures in
    let size : length c.loop-i.tables ≡ c.loop-i.i = named_size catalog c.loop-i.i t c.loop-i.tables here before.named in
    record {
      some = some_more _ _ done.goes.names before.some;
      goes = goes_more _ _ _ before.goes done.goes;
      still = λ fit. done.still (fit_for catalog mid t.name (played_at catalog c.loop-i.i t here) (before.goes.fit catalog fit)) ∙ before.still fit;
      known = known_more old mid (g.R.Registry.state c.dump.new.stores) before.goes before.known done.known;
      named = named_more catalog c.loop-i.i t c.loop-i.tables c.push.new.self c.in_ok-rows.rows here before.named done.named c.in_ok-push.ensures.ok;
      tables = dumps_more decide old mid catalog c.loop-i.i t c.loop-i.tables c.push.new.self c.in_ok-rows.rows here size before.goes before.known before.tables done.dump c.in_ok-push.ensures.ok;
      well_formed = well_formed_more decide old mid catalog c.loop-i.i t here before.goes before.known before.well_formed done.well_formed;
    }

pub returns-in_err-rows-clause-err : goal.returns-in_err-rows-clause-err
returns-in_err-rows-clause-err g c =
    let before = c.loop-i.invariant in
    let catalog = c.args.catalog.now in
    let old = g.R.Registry.state c.args.stores.now in
    let mid = g.R.Registry.state c.loop-i.stores in
    let t = c.table_at-table.result.now in
    let here = c.table_at-table.ensures in
    passed _ c.from_residual.result c.in_err-rows.field-0.0 c.from_residual.ensures.1
    (refused_as _ _ _ _ c.in_err-rows.field-0.0
    (λ key first. ill_formed_among (decided c.args.decisions.now) old mid catalog c.loop-i.i t key here before.goes before.known before.well_formed first)
    (risen_after old mid (g.R.Registry.state c.dump.new.stores).views before.goes) c.in_err-rows.ensures.err)

pub returns-in_err-rows-clause-goes : goal.returns-in_err-rows-clause-goes
returns-in_err-rows-clause-goes g c = goes_more _ _ _ c.loop-i.invariant.goes c.in_err-rows.ensures.goes

pub returns-in_err-push-clause-goes : goal.returns-in_err-push-clause-goes
returns-in_err-push-clause-goes g c = goes_more _ _ _ c.loop-i.invariant.goes c.in_ok-rows.ensures.goes

pub returns-in_err-rows-clause-still : goal.returns-in_err-rows-clause-still
returns-in_err-rows-clause-still g c =
    let before = c.loop-i.invariant in
    let catalog = c.args.catalog.now in
    let mid = g.R.Registry.state c.loop-i.stores in
    let t = c.table_at-table.result.now in
    λ fit. c.in_err-rows.ensures.still (fit_for catalog mid t.name (played_at catalog c.loop-i.i t c.table_at-table.ensures) (before.goes.fit catalog fit)) ∙ before.still fit

pub returns-in_err-rows-clause-known : goal.returns-in_err-rows-clause-known
returns-in_err-rows-clause-known g c =
    known_more (g.R.Registry.state c.args.stores.now) (g.R.Registry.state c.loop-i.stores) (g.R.Registry.state c.dump.new.stores) c.loop-i.invariant.goes c.loop-i.invariant.known c.in_err-rows.ensures.known

pub returns-in_err-push-clause-still : goal.returns-in_err-push-clause-still
returns-in_err-push-clause-still g c =
    let before = c.loop-i.invariant in
    let catalog = c.args.catalog.now in
    let mid = g.R.Registry.state c.loop-i.stores in
    let t = c.table_at-table.result.now in
    λ fit. c.in_ok-rows.ensures.still (fit_for catalog mid t.name (played_at catalog c.loop-i.i t c.table_at-table.ensures) (before.goes.fit catalog fit)) ∙ before.still fit

pub returns-in_err-push-clause-known : goal.returns-in_err-push-clause-known
returns-in_err-push-clause-known g c =
    known_more (g.R.Registry.state c.args.stores.now) (g.R.Registry.state c.loop-i.stores) (g.R.Registry.state c.dump.new.stores) c.loop-i.invariant.goes c.loop-i.invariant.known c.in_ok-rows.ensures.known
