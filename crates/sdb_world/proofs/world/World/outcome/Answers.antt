use Rattle.std.proofs.Common.{◌≡◌, List, subst, sym}
use Rattle.std.specs.Prelude.{All, Contains}
use Rattle.sdb_world.specs.Types.{Event, Point, Table, TxId}
use Rattle.sdb_model.specs.Transactions.{point}
use Rattle.sdb_contents.proofs.Public.{coordinator_fit, fit_for_before, odd_before, passed, recorded_later, refused_as}
use Rattle.sdb_record.specs.Coordinator.{coordinator_table}
use Rattle.sdb_contents.specs.Held.{AreDumpsWhereKnown, AreWellFormedWhereKnown, IsOddIn}
use Rattle.sdb_contents.specs.Board.{AreUsable, known_before, contents_of_views}
use Rattle.law_runs.specs.Order.{HasRisen}
use Rattle.sdb_world.proofs.Explained.{played_explained}
use Rattle.sdb_model.specs.Catalogs.{catalog_after}
use Rattle.sdb_world.proofs.Outcomes.{outcome_run, outcome_sound, usable_after}
use Rattle.sdb_world.proofs.world.World.outcome.Goals as goal

pub returns-in_err-recorded-clause-err : goal.returns-in_err-recorded-clause-err
returns-in_err-recorded-clause-err g c =
    let old = g.R.Registry.state c.args.stores.now in
    let new = g.R.Registry.state c.closing_dump.new.stores in
    let catalog = c.into_parts-catalog.result.1 in
    let stopped = c.in_err-recorded.ensures in
    passed _ c.from_residual.result c.in_err-recorded.field-0.0 c.from_residual.ensures.1
    (refused_as _ _ _ _ c.in_err-recorded.field-0.0
    (λ key odd opening on. outcome_sound (λ (ts : List Table). AreUsable ts old) c.args.self c.requires.world opening (contents_of_views old.views) (contents_of_views old.views) old.places catalog c.into_parts-catalog.ensures.catalog (usable_after c.args.self.script.catalog c.args.self.events old) key (λ fit. odd_before old new stopped.goes stopped.known catalog key fit (stopped.still fit) odd) on.fit on.as_placed on.ran)
    (λ h. h) c.in_err-recorded.ensures.err)

pub returns-clause-run : goal.returns-clause-run
returns-clause-run g c =
    let old = g.R.Registry.state c.args.stores.now in
    let catalog = c.into_parts-catalog.result.1 in
    let read = c.in_ok-recorded.ensures in
    let order = c.in_ok-order.order in
    let rose : HasRisen c.as_slice.result.now c.as_slice-2.result.now order = record { points = c.in_ok-order.ensures.points; rising = c.in_ok-order.ensures.rising; among = c.in_ok-order.ensures.among; whole = c.in_ok-order.ensures.ids } in
    let risen = subst (λ (es : List Event). HasRisen es c.in_ok-recorded.field-0.recorded order) c.as_slice.ensures (subst (λ (ids : List TxId). HasRisen c.as_slice.result.now ids order) c.as_slice-2.ensures rose) in
    λ opening on.
    outcome_run (λ (ts : List Table). AreUsable ts old) c.args.self c.requires.world opening (contents_of_views old.views) (contents_of_views (g.R.Registry.state c.closing_dump.new.stores).views) old.places catalog c.into_parts-catalog.ensures.catalog (usable_after c.args.self.script.catalog c.args.self.events old)
    c.into_parts-catalog.result.2 c.in_ok-recorded.field-0.recorded order c.in_ok-recorded.field-0.tables c.into_parts-catalog.ensures.events
    (record { printed = read.tables; each = λ fit. read.recorded (coordinator_fit catalog old fit); small = read.small; still = read.still }) risen on.fit on.as_placed on.ran

pub returns-clause-explained : goal.returns-clause-explained
returns-clause-explained g c =
    λ opening ran. played_explained c.args.self c.requires.world c.into_parts-catalog.result.2 c.into_parts-catalog.ensures.events opening (contents_of_views (g.R.Registry.state c.args.stores.now).views) ran

pub returns-clause-read : goal.returns-clause-read
returns-clause-read g c =
    let old = g.R.Registry.state c.args.stores.now in
    let new = g.R.Registry.state c.closing_dump.new.stores in
    let read = c.in_ok-recorded.ensures in
    let order = c.in_ok-order.order in
    let events : c.as_slice.result.now ≡ c.into_parts-catalog.result.2 = c.as_slice.ensures in
    let catalog : c.into_parts-catalog.result.1 ≡ catalog_after c.args.self.script.catalog c.args.self.events = c.into_parts-catalog.ensures.catalog in
    record {
      points = subst (λ (es : List Event). All (λ (p : Point). p.event ≡ point es p.id) order) events c.in_ok-order.ensures.points;
      rising = c.in_ok-order.ensures.rising;
      recorded = λ fit id among.
          let listed = subst (λ (ids : List TxId). Contains ids id) c.as_slice-2.ensures (c.in_ok-order.ensures.among id among).0 in
          recorded_later old new read.goes read.known id fit ((read.recorded (fit_for_before old new coordinator_table read.goes fit) id (read.small id listed)).0 listed);
      dumped = subst (λ (ts : List Table). AreDumpsWhereKnown ts (known_before old new) c.in_ok-recorded.field-0.tables) catalog read.dumped;
      well_formed = subst (λ (ts : List Table). AreWellFormedWhereKnown ts (known_before old new)) catalog read.well_formed;
    }

pub returns-clause-still : goal.returns-clause-still
returns-clause-still g c =
    let old = g.R.Registry.state c.args.stores.now in
    λ fit. c.in_ok-recorded.ensures.still (subst (λ (ts : List Table). AreUsable ts old) (sym c.into_parts-catalog.ensures.catalog) (usable_after c.args.self.script.catalog c.args.self.events old fit))

pub returns-in_err-order-clause-still : goal.returns-in_err-order-clause-still
returns-in_err-order-clause-still g c =
    let old = g.R.Registry.state c.args.stores.now in
    λ fit. c.in_ok-recorded.ensures.still (subst (λ (ts : List Table). AreUsable ts old) (sym c.into_parts-catalog.ensures.catalog) (usable_after c.args.self.script.catalog c.args.self.events old fit))

pub returns-in_err-recorded-clause-bad : goal.returns-in_err-recorded-clause-bad
returns-in_err-recorded-clause-bad g c =
    let old = g.R.Registry.state c.args.stores.now in
    let new = g.R.Registry.state c.closing_dump.new.stores in
    passed _ c.from_residual.result c.in_err-recorded.field-0.0 c.from_residual.ensures.1
    (refused_as _ _ _ _ c.in_err-recorded.field-0.0
    (λ key odd. subst (λ (ts : List Table). IsOddIn ts (known_before old new) key) c.into_parts-catalog.ensures.catalog odd)
    (λ h. h) c.in_err-recorded.ensures.err)

pub returns-in_err-recorded-clause-still : goal.returns-in_err-recorded-clause-still
returns-in_err-recorded-clause-still g c =
    let old = g.R.Registry.state c.args.stores.now in
    λ fit. c.in_err-recorded.ensures.still (subst (λ (ts : List Table). AreUsable ts old) (sym c.into_parts-catalog.ensures.catalog) (usable_after c.args.self.script.catalog c.args.self.events old fit))
