use Rattle.std.proofs.Common.{◌∙◌, List, sym, subst}
use Rattle.std.specs.Prelude.{IsSome}
use Rattle.sdb_stores.specs.Views.{StoreView, names_of, place_of}
use Rattle.sdb_app.proofs.Placing.{attached_at, free_at, placed_more}
use Rattle.sdb_app.proofs.places.route_all.Goals as goal

pub place-requires-clause-attached : goal.place-requires-clause-attached
place-requires-clause-attached g c =
    let names = names_of (g.R.Registry.state c.args.stores.now).views in
    subst (λ (ss : List StoreView). IsSome (place_of c.place_at.result.now.store (names_of ss))) (sym c.loop-i.invariant.stores) (attached_at names c.args.places.now c.loop-i.i c.place_at.result.now c.requires.fit c.place_at.ensures)

pub place-requires-clause-free : goal.place-requires-clause-free
place-requires-clause-free g c =
    free_at (g.R.Registry.state c.loop-i.stores).places (names_of (g.R.Registry.state c.args.stores.now).views) c.args.places.now c.loop-i.i c.place_at.result.now c.requires.fit c.loop-i.invariant.placed c.place_at.ensures

pub loop-i-preserved : goal.loop-i-preserved
loop-i-preserved g c = record {
  placed = placed_more (g.R.Registry.state c.loop-i.stores).places (g.R.Registry.state c.place.new.stores).places c.args.places.now c.loop-i.i c.place_at.result.now c.place_at.ensures c.loop-i.invariant.placed c.in_ok-place.ensures.places;
  stores = c.place.ensures.stores ∙ c.loop-i.invariant.stores;
  where_known = λ j h. c.place.ensures.where_known j (c.loop-i.invariant.where_known j h);
}
