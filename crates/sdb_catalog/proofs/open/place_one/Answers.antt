use Rattle.std.proofs.Common.{◌∙◌, [], ◌∷◌, ◌++◌, List, ℕ, sym, ap, Err}
use Rattle.std.specs.Prelude.{is_some}
use Rattle.sdb_stores.specs.Views.{names_of, route_of}
use Rattle.sdb_catalog.proofs.Opening.{attached_placed, placed_one, placed_known, with_place}
use Rattle.sdb_catalog.proofs.open.place_one.Goals as goal

pub unreachable-requires : goal.unreachable-requires
unreachable-requires g c =
    attached_placed (names_of (g.R.Registry.state c.args.stores.now).views) c.args.entry.now.store c.requires.attached (c.place.ensures.no_store.0 (c.in-Err-NoStore.is ∙ ap Err c.in-Err-NoStore.field-0-is))

pub returns-in-Ok-clause-ok : goal.returns-in-Ok-clause-ok
returns-in-Ok-clause-ok g c = λ ns.
    ap (route_of ns) (c.in-Ok.ensures.ok.places ∙ ap (λ (n : List ℕ). (g.R.Registry.state c.args.stores.now).places ++ with_place n c.args.entry.now.store ∷ []) c.in_ok-copy.ensures) ∙ placed_one (g.R.Registry.state c.args.stores.now).places c.args.entry.now ns

pub returns-in-Err-AlreadyPlaced-clause-ok : goal.returns-in-Err-AlreadyPlaced-clause-ok
returns-in-Err-AlreadyPlaced-clause-ok g c = λ ns.
    let known = (c.place.ensures.placed.0 (c.in-Err-AlreadyPlaced.is ∙ ap Err c.in-Err-AlreadyPlaced.field-0-is)).1 in
    ap (route_of ns) c.in-Err-AlreadyPlaced.ensures.err.places ∙ placed_known (g.R.Registry.state c.args.stores.now).places c.args.entry.now ns (ap (λ (n : List ℕ). is_some (route_of n (g.R.Registry.state c.args.stores.now).places)) (sym c.in_ok-copy.ensures) ∙ known)
