-- What is there at every moment is explained by the events of a world.
use Rattle.std.proofs.Common.{◌≡◌, List, [], ◌∷◌, ◌++◌, refl, sym, ap, subst, ◌∙◌}
use Rattle.std.specs.Prelude.{OnOk, Result, Ok, Err}
use Rattle.std.specs.FinMap.{empty}
use Rattle.sdb_world.specs.Types.{Act, Event, Place, Script}
use Rattle.sdb_model.specs.Events.{Effect, IsTrace, StoreContents}
use Rattle.sdb_model.specs.Explained.{Explained, AreTransactional}
use Rattle.sdb_model.specs.InFlight.{FlightsExplained}
use Rattle.law_protocol.specs.Spread.{HoldAs}
use Rattle.sdb_stores.specs.Views.{Attached}
use Rattle.sdb_contents.specs.Board.{contents_of_views}
use Rattle.law_runs.proofs.Public.{invariant_explains_flights, invariant_is_explained, invariant_is_accepted, invariant_on_one, lone_effect, no_coordinator}
use Rattle.sdb_client.specs.Execution.{IsExecution, IsReachedBy}
use Rattle.law_runs.specs.World.{IsWorld, WorldAt, state_of}
use Rattle.sdb_world.specs.Ran.{HasRun}
use Rattle.sdb_world.specs.Step.{HasCome, IsExecutionStep, IsOne}
use Rattle.sdb_world.specs.Explained.{IsExplained, IsExplainedAfter}
use Rattle.sdb_world.proofs.Acts.{Came}
use Rattle.sdb_client.proofs.Public.{paths_on}
use Rattle.sdb_world.proofs.Goes.{traces_on}

pub world_explained : (w : WorldAt) → IsWorld w → IsExecution w.script w.events → (places : List Place) (opening closing : List StoreContents) (moments : List (List StoreContents)) → HoldAs w.script.catalog places opening empty → IsTrace places w.events opening moments closing → Explained w.script.catalog places w.events opening moments
world_explained w h x places opening closing moments nothing traced =
    invariant_is_explained (record { catalog = w.script.catalog; running = invariant_on_one w.script w.events h.playable x; apart = no_coordinator w.script h.playable; places = places; opening = opening; closing = closing; moments = moments; trace = traced; about = h.about; nothing = nothing })

world_taken : (w : WorldAt) → IsWorld w → IsExecution w.script w.events → (places : List Place) (opening closing : List StoreContents) (moments : List (List StoreContents)) → HoldAs w.script.catalog places opening empty → IsTrace places w.events opening moments closing → AreTransactional w.script.catalog places opening moments
world_taken w h x places opening closing moments nothing traced =
    invariant_is_accepted (record { catalog = w.script.catalog; running = invariant_on_one w.script w.events h.playable x; apart = no_coordinator w.script h.playable; places = places; opening = opening; closing = closing; moments = moments; trace = traced; about = h.about; nothing = nothing })

world_flights : (w : WorldAt) → IsWorld w → IsExecution w.script w.events → (places : List Place) (opening closing : List StoreContents) (moments : List (List StoreContents)) → HoldAs w.script.catalog places opening empty → IsTrace places w.events opening moments closing → FlightsExplained w.script.catalog places w.events opening moments
world_flights w h x places opening closing moments nothing traced =
    invariant_explains_flights (record { catalog = w.script.catalog; running = invariant_on_one w.script w.events h.playable x; apart = no_coordinator w.script h.playable; places = places; opening = opening; closing = closing; moments = moments; trace = traced; about = h.about; nothing = nothing })

-- a world that has played its script
pub played_explained : (w : WorldAt) → IsWorld w → (events : List Event) → events ≡ w.events → (opening closing : List StoreContents) → HasRun w opening closing → IsExplained w.script events opening
played_explained w h events same opening closing p moments end traced = record {
  explained = subst (λ (es : List Event). Explained w.script.catalog w.script.places es opening moments) (sym same) (world_explained w h p.executed w.script.places opening end moments p.nothing on);
  accepted = world_taken w h p.executed w.script.places opening end moments p.nothing on;
  flights = subst (λ (es : List Event). FlightsExplained w.script.catalog w.script.places es opening moments) (sym same) (world_flights w h p.executed w.script.places opening end moments p.nothing on);
}
  where
    on : IsTrace w.script.places w.events opening moments end
    on = subst (λ (es : List Event). IsTrace w.script.places es opening moments end) same traced

-- the events so far and those that came are an execution
execution_more : (old new : Attached) (w v : WorldAt) (es : List Event) → IsReachedBy w.script w.events (state_of w) → IsExecutionStep old new w v es → IsExecution v.script v.events
execution_more old new w v es reached gone =
    subst (λ (xs : List Event). IsExecution v.script xs) (sym gone.events)
    (subst (λ (x : Script). IsExecution x (w.events ++ es)) (sym gone.script) (record {
      first = reached.first;
      last = state_of v;
      initial = reached.initial;
      path = paths_on w.script [] w.events es reached.first (state_of w) (state_of v) reached.path gone.executed;
    }))

-- one event more
pub came_explained : (old new : Attached) (w v : WorldAt) (a : Act) → Came old new w a v → IsExplainedAfter old new w v
came_explained old new w v a (h, c) f reached opening moments nothing traced =
    let e : Event = c.so.event in
    let places : List Place = old.places in
    let before : List StoreContents = contents_of_views old.views in
    let now : List StoreContents = contents_of_views new.views in
    let s = c.gone.traced f in
    let effect : Effect places e before now = lone_effect places e before now s.0 (subst (λ (es : List Event). IsTrace places es before s.0 now) c.so.lone s.1) in
    let events : v.events ≡ w.events ++ e ∷ [] = c.gone.events ∙ ap (λ (es : List Event). w.events ++ es) c.so.lone in
    let on : IsTrace places v.events opening (moments ++ now ∷ []) now =
    subst (λ (es : List Event). IsTrace places es opening (moments ++ now ∷ []) now) (sym events) (traces_on places w.events (e ∷ []) opening before now moments (now ∷ []) traced (effect, refl)) in
    record {
      traced = on;
      explained = world_explained v h (execution_more old new w v c.es reached c.gone) places opening now (moments ++ now ∷ []) (subst (λ (x : Script). HoldAs x.catalog places opening empty) (sym c.gone.script) nothing) on;
      flights = world_flights v h (execution_more old new w v c.es reached c.gone) places opening now (moments ++ now ∷ []) (subst (λ (x : Script). HoldAs x.catalog places opening empty) (sym c.gone.script) nothing) on;
    }

pub on_explained : {T E : Type 0} (r : Result T E) (old new : Attached) (w v : WorldAt) (a : Act) → OnOk r (IsWorld v) → OnOk r (HasCome (IsOne w.script a w.events) old new w v) → OnOk r (IsExplainedAfter old new w v)
on_explained (Ok x) old new w v a h c = came_explained old new w v a (h, c)
on_explained (Err e) old new w v a h c = tt
