-- Each beginning of an execution is an execution, and so what is explained at its end is explained at every moment.
use Rattle.std.proofs.Common.{◌≡◌, ℕ, zero, suc, List, [], ◌∷◌, ◌++◌, Option, Some, None, refl, sym, ap, subst}
use Rattle.std.specs.Prelude.{drop, is_some, take}
use Rattle.std.specs.FinMap.{empty}
use Rattle.sdb_types.proofs.Public.{clash}
use Rattle.sdb_record.specs.Coordinator.{coordinator_table}
use Rattle.law_runs.specs.Types.{Event, Place, Script, Table}
use Rattle.sdb_model.specs.Events.{IsTrace, StoreContents, moment}
use Rattle.sdb_model.specs.Exec.{find_table}
use Rattle.sdb_model.specs.Explained.{Explained}
use Rattle.law_protocol.proofs.Public.{half}
use Rattle.law_protocol.specs.Spread.{HoldAs}
use Rattle.law_runs.specs.Stores.{AreSound}
use Rattle.law_runs.proofs.Explains.{invariant_is_explained}
use Rattle.law_runs.proofs.OnStores.{sound_on_stores}
use Rattle.law_clients.specs.Fitting.{tables_are_well_typed}
use Rattle.law_clients.specs.States.{doing_of, system_of}
use Rattle.sdb_client.specs.Execution.{IsExecution, IsPath, IsPlayable, State}
use Rattle.law_runs.specs.Linked.{one_name}
use Rattle.law_runs.specs.World.{states_of}
use Rattle.law_runs.proofs.Steps.{execution_about, execution_linked}
use Rattle.law_runs.specs.Traces.{InvariantOnOne}

-- the first steps of a path
record IsFront (script : Script) (past : List Event) (s : State) (es : List Event) : Type 0 where
  last : State
  path : IsPath script past s es last

front_of : (script : Script) (past es more : List Event) (s t : State) → IsPath script past s (es ++ more) t → IsFront script past s es
front_of script past [] more s t h = record { last = s; path = refl }
front_of script past (e ∷ es) more s t h = let f = front_of script (past ++ e ∷ []) es more h.0 t h.2 in record { last = f.last; path = (h.0, h.1, f.path) }

pub begins_execution : (script : Script) (events : List Event) (n : ℕ) → IsExecution script events → IsExecution script (take n events)
begins_execution script events n x =
    let f = front_of script [] (take n events) (drop n events) x.first x.last (subst (λ (es : List Event). IsPath script [] x.first es x.last) (half n events) x.path) in
    record { first = x.first; last = f.last; initial = x.initial; path = f.path }

-- what the stores held after the first events
trace_front : (places : List Place) (n : ℕ) (es : List Event) (opening : List StoreContents) (ms : List (List StoreContents)) (closing : List StoreContents) → IsTrace places es opening ms closing → IsTrace places (take n es) opening (take n ms) (moment opening ms n)
trace_front places zero es opening ms closing h = refl
trace_front places (suc n) [] opening [] closing h = refl
trace_front places (suc n) [] opening (m ∷ ms) closing h = absurd h
trace_front places (suc n) (e ∷ es) opening [] closing h = absurd h
trace_front places (suc n) (e ∷ es) opening (m ∷ ms) closing h = (h.0, trace_front places n es m ms closing h.1)

pub no_coordinator : (script : Script) → IsPlayable script → find_table script.catalog coordinator_table ≡ None
no_coordinator script p = by (find_table script.catalog coordinator_table) refl
  where
    by : (o : Option Table) → find_table script.catalog coordinator_table ≡ o → find_table script.catalog coordinator_table ≡ None
    by None e = e
    by (Some t) e = clash (sym (p.apart (record { table = coordinator_table; partition = []; clustering = [] }) (ap is_some e)))

-- the run invariant of an execution's events, as made on one store
abbrev pub invariant_on_one : (script : Script) (events : List Event) → IsPlayable script → IsExecution script events → InvariantOnOne script.catalog
invariant_on_one script events playable x = record { name = one_name; fit = tables_are_well_typed; events = events; sys = system_of (states_of x.last.client_slots); doing = doing_of (states_of x.last.client_slots); running = execution_linked script events playable x }

-- What there is after so many events is explained by them.
pub explained_at : (script : Script) (events : List Event) (opening closing : List StoreContents) (moments : List (List StoreContents)) (n : ℕ) → IsPlayable script → IsExecution script events → IsTrace script.places events opening moments closing → HoldAs script.catalog script.places opening empty → Explained script.catalog script.places (take n events) opening (take n moments)
explained_at script events opening closing moments n playable x trace nothing =
    let y : IsExecution script (take n events) = begins_execution script events n x in
    invariant_is_explained (record { catalog = script.catalog; running = invariant_on_one script (take n events) playable y; apart = no_coordinator script playable; places = script.places; opening = opening; closing = moment opening moments n; moments = take n moments; trace = trace_front script.places n events opening moments closing trace; about = execution_about script (take n events) playable y; nothing = nothing })

-- Each record that is there after so many events passes the checks.
pub sound_at : (script : Script) (events : List Event) (opening closing : List StoreContents) (moments : List (List StoreContents)) (n : ℕ) → IsPlayable script → IsExecution script events → IsTrace script.places events opening moments closing → HoldAs script.catalog script.places opening empty → AreSound script.catalog script.places (moment opening moments n)
sound_at script events opening closing moments n playable x trace nothing =
    let y : IsExecution script (take n events) = begins_execution script events n x in
    sound_on_stores script (record { running = invariant_on_one script (take n events) playable y; opening = opening; closing = moment opening moments n; labelled = record { moments = take n moments; traced = trace_front script.places n events opening moments closing trace; about = execution_about script (take n events) playable y; nothing = nothing } })
