-- Events that are made on several stores are a run on them, where as made on one store they are tied to their clients.
use Rattle.std.proofs.Common.{◌≡◌, List, [], ◌∷◌, Option, refl, sym, ap, subst, ◌∙◌}
use Rattle.std.specs.Prelude.{IsSome, IsSomeAnd, Contains, ◌↔◌, is_some, map, slice_index_or}
use Rattle.std.specs.Option.{option_and_then, option_map}
use Rattle.std.specs.Result.{result_ok}
use Rattle.std.specs.FinMap.{empty, get-empty}
use Rattle.law_runs.specs.Types.{Decided, Event, Pair, Place, Point, Record, Script, Table, TableDump, TxId}
use Rattle.sdb_types.specs.Contents.{Contents, record_of}
use Rattle.sdb_types.specs.Order.{key_cmp}
use Rattle.sdb_record.specs.declared.coordinator.Decision.TheVariants as decision
use Rattle.sdb_record.specs.Coordinator.{coordinator_key_of, decision_in}
use Rattle.sdb_model.specs.declared.event.Event.TheVariants as event
use Rattle.sdb_model.specs.Events.{IsTrace, StoreContents, store_of, table_asked}
use Rattle.sdb_model.specs.Exec.{find_table}
use Rattle.sdb_model.specs.Form.{script_with_places}
use Rattle.sdb_model.specs.Images.{decision_at}
use Rattle.sdb_model.specs.Rows.{Name}
use Rattle.sdb_model.specs.Serial.{IsRun}
use Rattle.sdb_model.specs.Transactions.{IsOrder}
use Rattle.law_protocol.specs.Trace.{StartsEmpty}
use Rattle.law_protocol.proofs.Public.{commit_moved, follows_moved, one_stored, point_moved, run_relocated, single, store_same}
use Rattle.law_clients.proofs.Public.{invariant_is_run}
use Rattle.law_protocol.specs.Spread.{HoldAs, relocated_events, one_store}
use Rattle.sdb_types.proofs.Public.{or_true}
use Rattle.law_runs.specs.Traces.{EndOnStores, outcome_on}

---- back to the stores of their tables

-- calls that are moved to one store, and then to those of their tables, are as they were
put_back : (name : Name) (places : List Place) (at : Name → Name) (events : List Event) (before : List StoreContents) (moments : List (List StoreContents)) (closing : List StoreContents) → ((ns : Name) → store_of places before ns ≡ at ns) → IsTrace places events before moments closing
    → relocated_events at (relocated_events (λ ns. name) events) ≡ events
put_back name places at [] before moments closing same t = refl
put_back name places at (e ∷ es) before [] closing same t = absurd t
put_back name places at (event.Take client text answer ∷ es) before (s ∷ ss) closing same t =
    ap (λ (x : List Event). event.Take client text answer ∷ x) (put_back name places at es s ss closing (λ ns. ap (λ (y : List StoreContents). store_of places y ns) t.0 ∙ same ns) t.1)
put_back name places at (event.Stop client ∷ es) before (s ∷ ss) closing same t =
    ap (λ (x : List Event). event.Stop client ∷ x) (put_back name places at es s ss closing (λ ns. ap (λ (y : List StoreContents). store_of places y ns) t.0 ∙ same ns) t.1)
put_back name places at (event.Clock moment ∷ es) before (s ∷ ss) closing same t =
    ap (λ (x : List Event). event.Clock moment ∷ x) (put_back name places at es s ss closing (λ ns. ap (λ (y : List StoreContents). store_of places y ns) t.0 ∙ same ns) t.1)
put_back name places at (event.Idle client ∷ es) before (s ∷ ss) closing same t =
    ap (λ (x : List Event). event.Idle client ∷ x) (put_back name places at es s ss closing (λ ns. ap (λ (y : List StoreContents). store_of places y ns) t.0 ∙ same ns) t.1)
put_back name places at (event.Alter table column kind altered ∷ es) before (s ∷ ss) closing same t =
    ap (λ (x : List Event). event.Alter table column kind altered ∷ x) (put_back name places at es s ss closing (λ ns. ap (λ (y : List StoreContents). store_of places y ns) t.0 ∙ same ns) t.1)
put_back name places at (event.Call client store q how r answer ∷ es) before (s ∷ ss) closing same t =
    let c = t.0 in
    let rest = put_back name places at es s ss closing (λ ns. ap (λ (y : List StoreContents). store_of places y ns) c.others ∙ store_same places before store c.left ns ∙ same ns) t.1 in
    let there : at (table_asked q).ns ≡ store = sym (c.placed ∙ same (table_asked q).ns) in
    ap (λ (n : Name). event.Call client n q how r answer ∷ relocated_events at (relocated_events (λ ns. name) es)) there ∙ ap (λ (x : List Event). event.Call client store q how r answer ∷ x) rest
put_back name places at (event.Land number store q how r ∷ es) before (s ∷ ss) closing same t =
    let c = t.0 in
    let rest = put_back name places at es s ss closing (λ ns. ap (λ (y : List StoreContents). store_of places y ns) c.others ∙ store_same places before store c.left ns ∙ same ns) t.1 in
    let there : at (table_asked q).ns ≡ store = sym (c.placed ∙ same (table_asked q).ns) in
    ap (λ (n : Name). event.Land number n q how r ∷ relocated_events at (relocated_events (λ ns. name) es)) there ∙ ap (λ (x : List Event). event.Land number store q how r ∷ x) rest

---- the order

pub decides : (catalog : List Table) (places : List Place) (closing : List StoreContents) (name : Name) (m : Contents) → HoldAs catalog places closing m → (id : TxId) → decision_at places closing id ≡ decision_at [] (one_store name m) id
unfolding coordinator_key_of
decides catalog places closing name m h id =
    ap (option_and_then (λ (row : Record). result_ok (decision_in row))) (h.at (coordinator_key_of id) (or_true (is_some (find_table catalog (coordinator_key_of id).table))) ∙ sym (one_stored name m (coordinator_key_of id)))

order_on_one : (at : Name → Name) (catalog : List Table) (places : List Place) (closing : List StoreContents) (name : Name) (m : Contents) (events : List Event) (order : List Point) → HoldAs catalog places closing m → IsOrder places events closing order
    → IsOrder [] (relocated_events at events) (one_store name m) order
order_on_one at catalog places closing name m events order h o = record {
  recorded = λ id small. subst (λ (d : Option Decided). Contains (map (λ (p : Point). p.id) order) id ↔ IsSomeAnd d (λ d. d.decision ≡ decision.Committed)) (decides catalog places closing name m h id) (o.recorded id small);
  points = λ k d low. o.points k d low ∙ sym (point_moved at events (slice_index_or order k d).id);
  rising = o.rising;
  accepted = λ k d low. subst IsSome (sym (commit_moved at events (slice_index_or order k d).id)) (o.accepted k d low);
}

---- the whole

pub starts_empty : (name : Name) → StartsEmpty [] (one_store name empty)
starts_empty name key = one_stored name empty key ∙ ap (λ (o : Option (List Pair)). option_map (λ (columns : List Pair). record_of (key, columns)) o) (get-empty key_cmp key)

pub invariant_is_run_on_stores : (script : Script) (e : EndOnStores script) → (tables : List TableDump) × IsRun script e.opening e.closing (outcome_on e tables)
invariant_is_run_on_stores script e =
    let alone : Script = script_with_places script [] in
    let moved : List Event = relocated_events (λ ns. e.running.name) e.running.events in
    let s = single e.running.name e.running.events e.opening e.ends.moments e.closing e.ends.traced e.ends.about e.ends.nothing in
    let ran = invariant_is_run alone (record { fit = e.running.fit; events = moved; sys = e.running.sys; doing = e.running.doing; opening = one_store e.running.name empty; closing = one_store e.running.name s.last; moments = s.singles; order = e.order; fitting = e.fitting; running = e.running.running; follows = follows_moved (λ ns. e.running.name) script e.running.events e.ends.follows; traced = s.traced; empty = starts_empty e.running.name; ordered = order_on_one (λ ns. e.running.name) script.catalog script.places e.closing e.running.name s.last e.running.events e.order s.same e.ends.ordered; ids = e.ends.small }) in
    let at : Name → Name = store_of script.places e.opening in
    let back : relocated_events at moved ≡ e.running.events = put_back e.running.name script.places at e.running.events e.opening e.ends.moments e.closing (λ ns. refl) e.ends.traced in
    let there = run_relocated (record { script = alone; name = e.running.name; held_before = empty; held_after = s.last; outcome = record { events = moved; order = e.order; tables = ran.0 }; no_places = refl; run = ran.1; places = script.places; at = at; opening = e.opening; closing = e.closing; moments = e.ends.moments; trace = subst (λ (es : List Event). IsTrace script.places es e.opening e.ends.moments e.closing) (sym back) e.ends.traced; same = s.same }) in
    (ran.0, subst (λ (es : List Event). IsRun script e.opening e.closing (record { events = es; order = e.order; tables = ran.0 })) back there)
