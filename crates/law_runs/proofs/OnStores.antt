-- Recorded transactions and records on the stores of a script.
use Rattle.std.proofs.Common.{◌≡◌, true, List, [], Option, Some, sym, subst, ◌∙◌}
use Rattle.std.specs.Prelude.{IsSome, IsSomeAnd, is_some}
use Rattle.std.specs.FinMap.{empty}
use Rattle.law_runs.specs.Types.{Decided, Event, Key, Record, Script, Table, TableName, TxId}
use Rattle.sdb_record.specs.declared.coordinator.Decision.TheVariants as decision
use Rattle.sdb_record.specs.Coordinator.{is_coordinator_table}
use Rattle.sdb_model.specs.Events.{stored_at}
use Rattle.sdb_model.specs.Exec.{find_table}
use Rattle.sdb_model.specs.Transactions.{Recorded}
use Rattle.law_protocol.specs.Spread.{relocated_events, one_store}
use Rattle.law_protocol.proofs.Public.{commit_moved, one_stored, point_moved, Single, single}
use Rattle.law_runs.specs.Points.{HavePoints}
use Rattle.law_runs.specs.Stores.{AreSound}
use Rattle.law_runs.proofs.Ended.{decides, starts_empty}
use Rattle.law_runs.proofs.Recorded.{have_points}
use Rattle.law_runs.proofs.Runs.{ByLaws, by_laws}
use Rattle.law_runs.proofs.StoredRecords.{are_known}
use Rattle.sdb_types.proofs.Public.{or_true}
use Rattle.sdb_model.specs.Tables.{is_table_of_run}
use Rattle.law_runs.specs.Traces.{TraceOnStores}

rows_played : (catalog : List Table) (table : TableName) → is_coordinator_table table ≡ true → is_table_of_run catalog table ≡ true
rows_played catalog table h = rw h (or_true (is_some (find_table catalog table)))

module _ (script : Script) (t : TraceOnStores script) where
  abbrev moved : List Event
  moved = relocated_events (λ ns. t.running.name) t.running.events

  abbrev one : Single script.catalog t.running.name script.places t.running.events empty t.closing
  one = single t.running.name t.running.events t.opening t.labelled.moments t.closing t.labelled.traced t.labelled.about t.labelled.nothing

  laws : ByLaws [] moved (one_store t.running.name empty) (one_store t.running.name one.last)
  laws = by_laws script.catalog t.running.fit moved t.running.sys t.running.doing [] (one_store t.running.name empty) (one_store t.running.name one.last) one.singles t.running.running one.traced (starts_empty t.running.name)

  recorded_there : (id : TxId) → Recorded script.places t.closing id → Recorded [] (one_store t.running.name one.last) id
  recorded_there id h = subst (λ (d : Option Decided). IsSomeAnd d (λ d. d.decision ≡ decision.Committed)) (decides script.catalog script.places t.closing t.running.name one.last one.same id) h

  pub points_on_stores : HavePoints script.places t.running.events t.closing
  points_on_stores =
      let h = have_points [] moved (one_store t.running.name empty) (one_store t.running.name one.last) laws in
      record {
        accepted = λ id small r. subst IsSome (commit_moved (λ ns. t.running.name) t.running.events id) (h.accepted id small (recorded_there id r));
        some = λ id small r none. h.some id small (recorded_there id r) (point_moved (λ ns. t.running.name) t.running.events id ∙ none);
        apart = λ id other small low r q differ same. h.apart id other small low (recorded_there id r) (recorded_there other q) differ (point_moved (λ ns. t.running.name) t.running.events id ∙ same ∙ sym (point_moved (λ ns. t.running.name) t.running.events other));
      }

  stands_there : (k : Key) (r : Record) → is_table_of_run script.catalog k.table ≡ true → stored_at script.places t.closing k ≡ Some r → stored_at [] (one_store t.running.name one.last) k ≡ Some r
  stands_there k r about h = one_stored t.running.name one.last k ∙ sym (one.same.at k about) ∙ h

  pub sound_on_stores : AreSound script.catalog script.places t.closing
  sound_on_stores =
      let h = are_known [] moved (one_store t.running.name empty) (one_store t.running.name one.last) laws in
      record {
        accepted = λ k r about of_data agrees. h.accepted k r of_data (stands_there k r about agrees);
        rows = λ k row of_rows agrees. h.rows k row of_rows (stands_there k row (rows_played script.catalog k.table of_rows) agrees);
      }
