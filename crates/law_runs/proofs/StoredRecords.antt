-- What is at the keys of tables are transactional records, and what is in the coordinator's table are well formed rows.
use Rattle.std.proofs.Common.{◌≡◌, ◌≢◌, ◌<◌, ◌^◌, ℕ, Bool, true, false, List, take, drop, Option, Some, None, refl, sym, ap, ◌∙◌, subst}
use Rattle.std.specs.Prelude.{◌&&◌, not, IsOk, Result, Ok, Err, is_ok}
use Rattle.std.specs.Option.{option_map}
use Rattle.law_runs.specs.Types.{Decided, Decision, Event, Key, Place, Record, Table}
use Rattle.sdb_types.specs.declared.record.State.TheVariants.{Committed}
use Rattle.sdb_record.specs.Coordinator.{coordinator_key_of, coordinator_row_of, coordinator_table, decision_in, is_coordinator_table}
use Rattle.sdb_record.specs.Meta.{checked, is_in, is_transactional, is_unresolved}
use Rattle.sdb_record.specs.Parts.{are_stored}
use Rattle.sdb_record.proofs.Public.{forward-accepted, prepared-unresolved, row-decision}
use Rattle.sdb_model.specs.Events.{StoreContents, stored_at}
use Rattle.sdb_model.specs.Exec.{find_table}
use Rattle.law_protocol.specs.Explained.{IsRunOf, newest_first}
use Rattle.law_protocol.specs.History.{Final, Held, History, Standing}
use Rattle.law_protocol.specs.Lawful.{Labelled, id}
use Rattle.law_protocol.specs.Plan.{Plan, written}
use Rattle.law_protocol.specs.Records.{record_left_by, record_prepared_by, record_for, write_there}
use Rattle.law_protocol.specs.Trace.{closing, history}
use Rattle.law_protocol.proofs.Public.{apart_from, at_cut, cut, early_run, IsPlanned, accepted_fits, took_is_accepted, Whole, whole_of, writer_accepted, writes_it}
use Rattle.law_runs.specs.Points.{AreKnown}
use Rattle.law_runs.proofs.Others.{only_rows}
use Rattle.law_runs.proofs.Runs.{ByLaws}
use Rattle.sdb_model.specs.Tables.{is_data}
use Rattle.sdb_model.specs.Explained.{AreTransactional}

---- records

held_unresolved : (plan : ℕ → Plan) (t : ℕ) (k : Key) → IsPlanned plan t → t < 2 ^ 128 → written (plan t) k ≢ None → is_unresolved (record_prepared_by plan t k) ≡ true
unfolding record_prepared_by
held_unresolved plan t k planned fits writes = prepared-unresolved (write_there (plan t) k) (id t) (plan t).now (planned.write k (write_there (plan t) k) (writes_it (plan t) k writes)).0 fits planned.moment

firm_taken : (plan : ℕ → Plan) (t : ℕ) (k : Key) → IsPlanned plan t → t < 2 ^ 128 → written (plan t) k ≢ None → is_transactional (record_left_by plan t k) ≡ true
unfolding record_left_by
firm_taken plan t k planned fits writes = forward-accepted (record_prepared_by plan t k) (plan t).now (held_unresolved plan t k planned fits writes) planned.moment

left : (a b : Bool) → (a && b) ≡ true → a ≡ true
left true b h = refl
left false b h = absurd (cc)

right : (a b : Bool) → (a && b) ≡ true → b ≡ true
right true b h = h
right false b h = absurd (cc)

held_taken : (r : Record) → is_unresolved r ≡ true → is_transactional r ≡ true
held_taken r h = left (is_transactional r) (not (is_in Committed r.columns)) h

ok_of : {A E : Type 0} (x : Result A E) → is_ok x ≡ true → IsOk x
ok_of (Ok a) h = refl
ok_of (Err e) h = absurd (cc)

meta_ok : (r : Record) → is_transactional r ≡ true → IsOk (checked r.columns)
meta_ok r h = ok_of (checked r.columns) (right (are_stored r.columns) (is_ok (checked r.columns)) h)

some_is : (x y : Record) → Some x ≡ Some y → x ≡ y
some_is x y e = cc

-- Each record that is there passes the checks.
taken_held : (plan : ℕ → Plan) (places : List Place) (w : History) (past : List Labelled) (store_contents : List StoreContents) → Whole plan places w past store_contents → (k : Key) (r : Record) → is_data k ≡ true → stored_at places store_contents k ≡ Some r → is_transactional r ≡ true
taken_held plan places w past store_contents i k r outside at = by (w.rows k) refl (sym (i.held.records k outside) ∙ at)
  where
    by : (s : Option Standing) → w.rows k ≡ s → option_map (record_for plan k) s ≡ Some r → is_transactional r ≡ true
    by None e h = absurd (cc)
    by (Some (Final t)) e h =
        let writer = i.all.one.firm k t e in
        let accepted = writer_accepted plan w k t i.all.one.accepted writer in
        subst (λ x. is_transactional x ≡ true) (some_is (record_left_by plan t k) r h) (firm_taken plan t k (i.knows.planned t accepted) (accepted_fits w t i.all.one.begun i.knows.fits accepted) writer.1)
    by (Some (Held t)) e h =
        let took_effect = i.all.one.held k t e in
        let accepted = took_is_accepted w t k i.all.one.accepted took_effect in
        let asked = ((i.all.one.took_effect t k).0 took_effect).0 in
        subst (λ x. is_transactional x ≡ true) (some_is (record_prepared_by plan t k) r h) (held_taken (record_prepared_by plan t k) (held_unresolved plan t k (i.knows.planned t accepted) (accepted_fits w t i.all.one.begun i.knows.fits accepted) (i.all.one.asked t k asked)))

-- also at each moment before
pub accepted_at : (plan : ℕ → Plan) (places : List Place) (opening : List StoreContents) (labelled : List Labelled) (moments : List (List StoreContents)) (catalog : List Table) → IsRunOf plan places opening (newest_first labelled) (newest_first moments) → find_table catalog coordinator_table ≡ None → AreTransactional catalog places opening moments
accepted_at plan places opening labelled moments catalog run none n key r low table at =
    let c = cut plan places opening labelled moments n run low in
    let first = early_run plan places opening (take n labelled) (drop n labelled) (take n moments) (drop n moments) c.same c.whole in
    taken_held plan places (history plan places opening (newest_first (take n labelled)) (newest_first (take n moments))) (newest_first (take n labelled)) (closing opening (newest_first (take n moments)))
    (whole_of plan places opening (newest_first (take n labelled)) (newest_first (take n moments)) first) key r ((apart_from catalog none).outside key table) (ap (λ s. stored_at places s key) (sym (at_cut opening moments n c.size)) ∙ at)

module _ (places : List Place) (events : List Event) (opening end : List StoreContents) (b : ByLaws places events opening end) where
  whole : Whole b.plan places (history b.plan places opening (newest_first b.labelled) b.held) (newest_first b.labelled) (closing opening b.held)
  whole = whole_of b.plan places opening (newest_first b.labelled) b.held b.run

  record_taken : (k : Key) (r : Record) → is_data k ≡ true → stored_at places end k ≡ Some r → is_transactional r ≡ true
  record_taken k r outside at = taken_held b.plan places (history b.plan places opening (newest_first b.labelled) b.held) (newest_first b.labelled) (closing opening b.held) whole k r outside (ap (λ s. stored_at places s k) b.end_is ∙ at)

  row_ok : (t : ℕ) (row : Record) → t < 2 ^ 128 → stored_at places end (coordinator_key_of (id t)) ≡ Some row → IsOk (decision_in row)
  row_ok t row fits at = by ((history b.plan places opening (newest_first b.labelled) b.held).row t) refl (sym (whole.held.rows t fits) ∙ ap (λ s. stored_at places s (coordinator_key_of (id t))) b.end_is ∙ at)
    where
      w : History
      w = history b.plan places opening (newest_first b.labelled) b.held

      by : (o : Option Decision) → (history b.plan places opening (newest_first b.labelled) b.held).row t ≡ o → option_map (λ d. coordinator_row_of (id t) d ((history b.plan places opening (newest_first b.labelled) b.held).moment t)) o ≡ Some row → IsOk (decision_in row)
      by None e h = absurd (cc)
      by (Some d) e h = subst (λ x. IsOk (decision_in x)) (some_is (coordinator_row_of (id t) d (w.moment t)) row h) (subst (λ (x : Result Decided (List ℕ)). IsOk x) (sym (row-decision (id t) d (w.moment t) fits ((whole.knows.moments t).some (λ n. apart (sym e ∙ n))))) refl)
        where
          apart : Some d ≡ None → ⊥
          apart x = absurd (cc)

  each_row : (k : Key) (row : Record) → is_coordinator_table k.table ≡ true → stored_at places end k ≡ Some row → IsOk (decision_in row)
  each_row k row of_rows at =
      let key = only_rows b.plan places opening (newest_first b.labelled) b.held k row b.run.empty b.run.lawful b.run.traced (ap not of_rows) (ap (λ s. stored_at places s k) b.end_is ∙ at) in
      row_ok key.t row key.fits (ap (stored_at places end) (sym key.same) ∙ at)

  pub are_known : AreKnown places end
  are_known = record {
    accepted = record_taken;
    meta = λ k r outside at. meta_ok r (record_taken k r outside at);
    rows = each_row;
  }
