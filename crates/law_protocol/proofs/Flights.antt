-- At every moment of a run, in terms of the model: what holds of the requests in flight, and of what recorded transactions asked.
use Rattle.std.proofs.Common.{◌≡◌, ◌≢◌, ◌⊎◌, ℕ, ℤ, ◌<◌, ◌≤◌, ◌^◌, Bool, true, false, List, [], ◌∷◌, ◌++◌, length, map, take, drop, Option, Some, None, inl, inr, refl, sym, ap, subst, ◌∙◌, arith}
use Rattle.std.specs.Prelude.{Contains, IsSomeAnd, Ok, Result, if◌then◌else◌, slice_get}
use Rattle.std.specs.Option.{option_map, option_map_or}
use Rattle.std.proofs.lemmas.List.{take-map}
use Rattle.law_protocol.specs.Types.{Condition, Decided, Decision, Key, Reply, Record, Request, State, TxId}
use Rattle.sdb_types.specs.declared.record.Condition.TheVariants as condition
use Rattle.sdb_types.specs.declared.record.Request.TheVariants as ask
use Rattle.sdb_types.specs.declared.record.State.TheVariants as state
use Rattle.sdb_types.specs.Contents.{in_span, record_among, sent}
use Rattle.sdb_types.specs.Order.{same_key}
use Rattle.sdb_types.proofs.Public.{clash, none_some, same_key_decides, same_key_self, some_is}
use Rattle.sdb_record.specs.declared.coordinator.Decision.TheVariants.{Committed, Aborted}
use Rattle.sdb_record.specs.Coordinator.{coordinator_key_of, coordinator_row_of, decision_in, id_of_key}
use Rattle.sdb_record.specs.Among.{version_among}
use Rattle.sdb_record.specs.Meta.{is_committed, is_in}
use Rattle.sdb_record.specs.Moved.{is_unchanged}
use Rattle.sdb_record.specs.Rolls.{undo}
use Rattle.sdb_record.proofs.Public.{key-of-id, row-decision, row-key}
use Rattle.sdb_model.specs.declared.event.Event.TheVariants as event
use Rattle.sdb_model.specs.declared.event.How.TheVariants.{Seen}
use Rattle.sdb_model.specs.Calls.{is_read, put_by}
use Rattle.sdb_model.specs.Events.{StoreContents, moment}
use Rattle.sdb_model.specs.Explained.{IsAborted, IsTableKey, Observes}
use Rattle.sdb_model.specs.InFlight.{AllApplied, FlightsExplained, IsAskedAt, IsCertainAt, IsCheckedAt, IsInFlightAt, IsOfTombstone, IsOpenAt, IsRollBack, IsRollForward, IsSoundInFlight, PutsRow, RecordedAreWhole, WasAsked}
use Rattle.sdb_model.specs.ReadSet.{KeyRead, ReadItem, SpanRead, version_read}
use Rattle.sdb_model.specs.Requests.{puts_in, records_put}
use Rattle.sdb_model.specs.Tables.{is_data}
use Rattle.sdb_model.specs.Follows.{has_stopped}
use Rattle.sdb_model.specs.Transactions.{Executed, Recorded, begun, client_of, commit_of, ending}
use Rattle.sdb_model.proofs.Public.{only_in, only_put}
use Rattle.law_protocol.specs.Plan.{Plan, number_of, written}
use Rattle.law_protocol.specs.History.{Action, Other, Begins, Takes, Prepares, Checks, Decides, Aborts, Rolls, Removes, Ends, Stops, ProtocolState, History, IsLive, base_of, has_key}
use Rattle.law_protocol.specs.Lawful.{IsUnchanged, Labelled, id, protocol_state}
use Rattle.law_protocol.specs.Records.{record_left_by, record_prepared_by, write_there}
use Rattle.law_protocol.specs.Flight.{HasForm, IsReady, StaysAllowed, prepare_at, roll_forward_at}
use Rattle.law_protocol.specs.Trace.{closing}
use Rattle.law_protocol.specs.Explained.{events_of, newest_first}
use Rattle.law_protocol.specs.Runs.{AgreesOnOpenRun, DataTables, HasReadSets, IsFaithfulRun, IsMomentOf, RunInOrder, WasDelayedBy, contents_at, events_in, history_at, past_at}
use Rattle.law_protocol.proofs.Asked.{IsAcceptedBy, IsCheckMade, accepted_after, accepted_by_stays, all_applied, asked_by, check_made}
use Rattle.law_protocol.proofs.Canon.{held_open}
use Rattle.law_protocol.proofs.Each.{each_among, in_mapped, key_among, sent_among, sent_deletes}
use Rattle.law_protocol.proofs.Current.{deleted_in, noted_at, now_is as clock_is, was_decided}
use Rattle.law_protocol.proofs.Derived.{decision_is, recorded_row, row_recorded}
use Rattle.law_protocol.proofs.Small.{accepted_stays}
use Rattle.law_protocol.proofs.InFlight.{delayed_allowed, flying_was_delayed, lasts_from, order_at, recorded_answered, recorded_undelayed, run_at, whole_at}
use Rattle.law_protocol.proofs.Known.{accepted_fits, firm_key, held_before, held_key, writer_accepted, writes_it}
use Rattle.law_protocol.proofs.Links.{row_is_no_data}
use Rattle.law_protocol.proofs.Moments.{IsApart, apart_from, at_cut, cut, front_moment, half, trace_length, turned_length}
use Rattle.law_protocol.proofs.Points.{in_order}
use Rattle.law_protocol.proofs.Times.{whole_of}
use Rattle.law_protocol.proofs.Settled.{forward_at}
use Rattle.law_protocol.proofs.Unchecked.{got}
use Rattle.law_protocol.proofs.Whole.{Whole}

---- what a request puts

read_puts : {A : Type 0} (q : Request) (r : Record) → is_read q ≡ true → Contains (records_put q) r → A
read_puts q r h among = elim (only_put q r among) [ inl e ↦ by q h e | inr b ↦ clash (sym h ∙ ap is_read b.1) ]
  where
    by : {A : Type 0} (q : Request) → is_read q ≡ true → put_by q ≡ Some r → A
    by (ask.Get key) h e = none_some r e
    by (ask.Scan span) h e = none_some r e
    by (ask.PutIf x c) h e = clash (sym h)
    by (ask.DeleteIf key c) h e = clash (sym h)
    by (ask.PutAll batch) h e = clash (sym h)

put_is : (q : Request) (x r : Record) (c : Condition) → q ≡ ask.PutIf x c → Contains (records_put q) r → r ≡ x
put_is q x r c is among = sym (only_in x r (subst (λ y. Contains (records_put y) r) is among))

delete_puts : {A : Type 0} (q : Request) (r : Record) (key : Key) (c : Condition) → q ≡ ask.DeleteIf key c → Contains (records_put q) r → A
delete_puts q r key c is among = nothing (subst (λ y. Contains (records_put y) r) is among)
  where
    nothing : {A : Type 0} → Contains [] r → A
    nothing h = absurd (omega (arith, h.1))

-- a key whose state was found is among those that are rolled
found_key : (ks : List Key) (found : List (Key × State)) (x : Key × State) → ks ≡ map (λ (y : Key × State). y.0) found → Contains found x → has_key ks x.0 ≡ true
found_key ks found x keys h = key_among ks x.0 (subst (λ qs. Contains qs x.0) (sym keys) (in_mapped (λ (y : Key × State). y.0) found x h))

-- a row is no record of a table
row_no_data : {A : Type 0} (t : TxId) (r : Record) (k : Key) → r.key ≡ coordinator_key_of t → r.key ≡ k → is_data k ≡ true → A
row_no_data t r k row at stored = clash (sym stored ∙ ap is_data (sym at ∙ row) ∙ row_is_no_data t.0)

-- a read is no delete, nor is a put
read_deletes : {A : Type 0} (q : Request) (key : Key) (c : Condition) → is_read q ≡ true → q ≡ ask.DeleteIf key c → A
read_deletes q key c h is = clash (sym h ∙ ap is_read is)

put_deletes : {A : Type 0} (q : Request) (x : Record) (c d : Condition) (key : Key) → q ≡ ask.PutIf x c → q ≡ ask.DeleteIf key d → A
put_deletes q x c d key is del = none_some x (sym (ap put_by (sym is ∙ del)))

deletes_same : (k key : Key) (t i : TxId) (s st : State) (q : Request) → q ≡ ask.DeleteIf k (condition.Version t s) → q ≡ ask.DeleteIf key (condition.Version i st) → (k ≡ key) × (t ≡ i) × (s ≡ st)
deletes_same k key t i s st q a b = by (sym a ∙ b)
  where
    by : ask.DeleteIf k (condition.Version t s) ≡ ask.DeleteIf key (condition.Version i st) → (k ≡ key) × (t ≡ i) × (s ≡ st)
    by e = (cc, cc, cc)

---- what a check showed

observed_unchanged : (plan : Plan) (item : ReadItem) (q : Request) (r : Reply) (key : Key) (version : Option TxId) → IsUnchanged plan item q r → version_read item key ≡ Some version → written plan key ≡ None → (found : Option Record) × Observes q r key found × (is_unchanged found version ≡ true)
observed_unchanged plan (KeyRead read) q r key version u says free = by (same_key_decides read.key key)
  where
    seen : read.key ≡ key → read.version ≡ version → (found : Option Record) × Observes q r key found × (is_unchanged found version ≡ true)
    seen at is = (u.0, subst (λ y. Observes y r key u.0) (sym u.1) (subst (λ y. Observes (ask.Get read.key) y key u.0) (sym u.2) (at, refl)), subst (λ v. is_unchanged u.0 v ≡ true) is u.3)

    by : ((same_key read.key key ≡ true) × (read.key ≡ key)) ⊎ ((same_key read.key key ≡ false) × (read.key ≢ key)) → (found : Option Record) × Observes q r key found × (is_unchanged found version ≡ true)
    by (inl e) = seen e.1 (some_is read.version version (sym (ap (λ b. if b then Some read.version else None) e.0) ∙ says))
    by (inr n) = none_some version (sym (ap (λ b. if b then Some read.version else None) n.0) ∙ says)
observed_unchanged plan (SpanRead scan) q r key version u says free = by (in_span scan.span key) refl
  where
    by : (b : Bool) → in_span scan.span key ≡ b → (found : Option Record) × Observes q r key found × (is_unchanged found version ≡ true)
    by true e = (
      record_among u.0 key,
      subst (λ y. Observes y r key (record_among u.0 key)) (sym u.1) (subst (λ y. Observes (ask.Scan scan.span) y key (record_among u.0 key)) (sym u.2) (e, refl)),
      subst (λ v. is_unchanged (record_among u.0 key) v ≡ true) (some_is (version_among scan.found key) version (sym (ap (λ b. if b then Some (version_among scan.found key) else None) e) ∙ says)) (u.3 key e free),
    )
    by false e = none_some version (sym (ap (λ b. if b then Some (version_among scan.found key) else None) e) ∙ says)

---- at a moment

module _ (r : RunInOrder) (d : DataTables) (faithful : IsFaithfulRun r) (are : HasReadSets r) (agrees : AgreesOnOpenRun r) (n : ℕ) (low : IsMomentOf r n) where
  abbrev w : History
  w = history_at r n

  abbrev now : List StoreContents
  now = contents_at r n

  abbrev closed : List StoreContents
  closed = closing r.opening (newest_first (take n r.moments))

  i : Whole r.plan r.places (history_at r n) (past_at r n) (closing r.opening (newest_first (take n r.moments)))
  i = whole_at r n low

  now_is : contents_at r n ≡ closing r.opening (newest_first (take n r.moments))
  now_is = at_cut r.opening r.moments n (cut r.plan r.places r.opening r.labelled r.moments n r.run low).size

  apart : IsApart d.catalog
  apart = apart_from d.catalog d.apart

  talks : protocol_state (past_at r n) ≡ (history_at r n).protocol
  talks = i.knows.talks

  fits_of : (t : ℕ) → w.protocol.accepted t ≡ true → t < 2 ^ 128
  fits_of t h = accepted_fits w t i.all.one.begun i.knows.fits h

  accepted_of : (t : ℕ) (k : Key) → w.protocol.asked t k ≡ true → w.protocol.accepted t ≡ true
  accepted_of t k h = grind (arith, i.all.one.accepted t k 0)

  -- a key that was asked is of a table
  data_of : (t : ℕ) (k : Key) → w.protocol.asked t k ≡ true → is_data k ≡ true
  data_of t k h = ((i.knows.planned t (accepted_of t k h)).write k (write_there (r.plan t) k) (writes_it (r.plan t) k (i.all.one.asked t k h))).1

  -- where a transaction wrote a key and had that acknowledged, it was asked
  asked_of : (t : ℕ) (k : Key) → w.protocol.answered t k ≡ true → w.protocol.asked t k ≡ true
  asked_of t k h = ((i.all.one.took_effect t k).0 ((i.all.one.took_effect t k).1 h).0).0

  was : (t : ℕ) (k : Key) → w.protocol.asked t k ≡ true → WasAsked (id t) (record_prepared_by r.plan t k) (take n (events_in r))
  was t k h =
      let f = asked_by r.plan r.places r.opening (past_at r n) (newest_first (take n r.moments)) t k (run_at r n low) (fits_of t (accepted_of t k h)) (subst (λ (x : ProtocolState). x.asked t k ≡ true) (sym talks) h) in
      (f.0, subst (λ es. Contains es f.0) (order_at r n) f.1, f.2)

  applied : (t : ℕ) → t < 2 ^ 128 → ((k : Key) → w.protocol.asked t k ≡ true → w.protocol.answered t k ≡ true) → AllApplied (id t) (take n (events_in r))
  applied t fits answered = subst (AllApplied (id t)) (order_at r n) (all_applied r.plan r.places r.opening (past_at r n) (newest_first (take n r.moments)) t (run_at r n low) fits answered)

  recorded_now : (t : ℕ) → t < 2 ^ 128 → w.row t ≡ Some Committed → Recorded r.places (contents_at r n) (id t)
  recorded_now t fits row = subst (λ s. Recorded r.places s (id t)) (sym now_is) (row_recorded r.plan r.places w (past_at r n) closed t i fits row)

  aborted_now : (t : ℕ) → t < 2 ^ 128 → w.row t ≡ Some Aborted → IsAborted r.places (contents_at r n) (id t)
  aborted_now t fits row = subst (λ s. IsAborted r.places s (id t)) (sym now_is)
      (subst (λ (x : Option Decided). IsSomeAnd x (λ d. d.decision ≡ Aborted)) (sym (decision_is r.plan r.places w (past_at r n) closed t i fits)) (subst (λ (o : Option Decision). IsSomeAnd (option_map (λ d. record { decision = d; created_at = w.moment t }) o) (λ (d : Decided). d.decision ≡ Aborted)) (sym row) refl))

  ---- what recorded transactions asked

  recorded_whole : RecordedAreWhole r.places (events_in r) r.opening r.moments n
  recorded_whole t fits recorded =
      let row = recorded_row r.plan r.places w (past_at r n) closed t.0 i fits (subst (λ s. Recorded r.places s t) now_is recorded) in
      record {
        applied = applied t.0 fits (λ k h. recorded_answered r n low t.0 k row h);
        landed = λ q f. let x = flying_was_delayed r n f.0 q low f.1 in recorded_undelayed r n t.0 (record { request = q; action = x.action; was = x.was }) low row;
      }

  ---- a COMMITTED row

  -- whose a transaction is, and when its COMMIT was accepted, by the texts
  accepted_by : (t client m : ℕ) → IsAcceptedBy w t client m → (client ≡ client_of (id t)) × IsSomeAnd (commit_of (events_in r) (id t)) (λ s. s.accepted ≤ m)
  accepted_by t client m h = by (subst (λ (x : ProtocolState). (x.accepted t ≡ true) × (x.owner t ≡ client) × (x.accepted_at t ≤ m)) (sym (whole_of r.plan r.places r.opening (newest_first r.labelled) (newest_first r.moments) r.run).knows.talks) (lasts_from r n low (λ v. IsAcceptedBy v t client m) (λ v x done j a f. accepted_by_stays r.plan v x done t client m a f) (λ v u f. f) h))
    where
      found : (o : Option Executed) (x : ℕ) → option_map_or (λ (s : Executed). s.accepted) o 0 ≡ x → 0 < x → x ≤ m → IsSomeAnd o (λ s. s.accepted ≤ m)
      found None x e l u = absurd (less x e l)
        where
          less : (x : ℕ) → 0 ≡ x → 0 < x → ⊥
          less x e l = omega (arith, e, l)
      found (Some s) x e l u = subst (λ y. y ≤ m) (sym e) u

      by : ((protocol_state (newest_first r.labelled)).accepted t ≡ true) × ((protocol_state (newest_first r.labelled)).owner t ≡ client) × ((protocol_state (newest_first r.labelled)).accepted_at t ≤ m) → (client ≡ client_of (id t)) × IsSomeAnd (commit_of (events_in r) (id t)) (λ s. s.accepted ≤ m)
      by x = (sym x.1 ∙ agrees.owned t x.0, found (commit_of (events_in r) (id t)) ((protocol_state (newest_first r.labelled)).accepted_at t) (faithful.accepted t x.0) (accepted_after (newest_first r.labelled) t x.0) x.2)

  version_checked : (t j : ℕ) (item : ReadItem) (key : Key) (version : Option TxId) → IsReady r.plan w.protocol t → slice_get (r.plan t).read_set j ≡ Some item → version_read item key ≡ Some version → written (r.plan t) key ≡ None → IsCheckedAt (events_in r) n (id t) key version
  version_checked t j item key version ready at says free = by (check_made r.plan r.places r.opening (past_at r n) (newest_first (take n r.moments)) t j (run_at r n low) (subst (λ (x : ProtocolState). x.checked t j ≡ true) (sym talks) (ready.checked j key (number_of version) (noted_at (r.plan t) j key item version at says) free)))
    where
      by : IsCheckMade r.plan w (in_order (past_at r n)) t j → IsCheckedAt (events_in r) n (id t) key version
      by c =
          let o = observed_unchanged (r.plan t) c.item c.request c.reply key version c.unchanged (subst (λ x. version_read x key ≡ Some version) (some_is item c.item (sym at ∙ c.item_is)) says) free in
          let a = accepted_by t c.client (length c.front) c.accepted in
          record {
            front = c.front;
            store = c.store;
            request = c.request;
            reply = c.reply;
            answer = c.answer;
            back = c.back;
            found = o.0;
            at = sym (order_at r n) ∙ c.at ∙ ap (λ x. c.front ++ event.Call x c.store c.request Seen c.reply c.answer ∷ c.back) a.0;
            accepted = a.1;
            observed = o.1;
            unchanged = o.2;
          }

  accepted_at_end : (t : ℕ) → w.protocol.accepted t ≡ true → (protocol_state (newest_first r.labelled)).accepted t ≡ true
  accepted_at_end t h = subst (λ (x : ProtocolState). x.accepted t ≡ true) (sym (whole_of r.plan r.places r.opening (newest_first r.labelled) (newest_first r.moments) r.run).knows.talks) (lasts_from r n low (λ v. v.protocol.accepted t ≡ true) (λ v x done j a f. accepted_stays r.plan v x done t f) (λ v u f. f) h)

  certain : (t : ℕ) → IsReady r.plan w.protocol t → IsCertainAt d.catalog (events_in r) n (id t)
  certain t ready = record {
    applied = applied t (fits_of t ready.accepted) (λ k h. ready.prepared k (i.all.one.asked t k h));
    checked = λ item key version among says table.
        let x = (are t (accepted_at_end t ready.accepted) item).1 among in
        by item key version x.0 (got (r.plan t).read_set item x.0 x.1 x.2) says (written (r.plan t) key) refl;
  }
    where
      by : (item : ReadItem) (key : Key) (version : Option TxId) (j : ℕ) → slice_get (r.plan t).read_set j ≡ Some item → version_read item key ≡ Some version → (o : Option (Option ℕ)) → written (r.plan t) key ≡ o → IsAskedAt (take n (events_in r)) (id t) key ⊎ IsCheckedAt (events_in r) n (id t) key version
      by item key version j at says None e = inr (version_checked t j item key version ready at says e)
      by item key version j at says (Some base) e = inl (record_prepared_by r.plan t key, was t key (asked_of t key (ready.prepared key some)), held_key r.plan t key some)
        where
          some : written (r.plan t) key ≢ None
          some z = none_some base (sym z ∙ e)

  row_of : (t : ℕ) (x : TxId) (c : Decision) (m : ℤ) (q : Request) (h : PutsRow x Committed q) → q ≡ ask.PutIf (coordinator_row_of (id t) c m) condition.Absent → h.row ≡ coordinator_row_of (id t) c m
  row_of t x c m q h is = put_is q (coordinator_row_of (id t) c m) h.row condition.Absent is h.puts

  same_row : (t : ℕ) (x : TxId) → t < 2 ^ 128 → x.0 < 2 ^ 128 → coordinator_key_of (id t) ≡ coordinator_key_of x → id t ≡ x
  same_row t x a b e = some_is (id t) x (sym (key-of-id (id t) a) ∙ ap id_of_key e ∙ key-of-id x b)

  committed_row : (q : Request) (action : Action) (x : TxId) → x.0 < 2 ^ 128 → PutsRow x Committed q → HasForm r.plan q action → StaysAllowed r.plan w action → IsCertainAt d.catalog (events_in r) n x
  committed_row q Other x fits h f s = read_puts q h.row f h.puts
  committed_row q (Checks u j) x fits h f s = read_puts q h.row f h.puts
  committed_row q (Prepares u ks word) x fits h f s =
      let p = sent_among (prepare_at r.plan u) ks h.row (subst (λ y. Contains (records_put y) h.row) f.asks h.puts) in
      let asked = (s.1.0 p.0 (key_among ks p.0 p.1)).0 in
      row_no_data x h.row p.0 h.key (ap (λ (y : Record). y.key) p.2 ∙ held_key r.plan u p.0 (i.all.one.asked u p.0 asked)) (data_of u p.0 asked)
  committed_row q (Decides u word) x fits h f s =
      let is = row_of u x Committed (r.plan u).now q h f in
      subst (IsCertainAt d.catalog (events_in r) n) (same_row u x (fits_of u s.0.accepted) fits (sym (row-key (id u) Committed (r.plan u).now) ∙ ap (λ (y : Record). y.key) (sym is) ∙ h.key)) (certain u s.0)
  committed_row q (Aborts u m word) x fits h f s = absurd (differ (ok_is _ _ (sym (row-decision (id u) Aborted m s.0 s.1) ∙ ap decision_in (sym (row_of u x Aborted m q h f)) ∙ h.well_formed)))
    where
      ok_is : (a b : Decided) → ◌≡◌ {A = Result Decided (List ℕ)} (Ok a) (Ok b) → a ≡ b
      ok_is a b e = cc

      differ : record { decision = Aborted; created_at = m } ≡ h.decided → ⊥
      differ e = no (ap (λ (y : Decided). y.decision) e ∙ h.same)
        where
          no : Aborted ≡ Committed → ⊥
          no z = cc
  committed_row q (Rolls u ks Committed) x fits h f s =
      let p = sent_among (roll_forward_at r.plan u) f.found h.row (subst (λ y. Contains (records_put y) h.row) f.asks h.puts) in
      let there = s.3 p.0.0 (found_key ks f.found p.0 f.keys p.1) in
      row_no_data x h.row p.0.0 h.key (ap (λ (y : Record). y.key) p.2 ∙ firm_key r.plan u p.0.0 (i.all.one.asked u p.0.0 there.1)) there.0
  committed_row q (Rolls u [] Aborted) x fits h f s = absurd f
  committed_row q (Rolls u (k ∷ l ∷ ks) Aborted) x fits h f s = absurd f
  committed_row q (Rolls u (k ∷ []) Aborted) x fits h f s = by (base_of (written (r.plan u) k)) refl f.2
    where
      there : (is_data k ≡ true) × (w.protocol.asked u k ≡ true)
      there = s.3 k (same_key_self k)

      by : (v : Option ℕ) → base_of (written (r.plan u) k) ≡ v → q ≡ undo (condition.Version (id u) f.0) k (option_map (λ b. record_left_by r.plan b k) v) → IsCertainAt d.catalog (events_in r) n x
      by None e is = delete_puts q h.row k (condition.Version (id u) f.0) is h.puts
      by (Some b) e is = row_no_data x h.row k h.key (ap (λ (y : Record). y.key) (put_is q (record_left_by r.plan b k) h.row (condition.Version (id u) f.0) is h.puts) ∙ firm_key r.plan b k (i.all.one.base u k b s.2 e).1) there.0
  committed_row q (Removes k u) x fits h f s = delete_puts q h.row k (condition.Version (id u) state.Committed) f h.puts
  committed_row q (Begins u c) x fits h f s = absurd f
  committed_row q (Takes u) x fits h f s = absurd f
  committed_row q (Ends u) x fits h f s = absurd f
  committed_row q (Stops c) x fits h f s = absurd f

  ---- a committed record

  abbrev IsRoll : Request → Record → Type 0
  IsRoll q x = IsRollForward r.places (take n (events_in r)) (contents_at r n) q x ⊎ IsRollBack r.places (take n (events_in r)) (contents_at r n) q x

  rolled : (q : Request) (action : Action) (x : Record) → Contains (records_put q) x → IsTableKey d.catalog x.key → is_in state.Committed x.columns ≡ true → HasForm r.plan q action → StaysAllowed r.plan w action → IsRoll q x
  rolled q Other x among table firm f s = read_puts q x f among
  rolled q (Checks u j) x among table firm f s = read_puts q x f among
  rolled q (Prepares u ks word) x among table firm f s =
      let p = sent_among (prepare_at r.plan u) ks x (subst (λ y. Contains (records_put y) x) f.asks among) in
      clash (sym firm ∙ ap (λ (y : Record). is_in state.Committed y.columns) p.2 ∙ held_open r.plan u p.0)
  rolled q (Decides u word) x among table firm f s =
      row_no_data (id u) x x.key (ap (λ (y : Record). y.key) (put_is q (coordinator_row_of (id u) Committed (r.plan u).now) x condition.Absent f among) ∙ row-key (id u) Committed (r.plan u).now) refl (apart.outside x.key table)
  rolled q (Aborts u m word) x among table firm f s =
      row_no_data (id u) x x.key (ap (λ (y : Record). y.key) (put_is q (coordinator_row_of (id u) Aborted m) x condition.Absent f among) ∙ row-key (id u) Aborted m) refl (apart.outside x.key table)
  rolled q (Rolls u ks Committed) x among table firm f s =
      let p = sent_among (roll_forward_at r.plan u) f.found x (subst (λ y. Contains (records_put y) x) f.asks among) in
      inl (record {
        id = id u;
        prepared = record_prepared_by r.plan u p.0.0;
        when = (r.plan u).now;
        found = p.0.1;
        was = was u p.0.0 (s.3 p.0.0 (found_key ks f.found p.0 f.keys p.1)).1;
        forward = p.2 ∙ sym (forward_at r.plan u p.0.0 (r.plan u).now refl);
        unresolved = each_among (λ (y : Key × State). is_committed y.1 ≡ false) f.found p.0 f.unresolved p.1;
        asked = subst (λ y. Contains (puts_in y) (x, condition.Version (id u) p.0.1)) (sym f.asks) (subst (λ y. Contains (puts_in (sent (map (roll_forward_at r.plan u) f.found))) (y, condition.Version (id u) p.0.1)) (sym p.2) p.3);
        recorded = recorded_now u s.1 s.0;
      })
  rolled q (Rolls u [] Aborted) x among table firm f s = absurd f
  rolled q (Rolls u (k ∷ l ∷ ks) Aborted) x among table firm f s = absurd f
  rolled q (Rolls u (k ∷ []) Aborted) x among table firm f s = by (base_of (written (r.plan u) k)) refl f.2
    where
      asked : w.protocol.asked u k ≡ true
      asked = (s.3 k (same_key_self k)).1

      by : (v : Option ℕ) → base_of (written (r.plan u) k) ≡ v → q ≡ undo (condition.Version (id u) f.0) k (option_map (λ b. record_left_by r.plan b k) v) → IsRoll q x
      by None e is = delete_puts q x k (condition.Version (id u) f.0) is among
      by (Some b) e is =
          let same = put_is q (record_left_by r.plan b k) x (condition.Version (id u) f.0) is among in
          inr (record {
            id = id u;
            prepared = record_prepared_by r.plan u k;
            found = f.0;
            was = was u k asked;
            back = held_before r.plan u k (i.knows.planned u s.2) (i.all.one.asked u k asked) ∙ ap (option_map (λ b. record_left_by r.plan b k)) e ∙ ap Some (sym same);
            unresolved = f.1;
            asked = is ∙ ap (λ y. ask.PutIf y (condition.Version (id u) f.0)) (sym same);
            aborted = aborted_now u s.1 s.0;
          })
  rolled q (Removes k u) x among table firm f s = delete_puts q x k (condition.Version (id u) state.Committed) f among
  rolled q (Begins u c) x among table firm f s = absurd f
  rolled q (Takes u) x among table firm f s = absurd f
  rolled q (Ends u) x among table firm f s = absurd f
  rolled q (Stops c) x among table firm f s = absurd f

  ---- a delete

  -- what deletes is the roll back of a record over none, or a removal
  abbrev IsDelete : Key → TxId → State → Type 0
  IsDelete key t st = ((u : ℕ) × (id u ≡ t) × (is_committed st ≡ false) × (w.row u ≡ Some Aborted) × (u < 2 ^ 128)) ⊎ ((st ≡ state.Committed) × ((u : ℕ) × (id u ≡ t) × StaysAllowed r.plan w (Removes key u)))

  deleted : (q : Request) (action : Action) (key : Key) (t : TxId) (st : State) → q ≡ ask.DeleteIf key (condition.Version t st) → HasForm r.plan q action → StaysAllowed r.plan w action → IsDelete key t st
  deleted q Other key t st is f s = read_deletes q key (condition.Version t st) f is
  deleted q (Checks u j) key t st is f s = read_deletes q key (condition.Version t st) f is
  deleted q (Prepares u ks word) key t st is f s = sent_deletes (map (prepare_at r.plan u) ks) key (condition.Version t st) (sym f.asks ∙ is)
  deleted q (Decides u word) key t st is f s = put_deletes q _ _ (condition.Version t st) key f is
  deleted q (Aborts u m word) key t st is f s = put_deletes q _ _ (condition.Version t st) key f is
  deleted q (Rolls u ks Committed) key t st is f s = sent_deletes (map (roll_forward_at r.plan u) f.found) key (condition.Version t st) (sym f.asks ∙ is)
  deleted q (Rolls u [] Aborted) key t st is f s = absurd f
  deleted q (Rolls u (k ∷ l ∷ ks) Aborted) key t st is f s = absurd f
  deleted q (Rolls u (k ∷ []) Aborted) key t st is f s = by (base_of (written (r.plan u) k)) f.2
    where
      by : (v : Option ℕ) → q ≡ undo (condition.Version (id u) f.0) k (option_map (λ b. record_left_by r.plan b k) v) → IsDelete key t st
      by None e = let x = deletes_same k key (id u) t f.0 st q e is in inl (u, x.1, ap is_committed (sym x.2) ∙ f.1, s.0, s.1)
      by (Some b) e = put_deletes q _ _ (condition.Version t st) key e is
  deleted q (Removes k u) key t st is f s = let x = deletes_same k key (id u) t state.Committed st q f is in inr (sym x.2, (u, x.1, subst (λ y. StaysAllowed r.plan w (Removes y u)) x.0 s))
  deleted q (Begins u c) key t st is f s = absurd f
  deleted q (Takes u) key t st is f s = absurd f
  deleted q (Ends u) key t st is f s = absurd f
  deleted q (Stops c) key t st is f s = absurd f

  -- a transaction that was decided before another began is recorded by then
  before_begin : (u : ℕ) (t : TxId) (began : ℕ) → u < 2 ^ 128 → w.row u ≡ Some Committed → ((v : ℕ) → IsLive w.protocol v → w.decided_at u < w.protocol.begun v) → IsOpenAt (events_in r) n t began → Recorded r.places (contents_at r began) (id u)
  before_begin u t began fits row gate o =
      subst (λ s. Recorded r.places s (id u)) (sym moved)
      (was_decided r.plan r.places r.opening (take n r.labelled) (take n r.moments) d.catalog (run_at r n low) apart u began within row (below (w.decided_at u) (w.protocol.begun t.0) began (gate t.0 live.1) live.0) fits)
    where
      at : take n (events_in r) ≡ events_of (take n r.labelled)
      at = take-map (λ (p : Labelled). p.event) n r.labelled

      live : (w.protocol.begun t.0 ≡ began) × IsLive w.protocol t.0
      live = subst (λ (x : ProtocolState). (x.begun t.0 ≡ began) × IsLive x t.0) talks (agrees.live n fewer t.0 began (ap (λ es. begun es t) (sym at) ∙ o.begins) (ap (λ es. ending es t) (sym at) ∙ o.unended) (ap (has_stopped (client_of t)) (sym at) ∙ o.goes_on))
        where
          fewer : n ≤ length r.labelled
          fewer = subst (λ m. n ≤ m) (sym (trace_length r.places r.opening (newest_first r.labelled) (newest_first r.moments) r.run.traced ∙ turned_length r.moments) ∙ turned_length r.labelled) low

      below : (a b m : ℕ) → a < b → b ≡ m → a ≤ m
      below a b m l e = omega (arith, l, e)

      within : began ≤ length (take n r.moments)
      within = subst (λ m. m ≤ length (take n r.moments)) live.0 (subst (λ m. w.protocol.begun t.0 ≤ m) counted (i.all.one.point t.0).1)
        where
          counted : w.protocol.now ≡ length (take n r.moments)
          counted = ap (λ (x : ProtocolState). x.now) (sym talks) ∙ clock_is r.plan (past_at r n) (run_at r n low).lawful ∙ trace_length r.places r.opening (past_at r n) (newest_first (take n r.moments)) (run_at r n low).traced ∙ turned_length (take n r.moments)

      moved : contents_at r began ≡ moment r.opening (take n r.moments) began
      moved = ap (λ y. moment r.opening y began) (half n r.moments) ∙ front_moment r.opening (take n r.moments) (drop n r.moments) began within

  tombstone : (key : Key) (u : ℕ) → StaysAllowed r.plan w (Removes key u) → IsOfTombstone r.places (events_in r) r.opening r.moments n key (id u)
  tombstone key u s =
      let writer = s.0 in
      let fits = fits_of u (writer_accepted r.plan w key u i.all.one.accepted writer) in
      record {
        prepared = record_prepared_by r.plan u key;
        was = was u key (asked_of u key ((i.all.one.decided u writer.0).answered key writer.1));
        at = held_key r.plan u key writer.1;
        deleted = deleted_in r.plan u key writer.1 s.1;
        recorded = recorded_now u fits writer.0;
        before = λ t began o. before_begin u t began fits writer.0 s.3 o;
      }

  sound : (q : Request) → IsInFlightAt (events_in r) n q → IsSoundInFlight d.catalog r.places (events_in r) r.opening r.moments n q
  sound q flight = by (flying_was_delayed r n flight.0 q low flight.1)
    where
      by : WasDelayedBy r n q → IsSoundInFlight d.catalog r.places (events_in r) r.opening r.moments n q
      by x =
          let k = delayed_allowed r n (record { request = q; action = x.action; was = x.was }) low in
          record {
            committed = λ t fits puts. committed_row q x.action t fits puts k.0 k.1;
            rolled = λ rec among table firm. rolled q x.action rec among table firm k.0 k.1;
            undone = λ key t st is loose. elim (deleted q x.action key t st is k.0 k.1) [
              | inl y ↦ subst (IsAborted r.places (contents_at r n)) y.1 (aborted_now y.0 y.4 y.3)
              | inr y ↦ clash (sym (ap is_committed y.0) ∙ loose)
            ];
            removed = λ key t is. elim (deleted q x.action key t state.Committed is k.0 k.1) [
              | inl y ↦ clash y.2
              | inr y ↦ subst (IsOfTombstone r.places (events_in r) r.opening r.moments n key) y.1.1 (tombstone key y.1.0 y.1.2)
            ];
          }

-- the requests in flight, and what recorded transactions asked, at each moment
pub flights_at : (r : RunInOrder) (d : DataTables) → IsFaithfulRun r → HasReadSets r → AgreesOnOpenRun r → FlightsExplained d.catalog r.places (events_in r) r.opening r.moments
flights_at r d faithful are agrees = record {
  recorded = λ n low. recorded_whole r d faithful are agrees n low;
  sound = λ n q low flight. sound r d faithful are agrees n low q flight;
}
