-- Which records there are at every moment of several stores, which events put them there, and that reads are current, by what is so of the one
-- store.
use Rattle.std.proofs.Common.{◌≡◌, ◌⊎◌, ℕ, zero, suc, ◌<◌, ◌≤◌, true, List, [], ◌∷◌, ◌++◌, length, Option, Some, None, inl, inr, refl, sym, ap, subst, ◌∙◌}
use Rattle.std.specs.Prelude.{Contains, IsSomeAnd, is_some, map, take}
use Rattle.std.specs.Option.{option_and_then, option_map}
use Rattle.std.specs.Result.{result_ok}
use Rattle.std.specs.FinMap.{empty}
use Rattle.std.proofs.lemmas.List.{length-map}
use Rattle.std.proofs.lemmas.List.Elements.{Contains-append_right}
use Rattle.law_runs.specs.Types.{Answer, Decided, Event, How, Key, Place, Record, Reply, Request, Table, TxId}
use Rattle.sdb_types.specs.Contents.{Contents, IsWellFormed}
use Rattle.sdb_types.proofs.Public.{none_some as none_of, one_of, or_first, or_true, some_is}
use Rattle.sdb_record.specs.declared.coordinator.Decision.TheVariants as decision
use Rattle.sdb_record.specs.Coordinator.{coordinator_key_of, coordinator_table, decision_in, is_coordinator_table}
use Rattle.sdb_record.specs.Meta.{id_in}
use Rattle.sdb_record.specs.Rolls.{image_of}
use Rattle.sdb_model.specs.declared.event.Event.TheVariants as event
use Rattle.sdb_model.specs.declared.event.How.TheVariants.{Seen}
use Rattle.sdb_model.specs.Follows.{has_stopped, in_flight}
use Rattle.sdb_model.specs.Events.{Contact, EffectOf, IsTrace, StoreContents, contact_of, moment, stored_at, table_asked}
use Rattle.sdb_model.specs.Requests.{records_put}
use Rattle.sdb_model.specs.Exec.{find_table}
use Rattle.sdb_model.specs.InFlight.{AllApplied, FlightsExplained, IsCertainAt, IsCheckedAt, IsInFlightAt, IsOfTombstone, IsOpenAt, IsRollBack, IsRollForward, WasAsked}
use Rattle.sdb_model.specs.Explained.{Explained, IsAborted, IsCurrent, IsLastBefore, IsLeftBy, IsOfOrLater, IsPrepareOf, IsPreparedAfter, IsTableKey, IsWriter, ReadsCurrent, ContentsExplained, closing_of, AreTransactional}
use Rattle.sdb_model.specs.Images.{decision_at, image_at}
use Rattle.sdb_model.specs.ReadSet.{ReadItem}
use Rattle.sdb_model.specs.Rows.{Name}
use Rattle.sdb_model.specs.Transactions.{Executed, Recorded, begun, client_of, commit_of, ending, ending_in, from_begin, ordinal_of, point}
use Rattle.sdb_model.proofs.Public.{call_of, puts_table}
use Rattle.law_protocol.proofs.Public.{begun_moved, commit_moved, committed_at, executed_moved, flight_moved, flights_at, stopped_moved, current_at, gone_at, moved_more, point_moved, rows_at, stand_at, lies_at, unchanged_at, unresolved_at}
use Rattle.law_protocol.specs.Spread.{AreAbout, IsAbout, relocated_event, relocated_events, one_store}
use Rattle.law_runs.proofs.Ended.{starts_empty}
use Rattle.law_runs.proofs.Moments.{Alone, alone}
use Rattle.law_runs.proofs.Calls.{the_first}
use Rattle.law_runs.proofs.Lists.{among_map}
use Rattle.law_runs.proofs.Statements.{none_in}
use Rattle.law_runs.proofs.ReadItems.{noted_moved}
use Rattle.law_runs.proofs.Runs.{IsLawfulRun, lawful_run}
use Rattle.law_runs.proofs.StoredRecords.{accepted_at}
use Rattle.sdb_model.specs.Tables.{is_table_of_run}
use Rattle.law_runs.specs.Traces.{TracedOnStores}

---- a run of the laws

standing_by_run : (catalog : List Table) (places : List Place) (events : List Event) (opening : List StoreContents) (moments : List (List StoreContents)) → find_table catalog coordinator_table ≡ None → IsLawfulRun places events opening moments → ContentsExplained catalog places events opening moments
standing_by_run catalog places events opening moments none b =
    subst (λ (es : List Event). ContentsExplained catalog places es opening moments) (sym b.same) (record {
      committed_recorded = λ n low. committed_at b.labelled moments catalog n b.run none low;
      unresolved_prepared = λ n low. unresolved_at b.labelled moments catalog n b.run none low;
      prepared_stay = λ n low. lies_at b.labelled moments catalog n b.run none low;
      writes_stand = stand_at b.plan places opening b.labelled moments catalog b.run none b.faithful;
      aborted_gone = λ n low. gone_at b.labelled moments catalog n b.run none low;
      rows_final = λ early late order low. rows_at b.labelled moments early late b.run order low;
      unchanged_resolved = unchanged_at b.plan places opening b.labelled moments catalog b.run none;
    })

-- what each recorded transaction noted is current
reads_by_run : (catalog : List Table) (places : List Place) (events : List Event) (opening : List StoreContents) (moments : List (List StoreContents)) → find_table catalog coordinator_table ≡ None → IsLawfulRun places events opening moments → ReadsCurrent catalog places events opening moments
reads_by_run catalog places events opening moments none b = subst (λ (es : List Event). ReadsCurrent catalog places es opening moments) (sym b.same) (current_at b.labelled moments catalog b.run none b.faithful b.as_read)

-- what is so of the requests in flight
flights_by_run : (catalog : List Table) (places : List Place) (events : List Event) (opening : List StoreContents) (moments : List (List StoreContents)) → find_table catalog coordinator_table ≡ None → IsLawfulRun places events opening moments → FlightsExplained catalog places events opening moments
flights_by_run catalog places events opening moments none b =
    subst (λ (es : List Event). FlightsExplained catalog places es opening moments) (sym b.same)
    (flights_at (record { plan = b.plan; places = places; opening = opening; labelled = b.labelled; moments = moments; run = b.run }) (record { catalog = catalog; apart = none }) b.faithful b.as_read b.agrees)

---- calls among events

about_at : (catalog : List Table) (front : List Event) (e : Event) (back : List Event) → AreAbout catalog (front ++ e ∷ back) → IsAbout catalog e
about_at catalog [] e back h = h.0
about_at catalog (x ∷ xs) e back h = about_at catalog xs e back h.1

-- a call that was moved, among the events as they were
-- an event among those that were moved is one of them, moved
record IsMoved (f : Event → Event) (events front : List Event) (e : Event) : Type 0 where
  early : List Event
  event : Event
  back : List Event
  same : events ≡ early ++ event ∷ back
  is : f event ≡ e
  long : length early ≡ length front

none_some : (x : Event) (xs : List Event) → ◌≡◌ {A = List Event} [] (x ∷ xs) → ⊥
none_some x xs h = absurd (cc)

firsts : (x y : Event) (xs ys : List Event) → ◌≡◌ {A = List Event} (x ∷ xs) (y ∷ ys) → x ≡ y
firsts x y xs ys h = cc

others : (x y : Event) (xs ys : List Event) → ◌≡◌ {A = List Event} (x ∷ xs) (y ∷ ys) → xs ≡ ys
others x y xs ys h = cc

moved_from : (f : Event → Event) (events front : List Event) (e : Event) (back : List Event) → map f events ≡ front ++ e ∷ back → IsMoved f events front e
moved_from f [] [] e back h = absurd (none_some _ _ h)
moved_from f [] (x ∷ xs) e back h = absurd (none_some _ _ h)
moved_from f (d ∷ es) [] e back h = record { early = []; event = d; back = es; same = refl; is = firsts (f d) e (map f es) back h; long = refl }
moved_from f (d ∷ es) (x ∷ xs) e back h =
    let rest = moved_from f es xs e back (others (f d) x (map f es) (xs ++ e ∷ back) h) in
    record { early = d ∷ rest.early; event = rest.event; back = rest.back; same = ap (λ (ys : List Event). d ∷ ys) rest.same; is = rest.is; long = ap suc rest.long }

---- contacts of events that are moved

abbrev moved_contact : (Name → Name) → Contact → Contact
moved_contact at c = record { store = at (table_asked c.request).ns; request = c.request; how = c.how; reply = c.reply }

contact_moved : (at : Name → Name) (e : Event) → contact_of (relocated_event at e) ≡ option_map (moved_contact at) (contact_of e)
contact_moved at (event.Take c text a) = refl
contact_moved at (event.Call c store q how r a) = refl
contact_moved at (event.Stop c) = refl
contact_moved at (event.Clock m) = refl
contact_moved at (event.Idle c) = refl
contact_moved at (event.Land n store q how r) = refl
contact_moved at (event.Alter table column kind altered) = refl

-- what an event of a trace asks is a request that may be made
asked_formed : (places : List Place) (front : List Event) (e : Event) (back : List Event) (opening : List StoreContents) (moments : List (List StoreContents)) (closing : List StoreContents) (c : Contact) → IsTrace places (front ++ e ∷ back) opening moments closing → contact_of e ≡ Some c → IsWellFormed c.request
asked_formed places [] e back opening [] closing c trace is = absurd trace
asked_formed places [] e back opening (s ∷ ss) closing c trace is = (subst (λ (o : Option Contact). EffectOf places o opening s) is trace.0).formed
asked_formed places (x ∷ xs) e back opening [] closing c trace is = absurd trace
asked_formed places (x ∷ xs) e back opening (s ∷ ss) closing c trace is = asked_formed places xs e back s ss closing c trace.1 is

---- lists of events that are moved

front_moved : (f : Event → Event) (n : ℕ) (es : List Event) → take n (map f es) ≡ map f (take n es)
front_moved f zero es = refl
front_moved f (suc n) [] = refl
front_moved f (suc n) (e ∷ es) = ap (λ (xs : List Event). f e ∷ xs) (front_moved f n es)

from_among : (f : Event → Event) (es : List Event) (e : Event) → Contains (map f es) e → (d : Event) × Contains es d × (f d ≡ e)
from_among f [] e h = none_in e h
from_among f (x ∷ xs) e h = by (one_of (f x) e (map f xs) h) (from_among f xs e)
  where
    by : (f x ≡ e) ⊎ Contains (map f xs) e → (Contains (map f xs) e → (d : Event) × Contains xs d × (f d ≡ e)) → (d : Event) × Contains (x ∷ xs) d × (f d ≡ e)
    by (inl same) ih = (x, the_first x xs, same)
    by (inr later) ih = let b = ih later in (b.0, Contains-append_right (x ∷ []) xs b.0 b.1, b.2)

ending_moved : (at : Name → Name) (events : List Event) (id : TxId) → ending (relocated_events at events) id ≡ ending events id
ending_moved at events id = ap (λ (ss : List Executed). ending_in (from_begin (ordinal_of id) ss)) (executed_moved at (client_of id) events)

-- an event that is a call where it is moved is that call
call_from : (at : Name → Name) (d : Event) (client : ℕ) (store : Name) (q : Request) (how : How) (r : Reply) (answer : Option Answer) → relocated_event at d ≡ event.Call client store q how r answer → (u : Name) × (d ≡ event.Call client u q how r answer)
call_from at (event.Call c u p g b a) client store q how r answer is = (u, same is)
  where
    same : event.Call c (at (table_asked p).ns) p g b a ≡ event.Call client store q how r answer → event.Call c u p g b a ≡ event.Call client u q how r answer
    same z = cc
call_from at (event.Take c text a) client store q how r answer is = absurd (apart is)
  where
    apart : event.Take c text a ≡ event.Call client store q how r answer → ⊥
    apart z = cc
call_from at (event.Stop c) client store q how r answer is = absurd (apart is)
  where
    apart : event.Stop c ≡ event.Call client store q how r answer → ⊥
    apart z = cc
call_from at (event.Clock m) client store q how r answer is = absurd (apart is)
  where
    apart : event.Clock m ≡ event.Call client store q how r answer → ⊥
    apart z = cc
call_from at (event.Idle c) client store q how r answer is = absurd (apart is)
  where
    apart : event.Idle c ≡ event.Call client store q how r answer → ⊥
    apart z = cc
call_from at (event.Land n u p g b) client store q how r answer is = absurd (apart is)
  where
    apart : event.Land n (at (table_asked p).ns) p g b ≡ event.Call client store q how r answer → ⊥
    apart z = cc
call_from at (event.Alter table column kind altered) client store q how r answer is = absurd (apart is)
  where
    apart : event.Alter table column kind altered ≡ event.Call client store q how r answer → ⊥
    apart z = cc

---- keys of the tables

row_played : (catalog : List Table) (id : TxId) → is_table_of_run catalog (coordinator_key_of id).table ≡ true
unfolding coordinator_key_of
row_played catalog id = or_true (is_some (find_table catalog (coordinator_key_of id).table))

table_played : (catalog : List Table) (key : Key) → IsTableKey catalog key → is_table_of_run catalog key.table ≡ true
table_played catalog key table = or_first (is_some (find_table catalog key.table)) (is_coordinator_table key.table) table

---- from the one store to several

module _ (catalog : List Table) (name : Name) (places : List Place) (events : List Event) (opening : List StoreContents) (moments : List (List StoreContents)) (m : Contents) (about : AreAbout catalog events) (a : Alone catalog name places events opening moments m) where
  abbrev moved : List Event → List Event
  moved = relocated_events (λ ns. name)

  abbrev many : ℕ → List StoreContents
  many = moment opening moments

  abbrev one : ℕ → List StoreContents
  one = moment (one_store name m) a.singles

  long : (es : List Event) → length (moved es) ≡ length es
  long es = length-map es (relocated_event (λ ns. name))

  within : (n : ℕ) → n ≤ length moments → n ≤ length a.singles
  within n low = subst (λ (k : ℕ). n ≤ k) (sym a.long) low

  at_row : (n : ℕ) (id : TxId) → stored_at places (many n) (coordinator_key_of id) ≡ stored_at [] (one n) (coordinator_key_of id)
  at_row n id = a.agrees n (coordinator_key_of id) (row_played catalog id)

  at_key : (n : ℕ) (key : Key) → IsTableKey catalog key → stored_at places (many n) key ≡ stored_at [] (one n) key
  at_key n key table = a.agrees n key (table_played catalog key table)

  decided : (n : ℕ) (id : TxId) → decision_at places (many n) id ≡ decision_at [] (one n) id
  decided n id = ap (option_and_then (λ (row : Record). result_ok (decision_in row))) (at_row n id)

  -- what the decisions make of a record
  image_of_found : (n : ℕ) (found : Option Record) → option_and_then (λ (r : Record). image_of r (option_and_then (decision_at places (many n)) (id_in r.columns))) found ≡ option_and_then (λ (r : Record). image_of r (option_and_then (decision_at [] (one n)) (id_in r.columns))) found
  image_of_found n found = λ k. option_and_then (λ (r : Record). image_of r (option_and_then (λ (id : TxId). decided n id k) (id_in r.columns))) found

  image : (n : ℕ) (key : Key) → IsTableKey catalog key → image_at places (many n) key ≡ image_at [] (one n) key
  image n key table =
      ap (option_and_then (λ (r : Record). image_of r (option_and_then (decision_at places (many n)) (id_in r.columns)))) (at_key n key table) ∙ image_of_found n (stored_at [] (one n) key)

  recorded_on : (n : ℕ) (id : TxId) → Recorded places (many n) id → Recorded [] (one n) id
  recorded_on n id h = subst (λ (o : Option Decided). IsSomeAnd o (λ d. d.decision ≡ decision.Committed)) (decided n id) h

  recorded_back : (n : ℕ) (id : TxId) → Recorded [] (one n) id → Recorded places (many n) id
  recorded_back n id h = subst (λ (o : Option Decided). IsSomeAnd o (λ d. d.decision ≡ decision.Committed)) (sym (decided n id)) h

  put_played : (front : List Event) (e : Event) (back : List Event) → events ≡ front ++ e ∷ back → IsAbout catalog e
  put_played front e back same = about_at catalog front e back (subst (AreAbout catalog) same about)

  call_on : (front : List Event) (client : ℕ) (store : Name) (q : Request) (how : How) (r : Reply) (answer : Option Answer) (back : List Event) → events ≡ front ++ event.Call client store q how r answer ∷ back → moved events ≡ moved front ++ event.Call client name q how r answer ∷ moved back
  call_on front client store q how r answer back same = ap moved same ∙ moved_more (λ ns. name) front (event.Call client store q how r answer ∷ back)

  -- an event is about the table that it asks of
  asked_about : (e : Event) (c : Contact) → contact_of e ≡ Some c → IsAbout catalog e → is_table_of_run catalog (table_asked c.request) ≡ true
  asked_about e c asks h = elim (call_of e c asks) [
    | inl x ↦ subst (IsAbout catalog) x.2 h
    | inr x ↦ subst (IsAbout catalog) x.1 h
  ]

  -- a prepare is about the table of the record that it puts
  prepare_played : (front : List Event) (id : TxId) (r : Record) (e : Event) (back : List Event) → events ≡ front ++ e ∷ back → IsPrepareOf id r e → is_table_of_run catalog r.key.table ≡ true
  prepare_played front id r e back same p = ap (is_table_of_run catalog) (sym (puts_table p.contact.request r formed p.puts)) ∙ asked_about e p.contact p.asks (put_played front e back same)
    where
      formed : IsWellFormed p.contact.request
      formed =
          asked_formed [] (moved front) (relocated_event (λ ns. name) e) (moved back) (one_store name m) a.singles a.last (moved_contact (λ ns. name) p.contact)
          (subst (λ (es : List Event). IsTrace [] es (one_store name m) a.singles a.last) (ap moved same ∙ moved_more (λ ns. name) front (e ∷ back)) a.traced)
          (contact_moved (λ ns. name) e ∙ ap (option_map (moved_contact (λ ns. name))) p.asks)

  put_on : (id : TxId) (r : Record) (e : Event) → IsPrepareOf id r e → IsPrepareOf id r (relocated_event (λ ns. name) e)
  put_on id r e p = record { contact = moved_contact (λ ns. name) p.contact; asks = contact_moved (λ ns. name) e ∙ ap (option_map (moved_contact (λ ns. name))) p.asks; puts = p.puts; prepare = p.prepare }

  put_off : (id : TxId) (r : Record) (e : Event) → IsPrepareOf id r (relocated_event (λ ns. name) e) → IsPrepareOf id r e
  put_off id r e p = by (contact_of e) refl (sym (contact_moved (λ ns. name) e) ∙ p.asks)
    where
      by : (o : Option Contact) → contact_of e ≡ o → option_map (moved_contact (λ ns. name)) o ≡ Some p.contact → IsPrepareOf id r e
      by None is same = none_of p.contact same
      by (Some c) is same =
          let asked : p.contact.request ≡ c.request = ap (λ (x : Contact). x.request) (sym (some_is (moved_contact (λ ns. name) c) p.contact same)) in
          record { contact = c; asks = is; puts = subst (λ (q : Request). Contains (records_put q) r) asked p.puts; prepare = p.prepare }

  -- a prepare on several stores, and on the one
  prepared_on : (id : TxId) (r : Record) (front : List Event) → IsPreparedAfter places events opening moments id r front → IsPreparedAfter [] (moved events) (one_store name m) a.singles id r (moved front)
  prepared_on id r front p =
      let labelled = prepare_played front id r p.event p.back p.at p.put in
      record {
        event = relocated_event (λ ns. name) p.event;
        back = moved p.back;
        at = ap moved p.at ∙ moved_more (λ ns. name) front (p.event ∷ p.back);
        put = put_on id r p.event p.put;
        before = ap (λ (n : ℕ). stored_at [] (one n) r.key) (long front) ∙ sym (a.agrees (length front) r.key labelled) ∙ p.before;
        after = ap (λ (n : ℕ). stored_at [] (one (suc n)) r.key) (long front) ∙ sym (a.agrees (suc (length front)) r.key labelled) ∙ p.after;
      }

  prepared_back : (id : TxId) (r : Record) (front : List Event) → IsPreparedAfter [] (moved events) (one_store name m) a.singles id r front → (early : List Event) × (length early ≡ length front) × IsPreparedAfter places events opening moments id r early
  prepared_back id r front p =
      let b = moved_from (relocated_event (λ ns. name)) events front p.event p.back p.at in
      let put = put_off id r b.event (subst (IsPrepareOf id r) (sym b.is) p.put) in
      let labelled = prepare_played b.early id r b.event b.back b.same put in (
        b.early,
        b.long,
        record {
          event = b.event;
          back = b.back;
          at = b.same;
          put = put;
          before = a.agrees (length b.early) r.key labelled ∙ ap (λ (n : ℕ). stored_at [] (one n) r.key) b.long ∙ p.before;
          after = a.agrees (suc (length b.early)) r.key labelled ∙ ap (λ (n : ℕ). stored_at [] (one (suc n)) r.key) b.long ∙ p.after;
        },
      )

  -- a writer
  writer_on : (key : Key) (id : TxId) → IsWriter places events opening moments key id → IsWriter [] (moved events) (one_store name m) a.singles key id
  writer_on key id w = record {
    fits = w.fits;
    recorded = subst (λ (n : ℕ). Recorded [] (one n) id) (sym (long events)) (recorded_on (length events) id w.recorded);
    r = w.r;
    front = moved w.front;
    at = w.at;
    prepared = prepared_on id w.r w.front w.prepared;
  }

  abbrev writer_back : (key : Key) (id : TxId) → IsWriter [] (moved events) (one_store name m) a.singles key id → IsWriter places events opening moments key id
  writer_back key id w = record {
    fits = w.fits;
    recorded = recorded_back (length events) id (subst (λ (n : ℕ). Recorded [] (one n) id) (long events) w.recorded);
    r = w.r;
    front = (prepared_back id w.r w.front w.prepared).0;
    at = w.at;
    prepared = (prepared_back id w.r w.front w.prepared).2;
  }

  left_back : (key : Key) (id : TxId) → IsTableKey catalog key → IsOfOrLater [] (moved events) (one_store name m) a.singles key id (image_at [] (closing_of (moved events) (one_store name m) a.singles) key) → IsOfOrLater places events opening moments key id (image_at places (closing_of events opening moments) key)
  left_back key id table l = record {
    u = l.u;
    writer = writer_back key l.u l.writer;
    later = elim l.later [
      | inl same ↦ inl same
      | inr less ↦ inr (subst (λ (n : ℕ). n < point events l.u) (point_moved (λ ns. name) events id) (subst (λ (n : ℕ). point (moved events) id < n) (point_moved (λ ns. name) events l.u) less))
    ];
    left = subst (λ (o : Option Record). IsLeftBy l.u l.writer.r o) (ap (λ (n : ℕ). image_at [] (one n) key) (long events) ∙ sym (image (length events) key table)) l.left;
  }

  standing_back : ContentsExplained catalog [] (moved events) (one_store name m) a.singles → ContentsExplained catalog places events opening moments
  standing_back s = record {
    committed_recorded = λ n low key r table at committed.
        let c = s.committed_recorded n (within n low) key r table (sym (at_key n key table) ∙ at) committed in
        (c.0, c.1, recorded_back n c.0 c.2);
    unresolved_prepared = λ n low key r table at loose.
        let u = s.unresolved_prepared n (within n low) key r table (sym (at_key n key table) ∙ at) loose in
        let p = prepared_back u.0 r u.1 u.4 in
        (u.0, p.0, u.2, subst (λ (k : ℕ). k < n) (sym p.1) u.3, p.2);
    prepared_stay = λ n low id r front fits table early p none.
        at_key n r.key table ∙ s.prepared_stay n (within n low) id r (moved front) fits table (subst (λ (k : ℕ). k < n) (sym (long front)) early) (prepared_on id r front p) (sym (at_row n id) ∙ none);
    writes_stand = λ key id table w. left_back key id table (s.writes_stand key id table (writer_on key id w));
    aborted_gone = λ n low id key r fits aborted table at.
        s.aborted_gone n (within n low) id key r fits (subst (λ (o : Option Decided). IsSomeAnd o (λ d. d.decision ≡ decision.Aborted)) (decided n id) aborted) table (sym (at_key n key table) ∙ at);
    rows_final = λ early late order low id row fits at.
        at_row late id ∙ s.rows_final early late order (within late low) id row fits (sym (at_row early id) ∙ at);
    unchanged_resolved = λ front back client store q how r answer key found version same shows still table id x before fits at early p none.
        s.unchanged_resolved (moved front) (moved back) client name q how r answer key found version (call_on front client store q how r answer back same) shows still table id x (moved before) fits at
        (subst (λ (n : ℕ). n < length (moved front)) (sym (long before)) (subst (λ (n : ℕ). length before < n) (sym (long front)) early)) (prepared_on id x before p)
        (ap (λ (n : ℕ). stored_at [] (one n) (coordinator_key_of id)) (long front) ∙ sym (at_row (length front) id) ∙ none);
  }

  ---- what was noted

  -- an event was before another also where calls are moved
  earlier_on : (id u : TxId) → point events u < point events id → point (moved events) u < point (moved events) id
  earlier_on id u less = subst (λ (n : ℕ). n < point (moved events) id) (sym (point_moved (λ ns. name) events u)) (subst (λ (n : ℕ). point events u < n) (sym (point_moved (λ ns. name) events id)) less)

  earlier_back : (id u : TxId) → point (moved events) u < point (moved events) id → point events u < point events id
  earlier_back id u less = subst (λ (n : ℕ). n < point events id) (point_moved (λ ns. name) events u) (subst (λ (n : ℕ). point (moved events) u < n) (point_moved (λ ns. name) events id) less)

  abbrev last_back : (key : Key) (id u : TxId) → IsLastBefore [] (moved events) (one_store name m) a.singles key id u → IsLastBefore places events opening moments key id u
  last_back key id u l = record {
    writer = writer_back key u l.writer;
    before = earlier_back id u l.before;
    last = λ v w less. elim (l.last v (writer_on key v w) (earlier_on id v less)) [ inl same ↦ inl same | inr later ↦ inr (earlier_back u v later) ];
  }

  current_back : (key : Key) (id : TxId) (version : Option TxId) → IsCurrent [] (moved events) (one_store name m) a.singles key id version → IsCurrent places events opening moments key id version
  current_back key id (Some u) l = last_back key id u l
  current_back key id None (inl none) = inl (λ v w less. none v (writer_on key v w) (earlier_on id v less))
  current_back key id None (inr d) = inr (record {
    u = d.u;
    last = last_back key id d.u d.last;
    deleted = d.deleted;
    recorded = λ n b. recorded_back n d.u (d.recorded n (begun_moved (λ ns. name) events id ∙ b));
  })

  reads_back : ReadsCurrent catalog [] (moved events) (one_store name m) a.singles → ReadsCurrent catalog places events opening moments
  reads_back r id item key version fits recorded among says table =
      current_back key id version (r id item key version fits (subst (λ (n : ℕ). Recorded [] (one n) id) (sym (long events)) (recorded_on (length events) id recorded))
      (subst (λ (ns : List ReadItem). Contains ns item) (sym (noted_moved (λ ns. name) events id)) among) says table)

  taken_back : AreTransactional catalog [] (one_store name m) a.singles → AreTransactional catalog places opening moments
  taken_back all n key r low table at = all n key r (within n low) table (sym (at_key n key table) ∙ at)

  ---- requests in flight

  up_to : (n : ℕ) → take n (moved events) ≡ moved (take n events)
  up_to n = front_moved (relocated_event (λ ns. name)) n events

  flying_on : (n : ℕ) (q : Request) → IsInFlightAt events n q → IsInFlightAt (moved events) n q
  flying_on n q f = (f.0, ap (in_flight f.0) (up_to n) ∙ flight_moved (λ ns. name) f.0 (take n events) ∙ f.1)

  was_back : (n : ℕ) (id : TxId) (r : Record) → WasAsked id r (take n (moved events)) → WasAsked id r (take n events)
  was_back n id r w =
      let b = from_among (relocated_event (λ ns. name)) (take n events) w.0 (subst (λ (es : List Event). Contains es w.0) (up_to n) w.1) in
      (b.0, b.1, put_off id r b.0 (subst (IsPrepareOf id r) (sym b.2) w.2))

  applied_back : (n : ℕ) (id : TxId) → AllApplied id (take n (moved events)) → AllApplied id (take n events)
  applied_back n id all e c has asks prepares =
      all (relocated_event (λ ns. name) e) (moved_contact (λ ns. name) c) (subst (λ (es : List Event). Contains es (relocated_event (λ ns. name) e)) (sym (up_to n)) (among_map (relocated_event (λ ns. name)) (take n events) e has))
      (contact_moved (λ ns. name) e ∙ ap (option_map (moved_contact (λ ns. name))) asks) prepares

  abbrev checked_back : (n : ℕ) (id : TxId) (key : Key) (version : Option TxId) → IsCheckedAt (moved events) n id key version → IsCheckedAt events n id key version
  checked_back n id key version c =
      let b = moved_from (relocated_event (λ ns. name)) (take n events) c.front (event.Call (client_of id) c.store c.request Seen c.reply c.answer) c.back (sym (up_to n) ∙ c.at) in
      let d = call_from (λ ns. name) b.event (client_of id) c.store c.request Seen c.reply c.answer b.is in
      record {
        front = b.early;
        store = d.0;
        request = c.request;
        reply = c.reply;
        answer = c.answer;
        back = b.back;
        found = c.found;
        at = b.same ∙ ap (λ (x : Event). b.early ++ x ∷ b.back) d.1;
        accepted = subst (λ (o : Option Executed). IsSomeAnd o (λ s. s.accepted ≤ length b.early)) (commit_moved (λ ns. name) events id) (subst (λ (k : ℕ). IsSomeAnd (commit_of (moved events) id) (λ s. s.accepted ≤ k)) (sym b.long) c.accepted);
        observed = c.observed;
        unchanged = c.unchanged;
      }

  certain_back : (n : ℕ) (id : TxId) → IsCertainAt catalog (moved events) n id → IsCertainAt catalog events n id
  certain_back n id c = record {
    applied = applied_back n id c.applied;
    checked = λ item key version among says table. elim (c.checked item key version (subst (λ (items : List ReadItem). Contains items item) (sym (noted_moved (λ ns. name) events id)) among) says table) [
      | inl x ↦ inl (x.0, was_back n id x.0 x.1, x.2)
      | inr x ↦ inr (checked_back n id key version x)
    ];
  }

  aborted_back : (n : ℕ) (id : TxId) → IsAborted [] (one n) id → IsAborted places (many n) id
  aborted_back n id h = subst (λ (o : Option Decided). IsSomeAnd o (λ d. d.decision ≡ decision.Aborted)) (sym (decided n id)) h

  abbrev forward_back : (n : ℕ) (q : Request) (r : Record) → IsRollForward [] (take n (moved events)) (one n) q r → IsRollForward places (take n events) (many n) q r
  forward_back n q r x = record {
    id = x.id;
    prepared = x.prepared;
    when = x.when;
    found = x.found;
    was = was_back n x.id x.prepared x.was;
    forward = x.forward;
    unresolved = x.unresolved;
    asked = x.asked;
    recorded = recorded_back n x.id x.recorded;
  }

  abbrev undo_back : (n : ℕ) (q : Request) (r : Record) → IsRollBack [] (take n (moved events)) (one n) q r → IsRollBack places (take n events) (many n) q r
  undo_back n q r x = record {
    id = x.id;
    prepared = x.prepared;
    found = x.found;
    was = was_back n x.id x.prepared x.was;
    back = x.back;
    unresolved = x.unresolved;
    asked = x.asked;
    aborted = aborted_back n x.id x.aborted;
  }

  open_on : (n : ℕ) (u : TxId) (began : ℕ) → IsOpenAt events n u began → IsOpenAt (moved events) n u began
  open_on n u began o = record {
    begins = ap (λ (es : List Event). begun es u) (up_to n) ∙ begun_moved (λ ns. name) (take n events) u ∙ o.begins;
    unended = ap (λ (es : List Event). ending es u) (up_to n) ∙ ending_moved (λ ns. name) (take n events) u ∙ o.unended;
    goes_on = ap (has_stopped (client_of u)) (up_to n) ∙ stopped_moved (λ ns. name) (client_of u) (take n events) ∙ o.goes_on;
  }

  abbrev tombstone_back : (n : ℕ) (key : Key) (id : TxId) → IsOfTombstone [] (moved events) (one_store name m) a.singles n key id → IsOfTombstone places events opening moments n key id
  tombstone_back n key id x = record {
    prepared = x.prepared;
    was = was_back n id x.prepared x.was;
    at = x.at;
    deleted = x.deleted;
    recorded = recorded_back n id x.recorded;
    before = λ u began o. recorded_back began id (x.before u began (open_on n u began o));
  }

  flights_back : FlightsExplained catalog [] (moved events) (one_store name m) a.singles → FlightsExplained catalog places events opening moments
  flights_back h = record {
    recorded = λ n low id fits recorded.
        let w = h.recorded n (within n low) id fits (recorded_on n id recorded) in
        record { applied = applied_back n id w.applied; landed = λ q f. w.landed q (flying_on n q f) };
    sound = λ n q low f.
        let s = h.sound n q (within n low) (flying_on n q f) in
        record {
          committed = λ id fits puts. certain_back n id (s.committed id fits puts);
          rolled = λ r puts table committed. elim (s.rolled r puts table committed) [ inl x ↦ inl (forward_back n q r x) | inr x ↦ inr (undo_back n q r x) ];
          undone = λ key id st is unresolved. aborted_back n id (s.undone key id st is unresolved);
          removed = λ key id is. tombstone_back n key id (s.removed key id is);
        };
  }

---- the whole

-- the one store's moments, and the run that events make of them
abbrev Beside : List Table → List Place → Name → List Event → List StoreContents → List (List StoreContents) → Type 0
Beside catalog places name events opening moments = (a : Alone catalog name places events opening moments empty) × IsLawfulRun [] (relocated_events (λ ns. name) events) (one_store name empty) a.singles

beside : (t : TracedOnStores) → Beside t.catalog t.places t.running.name t.running.events t.opening t.moments
beside t =
    let a = alone t.catalog t.running.name t.places t.running.events t.opening t.moments t.closing empty t.trace t.about t.nothing in
    (a, lawful_run t.catalog t.running.fit (relocated_events (λ ns. t.running.name) t.running.events) t.running.sys t.running.doing [] (one_store t.running.name empty) a.last a.singles t.running.running a.traced (starts_empty t.running.name))

pub invariant_is_explained : (t : TracedOnStores) → Explained t.catalog t.places t.running.events t.opening t.moments
invariant_is_explained t =
    let b = beside t in
    record {
      stored_at = standing_back t.catalog t.running.name t.places t.running.events t.opening t.moments empty t.about b.0 (standing_by_run t.catalog [] (relocated_events (λ ns. t.running.name) t.running.events) (one_store t.running.name empty) b.0.singles t.apart b.1);
      reads_current = reads_back t.catalog t.running.name t.places t.running.events t.opening t.moments empty t.about b.0 (reads_by_run t.catalog [] (relocated_events (λ ns. t.running.name) t.running.events) (one_store t.running.name empty) b.0.singles t.apart b.1);
    }

pub invariant_explains_flights : (t : TracedOnStores) → FlightsExplained t.catalog t.places t.running.events t.opening t.moments
invariant_explains_flights t =
    let b = beside t in
    flights_back t.catalog t.running.name t.places t.running.events t.opening t.moments empty t.about b.0 (flights_by_run t.catalog [] (relocated_events (λ ns. t.running.name) t.running.events) (one_store t.running.name empty) b.0.singles t.apart b.1)

pub invariant_is_accepted : (t : TracedOnStores) → AreTransactional t.catalog t.places t.opening t.moments
invariant_is_accepted t =
    let b = beside t in
    taken_back t.catalog t.running.name t.places t.running.events t.opening t.moments empty t.about b.0 (accepted_at b.1.plan [] (one_store t.running.name empty) b.1.labelled b.0.singles t.catalog b.1.run t.apart)
