-- At every moment of a run, in the words of the model: which records there are, and which event put them.
use Rattle.std.proofs.Common.{◌≡◌, ◌≢◌, ℕ, suc, ◌+◌, ◌-◌, ◌<◌, ◌≤◌, ◌^◌, Bool, true, false, List, [], ◌∷◌, ◌++◌, length, take, drop, append_assoc, add-one, Option, Some, None, ◌⊎◌, inl, inr, refl, sym, ap, subst, ◌∙◌, arith}
use Rattle.std.specs.Prelude.{Contains, IsSomeAnd, fold, ◌==◌, ◌||◌, ◌&&◌, not, is_some}
use Rattle.std.specs.Option.{option_map}
use Rattle.std.proofs.lemmas.List.{take-append-drop, length-take-le, length-drop, length-append, length-map, map-append}
use Rattle.std.proofs.lemmas.List.Sums.{fold-append}
use Rattle.law_protocol.specs.Types.{Decided, Decision, Event, Key, Place, Record, Reply, Request, Table, TableName, TxId}
use Rattle.sdb_types.specs.declared.record.Condition.TheVariants as condition
use Rattle.sdb_types.specs.declared.record.State.TheVariants as state
use Rattle.sdb_record.specs.declared.coordinator.Decision.TheVariants.{Aborted}
use Rattle.sdb_record.specs.Names.{same_name}
use Rattle.sdb_record.specs.Coordinator.{coordinator_key_of, coordinator_row_of, coordinator_table, is_coordinator_table}
use Rattle.sdb_record.proofs.Public.{same_name-true, version-writer}
use Rattle.sdb_record.specs.Meta.{id_in, is_in}
use Rattle.sdb_record.specs.Moved.{condition_of}
use Rattle.sdb_record.specs.Parts.{before_record}
use Rattle.sdb_model.specs.Exec.{find_table}
use Rattle.sdb_model.specs.Events.{StoreContents, stored_at, moment}
use Rattle.sdb_model.specs.Requests.{records_put}
use Rattle.sdb_model.specs.Transactions.{is_prepared_record}
use Rattle.sdb_model.specs.Explained.{IsTableKey, CommittedRecorded, AbortedRemoved, IsAborted, RowsFinal, UnresolvedPrepared, PreparedPersists, IsPrepareOf, IsPreparedAfter}
use Rattle.law_protocol.specs.Plan.{Plan, written}
use Rattle.law_protocol.specs.History.{Action, Other, Begins, Takes, Prepares, Checks, Decides, Aborts, Rolls, Removes, Ends, Stops, Ack, History, Held, base_of, has_key, happens}
use Rattle.law_protocol.specs.Lawful.{Labelled, MayOccur, id}
use Rattle.law_protocol.specs.Trace.{closing, history, has_effect, after_end, IsTraced}
use Rattle.law_protocol.specs.Records.{record_prepared_by, record_for, row_for}
use Rattle.law_protocol.specs.Flight.{AsksPrepare, prepare_at}
use Rattle.law_protocol.specs.Explained.{IsRunOf, IsPreparedRecord, newest_first, events_of}
use Rattle.law_protocol.proofs.Canon.{same_writer}
use Rattle.law_protocol.proofs.Known.{held_key, accepted_fits, took_is_accepted, took_stays}
use Rattle.law_protocol.proofs.Each.{among_sent, in_keys}
use Rattle.law_protocol.proofs.Settled.{Knows}
use Rattle.law_protocol.proofs.Changes.{Asks, called}
use Rattle.law_protocol.proofs.Occurring.{occurs_by}
use Rattle.law_protocol.proofs.Landing.{form_of, landed_asks}
use Rattle.law_protocol.proofs.Whole.{Whole}
use Rattle.law_protocol.proofs.Derived.{decision_is, committed_is_canon, aborted_gone, unresolved_prepared, prepared_stay, took_data}
use Rattle.law_protocol.proofs.Times.{whole_of, front_run, lasts, stood_before, rows_final}
use Rattle.law_protocol.proofs.Points.{held_prepares, firm_no}
use Rattle.sdb_types.specs.Contents.{is_version}
use Rattle.sdb_types.proofs.Public.{clash, tests}
use Rattle.sdb_model.specs.Tables.{is_data}

-- the keys of a catalog's tables are keys of records
pub record IsApart (catalog : List Table) : Type 0 where
  pub outside : (key : Key) → IsTableKey catalog key → is_data key ≡ true

pub both : (a b : Bool) → (a && b) ≡ true → (a ≡ true) × (b ≡ true)
both true true e = (refl, refl)
both true false e = clash (sym e)
both false b e = clash (sym e)

pub coordinator_is : (t : TableName) → is_coordinator_table t ≡ true → t ≡ coordinator_table
coordinator_is t h =
    let b = both (same_name t.ns coordinator_table.ns) (same_name t.table coordinator_table.table) h in
    ap (λ n. record { ns = n; table = t.table }) (same_name-true t.ns coordinator_table.ns b.0) ∙ ap (λ n. record { ns = coordinator_table.ns; table = n }) (same_name-true t.table coordinator_table.table b.1)

pub apart_from : (catalog : List Table) → find_table catalog coordinator_table ≡ None → IsApart catalog
apart_from catalog none = record { outside = λ key table. by key table (is_coordinator_table key.table) refl }
  where
    by : (key : Key) → IsTableKey catalog key → (b : Bool) → is_coordinator_table key.table ≡ b → is_data key ≡ true
    by key table false e = ap not e
    by key table true e = clash (sym table ∙ ap (λ t. is_some (find_table catalog t)) (coordinator_is key.table e) ∙ ap is_some none)

---- at one moment

committed : (plan : ℕ → Plan) (places : List Place) (w : History) (past : List Labelled) (store_contents : List StoreContents) (catalog : List Table) → Whole plan places w past store_contents → IsApart catalog → CommittedRecorded catalog places store_contents
committed plan places w past store_contents catalog i apart key r table at firm =
    let c = committed_is_canon plan places w past store_contents i key r (apart.outside key table) at firm in
    (id c.t, c.writer, c.recorded)

aborted_row : (plan : ℕ → Plan) (places : List Place) (w : History) (past : List Labelled) (store_contents : List StoreContents) (t : ℕ) → Whole plan places w past store_contents → t < 2 ^ 128 → IsAborted places store_contents (id t) → w.row t ≡ Some Aborted
aborted_row plan places w past store_contents t i fits a = by (w.row t) refl (subst (λ (x : Option Decided). IsSomeAnd x (λ d. d.decision ≡ Aborted)) (decision_is plan places w past store_contents t i fits) a)
  where
    by : (o : Option Decision) → w.row t ≡ o → IsSomeAnd (option_map (λ d. record { decision = d; created_at = w.moment t }) o) (λ (d : Decided). d.decision ≡ Aborted) → w.row t ≡ Some Aborted
    by None e h = absurd h
    by (Some d) e h = e ∙ ap (λ x. Some x) h

gone : (plan : ℕ → Plan) (places : List Place) (w : History) (past : List Labelled) (store_contents : List StoreContents) (catalog : List Table) → Whole plan places w past store_contents → IsApart catalog → AbortedRemoved catalog places store_contents
gone plan places w past store_contents catalog i apart t key r fits aborted table at =
    let g = aborted_gone plan places w past store_contents i t.0 key r (aborted_row plan places w past store_contents t.0 i fits aborted) (apart.outside key table) at in
    record { committed = g.0; before = g.1 }

---- lists turned round

pub onto : {X : Type 0} → (xs ys : List X) → fold (λ newer x. x ∷ newer) ys xs ≡ newest_first xs ++ ys
onto [] ys = refl
onto (x ∷ xs) ys = onto xs (x ∷ ys) ∙ sym (append_assoc (newest_first xs) (x ∷ []) ys) ∙ ap (λ zs. zs ++ ys) (sym (onto xs (x ∷ [])))

pub turned_append : {X : Type 0} → (xs ys : List X) → newest_first (xs ++ ys) ≡ newest_first ys ++ newest_first xs
turned_append xs ys = fold-append (λ newer x. x ∷ newer) [] xs ys ∙ onto ys (newest_first xs)

pub turned_more : {X : Type 0} → (x : X) (xs : List X) → newest_first (x ∷ xs) ≡ newest_first xs ++ x ∷ []
turned_more x xs = onto xs (x ∷ [])

pub turned_twice : {X : Type 0} → (xs : List X) → newest_first (newest_first xs) ≡ xs
turned_twice [] = refl
turned_twice (x ∷ xs) = ap newest_first (turned_more x xs) ∙ turned_append (newest_first xs) (x ∷ []) ∙ ap (λ zs. x ∷ zs) (turned_twice xs)

pub turned_length : {X : Type 0} → (xs : List X) → length (newest_first xs) ≡ length xs
turned_length [] = refl
turned_length (x ∷ xs) = ap length (turned_more x xs) ∙ length-append (newest_first xs) (x ∷ []) ∙ ap (λ n. n + 1) (turned_length xs) ∙ add-one (length xs)

---- moments

closing_first : (opening first : List StoreContents) (zs : List (List StoreContents)) → closing opening (zs ++ first ∷ []) ≡ closing first zs
closing_first opening first [] = refl
closing_first opening first (z ∷ zs) = refl

pub moment_at : (opening : List StoreContents) (xs ys : List (List StoreContents)) → moment opening (xs ++ ys) (length xs) ≡ closing opening (newest_first xs)
moment_at opening [] [] = refl
moment_at opening [] (y ∷ ys) = refl
moment_at opening (x ∷ xs) ys = moment_at x xs ys ∙ sym (closing_first opening x (newest_first xs)) ∙ ap (closing opening) (sym (turned_more x xs))

pub trace_length : (places : List Place) (opening : List StoreContents) (past : List Labelled) (ss : List (List StoreContents)) → IsTraced places opening past ss → length past ≡ length ss
trace_length places opening [] [] t = refl
trace_length places opening [] (s ∷ ss) t = absurd t
trace_length places opening (p ∷ past) [] t = absurd t
trace_length places opening (p ∷ past) (s ∷ ss) t = ap suc (trace_length places opening past ss t.0)

-- the run of the first events alone
pub early_run : (plan : ℕ → Plan) (places : List Place) (opening : List StoreContents) (front back : List Labelled) (ms more : List (List StoreContents)) → length back ≡ length more → IsRunOf plan places opening (newest_first (front ++ back)) (newest_first (ms ++ more)) → IsRunOf plan places opening (newest_first front) (newest_first ms)
early_run plan places opening front back ms more e r =
    front_run plan places opening (newest_first back) (newest_first front) (newest_first more) (newest_first ms) (turned_length back ∙ e ∙ sym (turned_length more))
    (subst (λ x. IsRunOf plan places opening x (newest_first more ++ newest_first ms)) (turned_append front back) (subst (λ x. IsRunOf plan places opening (newest_first (front ++ back)) x) (turned_append ms more) r))

---- the event of a prepare

took_now : (plan : ℕ → Plan) (w : History) (r : Action) (done : Bool) (t : ℕ) (k : Key) → (happens plan w r done).took_effect t k ≡ true → (w.took_effect t k ≡ true) ⊎ ((ks : List Key) × (word : Ack) × (r ≡ Prepares t ks word) × (has_key ks k ≡ true) × (done ≡ true))
took_now plan w (Prepares u ks word) done t k h = by (t == u) refl (has_key ks k) refl
  where
    here : t ≡ u → has_key ks k ≡ true → (w.took_effect t k ≡ true) ⊎ (done ≡ true)
    here e f = by done h
      where
        by : (b : Bool) → (happens plan w (Prepares u ks word) b).took_effect t k ≡ true → (w.took_effect t k ≡ true) ⊎ (b ≡ true)
        by true h = inr refl
        by false h = inl h

    apart : (t ≢ u) ⊎ (has_key ks k ≡ false) → w.took_effect t k ≡ true
    apart n = grind (arith, tests)

    same : (t == u) ≡ true → t ≡ u
    same e = grind (arith, tests)

    other : (t == u) ≡ false → t ≢ u
    other e = grind (arith, tests)

    by : (b : Bool) → (t == u) ≡ b → (c : Bool) → has_key ks k ≡ c → (w.took_effect t k ≡ true) ⊎ ((qs : List Key) × (x : Ack) × (Prepares u ks word ≡ Prepares t qs x) × (has_key qs k ≡ true) × (done ≡ true))
    by false e c f = inl (apart (inl (other e)))
    by true e false f = inl (apart (inr f))
    by true e true f = elim (here (same e) f) [
      | inl old ↦ inl old
      | inr now ↦ inr (ks, word, ap (λ x. Prepares x ks word) (sym (same e)), f, now)
    ]
took_now plan w Other done t k h = inl h
took_now plan w (Begins u c) done t k h = inl h
took_now plan w (Takes u) done t k h = inl h
took_now plan w (Checks u i) done t k h = inl h
took_now plan w (Decides u word) done t k h = inl h
took_now plan w (Aborts u m word) done t k h = inl h
took_now plan w (Rolls u q d) done t k h = inl h
took_now plan w (Removes q u) done t k h = inl h
took_now plan w (Ends u) done t k h = inl h
took_now plan w (Stops c) done t k h = inl h

-- the event by which a prepare of a key took effect, among those that are played, newest first
record IsPutBy (plan : ℕ → Plan) (places : List Place) (opening : List StoreContents) (past : List Labelled) (ss : List (List StoreContents)) (t : ℕ) (k : Key) : Type 0 where
  later : List Labelled
  p : Labelled
  early : List Labelled
  more : List (List StoreContents)
  s : List StoreContents
  es : List (List StoreContents)
  ks : List Key
  word : Ack
  past_is : past ≡ later ++ p ∷ early
  ss_is : ss ≡ more ++ s ∷ es
  same : length later ≡ length more
  action : p.action ≡ Prepares t ks word
  among : has_key ks k ≡ true
  done : has_effect places p.event (closing opening es) s ≡ true

put_by : (plan : ℕ → Plan) (places : List Place) (opening : List StoreContents) (past : List Labelled) (ss : List (List StoreContents)) (t : ℕ) (k : Key) → (history plan places opening past ss).took_effect t k ≡ true → IsPutBy plan places opening past ss t k
put_by plan places opening [] ss t k h = absurd (cc)
put_by plan places opening (p ∷ past) [] t k h = absurd (cc)
put_by plan places opening (p ∷ past) (s ∷ ss) t k h =
    elim (took_now plan (history plan places opening past ss) p.action (has_effect places p.event (closing opening ss) s) t k (unended p.ends h)) [
      | inl before ↦ longer (put_by plan places opening past ss t k before)
      | inr now ↦ record { later = []; p = p; early = past; more = []; s = s; es = ss; ks = now.0; word = now.1; past_is = refl; ss_is = refl; same = refl; action = now.2; among = now.3; done = now.4 }
    ]
  where
    unended : (ends : Option ℕ) → (after_end plan (happens plan (history plan places opening past ss) p.action (has_effect places p.event (closing opening ss) s)) ends).took_effect t k ≡ true → (happens plan (history plan places opening past ss) p.action (has_effect places p.event (closing opening ss) s)).took_effect t k ≡ true
    unended None h = h
    unended (Some u) h = h

    longer : IsPutBy plan places opening past ss t k → IsPutBy plan places opening (p ∷ past) (s ∷ ss) t k
    longer b = record { later = p ∷ b.later; p = b.p; early = b.early; more = s ∷ b.more; s = b.s; es = b.es; ks = b.ks; word = b.word; past_is = ap (λ x. p ∷ x) b.past_is; ss_is = ap (λ x. s ∷ x) b.ss_is; same = ap suc b.same; action = b.action; among = b.among; done = b.done }

---- a prepare that took effect, in the words of the model

split_is : {X : Type 0} → (xs later early : List X) (x : X) → newest_first xs ≡ later ++ x ∷ early → xs ≡ newest_first early ++ x ∷ newest_first later
split_is xs later early x e =
    sym (turned_twice xs) ∙ ap newest_first e ∙ turned_append later (x ∷ early) ∙ ap (λ zs. zs ++ newest_first later) (turned_more x early) ∙ append_assoc (newest_first early) (x ∷ []) (newest_first later)

put_here : (plan : ℕ → Plan) (w : History) (t : ℕ) (ks : List Key) (k : Key) (word : Ack) → has_key ks k ≡ true → ((happens plan w (Prepares t ks word) true).rows k ≡ Some (Held t)) × ((happens plan w (Prepares t ks word) true).took_effect t k ≡ true)
put_here plan w t ks k word among = (rw among refl, here refl among)
  where
    here : t ≡ t → has_key ks k ≡ true → (happens plan w (Prepares t ks word) true).took_effect t k ≡ true
    here e f = grind (arith, tests)

rows_put : (plan : ℕ → Plan) (w : History) (t : ℕ) (ks : List Key) (k : Key) (word : Ack) (ends : Option ℕ) → has_key ks k ≡ true → ((after_end plan (happens plan w (Prepares t ks word) true) ends).rows k ≡ Some (Held t)) × ((after_end plan (happens plan w (Prepares t ks word) true) ends).took_effect t k ≡ true)
rows_put plan w t ks k word None among = put_here plan w t ks k word among
rows_put plan w t ks k word (Some u) among = put_here plan w t ks k word among

-- what an event that is a prepare of a key, and took effect, put there, and over what
record IsPut (plan : ℕ → Plan) (places : List Place) (t : ℕ) (k : Key) (e : Event) (old new : List StoreContents) : Type 0 where
  put : IsPrepareOf (id t) (record_prepared_by plan t k) e
  before : stored_at places old (record_prepared_by plan t k).key ≡ before_record (record_prepared_by plan t k)
  after : stored_at places new (record_prepared_by plan t k).key ≡ Some (record_prepared_by plan t k)

-- an event that prepares a key asks for that
pub prepare_asked : (plan : ℕ → Plan) (w : History) (past : List Labelled) (e : Event) (t : ℕ) (ks : List Key) (k : Key) (word : Ack) → Knows plan w past → MayOccur plan past e (Prepares t ks word) → has_key ks k ≡ true → t < 2 ^ 128 → IsPrepareOf (id t) (record_prepared_by plan t k) e
prepare_asked plan w past e t ks k word knows o among fits = elim (occurs_by plan past e (Prepares t ks word) o) [
  | inl m ↦ asked m.r (called e m.client _ m.r m.call)
  | inr l ↦ asked l.reply (landed_asks l)
]
  where
    itself : (n : ℕ) → (n == n) ≡ true
    itself n = grind (arith, tests)

    asked : {q : Request} (r : Reply) → Asks e q r → IsPrepareOf (id t) (record_prepared_by plan t k) e
    asked {q} r a = record {
      contact = record { store = a.store; request = q; how = a.how; reply = r };
      asks = a.is;
      puts = subst (λ x. Contains (records_put x) (record_prepared_by plan t k)) (sym form.asks) (among_sent (prepare_at plan t) ks k (in_keys ks k among));
      prepare = held_prepares plan t t k (condition_of (option_map id (base_of (written (plan t) k)))) fits fits ∙ itself t;
    }
      where
        form : AsksPrepare plan q t ks
        form = form_of plan w past e (Prepares t ks word) q r knows o a

put_is : (plan : ℕ → Plan) (places : List Place) (opening : List StoreContents) (early : List Labelled) (p : Labelled) (es : List (List StoreContents)) (s : List StoreContents) (t : ℕ) (ks : List Key) (k : Key) (word : Ack) → IsRunOf plan places opening (p ∷ early) (s ∷ es) → p.action ≡ Prepares t ks word → has_key ks k ≡ true → has_effect places p.event (closing opening es) s ≡ true → IsPut plan places t k p.event (closing opening es) s
put_is plan places opening early p es s t ks k word r action among done = record {
  put = prepare_asked plan (history plan places opening early es) early p.event t ks k word earlier.knows (subst (λ x. MayOccur plan early p.event x) action r.lawful.1) among fits;
  before = ap (stored_at places (closing opening es)) key ∙ stood_before plan places opening early p es s t ks k word r action among done;
  after = ap (stored_at places s) key ∙ i.held.records k (took_data plan w (p ∷ early) t k i.knows put.1) ∙ ap (option_map (record_for plan k)) put.0;
}
  where
    earlier : Whole plan places (history plan places opening early es) early (closing opening es)
    earlier = whole_of plan places opening early es (record { empty = r.empty; lawful = r.lawful.0; traced = r.traced.0 })

    w : History
    w = history plan places opening (p ∷ early) (s ∷ es)

    i : Whole plan places (history plan places opening (p ∷ early) (s ∷ es)) (p ∷ early) s
    i = whole_of plan places opening (p ∷ early) (s ∷ es) r

    put : ((history plan places opening (p ∷ early) (s ∷ es)).rows k ≡ Some (Held t)) × ((history plan places opening (p ∷ early) (s ∷ es)).took_effect t k ≡ true)
    put = subst (λ b. ((after_end plan (happens plan (history plan places opening early es) p.action b) p.ends).rows k ≡ Some (Held t)) × ((after_end plan (happens plan (history plan places opening early es) p.action b) p.ends).took_effect t k ≡ true)) (sym done)
        (subst (λ x. ((after_end plan (happens plan (history plan places opening early es) x true) p.ends).rows k ≡ Some (Held t)) × ((after_end plan (happens plan (history plan places opening early es) x true) p.ends).took_effect t k ≡ true)) (sym action)
        (rows_put plan (history plan places opening early es) t ks k word p.ends among))

    fits : t < 2 ^ 128
    fits = accepted_fits w t i.all.one.begun i.knows.fits (took_is_accepted w t k i.all.one.accepted put.1)

    key : (record_prepared_by plan t k).key ≡ k
    key = held_key plan t k (i.knows.inv.asked t k ((i.knows.inv.took_effect t k).0 put.1).0)

---- at every moment

-- where a prepare took effect among the first events, and what it put
pub put_after : (plan : ℕ → Plan) (places : List Place) (opening : List StoreContents) (front back : List Labelled) (ms more : List (List StoreContents)) (t : ℕ) (key : Key) → length back ≡ length more → IsRunOf plan places opening (newest_first (front ++ back)) (newest_first (ms ++ more)) → (history plan places opening (newest_first front) (newest_first ms)).took_effect t key ≡ true
    → (before : List Event) × (length before < length ms) × IsPreparedAfter places (events_of (front ++ back)) opening (ms ++ more) (id t) (record_prepared_by plan t key) before
put_after plan places opening front back ms more t key same r took_effect = (events_of (newest_first b.early), below, prepared)
  where
    run : IsRunOf plan places opening (newest_first front) (newest_first ms)
    run = early_run plan places opening front back ms more same r

    b : IsPutBy plan places opening (newest_first front) (newest_first ms) t key
    b = put_by plan places opening (newest_first front) (newest_first ms) t key took_effect

    then : IsRunOf plan places opening (b.p ∷ b.early) (b.s ∷ b.es)
    then = front_run plan places opening b.later (b.p ∷ b.early) b.more (b.s ∷ b.es) b.same (subst (λ y. IsRunOf plan places opening y (b.more ++ b.s ∷ b.es)) b.past_is (subst (λ y. IsRunOf plan places opening (newest_first front) y) b.ss_is run))

    put : IsPut plan places t key b.p.event (closing opening b.es) b.s
    put = put_is plan places opening b.early b.p b.es b.s t b.ks key b.word then b.action b.among b.done

    events_is : events_of (front ++ back) ≡ events_of (newest_first b.early) ++ b.p.event ∷ (events_of (newest_first b.later) ++ events_of back)
    events_is =
        ap (λ y. events_of (y ++ back)) (split_is front b.later b.early b.p b.past_is)
        ∙ ap events_of (append_assoc (newest_first b.early) (b.p ∷ newest_first b.later) back)
        ∙ map-append (λ (y : Labelled). y.event) (newest_first b.early) (b.p ∷ (newest_first b.later ++ back))
        ∙ ap (λ y. events_of (newest_first b.early) ++ b.p.event ∷ y) (map-append (λ (y : Labelled). y.event) (newest_first b.later) back)

    moments_is : ms ++ more ≡ newest_first b.es ++ b.s ∷ (newest_first b.more ++ more)
    moments_is = ap (λ y. y ++ more) (split_is ms b.more b.es b.s b.ss_is) ∙ append_assoc (newest_first b.es) (b.s ∷ newest_first b.more) more

    early_length : length (events_of (newest_first b.early)) ≡ length b.es
    early_length = length-map (newest_first b.early) (λ (y : Labelled). y.event) ∙ turned_length b.early ∙ trace_length places opening b.early b.es then.traced.0

    below : length (events_of (newest_first b.early)) < length ms
    below = less (length (events_of (newest_first b.early))) (length ms) (length (newest_first b.more)) (ap length (split_is ms b.more b.es b.s b.ss_is) ∙ length-append (newest_first b.es) (b.s ∷ newest_first b.more) ∙ ap (λ n. n + suc (length (newest_first b.more))) (turned_length b.es ∙ sym early_length))
      where
        less : (a n m : ℕ) → n ≡ a + suc m → a < n
        less a n m e = omega arith

    before_is : moment opening (ms ++ more) (length (events_of (newest_first b.early))) ≡ closing opening b.es
    before_is =
        ap (moment opening (ms ++ more)) (early_length ∙ sym (turned_length b.es))
        ∙ ap (λ y. moment opening y (length (newest_first b.es))) moments_is
        ∙ moment_at opening (newest_first b.es) (b.s ∷ (newest_first b.more ++ more))
        ∙ ap (closing opening) (turned_twice b.es)

    after_is : moment opening (ms ++ more) (suc (length (events_of (newest_first b.early)))) ≡ b.s
    after_is =
        ap (moment opening (ms ++ more)) (ap suc early_length ∙ sym (ap length (sym (turned_more b.s b.es)) ∙ turned_length (b.s ∷ b.es)))
        ∙ ap (λ y. moment opening y (length (newest_first b.es ++ b.s ∷ []))) (moments_is ∙ sym (append_assoc (newest_first b.es) (b.s ∷ []) (newest_first b.more ++ more)))
        ∙ moment_at opening (newest_first b.es ++ b.s ∷ []) (newest_first b.more ++ more)
        ∙ ap (λ y. closing opening (newest_first y)) (sym (turned_more b.s b.es))
        ∙ ap (closing opening) (turned_twice (b.s ∷ b.es))

    prepared : IsPreparedAfter places (events_of (front ++ back)) opening (ms ++ more) (id t) (record_prepared_by plan t key) (events_of (newest_first b.early))
    prepared = record {
      event = b.p.event;
      back = events_of (newest_first b.later) ++ events_of back;
      at = events_is;
      put = put.put;
      before = ap (λ y. stored_at places y (record_prepared_by plan t key).key) before_is ∙ put.before;
      after = ap (λ y. stored_at places y (record_prepared_by plan t key).key) after_is ∙ put.after;
    }

unresolved : (plan : ℕ → Plan) (places : List Place) (opening : List StoreContents) (front back : List Labelled) (ms more : List (List StoreContents)) (catalog : List Table) → length back ≡ length more → IsRunOf plan places opening (newest_first (front ++ back)) (newest_first (ms ++ more)) → IsApart catalog → UnresolvedPrepared catalog places (events_of (front ++ back)) opening (ms ++ more) (length ms)
unresolved plan places opening front back ms more catalog same r apart key x table at open_state =
    let p = put_after plan places opening front back ms more u.t key same r u.took_effect in
    (id u.t, p.0, u.writer, p.1, subst (λ y. IsPreparedAfter places (events_of (front ++ back)) opening (ms ++ more) (id u.t) y p.0) (sym u.same) p.2)
  where
    run : IsRunOf plan places opening (newest_first front) (newest_first ms)
    run = early_run plan places opening front back ms more same r

    u : IsPreparedRecord plan (history plan places opening (newest_first front) (newest_first ms)) key x
    u = unresolved_prepared plan places (history plan places opening (newest_first front) (newest_first ms)) (newest_first front) (closing opening (newest_first ms)) (whole_of plan places opening (newest_first front) (newest_first ms) run) key x (apart.outside key table) (ap (λ y. stored_at places y key) (sym (moment_at opening ms more)) ∙ at) open_state

---- what a transaction without a row prepared is there

pub open_put : (t : TxId) (r : Record) → is_prepared_record t r ≡ true → is_in state.Committed r.columns ≡ false
open_put t r h = by (is_in state.Committed r.columns) refl
  where
    by : (b : Bool) → is_in state.Committed r.columns ≡ b → is_in state.Committed r.columns ≡ false
    by false e = e
    by true e = clash (sym h ∙ firm_no t r condition.Absent e)

put_writer : (t : TxId) (r : Record) → t.0 < 2 ^ 128 → is_prepared_record t r ≡ true → id_in r.columns ≡ Some t
put_writer t r fits h = by (is_version t state.Prepared r) refl
  where
    by : (b : Bool) → is_version t state.Prepared r ≡ b → id_in r.columns ≡ Some t
    by true e = version-writer r t state.Prepared fits e
    by false e = version-writer r t state.Deleted fits (ap (λ b. b || is_version t state.Deleted r) (sym e) ∙ h)

-- the prefix of a run that ends with an event after `front`, and that its record was prepared by then
pub took_by : (plan : ℕ → Plan) (places : List Place) (opening : List StoreContents) (early later : List Labelled) (es ls : List (List StoreContents)) (t : TxId) (r : Record) → length later ≡ length ls → IsRunOf plan places opening (newest_first (early ++ later)) (newest_first (es ++ ls))
    → t.0 < 2 ^ 128 → is_data r.key ≡ true → is_prepared_record t r ≡ true → stored_at places (closing opening (newest_first es)) r.key ≡ Some r
    → ((history plan places opening (newest_first (early ++ later)) (newest_first (es ++ ls))).took_effect t.0 r.key ≡ true) × (r ≡ record_prepared_by plan t.0 r.key)
took_by plan places opening early later es ls t r same run fits outside prepare at = (still, subst (λ n. r ≡ record_prepared_by plan n r.key) number u.same)
  where
    first : IsRunOf plan places opening (newest_first early) (newest_first es)
    first = early_run plan places opening early later es ls same run

    u : IsPreparedRecord plan (history plan places opening (newest_first early) (newest_first es)) r.key r
    u = unresolved_prepared plan places (history plan places opening (newest_first early) (newest_first es)) (newest_first early) (closing opening (newest_first es)) (whole_of plan places opening (newest_first early) (newest_first es) first) r.key r outside at (open_put t r prepare)

    number : u.t ≡ t.0
    number = same_writer r u.t t.0 u.writer (put_writer t r fits prepare)

    now : IsRunOf plan places opening (newest_first later ++ newest_first early) (newest_first ls ++ newest_first es)
    now = subst (λ x. IsRunOf plan places opening x (newest_first ls ++ newest_first es)) (turned_append early later) (subst (λ x. IsRunOf plan places opening (newest_first (early ++ later)) x) (turned_append es ls) run)

    lasting : (history plan places opening (newest_first later ++ newest_first early) (newest_first ls ++ newest_first es)).took_effect u.t r.key ≡ true
    lasting = lasts plan places opening (newest_first later) (newest_first early) (newest_first ls) (newest_first es) (λ w. w.took_effect u.t r.key ≡ true) (λ w x done i a y. took_stays plan w x done u.t r.key i.one.took_effect a y) (λ w v h. h) (turned_length later ∙ same ∙ sym (turned_length ls)) now u.took_effect

    still : (history plan places opening (newest_first (early ++ later)) (newest_first (es ++ ls))).took_effect t.0 r.key ≡ true
    still = subst (λ n. (history plan places opening (newest_first (early ++ later)) (newest_first (es ++ ls))).took_effect n r.key ≡ true) number
        (subst (λ x. (history plan places opening x (newest_first (es ++ ls))).took_effect u.t r.key ≡ true) (sym (turned_append early later))
        (subst (λ x. (history plan places opening (newest_first later ++ newest_first early) x).took_effect u.t r.key ≡ true) (sym (turned_append es ls)) lasting))

no_row : (w : History) (t : ℕ) → row_for w t ≡ None → w.row t ≡ None
no_row w t h = by (w.row t) refl h
  where
    by : (o : Option Decision) → w.row t ≡ o → option_map (λ d. coordinator_row_of (id t) d (w.moment t)) o ≡ None → w.row t ≡ None
    by None e h = e
    by (Some d) e h = absurd (cc)

agrees : (plan : ℕ → Plan) (places : List Place) (opening : List StoreContents) (front back : List Labelled) (ms more : List (List StoreContents)) (catalog : List Table) → length front ≡ length ms → length back ≡ length more → IsRunOf plan places opening (newest_first (front ++ back)) (newest_first (ms ++ more)) → IsApart catalog → PreparedPersists catalog places (events_of (front ++ back)) opening (ms ++ more) (length ms)
agrees plan places opening front back ms more catalog even same r apart t x before fits table below p none =
    ap (λ y. stored_at places y x.key) (moment_at opening ms more) ∙ prepared_stay plan places (history plan places opening (newest_first front) (newest_first ms)) (newest_first front) (closing opening (newest_first ms)) whole t.0 x.key took_effect.0 row ∙ ap (λ y. Some y) (sym took_effect.1)
  where
    n : ℕ
    n = suc (length before)

    run : IsRunOf plan places opening (newest_first front) (newest_first ms)
    run = early_run plan places opening front back ms more same r

    whole : Whole plan places (history plan places opening (newest_first front) (newest_first ms)) (newest_first front) (closing opening (newest_first ms))
    whole = whole_of plan places opening (newest_first front) (newest_first ms) run

    row : (history plan places opening (newest_first front) (newest_first ms)).row t.0 ≡ None
    row = no_row (history plan places opening (newest_first front) (newest_first ms)) t.0 (sym (whole.held.rows t.0 fits) ∙ ap (λ y. stored_at places y (coordinator_key_of t)) (sym (moment_at opening ms more)) ∙ none)

    at_most : n ≤ length ms
    at_most = omega (arith, below)

    parts : ms ≡ take n ms ++ drop n ms
    parts = sym (take-append-drop n ms)

    first : moment opening (ms ++ more) n ≡ closing opening (newest_first (take n ms))
    first =
        ap (λ y. moment opening (y ++ more) n) parts
        ∙ ap (λ y. moment opening y n) (append_assoc (take n ms) (drop n ms) more)
        ∙ ap (moment opening (take n ms ++ (drop n ms ++ more))) (sym (length-take-le n ms at_most))
        ∙ moment_at opening (take n ms) (drop n ms ++ more)

    took_effect : ((history plan places opening (newest_first front) (newest_first ms)).took_effect t.0 x.key ≡ true) × (x ≡ record_prepared_by plan t.0 x.key)
    took_effect =
        subst (λ y. ((history plan places opening (newest_first y) (newest_first ms)).took_effect t.0 x.key ≡ true) × (x ≡ record_prepared_by plan t.0 x.key)) (take-append-drop n front)
        (subst (λ y. ((history plan places opening (newest_first (take n front ++ drop n front)) (newest_first y)).took_effect t.0 x.key ≡ true) × (x ≡ record_prepared_by plan t.0 x.key)) (take-append-drop n ms)
        (took_by plan places opening (take n front) (drop n front) (take n ms) (drop n ms) t x (length-drop n front ∙ ap (λ y. y - n) even ∙ sym (length-drop n ms))
        (subst (λ y. IsRunOf plan places opening (newest_first y) (newest_first (take n ms ++ drop n ms))) (sym (take-append-drop n front)) (subst (λ y. IsRunOf plan places opening (newest_first front) (newest_first y)) parts run))
        fits (apart.outside x.key table) p.put.prepare (ap (λ y. stored_at places y x.key) (sym first) ∙ p.after)))

---- the laws

pub half : {X : Type 0} → (n : ℕ) (xs : List X) → xs ≡ take n xs ++ drop n xs
half n xs = sym (take-append-drop n xs)

-- a run, cut after its first events
pub record IsCut (plan : ℕ → Plan) (places : List Place) (opening : List StoreContents) (labelled : List Labelled) (moments : List (List StoreContents)) (n : ℕ) : Type 0 where
  pub whole : IsRunOf plan places opening (newest_first (take n labelled ++ drop n labelled)) (newest_first (take n moments ++ drop n moments))
  pub even : length (take n labelled) ≡ length (take n moments)
  pub same : length (drop n labelled) ≡ length (drop n moments)
  pub size : length (take n moments) ≡ n

pub cut : (plan : ℕ → Plan) (places : List Place) (opening : List StoreContents) (labelled : List Labelled) (moments : List (List StoreContents)) (n : ℕ) → IsRunOf plan places opening (newest_first labelled) (newest_first moments) → n ≤ length moments → IsCut plan places opening labelled moments n
cut plan places opening labelled moments n r h = record {
  whole = subst (λ y. IsRunOf plan places opening (newest_first y) (newest_first (take n moments ++ drop n moments))) (half n labelled) (subst (λ y. IsRunOf plan places opening (newest_first labelled) (newest_first y)) (half n moments) r);
  even = length-take-le n labelled (omega (arith, h, lengths)) ∙ sym (length-take-le n moments h);
  same = length-drop n labelled ∙ ap (λ y. y - n) lengths ∙ sym (length-drop n moments);
  size = length-take-le n moments h;
}
  where
    lengths : length labelled ≡ length moments
    lengths = sym (turned_length labelled) ∙ trace_length places opening (newest_first labelled) (newest_first moments) r.traced ∙ turned_length moments

-- what is so at the end of a run's first events is so at that moment
pub at_cut : (opening : List StoreContents) (moments : List (List StoreContents)) (n : ℕ) → length (take n moments) ≡ n → moment opening moments n ≡ closing opening (newest_first (take n moments))
at_cut opening moments n e = ap (λ y. moment opening y n) (half n moments) ∙ ap (moment opening (take n moments ++ drop n moments)) (sym e) ∙ moment_at opening (take n moments) (drop n moments)

-- a moment of the first ones is the same with more
pub front_moment : (opening : List StoreContents) (xs ys : List (List StoreContents)) (n : ℕ) → n ≤ length xs → moment opening (xs ++ ys) n ≡ moment opening xs n
front_moment opening xs ys n e =
    ap (λ y. moment opening (y ++ ys) n) (half n xs)
    ∙ ap (λ y. moment opening y n) (append_assoc (take n xs) (drop n xs) ys)
    ∙ ap (moment opening (take n xs ++ (drop n xs ++ ys))) (sym (length-take-le n xs e))
    ∙ moment_at opening (take n xs) (drop n xs ++ ys)
    ∙ sym (at_cut opening xs n (length-take-le n xs e))

pub early_whole : (plan : ℕ → Plan) (places : List Place) (opening : List StoreContents) (labelled : List Labelled) (moments : List (List StoreContents)) (n : ℕ) → IsCut plan places opening labelled moments n → Whole plan places (history plan places opening (newest_first (take n labelled)) (newest_first (take n moments))) (newest_first (take n labelled)) (closing opening (newest_first (take n moments)))
early_whole plan places opening labelled moments n c = whole_of plan places opening (newest_first (take n labelled)) (newest_first (take n moments)) (early_run plan places opening (take n labelled) (drop n labelled) (take n moments) (drop n moments) c.same c.whole)

-- a prepare among the events that put its record took effect
pub took_of : (plan : ℕ → Plan) (places : List Place) (opening : List StoreContents) (labelled : List Labelled) (moments : List (List StoreContents)) (t : TxId) (x : Record) (before : List Event) → IsRunOf plan places opening (newest_first labelled) (newest_first moments) → t.0 < 2 ^ 128 → is_data x.key ≡ true → IsPreparedAfter places (events_of labelled) opening moments t x before
    → ((history plan places opening (newest_first labelled) (newest_first moments)).took_effect t.0 x.key ≡ true) × (x ≡ record_prepared_by plan t.0 x.key)
took_of plan places opening labelled moments t x before r fits outside p =
    subst (λ y. ((history plan places opening (newest_first y) (newest_first moments)).took_effect t.0 x.key ≡ true) × (x ≡ record_prepared_by plan t.0 x.key)) (take-append-drop n labelled)
    (subst (λ y. ((history plan places opening (newest_first (take n labelled ++ drop n labelled)) (newest_first y)).took_effect t.0 x.key ≡ true) × (x ≡ record_prepared_by plan t.0 x.key)) (take-append-drop n moments)
    (took_by plan places opening (take n labelled) (drop n labelled) (take n moments) (drop n moments) t x c.same c.whole fits outside p.put.prepare (ap (λ y. stored_at places y x.key) (sym (at_cut opening moments n c.size)) ∙ p.after)))
  where
    n : ℕ
    n = suc (length before)

    size : length (events_of labelled) ≡ length moments
    size = length-map labelled (λ (y : Labelled). y.event) ∙ sym (turned_length labelled) ∙ trace_length places opening (newest_first labelled) (newest_first moments) r.traced ∙ turned_length moments

    at_most : n ≤ length moments
    at_most = most (length moments) (length p.back) (sym size ∙ ap length p.at ∙ length-append before (p.event ∷ p.back))
      where
        most : (a b : ℕ) → a ≡ length before + suc b → suc (length before) ≤ a
        most a b e = omega (arith, e)

    c : IsCut plan places opening labelled moments n
    c = cut plan places opening labelled moments n r at_most

pub committed_at : {plan : ℕ → Plan} {places : List Place} {opening : List StoreContents} (labelled : List Labelled) (moments : List (List StoreContents)) (catalog : List Table) (n : ℕ) → IsRunOf plan places opening (newest_first labelled) (newest_first moments) → find_table catalog coordinator_table ≡ None → n ≤ length moments → CommittedRecorded catalog places (moment opening moments n)
committed_at {plan} {places} {opening} labelled moments catalog n r none h =
    let c = cut plan places opening labelled moments n r h in
    subst (CommittedRecorded catalog places) (sym (at_cut opening moments n c.size)) (committed plan places (history plan places opening (newest_first (take n labelled)) (newest_first (take n moments))) (newest_first (take n labelled)) (closing opening (newest_first (take n moments))) catalog (early_whole plan places opening labelled moments n c) (apart_from catalog none))

pub gone_at : {plan : ℕ → Plan} {places : List Place} {opening : List StoreContents} (labelled : List Labelled) (moments : List (List StoreContents)) (catalog : List Table) (n : ℕ) → IsRunOf plan places opening (newest_first labelled) (newest_first moments) → find_table catalog coordinator_table ≡ None → n ≤ length moments → AbortedRemoved catalog places (moment opening moments n)
gone_at {plan} {places} {opening} labelled moments catalog n r none h =
    let c = cut plan places opening labelled moments n r h in
    subst (AbortedRemoved catalog places) (sym (at_cut opening moments n c.size)) (gone plan places (history plan places opening (newest_first (take n labelled)) (newest_first (take n moments))) (newest_first (take n labelled)) (closing opening (newest_first (take n moments))) catalog (early_whole plan places opening labelled moments n c) (apart_from catalog none))

pub unresolved_at : {plan : ℕ → Plan} {places : List Place} {opening : List StoreContents} (labelled : List Labelled) (moments : List (List StoreContents)) (catalog : List Table) (n : ℕ) → IsRunOf plan places opening (newest_first labelled) (newest_first moments) → find_table catalog coordinator_table ≡ None → n ≤ length moments → UnresolvedPrepared catalog places (events_of labelled) opening moments n
unresolved_at {plan} {places} {opening} labelled moments catalog n r none h =
    let c = cut plan places opening labelled moments n r h in
    subst (UnresolvedPrepared catalog places (events_of labelled) opening moments) c.size
    (subst (λ y. UnresolvedPrepared catalog places (events_of labelled) opening y (length (take n moments))) (take-append-drop n moments)
    (subst (λ y. UnresolvedPrepared catalog places (events_of y) opening (take n moments ++ drop n moments) (length (take n moments))) (take-append-drop n labelled)
    (unresolved plan places opening (take n labelled) (drop n labelled) (take n moments) (drop n moments) catalog c.same c.whole (apart_from catalog none))))

pub lies_at : {plan : ℕ → Plan} {places : List Place} {opening : List StoreContents} (labelled : List Labelled) (moments : List (List StoreContents)) (catalog : List Table) (n : ℕ) → IsRunOf plan places opening (newest_first labelled) (newest_first moments) → find_table catalog coordinator_table ≡ None → n ≤ length moments → PreparedPersists catalog places (events_of labelled) opening moments n
lies_at {plan} {places} {opening} labelled moments catalog n r none h =
    let c = cut plan places opening labelled moments n r h in
    subst (PreparedPersists catalog places (events_of labelled) opening moments) c.size
    (subst (λ y. PreparedPersists catalog places (events_of labelled) opening y (length (take n moments))) (take-append-drop n moments)
    (subst (λ y. PreparedPersists catalog places (events_of y) opening (take n moments ++ drop n moments) (length (take n moments))) (take-append-drop n labelled)
    (agrees plan places opening (take n labelled) (drop n labelled) (take n moments) (drop n moments) catalog c.even c.same c.whole (apart_from catalog none))))

pub rows_at : {plan : ℕ → Plan} {places : List Place} {opening : List StoreContents} (labelled : List Labelled) (moments : List (List StoreContents)) (early late : ℕ) → IsRunOf plan places opening (newest_first labelled) (newest_first moments) → early ≤ late → late ≤ length moments → RowsFinal places (moment opening moments early) (moment opening moments late)
rows_at {plan} {places} {opening} labelled moments early late r below h id row fits at =
    ap (λ y. stored_at places y (coordinator_key_of id)) (at_cut opening moments late c.size) ∙ later id.0 row fits (ap (λ y. stored_at places y (coordinator_key_of id)) (sym first) ∙ at)
  where
    c : IsCut plan places opening labelled moments late
    c = cut plan places opening labelled moments late r h

    run : IsRunOf plan places opening (newest_first (take late labelled)) (newest_first (take late moments))
    run = early_run plan places opening (take late labelled) (drop late labelled) (take late moments) (drop late moments) c.same c.whole

    d : IsCut plan places opening (take late labelled) (take late moments) early
    d = cut plan places opening (take late labelled) (take late moments) early run (omega (arith, below, c.size))

    first : moment opening moments early ≡ closing opening (newest_first (take early (take late moments)))
    first = ap (λ y. moment opening y early) (half late moments) ∙ front_moment opening (take late moments) (drop late moments) early (omega (arith, below, c.size)) ∙ at_cut opening (take late moments) early d.size

    turn : newest_first (take late moments) ≡ newest_first (drop early (take late moments)) ++ newest_first (take early (take late moments))
    turn = ap newest_first (half early (take late moments)) ∙ turned_append (take early (take late moments)) (drop early (take late moments))

    later : Rattle.law_protocol.specs.Explained.RowsFinal places (closing opening (newest_first (take early (take late moments)))) (closing opening (newest_first (take late moments)))
    later = subst (λ y. Rattle.law_protocol.specs.Explained.RowsFinal places (closing opening (newest_first (take early (take late moments)))) (closing opening y)) (sym turn)
        (rows_final plan places opening (newest_first (drop early (take late labelled))) (newest_first (take early (take late labelled))) (newest_first (drop early (take late moments))) (newest_first (take early (take late moments)))
        (turned_length (drop early (take late labelled)) ∙ d.same ∙ sym (turned_length (drop early (take late moments))))
        (subst (λ y. IsRunOf plan places opening y (newest_first (drop early (take late moments)) ++ newest_first (take early (take late moments)))) (turned_append (take early (take late labelled)) (drop early (take late labelled)))
        (subst (λ y. IsRunOf plan places opening (newest_first (take early (take late labelled) ++ drop early (take late labelled))) y) (turned_append (take early (take late moments)) (drop early (take late moments))) d.whole)))
