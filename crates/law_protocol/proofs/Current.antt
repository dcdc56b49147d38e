-- Reads and writes of recorded transactions, and what was found unchanged, in the words of the model.
use Rattle.std.proofs.Common.{◌≡◌, ◌≢◌, ℕ, zero, suc, ◌+◌, ◌<◌, ◌≤◌, ◌^◌, Bool, true, false, List, [], ◌∷◌, ◌++◌, length, take, drop, map, append-nil, append_assoc, Option, Some, None, ◌⊎◌, inl, inr, refl, sym, ap, subst, ◌∙◌, arith}
use Rattle.std.specs.Prelude.{slice_get}
use Rattle.std.specs.Option.{option_and_then, option_map, option_map_or}
use Rattle.std.proofs.lemmas.List.{take-append-drop, length-append, length-map}
use Rattle.law_protocol.specs.Types.{Answer, Change, Decision, Event, How, Key, Place, Record, Reply, Request, Table, TxId}
use Rattle.sdb_types.specs.declared.record.Request.TheVariants as ask
use Rattle.sdb_types.specs.declared.record.Reply.TheVariants as reply
use Rattle.sdb_types.specs.declared.record.State.TheVariants as state
use Rattle.sdb_types.specs.Contents.{is_version}
use Rattle.sdb_record.specs.declared.coordinator.Decision.TheVariants.{Committed, Aborted}
use Rattle.sdb_record.specs.declared.write.Change.TheVariants as change
use Rattle.sdb_record.specs.Coordinator.{coordinator_table}
use Rattle.sdb_record.specs.Meta.{id_in, is_in}
use Rattle.sdb_record.specs.Moved.{is_unchanged}
use Rattle.sdb_record.specs.Rolls.{prepared_record, state_of_change}
use Rattle.sdb_record.proofs.Public.{prepared-version}
use Rattle.sdb_model.specs.declared.event.Event.TheVariants as event
use Rattle.sdb_model.specs.Rows.{Name}
use Rattle.sdb_model.specs.Exec.{find_table}
use Rattle.sdb_model.specs.Events.{StoreContents, Effect, stored_at, moment}
use Rattle.sdb_model.specs.Images.{image_at}
use Rattle.sdb_model.specs.ReadSet.{ReadItem, version_read}
use Rattle.sdb_model.specs.Transactions.{Recorded, begun, point}
use Rattle.sdb_model.specs.Explained as model
use Rattle.sdb_model.specs.Explained.{IsTableKey, IsPreparedAfter, Observes, UnchangedResolved, IsOfOrLater, WritesPersist, IsLastBefore, ReadsCurrent, closing_of}
use Rattle.law_protocol.specs.Plan.{Plan, written, deletes, is_delete, version_read_at, number_of}
use Rattle.law_protocol.specs.History.{Action, Other, Begins, Takes, Prepares, Checks, Decides, Aborts, Rolls, Removes, Ends, Stops, ProtocolState, History, IsWriter, happens, state_after_event}
use Rattle.law_protocol.specs.Lawful.{Labelled, IsLawful, id, protocol_state, ended}
use Rattle.law_protocol.specs.Trace.{closing, history}
use Rattle.law_protocol.specs.Records.{record_prepared_by, write_there}
use Rattle.law_protocol.specs.Explained.{IsRunOf, IsLastWriter, ImageOf, IsAsFound, newest_first, events_of}
use Rattle.law_protocol.specs.Explained as laws
use Rattle.law_protocol.specs.Faithful.{AreReadSets, IsFaithful}
use Rattle.law_protocol.proofs.Canon.{firm_writer, version_state, not_firm_version}
use Rattle.law_protocol.proofs.Allowed.{Allowed}
use Rattle.law_protocol.proofs.Small.{any_key, row_kept, decided_kept}
use Rattle.law_protocol.proofs.Known.{held_key, accepted_fits, writer_accepted, writes_it}
use Rattle.law_protocol.proofs.Effects.{at_call}
use Rattle.law_protocol.proofs.Observed.{get_reply, scan_reply}
use Rattle.law_protocol.proofs.Whole.{Whole}
use Rattle.law_protocol.proofs.Derived.{image_is_last_writer, reads_current, recorded_row, row_recorded}
use Rattle.law_protocol.proofs.Times.{whole_of, lasts}
use Rattle.law_protocol.proofs.Seen.{All as Holds}
use Rattle.law_protocol.proofs.ModelTime.{point_of}
use Rattle.law_protocol.proofs.Moments.{IsApart, IsCut, apart_from, at_cut, cut, early_run, moment_at, open_put, put_after, lies_at, took_of, trace_length, turned_append, turned_length}
use Rattle.law_protocol.proofs.Unchecked.{got}
use Rattle.sdb_types.proofs.Public.{clash, some_is, tests}
use Rattle.sdb_model.specs.Tables.{is_data}

some_none : {A : Type 0} (a : A) → Some a ≡ None → ⊥
some_none a e = cc

lengths : (places : List Place) (opening : List StoreContents) (plan : ℕ → Plan) (labelled : List Labelled) (moments : List (List StoreContents)) → IsRunOf plan places opening (newest_first labelled) (newest_first moments) → length (events_of labelled) ≡ length moments
lengths places opening plan labelled moments r = length-map labelled (λ (y : Labelled). y.event) ∙ sym (turned_length labelled) ∙ trace_length places opening (newest_first labelled) (newest_first moments) r.traced ∙ turned_length moments

---- what was found unchanged

-- a list whose values fall into two parts, and one between them
record IsSplit (X Y : Type 0) (f : X → Y) (xs : List X) (front back : List Y) (y : Y) : Type 0 where
  early : List X
  x : X
  late : List X
  parts : xs ≡ early ++ x ∷ late
  front_is : map f early ≡ front
  is : f x ≡ y

head_is : {X : Type 0} (x y : X) (xs ys : List X) → x ∷ xs ≡ y ∷ ys → (x ≡ y) × (xs ≡ ys)
head_is x y xs ys e = (cc, cc)

split : {X Y : Type 0} (f : X → Y) (xs : List X) (front back : List Y) (y : Y) → map f xs ≡ front ++ y ∷ back → IsSplit X Y f xs front back y
split f [] [] back y e = absurd (cc)
split f [] (z ∷ front) back y e = absurd (cc)
split f (x ∷ xs) [] back y e = record { early = []; x = x; late = xs; parts = refl; front_is = refl; is = (head_is (f x) y (map f xs) back e).0 }
split f (x ∷ xs) (z ∷ front) back y e =
    let h = head_is (f x) z (map f xs) (front ++ y ∷ back) e in
    let s = split f xs front back y h.1 in
    record { early = x ∷ s.early; x = s.x; late = s.late; parts = ap (λ ys. x ∷ ys) s.parts; front_is = ap (λ w. w ∷ map f s.early) h.0 ∙ ap (λ ws. z ∷ ws) s.front_is; is = s.is }

-- a list cut after so many
record IsHalved (X : Type 0) (xs : List X) (n m : ℕ) : Type 0 where
  early : List X
  x : X
  late : List X
  parts : xs ≡ early ++ x ∷ late
  size : length early ≡ n
  rest : length late ≡ m

halved : {X : Type 0} (xs : List X) (n m : ℕ) → length xs ≡ n + suc m → IsHalved X xs n m
halved [] n m e = absurd (none n m e)
  where
    none : (n m : ℕ) → 0 ≡ n + suc m → ⊥
    none n m e = omega (arith, e)
halved (x ∷ xs) zero m e = record { early = []; x = x; late = xs; parts = refl; size = refl; rest = less (length xs) m e }
  where
    less : (a m : ℕ) → suc a ≡ 0 + suc m → a ≡ m
    less a m e = omega (arith, e)
halved (x ∷ xs) (suc n) m e =
    let h = halved xs n m (less (length xs) n m e) in
    record { early = x ∷ h.early; x = h.x; late = h.late; parts = ap (λ ys. x ∷ ys) h.parts; size = ap suc h.size; rest = h.rest }
  where
    less : (a n m : ℕ) → suc a ≡ suc n + suc m → a ≡ n + suc m
    less a n m e = omega (arith, e)

-- an unresolved record is unchanged under no version
open_changed : (x : Record) (version : Option TxId) → is_in state.Committed x.columns ≡ false → is_unchanged (Some x) version ≡ true → ⊥
open_changed x None h e = clash (sym e)
open_changed x (Some v) h e = clash (sym e ∙ not_firm_version v x h)

shows_stands : (places : List Place) (client : ℕ) (store : Name) (q : Request) (how : How) (r : Reply) (answer : Option Answer) (before now : List StoreContents) (key : Key) (found : Option Record) → Effect places (event.Call client store q how r answer) before now → Observes q r key found → found ≡ stored_at places before key
shows_stands places client store (ask.Get k) how (reply.Found x) answer before now key found c (same, is) = sym is ∙ get_reply places k (reply.Found x) x before now (at_call places store (ask.Get k) how (reply.Found x) before now c) refl ∙ ap (stored_at places before) same
shows_stands places client store (ask.Scan span) how (reply.Rows rows) answer before now key found c (inside, is) =
    sym is ∙ scan_reply span (reply.Rows rows) rows (at_call places store (ask.Scan span) how (reply.Rows rows) before now c) refl key inside
shows_stands places client store (ask.Get k) how (reply.Rows rows) answer before now key found c h = absurd h
shows_stands places client store (ask.Get k) how reply.Applied answer before now key found c h = absurd h
shows_stands places client store (ask.Get k) how (reply.NotMet x) answer before now key found c h = absurd h
shows_stands places client store (ask.Get k) how (reply.NotAll place there) answer before now key found c h = absurd h
shows_stands places client store (ask.Get k) how reply.Fault answer before now key found c h = absurd h
shows_stands places client store (ask.Get k) how reply.NoMemory answer before now key found c h = absurd h
shows_stands places client store (ask.Scan span) how (reply.Found x) answer before now key found c h = absurd h
shows_stands places client store (ask.Scan span) how reply.Applied answer before now key found c h = absurd h
shows_stands places client store (ask.Scan span) how (reply.NotMet x) answer before now key found c h = absurd h
shows_stands places client store (ask.Scan span) how (reply.NotAll place there) answer before now key found c h = absurd h
shows_stands places client store (ask.Scan span) how reply.Fault answer before now key found c h = absurd h
shows_stands places client store (ask.Scan span) how reply.NoMemory answer before now key found c h = absurd h
shows_stands places client store (ask.PutIf rec condition) how r answer before now key found c h = absurd h
shows_stands places client store (ask.DeleteIf k condition) how r answer before now key found c h = absurd h
shows_stands places client store (ask.PutAll batch) how r answer before now key found c h = absurd h

-- the effect of an event of a run, from the moment before it
effect_at : (plan : ℕ → Plan) (places : List Place) (opening : List StoreContents) (labelled : List Labelled) (moments : List (List StoreContents)) (front back : List Event) (e : Event) → IsRunOf plan places opening (newest_first labelled) (newest_first moments) → events_of labelled ≡ front ++ e ∷ back
    → (now : List StoreContents) × Effect places e (moment opening moments (length front)) now
effect_at plan places opening labelled moments front back e r parts = (m.x, subst (λ s. Effect places e s m.x) (sym before) (subst (λ y. Effect places y (closing opening (newest_first m.early)) m.x) p.is run.traced.1))
  where
    p : IsSplit Labelled Event (λ (y : Labelled). y.event) labelled front back e
    p = split (λ (y : Labelled). y.event) labelled front back e parts

    sizes : length moments ≡ length front + suc (length p.late)
    sizes = sym (lengths places opening plan labelled moments r) ∙ length-map labelled (λ (y : Labelled). y.event) ∙ ap length p.parts ∙ length-append p.early (p.x ∷ p.late) ∙ ap (λ n. n + suc (length p.late)) (sym (length-map p.early (λ (y : Labelled). y.event)) ∙ ap length p.front_is)

    m : IsHalved (List StoreContents) moments (length front) (length p.late)
    m = halved moments (length front) (length p.late) sizes

    whole : IsRunOf plan places opening (newest_first ((p.early ++ p.x ∷ []) ++ p.late)) (newest_first ((m.early ++ m.x ∷ []) ++ m.late))
    whole =
        subst (λ y. IsRunOf plan places opening (newest_first y) (newest_first ((m.early ++ m.x ∷ []) ++ m.late))) (p.parts ∙ sym (append_assoc p.early (p.x ∷ []) p.late))
        (subst (λ y. IsRunOf plan places opening (newest_first labelled) (newest_first y)) (m.parts ∙ sym (append_assoc m.early (m.x ∷ []) m.late)) r)

    run : IsRunOf plan places opening (p.x ∷ newest_first p.early) (m.x ∷ newest_first m.early)
    run =
        subst (λ y. IsRunOf plan places opening y (m.x ∷ newest_first m.early)) (turned_append p.early (p.x ∷ []))
        (subst (λ y. IsRunOf plan places opening (newest_first (p.early ++ p.x ∷ [])) y) (turned_append m.early (m.x ∷ []))
        (early_run plan places opening (p.early ++ p.x ∷ []) p.late (m.early ++ m.x ∷ []) m.late (sym m.rest) whole))

    before : moment opening moments (length front) ≡ closing opening (newest_first m.early)
    before = ap (moment opening moments) (sym m.size) ∙ ap (λ y. moment opening y (length m.early)) m.parts ∙ moment_at opening m.early (m.x ∷ m.late)

pub unchanged_at : (plan : ℕ → Plan) (places : List Place) (opening : List StoreContents) (labelled : List Labelled) (moments : List (List StoreContents)) (catalog : List Table) → IsRunOf plan places opening (newest_first labelled) (newest_first moments) → find_table catalog coordinator_table ≡ None → UnchangedResolved catalog places (events_of labelled) opening moments
unchanged_at plan places opening labelled moments catalog r none front back client store q how reply answer key found version parts shows same table id x before fits at early p no_row =
    open_changed x version (open_put id x p.put.prepare) (subst (λ o. is_unchanged o version ≡ true) (stood ∙ ap (stored_at places (moment opening moments (length front))) (sym at) ∙ agrees) same)
  where
    effect : (now : List StoreContents) × Effect places (event.Call client store q how reply answer) (moment opening moments (length front)) now
    effect = effect_at plan places opening labelled moments front back (event.Call client store q how reply answer) r parts

    stood : found ≡ stored_at places (moment opening moments (length front)) key
    stood = shows_stands places client store q how reply answer (moment opening moments (length front)) effect.0 key found effect.1 shows

    below : length front ≤ length moments
    below = less (length front) (length back) (length moments) (sym (lengths places opening plan labelled moments r) ∙ ap length parts ∙ length-append front (event.Call client store q how reply answer ∷ back))
      where
        less : (a b n : ℕ) → n ≡ a + suc b → a ≤ n
        less a b n e = omega (arith, e)

    agrees : stored_at places (moment opening moments (length front)) x.key ≡ Some x
    agrees = lies_at labelled moments catalog (length front) r none below id x before fits (subst (IsTableKey catalog) (sym at) table) early p no_row

---- who wrote a key

pub deleted_in : (plan : ℕ → Plan) (u : ℕ) (k : Key) → written (plan u) k ≢ None → deletes (plan u) k ≡ true → is_in state.Deleted (record_prepared_by plan u k).columns ≡ true
unfolding record_prepared_by deletes
deleted_in plan u k some h = version_state (id u) state.Deleted (prepared_record (write_there (plan u) k) (id u) (plan u).now) (by (write_there (plan u) k).change refl d)
  where
    d : is_delete (write_there (plan u) k).change ≡ true
    d = sym (ap (λ o. option_map_or (λ w. is_delete w.change) o false) (writes_it (plan u) k some)) ∙ h

    by : (c : Change) → (write_there (plan u) k).change ≡ c → is_delete c ≡ true → is_version (id u) state.Deleted (prepared_record (write_there (plan u) k) (id u) (plan u).now) ≡ true
    by change.Delete e x = subst (λ y. is_version (id u) (state_of_change y) (prepared_record (write_there (plan u) k) (id u) (plan u).now) ≡ true) e (prepared-version (write_there (plan u) k) (id u) (plan u).now)
    by (change.Row columns) e x = clash (sym x)

-- Who was recorded by the end, and decided by one of the first events, was recorded after them.
decided_now : (plan : ℕ → Plan) (w : History) (r : Action) (done : Bool) (u : ℕ) → (happens plan w r done).row u ≡ Some Committed → w.row u ≡ None → (happens plan w r done).decided_at u ≡ w.protocol.now + 1
decided_now plan w r done u h n = grind (arith, tests)

ticks : (h : ProtocolState) (r : Action) → (state_after_event h r).now ≡ h.now + 1
ticks h Other = refl
ticks h (Begins t c) = refl
ticks h (Takes t) = refl
ticks h (Prepares t ks word) = refl
ticks h (Checks t i) = refl
ticks h (Decides t word) = refl
ticks h (Aborts t moment word) = refl
ticks h (Rolls t ks d) = refl
ticks h (Removes k t) = refl
ticks h (Ends t) = refl
ticks h (Stops c) = refl

-- the law's clock counts the events
pub now_is : (plan : ℕ → Plan) (past : List Labelled) → IsLawful plan past → (protocol_state past).now ≡ length past
now_is plan [] l = refl
now_is plan (p ∷ past) l = over p.ends (next (ticks (protocol_state past) p.action) (now_is plan past l.0))
  where
    next : {a b n : ℕ} → a ≡ b + 1 → b ≡ n → a ≡ suc n
    next e f = omega (arith, e, f)

    over : (ends : Option ℕ) → (state_after_event (protocol_state past) p.action).now ≡ suc (length past) → (ended (state_after_event (protocol_state past) p.action) ends).now ≡ suc (length past)
    over None e = e
    over (Some t) e = e

now_stays : (plan : ℕ → Plan) (w : History) (r : Action) (done : Bool) (n : ℕ) → n ≤ w.protocol.now → n ≤ (happens plan w r done).protocol.now
now_stays plan w r done n l = grind (arith, tests)

abbrev DecidedAfter : History → ℕ → ℕ → Type 0
DecidedAfter w u n = (w.row u ≡ Some Committed → n < w.decided_at u) × (n ≤ w.protocol.now)

after_kept : (plan : ℕ → Plan) (u n : ℕ) (w : History) (r : Action) (done : Bool) → Holds plan w → Allowed plan w r done → DecidedAfter w u n → DecidedAfter (happens plan w r done) u n
after_kept plan u n w r done i a (f, low) = (by (w.row u) refl, now_stays plan w r done n low)
  where
    by : (o : Option Decision) → w.row u ≡ o → (happens plan w r done).row u ≡ Some Committed → n < (happens plan w r done).decided_at u
    by (Some Committed) e h = subst (λ m. n < m) (sym (decided_kept plan w r done u a (λ z. some_none Committed (sym e ∙ z))).1) (f e)
    by (Some Aborted) e h = absurd (apart (sym (row_kept plan w r done u Aborted a e) ∙ h))
      where
        apart : Some Aborted ≡ Some Committed → ⊥
        apart z = absurd (cc)
    by None e h = subst (λ m. n < m) (sym (decided_now plan w r done u h e)) (more low)
      where
        more : n ≤ w.protocol.now → n < w.protocol.now + 1
        more l = omega (arith, l)

---- at the end of a run

module _ (plan : ℕ → Plan) (places : List Place) (opening : List StoreContents) (labelled : List Labelled) (moments : List (List StoreContents)) (catalog : List Table) (r : IsRunOf plan places opening (newest_first labelled) (newest_first moments)) (apart : IsApart catalog) where
  abbrev events : List Event
  events = events_of labelled

  abbrev past : List Labelled
  past = newest_first labelled

  abbrev w : History
  w = history plan places opening (newest_first labelled) (newest_first moments)

  abbrev store_contents : List StoreContents
  store_contents = closing opening (newest_first moments)

  i : Whole plan places (history plan places opening (newest_first labelled) (newest_first moments)) (newest_first labelled) (closing opening (newest_first moments))
  i = whole_of plan places opening (newest_first labelled) (newest_first moments) r

  ends : closing_of events opening moments ≡ store_contents
  ends = ap (moment opening moments) (lengths places opening plan labelled moments r) ∙ ap (λ y. moment opening y (length moments)) (sym (append-nil moments)) ∙ moment_at opening moments []

  -- the last events after the first of a number
  pub was_decided : (u n : ℕ) → n ≤ length moments → w.row u ≡ Some Committed → w.decided_at u ≤ n → u < 2 ^ 128 → Recorded places (moment opening moments n) (id u)
  was_decided u n most row low fits = subst (λ s. Recorded places s (id u)) (sym (at_cut opening moments n c.size)) (row_recorded plan places (history plan places opening (newest_first (take n labelled)) (newest_first (take n moments))) (newest_first (take n labelled)) (closing opening (newest_first (take n moments))) u first fits (by ((history plan places opening (newest_first (take n labelled)) (newest_first (take n moments))).row u) refl))
    where
      c : IsCut plan places opening labelled moments n
      c = cut plan places opening labelled moments n r most

      first_run : IsRunOf plan places opening (newest_first (take n labelled)) (newest_first (take n moments))
      first_run = early_run plan places opening (take n labelled) (drop n labelled) (take n moments) (drop n moments) c.same c.whole

      first : Whole plan places (history plan places opening (newest_first (take n labelled)) (newest_first (take n moments))) (newest_first (take n labelled)) (closing opening (newest_first (take n moments)))
      first = whole_of plan places opening (newest_first (take n labelled)) (newest_first (take n moments)) first_run

      now : (history plan places opening (newest_first (take n labelled)) (newest_first (take n moments))).protocol.now ≡ n
      now = ap (λ (x : ProtocolState). x.now) (sym first.knows.talks) ∙ now_is plan (newest_first (take n labelled)) first_run.lawful ∙ turned_length (take n labelled) ∙ c.even ∙ c.size

      late : ((history plan places opening (newest_first (take n labelled)) (newest_first (take n moments))).row u ≡ Some Committed → ⊥) → ⊥
      late none = less n (w.decided_at u) low (all.0 row)
        where
          less : (a b : ℕ) → b ≤ a → a < b → ⊥
          less a b l g = omega (arith, l, g)

          turned : IsRunOf plan places opening (newest_first (drop n labelled) ++ newest_first (take n labelled)) (newest_first (drop n moments) ++ newest_first (take n moments))
          turned = subst (λ y. IsRunOf plan places opening y (newest_first (drop n moments) ++ newest_first (take n moments))) (turned_append (take n labelled) (drop n labelled)) (subst (λ y. IsRunOf plan places opening (newest_first (take n labelled ++ drop n labelled)) y) (turned_append (take n moments) (drop n moments)) c.whole)

          all : DecidedAfter (history plan places opening (newest_first labelled) (newest_first moments)) u n
          all =
              subst (λ y. DecidedAfter (history plan places opening (newest_first y) (newest_first moments)) u n) (take-append-drop n labelled)
              (subst (λ y. DecidedAfter (history plan places opening (newest_first (take n labelled ++ drop n labelled)) (newest_first y)) u n) (take-append-drop n moments)
              (subst (λ y. DecidedAfter (history plan places opening y (newest_first (take n moments ++ drop n moments))) u n) (sym (turned_append (take n labelled) (drop n labelled)))
              (subst (λ y. DecidedAfter (history plan places opening (newest_first (drop n labelled) ++ newest_first (take n labelled)) y) u n) (sym (turned_append (take n moments) (drop n moments)))
              (lasts plan places opening (newest_first (drop n labelled)) (newest_first (take n labelled)) (newest_first (drop n moments)) (newest_first (take n moments)) (λ x. DecidedAfter x u n) (after_kept plan u n) (λ w v h. h) (turned_length (drop n labelled) ∙ c.same ∙ sym (turned_length (drop n moments))) turned (λ h. absurd (none h), same now)))))
            where
              same : {m : ℕ} → m ≡ n → n ≤ m
              same e = omega (arith, e)

      by : (o : Option Decision) → (history plan places opening (newest_first (take n labelled)) (newest_first (take n moments))).row u ≡ o → (history plan places opening (newest_first (take n labelled)) (newest_first (take n moments))).row u ≡ Some Committed
      by (Some Committed) e = e
      by (Some Aborted) e = absurd (late (λ h. other (sym e ∙ h)))
        where
          other : Some Aborted ≡ Some Committed → ⊥
          other z = absurd (cc)
      by None e = absurd (late (λ h. some_none Committed (sym h ∙ e)))

  fits_of : (key : Key) (u : ℕ) → IsWriter plan w key u → u < 2 ^ 128
  fits_of key u h = accepted_fits w u i.all.one.begun i.knows.fits (writer_accepted plan w key u i.all.one.accepted h)

  to_held : (key : Key) (u : TxId) → is_data key ≡ true → (x : model.IsWriter places events opening moments key u) → (w.took_effect u.0 key ≡ true) × (x.r ≡ record_prepared_by plan u.0 key)
  to_held key u kept x =
      let t = took_of plan places opening labelled moments u x.r x.front r x.fits (subst (λ k. is_data k ≡ true) (sym x.at) kept) x.prepared in
      (subst (λ k. w.took_effect u.0 k ≡ true) x.at t.0, t.1 ∙ ap (record_prepared_by plan u.0) x.at)

  to_writer : (key : Key) (u : TxId) → is_data key ≡ true → model.IsWriter places events opening moments key u → IsWriter plan w key u.0
  to_writer key u kept x =
      (recorded_row plan places w past store_contents u.0 i x.fits (subst (λ s. Recorded places s u) ends x.recorded), i.all.one.asked u.0 key ((i.all.one.took_effect u.0 key).0 (to_held key u kept x).0).0)

  put_whole : (u : ℕ) (key : Key) → w.took_effect u key ≡ true → (before : List Event) × IsPreparedAfter places events opening moments (id u) (record_prepared_by plan u key) before
  put_whole u key took_effect = (p.0, subst (λ y. IsPreparedAfter places (events_of y) opening moments (id u) (record_prepared_by plan u key) p.0) (append-nil labelled) (subst (λ y. IsPreparedAfter places (events_of (labelled ++ [])) opening y (id u) (record_prepared_by plan u key) p.0) (append-nil moments) p.2))
    where
      run : IsRunOf plan places opening (newest_first (labelled ++ [])) (newest_first (moments ++ []))
      run = subst (λ y. IsRunOf plan places opening (newest_first y) (newest_first (moments ++ []))) (sym (append-nil labelled)) (subst (λ y. IsRunOf plan places opening (newest_first labelled) (newest_first y)) (sym (append-nil moments)) r)

      p : (before : List Event) × (length before < length moments) × IsPreparedAfter places (events_of (labelled ++ [])) opening (moments ++ []) (id u) (record_prepared_by plan u key) before
      p = put_after plan places opening labelled [] moments [] u key refl run took_effect

  from_writer : (key : Key) (u : ℕ) → IsWriter plan w key u → (x : model.IsWriter places events opening moments key (id u)) × (x.r ≡ record_prepared_by plan u key)
  from_writer key u h = (
    record {
      fits = fits_of key u h;
      recorded = subst (λ s. Recorded places s (id u)) (sym ends) (row_recorded plan places w past store_contents u i (fits_of key u h) h.0);
      r = record_prepared_by plan u key;
      front = (put_whole u key took_effect).0;
      at = held_key plan u key h.1;
      prepared = (put_whole u key took_effect).1;
    },
    refl,
  )
    where
      took_effect : w.took_effect u key ≡ true
      took_effect = ((i.all.one.took_effect u key).1 ((i.all.one.decided u h.0).answered key h.1)).0

  module _ (faithful : IsFaithful events past) where
    accepted : (u : ℕ) → w.row u ≡ Some Committed → w.protocol.accepted u ≡ true
    accepted u h = grind (arith, i.all.one.accepted u any_key 0)

    -- the point of a recorded transaction is the law's
    point_is : (u : TxId) → u.0 < 2 ^ 128 → w.row u.0 ≡ Some Committed → point events u ≡ w.protocol.point u.0
    point_is u fits h =
        point_of labelled u.0 r faithful fits (subst (λ (x : ProtocolState). x.accepted u.0 ≡ true) (sym i.knows.talks) (accepted u.0 h)) ∙ ap (λ (x : ProtocolState). x.point u.0) i.knows.talks

    less_of : (t u : TxId) → t.0 < 2 ^ 128 → u.0 < 2 ^ 128 → w.row t.0 ≡ Some Committed → w.row u.0 ≡ Some Committed → w.protocol.point t.0 < w.protocol.point u.0 → point events t < point events u
    less_of t u ft fu ht hu l = subst (λ n. n < point events u) (sym (point_is t ft ht)) (subst (λ n. w.protocol.point t.0 < n) (sym (point_is u fu hu)) l)

    of_less : (t u : TxId) → t.0 < 2 ^ 128 → u.0 < 2 ^ 128 → w.row t.0 ≡ Some Committed → w.row u.0 ≡ Some Committed → point events t < point events u → w.protocol.point t.0 < w.protocol.point u.0
    of_less t u ft fu ht hu l = subst (λ n. n < w.protocol.point u.0) (point_is t ft ht) (subst (λ n. point events t < n) (point_is u fu hu) l)

    later_of : (key : Key) (t : TxId) (u : ℕ) → is_data key ≡ true → model.IsWriter places events opening moments key t → IsLastWriter plan w key u → (id u ≡ t) ⊎ (point events t < point events (id u))
    later_of key t u kept x last =
        let h = to_writer key t kept x in
        elim (last.last t.0 h) [ inl e ↦ inl (ap id (sym e)) | inr l ↦ inr (less_of t (id u) x.fits (fits_of key u last.writer) h.0 last.writer.0 l) ]

    stands_on : (key : Key) (t : TxId) (o : Option Record) → is_data key ≡ true → model.IsWriter places events opening moments key t → ImageOf plan w key o → IsOfOrLater places events opening moments key t o
    stands_on key t None kept x (inl never) = absurd (never t.0 (to_writer key t kept x))
    stands_on key t None kept x (inr gone) =
        let f = from_writer key gone.u gone.last.writer in
        record { u = id gone.u; writer = f.0; later = later_of key t gone.u kept x gone.last; left = subst (λ (y : Record). is_in state.Deleted y.columns ≡ true) (sym f.1) (deleted_in plan gone.u key gone.last.writer.1 gone.deleted) }
    stands_on key t (Some image) kept x (u, last, same) =
        record { u = id u; writer = (from_writer key u last.writer).0; later = later_of key t u kept x last; left = ap (λ (y : Record). id_in y.columns) same ∙ firm_writer plan u key (fits_of key u last.writer) }

    -- the last writer before a point, as the law and as the model has it
    last_before : (key : Key) (t u : TxId) → is_data key ≡ true → t.0 < 2 ^ 128 → w.row t.0 ≡ Some Committed → (h : IsWriter plan w key u.0) → w.protocol.point u.0 < w.protocol.point t.0 → ((v : ℕ) → v ≢ t.0 → IsWriter plan w key v → w.protocol.point v < w.protocol.point t.0 → (u.0 ≡ v) ⊎ (w.protocol.point v < w.protocol.point u.0))
        → (l : IsLastBefore places events opening moments key t u) × (l.writer.r ≡ record_prepared_by plan u.0 key)
    last_before key t u kept fits row h below last = (
      record {
        writer = (from_writer key u.0 h).0;
        before = less_of u t (fits_of key u.0 h) fits h.0 row below;
        last = λ v x l.
            let g = to_writer key v kept x in
            let less = of_less v t x.fits fits g.0 row l in
            elim (last v.0 (apart_from_self v.0 t.0 less) g less) [ inl e ↦ inl (ap id (sym e)) | inr m ↦ inr (less_of v u x.fits (fits_of key u.0 h) g.0 h.0 m) ];
      },
      (from_writer key u.0 h).1,
    )
      where
        apart_from_self : (a b : ℕ) → w.protocol.point a < w.protocol.point b → a ≢ b
        apart_from_self a b l e = irrefl (w.protocol.point b) (subst (λ n. w.protocol.point n < w.protocol.point b) e l)
          where
            irrefl : (n : ℕ) → n < n → ⊥
            irrefl n l = omega (arith, l)

    current_is : (key : Key) (t : TxId) (version : Option TxId) → is_data key ≡ true → t.0 < 2 ^ 128 → w.row t.0 ≡ Some Committed → laws.IsCurrent plan w t.0 key (number_of version) → model.IsCurrent places events opening moments key t version
    current_is key t (Some u) kept fits row c =
        let h = c.writer u.0 c.as_found in
        (last_before key t u kept fits row h.0 h.1 (λ v ne x l. let f = c.last v ne x l in subst (λ n. (n ≡ v) ⊎ (w.protocol.point v < w.protocol.point n)) (some_is f.0 u.0 (sym f.1 ∙ c.as_found)) f.2)).0
    current_is key t None kept fits row c = by c.x refl c.as_found
      where
        by : (x : Option ℕ) → c.x ≡ x → IsAsFound plan w t.0 key None x → model.IsCurrent places events opening moments key t None
        by None e found = inl (λ v x l.
            let g = to_writer key v kept x in
            let less = of_less v t x.fits fits g.0 row l in
            some_none ((c.last v.0 (other v.0 t.0 less) g less).0) (sym (c.last v.0 (other v.0 t.0 less) g less).1 ∙ e))
          where
            other : (a b : ℕ) → w.protocol.point a < w.protocol.point b → a ≢ b
            other a b l e = irrefl (w.protocol.point b) (subst (λ n. w.protocol.point n < w.protocol.point b) e l)
              where
                irrefl : (n : ℕ) → n < n → ⊥
                irrefl n l = omega (arith, l)
        by (Some u) e (gone, early) =
            let h = c.writer u e in
            let l = last_before key t (id u) kept fits row h.0 h.1 (λ v ne x m. let f = c.last v ne x m in subst (λ n. (n ≡ v) ⊎ (w.protocol.point v < w.protocol.point n)) (some_is f.0 u (sym f.1 ∙ e)) f.2) in
            inr (record {
              u = id u;
              last = l.0;
              deleted = subst (λ (y : Record). is_in state.Deleted y.columns ≡ true) (sym l.1) (deleted_in plan u key h.0.1 gone);
              recorded = λ n began. was_decided u n (most n began) h.0.0 (low n began early) (fits_of key u h.0);
            })
          where
            begun_is : (n : ℕ) → begun events t ≡ Some n → w.protocol.begun t.0 ≡ n
            begun_is n began = ap (λ (x : ProtocolState). x.begun t.0) (sym i.knows.talks) ∙ faithful.begun t.0 n fits began

            low : (n : ℕ) → begun events t ≡ Some n → w.decided_at u < w.protocol.begun t.0 → w.decided_at u ≤ n
            low n began l = under (w.decided_at u) (w.protocol.begun t.0) n (begun_is n began) l
              where
                under : (a b n : ℕ) → b ≡ n → a < b → a ≤ n
                under a b n e l = omega (arith, e, l)

            most : (n : ℕ) → begun events t ≡ Some n → n ≤ length moments
            most n began = under n (w.protocol.begun t.0) w.protocol.now (length moments) (begun_is n began) (i.all.one.point t.0).1 counted
              where
                counted : w.protocol.now ≡ length moments
                counted = ap (λ (x : ProtocolState). x.now) (sym i.knows.talks) ∙ now_is plan past r.lawful ∙ trace_length places opening past (newest_first moments) r.traced ∙ turned_length moments

                under : (n b m l : ℕ) → b ≡ n → b ≤ m → m ≡ l → n ≤ l
                under n b m l e f g = omega (arith, e, f, g)

pub noted_at : (plan : Plan) (i : ℕ) (key : Key) (item : ReadItem) (version : Option TxId) → slice_get plan.read_set i ≡ Some item → version_read item key ≡ Some version → version_read_at plan i key ≡ Some (number_of version)
unfolding version_read_at
noted_at plan i key item version at says = ap (λ o. option_map number_of (option_and_then (λ n. version_read n key) o)) at ∙ ap (option_map number_of) says

pub stand_at : (plan : ℕ → Plan) (places : List Place) (opening : List StoreContents) (labelled : List Labelled) (moments : List (List StoreContents)) (catalog : List Table) → IsRunOf plan places opening (newest_first labelled) (newest_first moments) → find_table catalog coordinator_table ≡ None → IsFaithful (events_of labelled) (newest_first labelled) → WritesPersist catalog places (events_of labelled) opening moments
stand_at plan places opening labelled moments catalog r none faithful key t table x =
    let apart = apart_from catalog none in
    let kept = apart.outside key table in
    subst (λ s. IsOfOrLater places (events_of labelled) opening moments key t (image_at places s key)) (sym (ends plan places opening labelled moments catalog r apart))
    (stands_on plan places opening labelled moments catalog r apart faithful key t (image_at places (closing opening (newest_first moments)) key) kept x
    (image_is_last_writer plan places (history plan places opening (newest_first labelled) (newest_first moments)) (newest_first labelled) (closing opening (newest_first moments)) (whole_of plan places opening (newest_first labelled) (newest_first moments) r) key kept))

pub current_at : {plan : ℕ → Plan} {places : List Place} {opening : List StoreContents} (labelled : List Labelled) (moments : List (List StoreContents)) (catalog : List Table) → IsRunOf plan places opening (newest_first labelled) (newest_first moments) → find_table catalog coordinator_table ≡ None → IsFaithful (events_of labelled) (newest_first labelled) → AreReadSets plan (events_of labelled) (newest_first labelled)
    → ReadsCurrent catalog places (events_of labelled) opening moments
current_at {plan} {places} {opening} labelled moments catalog r none faithful are t item key version fits recorded inside says table =
    let apart = apart_from catalog none in
    let w = history plan places opening (newest_first labelled) (newest_first moments) in
    let i = whole_of plan places opening (newest_first labelled) (newest_first moments) r in
    let kept = apart.outside key table in
    let row = recorded_row plan places w (newest_first labelled) (closing opening (newest_first moments)) t.0 i fits (subst (λ s. Recorded places s t) (ends plan places opening labelled moments catalog r apart) recorded) in
    let answered = subst (λ (x : ProtocolState). x.accepted t.0 ≡ true) (sym i.knows.talks) (accepted plan places opening labelled moments catalog r apart faithful t.0 row) in
    let at = (are t.0 answered item).1 inside in
    current_is plan places opening labelled moments catalog r apart faithful key t version kept fits row
    (reads_current plan w i.all t.0 at.0 key (number_of version) row (noted_at (plan t.0) at.0 key item version (got (plan t.0).read_set item at.0 at.1 at.2) says))
