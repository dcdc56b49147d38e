-- Each part that may be played is allowed by what was done, and leaves the stores as the history says.
use Rattle.std.proofs.Common.{◌≡◌, ◌≢◌, ℕ, ℤ, ◌<◌, ◌^◌, Bool, true, false, List, [], ◌∷◌, map, Option, Some, None, ◌⊎◌, inl, inr, refl, sym, ap, subst, ◌∙◌, arith}
use Rattle.std.specs.Prelude.{◌&&◌, ◌==◌, if◌then◌else◌}
use Rattle.std.specs.List.{AllByRecursion}
use Rattle.std.specs.Option.{option_map}
use Rattle.law_protocol.specs.Types.{Condition, Decision, Event, Key, Place, Record, Reply, Request, State, TxId, Write}
use Rattle.sdb_types.specs.declared.record.State.TheVariants as state
use Rattle.sdb_types.specs.declared.record.Condition.TheVariants as condition
use Rattle.sdb_types.specs.declared.record.Request.TheVariants as ask
use Rattle.sdb_types.specs.declared.record.Reply.TheVariants as reply
use Rattle.sdb_types.specs.Replies.{is_refused}
use Rattle.sdb_types.specs.Contents.{holds, is_version, put_keys, sent}
use Rattle.sdb_record.specs.declared.coordinator.Decision.TheVariants.{Committed, Aborted}
use Rattle.sdb_record.specs.Coordinator.{coordinator_key_of, coordinator_row_of}
use Rattle.sdb_record.specs.Meta.{is_in, is_committed}
use Rattle.sdb_record.specs.Groups.{keys_of_writes}
use Rattle.sdb_record.specs.Moved.{version_of, condition_of}
use Rattle.sdb_record.specs.Puts.{prepare_of, prepares_of}
use Rattle.sdb_record.specs.Rolls.{prepared_record}
use Rattle.sdb_record.proofs.Public.{row-key, version-writer}
use Rattle.sdb_model.specs.Events.{StoreContents, Effect, stored_at}
use Rattle.law_protocol.specs.Plan.{Plan, write_at, written}
use Rattle.law_protocol.specs.History.{Action, Prepares, Decides, Aborts, Ack, NoAck, is_yes, is_met, is_out_of_memory_ack, Preparing, ProtocolState, History, Standing, Final, Held, at_keys, base_of, has_key, has_version, happens, with_row, IsLive, IsWriter, IsPrepared}
use Rattle.law_protocol.specs.Lawful.{Labelled, protocol_state, id, ack_of, InCommit, MayPrepare, MayDecide, MayAbort}
use Rattle.law_protocol.specs.Records.{write_there, record_prepared_by, record_left_by, record_for, row_for, ContainsHistory}
use Rattle.law_protocol.specs.Flight.{HasForm, StaysAllowed, prepare_at}
use Rattle.law_protocol.specs.Changed.{change_of}
use Rattle.law_protocol.specs.Trace.{has_effect}
use Rattle.law_protocol.proofs.Allowed.{Allowed}
use Rattle.law_protocol.proofs.Canon.{held_writer, held_open, firm_writer, firm_committed, same_writer, not_open_version, not_firm_version}
use Rattle.law_protocol.proofs.Changes.{Asks, HasChanged, called, put_call, puts_call}
use Rattle.law_protocol.proofs.Each.{all_mapped, all_unmapped, at_key_of, each_key, keys_put, map_each, map_mapped, map_own, of_key, weaker}
use Rattle.law_protocol.proofs.Known.{written_some, write_is, writes_it, held_key, accepted_fits, writer_accepted, took_is_accepted}
use Rattle.law_protocol.proofs.Settled.{Knows}
use Rattle.law_protocol.proofs.Links.{IsPutOf, link_puts, link_row}
use Rattle.sdb_types.proofs.Public.{clash, tests}
use Rattle.sdb_model.specs.Tables.{is_data}

pub record Moves (plan : ℕ → Plan) (places : List Place) (w : History) (r : Action) (done : Bool) (now : List StoreContents) : Type 0 where
  pub allowed : Allowed plan w r done
  pub held : ContainsHistory plan places (happens plan w r done) now

---- who is there

fits_standing : (plan : ℕ → Plan) (w : History) (past : List Labelled) (k : Key) (t : ℕ) → Knows plan w past → (w.rows k ≡ Some (Final t)) ⊎ (w.rows k ≡ Some (Held t)) → t < 2 ^ 128
fits_standing plan w past k t knows (inl e) = accepted_fits w t knows.inv.begun knows.fits (writer_accepted plan w k t knows.inv.accepted (knows.inv.firm k t e))
fits_standing plan w past k t knows (inr e) = accepted_fits w t knows.inv.begun knows.fits (took_is_accepted w t k knows.inv.accepted (knows.inv.held k t e))

-- what a version that holds says of what is there
pub version_stands : (plan : ℕ → Plan) (w : History) (past : List Labelled) (k : Key) (v : Option ℕ) → Knows plan w past → ((u : ℕ) → v ≡ Some u → u < 2 ^ 128) → holds (condition_of (option_map id v)) (option_map (record_for plan k) (w.rows k)) ≡ true → has_version (w.rows k) v ≡ true
version_stands plan w past k v knows fits h = by (w.rows k) refl v fits h
  where
    same : (t u : ℕ) → t < 2 ^ 128 → u < 2 ^ 128 → is_version (id u) state.Committed (record_left_by plan t k) ≡ true → (t == u) ≡ true
    same t u a b e = equal t u (same_writer (record_left_by plan t k) t u (firm_writer plan t k a) (version-writer (record_left_by plan t k) (id u) state.Committed b e))
      where
        equal : (t u : ℕ) → t ≡ u → (t == u) ≡ true
        equal t u e = grind (arith, tests)

    by : (s : Option Standing) → w.rows k ≡ s → (v : Option ℕ) → ((u : ℕ) → v ≡ Some u → u < 2 ^ 128) → holds (condition_of (option_map id v)) (option_map (record_for plan k) s) ≡ true → has_version s v ≡ true
    by None e None f h = refl
    by None e (Some u) f h = h
    by (Some (Final t)) e None f h = h
    by (Some (Final t)) e (Some u) f h = same t u (fits_standing plan w past k t knows (inl e)) (f u refl) h
    by (Some (Held t)) e None f h = h
    by (Some (Held t)) e (Some u) f h = clash (sym h ∙ not_firm_version (id u) (record_prepared_by plan t k) (held_open plan t k))

-- a version in an open state is of what its transaction prepared
pub open_stands : (plan : ℕ → Plan) (w : History) (past : List Labelled) (k : Key) (t : ℕ) (s : State) → Knows plan w past → t < 2 ^ 128 → is_committed s ≡ false → holds (condition.Version (id t) s) (option_map (record_for plan k) (w.rows k)) ≡ true → w.rows k ≡ Some (Held t)
open_stands plan w past k t s knows fits is h = by (w.rows k) refl h
  where
    by : (x : Option Standing) → w.rows k ≡ x → holds (condition.Version (id t) s) (option_map (record_for plan k) x) ≡ true → w.rows k ≡ Some (Held t)
    by None e h = clash (sym h)
    by (Some (Final u)) e h = clash (sym h ∙ not_open_version (id t) s (record_left_by plan u k) is (firm_committed plan u k))
    by (Some (Held u)) e h = e ∙ ap (λ y. Some (Held y)) (same_writer (record_prepared_by plan u k) u t (held_writer plan u k (fits_standing plan w past k u knows (inr e))) (version-writer (record_prepared_by plan u k) (id t) s fits h))

-- and one in state 3 is of the record that its transaction left
pub firm_stands : (plan : ℕ → Plan) (w : History) (past : List Labelled) (k : Key) (t : ℕ) → Knows plan w past → t < 2 ^ 128 → holds (condition.Version (id t) state.Committed) (option_map (record_for plan k) (w.rows k)) ≡ true → w.rows k ≡ Some (Final t)
firm_stands plan w past k t knows fits h = by (w.rows k) refl h
  where
    by : (x : Option Standing) → w.rows k ≡ x → holds (condition.Version (id t) state.Committed) (option_map (record_for plan k) x) ≡ true → w.rows k ≡ Some (Final t)
    by None e h = clash (sym h)
    by (Some (Held u)) e h = clash (sym h ∙ not_firm_version (id t) (record_prepared_by plan u k) (held_open plan u k))
    by (Some (Final u)) e h = e ∙ ap (λ y. Some (Final y)) (same_writer (record_left_by plan u k) u t (firm_writer plan u k (fits_standing plan w past k u knows (inl e))) (version-writer (record_left_by plan u k) (id t) state.Committed fits h))

---- in a COMMIT

pub live : (w : History) (past : List Labelled) (client t : ℕ) → protocol_state past ≡ w.protocol → InCommit (protocol_state past) client t → (w.protocol.accepted t ≡ true) × IsLive w.protocol t
live w past client t same c = subst (λ (x : ProtocolState). (x.accepted t ≡ true) × IsLive x t) same (c.accepted, (c.is_open, ap (λ y. (protocol_state past).stopped y) c.owner ∙ c.goes_on))

---- prepares

held_is : (plan : ℕ → Plan) (t : ℕ) (k : Key) (w : Write) → write_at (plan t) k ≡ Some w → prepared_record w (id t) (plan t).now ≡ record_prepared_by plan t k
unfolding record_prepared_by
held_is plan t k w e = ap (λ x. prepared_record x (id t) (plan t).now) (sym (write_is (plan t) k w e))

pub fresh_held : (v : Option TxId) (r : Record) → is_in state.Committed r.columns ≡ false → holds (condition_of v) (Some r) ≡ false
fresh_held None r h = refl
fresh_held (Some i) r h = not_firm_version i r h

pub yes_is : (word : Ack) (r : Reply) → word ≡ ack_of r → is_yes word ≡ true → r ≡ reply.Applied
yes_is word r e h = by r (ap is_yes (sym e) ∙ h)
  where
    by : (r : Reply) → is_yes (ack_of r) ≡ true → r ≡ reply.Applied
    by reply.Applied h = refl
    by (reply.NotMet found) h = clash (sym h)
    by reply.NoMemory h = clash (sym h)
    by (reply.Found found) h = clash (sym h)
    by (reply.Rows rows) h = clash (sym h)
    by (reply.NotAll place there) h = clash (sym h)
    by reply.Fault h = clash (sym h)

wanting_is : (word : Ack) (r : Reply) → word ≡ ack_of r → is_out_of_memory_ack word ≡ true → r ≡ reply.NoMemory
wanting_is word r e h = by r (ap is_out_of_memory_ack (sym e) ∙ h)
  where
    by : (r : Reply) → is_out_of_memory_ack (ack_of r) ≡ true → r ≡ reply.NoMemory
    by reply.Applied h = clash (sym h)
    by (reply.NotMet found) h = clash (sym h)
    by reply.NoMemory h = refl
    by (reply.Found found) h = clash (sym h)
    by (reply.Rows rows) h = clash (sym h)
    by (reply.NotAll place there) h = clash (sym h)
    by reply.Fault h = clash (sym h)

pub writer_fits : (plan : ℕ → Plan) (w : History) (past : List Labelled) (k : Key) (u : ℕ) → Knows plan w past → IsWriter plan w k u → u < 2 ^ 128
writer_fits plan w past k u knows h = accepted_fits w u knows.inv.begun knows.fits (writer_accepted plan w k u knows.inv.accepted h)

base_version : (plan : ℕ → Plan) (k : Key) (v : Option ℕ) → ((u : ℕ) → v ≡ Some u → u < 2 ^ 128) → version_of (option_map (λ u. record_left_by plan u k) v) ≡ option_map id v
base_version plan k None f = refl
base_version plan k (Some u) f = firm_writer plan u k (f u refl)

-- where keys are changed, others stay
pub at_keys_aside : {X : Type 0} (f : Key → X) (ks : List Key) (x : Key → X) (done : Bool) (q : Key) → done && has_key ks q ≡ false → (if done then at_keys f ks x else f) q ≡ f q
at_keys_aside f ks x true q h = rw h refl
at_keys_aside f ks x false q h = refl

-- what a prepare leaves, whether its client makes it or it lands
record PutsPrepared (plan : ℕ → Plan) (places : List Place) (w : History) (t : ℕ) (ks : List Key) (word : Ack) (r : Reply) (done : Bool) (now : List StoreContents) : Type 0 where
  version : done ≡ true → (k : Key) → has_key ks k ≡ true → has_version (w.rows k) (base_of (written (plan t) k)) ≡ true
  applied : r ≡ reply.Applied → done ≡ true
  held : ContainsHistory plan places (happens plan w (Prepares t ks word) done) now

-- a transaction writes a key, of a table of records
abbrev pub WritesAt : (ℕ → Plan) → ℕ → Key → Type 0
WritesAt plan t k = (is_data k ≡ true) × (written (plan t) k ≢ None)

-- the fact of one of the puts
put_prepared : (plan : ℕ → Plan) (w : History) (t : ℕ) (ks : List Key) (word : Ack) (done : Bool) (k : Key) → has_key ks k ≡ true → WritesAt plan t k → IsPutOf plan (happens plan w (Prepares t ks word) done) done (prepare_at plan t k)
put_prepared plan w t ks word done k among is = record {
  stored = ap is_data key ∙ is.0;
  left = λ d. subst (λ y. Some (record_prepared_by plan t k) ≡ option_map (record_for plan y) ((happens plan w (Prepares t ks word) done).rows y)) (sym key) (rw d (rw among refl));
}
  where
    key : (record_prepared_by plan t k).key ≡ k
    key = held_key plan t k is.1

keys_prepared : (plan : ℕ → Plan) (t : ℕ) (ks : List Key) → ((k : Key) → has_key ks k ≡ true → WritesAt plan t k) → put_keys (map (prepare_at plan t) ks) ≡ ks
keys_prepared plan t ks are = keys_put (prepare_at plan t) (λ k. k) ks (each_key _ ks (λ k among. held_key plan t k (are k among).1)) ∙ map_own ks

puts_prepared : (plan : ℕ → Plan) (places : List Place) (w : History) (past : List Labelled) (e : Event) (before now : List StoreContents) (t : ℕ) (ks : List Key) (word : Ack) (r : Reply) (done : Bool)
    → Knows plan w past → ContainsHistory plan places w before → Effect places e before now → has_effect places e before now ≡ done → w.protocol.accepted t ≡ true → ((k : Key) → has_key ks k ≡ true → WritesAt plan t k)
    → Asks e (sent (map (prepare_at plan t) ks)) r → PutsPrepared plan places w t ks word r done now
puts_prepared plan places w past e before now t ks word r done knows held effect is accepted are asks =
    record {
      version = λ d k among. version_is k (are k among) (at_key_of _ ks k (all_unmapped (prepare_at plan t) _ ks (all_unmapped change_of _ (map (prepare_at plan t) ks) (pc.changed.held d))) among);
      applied = pc.applied;
      held = link_puts plan places w v before now (map (prepare_at plan t) ks) done held pc.changed (all_mapped (prepare_at plan t) (IsPutOf plan v done) ks (each_key _ ks (λ k among. put_prepared plan w t ks word done k among (are k among))))
          (λ q h. at_keys_aside w.rows ks (λ x. Some (Held t)) done q (ap (λ qs. done && has_key qs q) (sym (keys_prepared plan t ks are)) ∙ h)) (λ u. refl);
    }
  where
    v : History
    v = happens plan w (Prepares t ks word) done

    fresh : (k : Key) → holds (condition_of (option_map id (base_of (written (plan t) k)))) (Some (record_prepared_by plan t k)) ≡ false
    fresh k = fresh_held (option_map id (base_of (written (plan t) k))) (record_prepared_by plan t k) (held_open plan t k)

    pc : HasChanged places (map change_of (map (prepare_at plan t) ks)) r before now done
    pc = puts_call places e (map (prepare_at plan t) ks) r before now done asks effect is (all_mapped (prepare_at plan t) _ ks (each_key _ ks (λ k among. fresh k)))

    fits : (k : Key) (u : ℕ) → base_of (written (plan t) k) ≡ Some u → u < 2 ^ 128
    fits k u h = writer_fits plan w past k u knows (knows.inv.base t k u accepted h)

    version_is : (k : Key) → WritesAt plan t k → holds (condition_of (option_map id (base_of (written (plan t) k)))) (stored_at places before (record_prepared_by plan t k).key) ≡ true → has_version (w.rows k) (base_of (written (plan t) k)) ≡ true
    version_is k is h = version_stands plan w past k (base_of (written (plan t) k)) knows (fits k) (subst (λ x. holds (condition_of (option_map id (base_of (written (plan t) k)))) x ≡ true) (ap (stored_at places before) (held_key plan t k is.1) ∙ held.records k is.0) h)

-- the put of a prepare is the one that the plan has
prepare_is : (plan : ℕ → Plan) (w : History) (past : List Labelled) (t : ℕ) (x : Write) → Knows plan w past → w.protocol.accepted t ≡ true → write_at (plan t) x.key ≡ Some x
    → prepare_of (id t) (plan t).now x ≡ prepare_at plan t x.key
prepare_is plan w past t x knows accepted at =
    let planned = knows.planned t accepted in
    let fits : (u : ℕ) → base_of (written (plan t) x.key) ≡ Some u → u < 2 ^ 128 = λ u h. writer_fits plan w past x.key u knows (knows.inv.base t x.key u accepted h) in
    let same : condition_of (version_of x.base) ≡ condition_of (option_map id (base_of (written (plan t) x.key))) = ap (λ (y : Option Record). condition_of (version_of y)) (planned.base x.key x at) ∙ ap condition_of (base_version plan x.key (base_of (written (plan t) x.key)) fits) in
    ap (λ (r : Record). record { rec = r; condition = condition_of (version_of x.base) }) (held_is plan t x.key x at) ∙ ap (λ (c : Condition). record { rec = record_prepared_by plan t x.key; condition = c }) same

-- and so is the request
pub prepares_are : (plan : ℕ → Plan) (w : History) (past : List Labelled) (t : ℕ) (group : List Write) → Knows plan w past → w.protocol.accepted t ≡ true → AllByRecursion (λ (x : Write). write_at (plan t) x.key ≡ Some x) group
    → prepares_of (id t) (plan t).now group ≡ sent (map (prepare_at plan t) (keys_of_writes group))
prepares_are plan w past t group knows accepted all =
    ap sent (map_each (prepare_of (id t) (plan t).now) (λ (x : Write). prepare_at plan t x.key) group (weaker _ _ group (λ x at. prepare_is plan w past t x knows accepted at) all)
    ∙ sym (map_mapped (prepare_at plan t) (λ (x : Write). x.key) group))

-- each key of a prepare is written
pub are_written : (plan : ℕ → Plan) (w : History) (past : List Labelled) (t : ℕ) (ks : List Key) (group : List Write) → Knows plan w past → w.protocol.accepted t ≡ true → ks ≡ keys_of_writes group → AllByRecursion (λ (x : Write). write_at (plan t) x.key ≡ Some x) group
    → (k : Key) → has_key ks k ≡ true → WritesAt plan t k
are_written plan w past t ks group knows accepted keys all k among =
    let x = of_key (λ (y : Write). y.key) _ group k all (ap (λ qs. has_key qs k) (sym keys) ∙ among) in
    subst (WritesAt plan t) x.1 (((knows.planned t accepted).write x.0.key x.0 x.2).1, written_some (plan t) x.0.key x.0 x.2)

-- the request of a prepare is the puts that the plan has
pub prepares_asked : (plan : ℕ → Plan) (w : History) (past : List Labelled) (e : Event) (t : ℕ) (ks : List Key) (word : Ack) → Knows plan w past → (m : MayPrepare plan past e t ks word) → prepares_of (id t) (plan t).now m.group ≡ sent (map (prepare_at plan t) ks)
prepares_asked plan w past e t ks word knows m =
    prepares_are plan w past t m.group knows (live w past m.client t knows.talks m.within).0 m.each ∙ ap (λ qs. sent (map (prepare_at plan t) qs)) (sym m.keys)

pub prepare_moves : (plan : ℕ → Plan) (places : List Place) (w : History) (past : List Labelled) (e : Event) (before now : List StoreContents) (t : ℕ) (ks : List Key) (word : Ack) (done : Bool)
    → Knows plan w past → ContainsHistory plan places w before → Effect places e before now → has_effect places e before now ≡ done → MayPrepare plan past e t ks word → Moves plan places w (Prepares t ks word) done now
prepare_moves plan places w past e before now t ks word done knows held effect is m =
    let alive = live w past m.client t knows.talks m.within in
    let are = are_written plan w past t ks m.group knows alive.0 m.keys m.each in
    let asks = subst (λ x. Asks e x m.r) (prepares_asked plan w past e t ks word knows m) (called e m.client _ m.r m.call) in
    let p = puts_prepared plan places w past e before now t ks word m.r done knows held effect is alive.0 are asks in
    record {
      allowed = (
        alive.0,
        inl (alive.1, subst (λ (x : ProtocolState). x.stage t ≡ Preparing) knows.talks m.stage, λ k among. subst (λ (x : ProtocolState). x.asked t k ≡ false) knows.talks (m.once k among)),
        λ k among. (are k among).1,
        p.version,
        λ y. p.applied (yes_is word m.r m.word_is y),
      );
      held = p.held;
    }

-- a prepare that lands
pub late_prepare_moves : (plan : ℕ → Plan) (places : List Place) (w : History) (past : List Labelled) (e : Event) (before now : List StoreContents) (t : ℕ) (ks : List Key) (word : Ack) (q : Request) (r : Reply) (done : Bool)
    → Knows plan w past → ContainsHistory plan places w before → Effect places e before now → has_effect places e before now ≡ done → Asks e q r → HasForm plan q (Prepares t ks word) → StaysAllowed plan w (Prepares t ks word) → Moves plan places w (Prepares t ks word) done now
late_prepare_moves plan places w past e before now t ks word q r done knows held effect is asks form stays =
    let p = puts_prepared plan places w past e before now t ks word r done knows held effect is stays.0 are (subst (λ x. Asks e x r) form.asks asks) in
    record {
      allowed = (stays.0, inr stays.1, λ k among. (are k among).1, p.version, λ y. clash (sym y ∙ ap is_yes stays.1.1));
      held = p.held;
    }
  where
    are : (k : Key) → has_key ks k ≡ true → WritesAt plan t k
    are k among = let writes = knows.inv.asked t k (stays.1.0 k among).0 in (((knows.planned t stays.0).write k (write_there (plan t) k) (writes_it (plan t) k writes)).1, writes)

---- rows

absent_row : (w : History) (t : ℕ) → holds condition.Absent (row_for w t) ≡ true → w.row t ≡ None
absent_row w t h = by (w.row t) refl h
  where
    by : (o : Option Decision) → w.row t ≡ o → holds condition.Absent (option_map (λ d. coordinator_row_of (id t) d (w.moment t)) o) ≡ true → w.row t ≡ None
    by None e h = e
    by (Some d) e h = clash (sym h)

present_row : (w : History) (t : ℕ) → holds condition.Absent (row_for w t) ≡ false → w.row t ≢ None
present_row w t h = by (w.row t) refl h
  where
    by : (o : Option Decision) → w.row t ≡ o → holds condition.Absent (option_map (λ d. coordinator_row_of (id t) d (w.moment t)) o) ≡ false → w.row t ≢ None
    by None e h = clash h
    by (Some d) e h = λ n. grind arith

met_is : (places : List Place) (t : ℕ) (word : Ack) (r : Reply) (new : Option Record) (before now : List StoreContents) (done : Bool) → word ≡ ack_of r → HasChanged places (record { key = coordinator_key_of (id t); left = new; condition = condition.Absent } ∷ []) r before now done → is_met word ≡ true → done ≡ false → holds condition.Absent (stored_at places before (coordinator_key_of (id t))) ≡ false
met_is places t word r new before now done e written met n = by r refl (ap is_met (sym e) ∙ met)
  where
    failed : (holds condition.Absent (stored_at places before (coordinator_key_of (id t))) ≡ false) ⊎ ⊥ → holds condition.Absent (stored_at places before (coordinator_key_of (id t))) ≡ false
    failed (inl h) = h
    failed (inr h) = absurd h

    by : (x : Reply) → r ≡ x → is_met (ack_of x) ≡ true → holds condition.Absent (stored_at places before (coordinator_key_of (id t))) ≡ false
    by reply.Applied f h = clash (sym (written.applied f) ∙ n)
    by (reply.NotMet found) f h = failed (written.unmet (ap is_refused f))
    by reply.NoMemory f h = clash (sym h)
    by (reply.Found found) f h = clash (sym h)
    by (reply.Rows rows) f h = clash (sym h)
    by (reply.NotAll place there) f h = failed (written.unmet (ap is_refused f))
    by reply.Fault f h = clash (sym h)

row_put : (w : History) (h : ProtocolState) (t : ℕ) (d : Decision) (m : ℤ) (done : Bool) (u : ℕ) → row_for (with_row w h t d m done) u ≡ (if done && u == t then Some (coordinator_row_of (id t) d m) else row_for w u)
row_put w h t d m false u = refl
row_put w h t d m true u = by (u == t) refl
  where
    same : (u t : ℕ) → (u == t) ≡ true → u ≡ t
    same u t e = grind (arith, tests)

    by : (b : Bool) → (u == t) ≡ b → row_for (with_row w h t d m true) u ≡ (if u == t then Some (coordinator_row_of (id t) d m) else row_for w u)
    by true e = rw e (ap (λ x. Some (coordinator_row_of (id x) d m)) (same u t e))
    by false e = rw e refl

-- a put of a row, of either decision
record PutsRow (plan : ℕ → Plan) (places : List Place) (w : History) (t : ℕ) (d : Decision) (m : ℤ) (word : Ack) (done : Bool) (now : List StoreContents) : Type 0 where
  none : done ≡ true → w.row t ≡ None
  yes : is_yes word ≡ true → done ≡ true
  wanting : is_out_of_memory_ack word ≡ true → done ≡ false
  met : is_met word ≡ true → done ≡ false → w.row t ≢ None
  held : (h : ProtocolState) → ContainsHistory plan places (with_row w h t d m done) now

puts_row : (plan : ℕ → Plan) (places : List Place) (w : History) (e : Event) (before now : List StoreContents) (t : ℕ) (d : Decision) (m : ℤ) (r : Reply) (word : Ack) (done : Bool)
    → t < 2 ^ 128 → ContainsHistory plan places w before → Effect places e before now → has_effect places e before now ≡ done → Asks e (ask.PutIf (coordinator_row_of (id t) d m) condition.Absent) r → (word ≡ ack_of r) ⊎ (word ≡ NoAck) → PutsRow plan places w t d m word done now
puts_row plan places w e before now t d m r word done fits held effect is asks acks =
    let key = coordinator_key_of (id t) in
    let row = coordinator_row_of (id t) d m in
    let pc = put_call places e row condition.Absent r before now done key asks effect is (row-key (id t) d m) refl in
    record {
      none = λ h. absent_row w t (subst (λ x. holds condition.Absent x ≡ true) (held.rows t fits) (pc.changed.held h).0);
      yes = λ y. elim acks [ inl own ↦ pc.applied (yes_is word r own y) | inr none ↦ clash (sym y ∙ ap is_yes none) ];
      wanting = λ y. elim acks [ inl own ↦ pc.wanting (wanting_is word r own y) | inr none ↦ clash (sym y ∙ ap is_out_of_memory_ack none) ];
      met = λ y n. elim acks [
        | inl own ↦ present_row w t (subst (λ x. holds condition.Absent x ≡ false) (held.rows t fits) (met_is places t word r (Some row) before now done own pc y n))
        | inr none ↦ clash (sym y ∙ ap is_met none)
      ];
      held = λ h. link_row plan places w (with_row w h t d m done) before now t d m condition.Absent done held pc.changed fits (λ q. refl) (row_put w h t d m done);
    }

pub decide_moves : (plan : ℕ → Plan) (places : List Place) (w : History) (past : List Labelled) (e : Event) (before now : List StoreContents) (t : ℕ) (word : Ack) (done : Bool)
    → Knows plan w past → ContainsHistory plan places w before → Effect places e before now → has_effect places e before now ≡ done → MayDecide plan past e t word → Moves plan places w (Decides t word) done now
decide_moves plan places w past e before now t word done knows held effect is m =
    let alive = live w past m.client t knows.talks m.within in
    let p = puts_row plan places w e before now t Committed (plan t).now m.r word done (accepted_fits w t knows.inv.begun knows.fits alive.0) held effect is (called e m.client _ m.r m.call) (inl m.word_is) in
    record {
      allowed = (
        alive.0,
        inl alive.1,
        subst (λ (x : ProtocolState). IsPrepared plan x t) knows.talks m.prepared,
        λ i k v n h. subst (λ (x : ProtocolState). x.checked t i ≡ true) knows.talks (m.checked i k v n h),
        m.agrees,
        p.none,
        p.yes,
        p.wanting,
        p.met,
      );
      held = p.held _;
    }

-- a put of COMMITTED that lands
pub late_decide_moves : (plan : ℕ → Plan) (places : List Place) (w : History) (past : List Labelled) (e : Event) (before now : List StoreContents) (t : ℕ) (word : Ack) (q : Request) (r : Reply) (done : Bool)
    → Knows plan w past → ContainsHistory plan places w before → Effect places e before now → has_effect places e before now ≡ done → Asks e q r → HasForm plan q (Decides t word) → StaysAllowed plan w (Decides t word) → Moves plan places w (Decides t word) done now
late_decide_moves plan places w past e before now t word q r done knows held effect is asks form stays =
    let ready = stays.0 in
    let p = puts_row plan places w e before now t Committed (plan t).now r word done (accepted_fits w t knows.inv.begun knows.fits ready.accepted) held effect is (subst (λ x. Asks e x r) form asks) (inr stays.1) in
    record { allowed = (ready.accepted, inr ready.risked, ready.prepared, ready.checked, ready.agrees, p.none, p.yes, p.wanting, p.met); held = p.held _ }

pub abort_moves : (plan : ℕ → Plan) (places : List Place) (w : History) (past : List Labelled) (e : Event) (before now : List StoreContents) (t : ℕ) (moment : ℤ) (word : Ack) (done : Bool)
    → ContainsHistory plan places w before → Effect places e before now → has_effect places e before now ≡ done → MayAbort past e t moment word → Moves plan places w (Aborts t moment word) done now
abort_moves plan places w past e before now t moment word done held effect is m =
    let p = puts_row plan places w e before now t Aborted moment m.r word done m.fits held effect is (called e m.client _ m.r m.call) (inl m.word_is) in
    record { allowed = (p.none, p.yes, p.met); held = p.held _ }

-- a put of ABORTED that lands
pub late_abort_moves : (plan : ℕ → Plan) (places : List Place) (w : History) (e : Event) (before now : List StoreContents) (t : ℕ) (moment : ℤ) (word : Ack) (q : Request) (r : Reply) (done : Bool)
    → ContainsHistory plan places w before → Effect places e before now → has_effect places e before now ≡ done → Asks e q r → HasForm plan q (Aborts t moment word) → StaysAllowed plan w (Aborts t moment word) → Moves plan places w (Aborts t moment word) done now
late_abort_moves plan places w e before now t moment word q r done held effect is asks form stays =
    let p = puts_row plan places w e before now t Aborted moment r word done stays.0 held effect is (subst (λ x. Asks e x r) form asks) (inr stays.2) in
    record { allowed = (p.none, p.yes, p.met); held = p.held _ }
