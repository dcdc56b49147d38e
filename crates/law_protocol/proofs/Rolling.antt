-- Rolls and removals, as the moves before.
use Rattle.std.proofs.Common.{◌≡◌, ◌≢◌, ℕ, ◌<◌, ◌^◌, Bool, true, false, List, [], ◌∷◌, length, map, Option, Some, None, inl, inr, refl, sym, ap, subst, ◌∙◌, arith}
use Rattle.std.specs.Prelude.{◌&&◌, if◌then◌else◌}
use Rattle.std.specs.List.{AllByRecursion}
use Rattle.std.specs.Option.{option_map, option_map_or}
use Rattle.law_protocol.specs.Types.{Change, Decision, Event, Key, Place, Record, Reply, Request, State}
use Rattle.sdb_types.specs.declared.record.State.TheVariants as state
use Rattle.sdb_types.specs.declared.record.Condition.TheVariants as condition
use Rattle.sdb_types.specs.declared.record.Request.TheVariants as ask
use Rattle.sdb_types.specs.Contents.{holds, put_keys, sent}
use Rattle.sdb_record.specs.declared.coordinator.Decision.TheVariants.{Committed, Aborted}
use Rattle.sdb_record.specs.declared.write.Change.TheVariants as change
use Rattle.sdb_record.specs.Meta.{id_in, is_committed}
use Rattle.sdb_record.specs.Parts.{before_record}
use Rattle.sdb_record.specs.Rolls.{IsWrite, forward_record, is_tombstone, row_of_image, row_of_change, undo}
use Rattle.sdb_record.proofs.Public.{forward-prepared-row}
use Rattle.sdb_model.specs.Events.{StoreContents, Effect, stored_at}
use Rattle.law_protocol.specs.Plan.{Plan, written, deletes, is_delete}
use Rattle.law_protocol.specs.History.{Rolls, Removes, ProtocolState, History, Held, base_of, final_of, has_key, rolled, happens, IsLive, IsWriter}
use Rattle.law_protocol.specs.Lawful.{Labelled, id, MayRoll, MayRollForward, MayRollBack, MayRemove, roll_forward_of}
use Rattle.law_protocol.specs.Records.{write_there, record_prepared_by, record_left_by, record_for, ContainsHistory}
use Rattle.law_protocol.specs.Changed.{change_of}
use Rattle.law_protocol.specs.Flight.{AsksRollBack, AsksRollForward, HasForm, StaysAllowed, roll_back_at, roll_forward_at}
use Rattle.law_protocol.specs.Trace.{has_effect}
use Rattle.law_protocol.proofs.Canon.{firm_writer, firm_committed, same_writer, not_open_version}
use Rattle.law_protocol.proofs.Changes.{Asks, HasChanged, called, put_call, puts_call, delete_call}
use Rattle.law_protocol.proofs.Each.{all_mapped, all_unmapped, both, each_key, keys_put, map_each, map_mapped, of_key, only_key, weaker}
use Rattle.law_protocol.proofs.Known.{IsPlanned, writes_it, held_before, firm_key, writer_accepted}
use Rattle.law_protocol.proofs.Settled.{IsOwn, Knows, firm_of as settled_of, forward_at, prepared_there, committed_of, aborted_of}
use Rattle.law_protocol.proofs.Links.{IsPutOf, link_puts, link_write}
use Rattle.law_protocol.proofs.Moves.{Moves, WritesAt, at_keys_aside, open_stands, firm_stands, writer_fits}
use Rattle.sdb_types.proofs.Public.{clash, same_key_decides, same_key_self}
use Rattle.sdb_types.specs.Order.{same_key}
use Rattle.sdb_model.specs.Tables.{is_data}

-- the put of what is left at one of the keys
put_forward : (plan : ℕ → Plan) (w : History) (t : ℕ) (ks : List Key) (done : Bool) (x : Key × State) → has_key ks x.0 ≡ true → WritesAt plan t x.0 → IsPutOf plan (happens plan w (Rolls t ks Committed) done) done (roll_forward_at plan t x)
put_forward plan w t ks done x among is = record {
  stored = ap is_data key ∙ is.0;
  left = λ d. subst (λ y. Some (record_left_by plan t x.0) ≡ option_map (record_for plan y) ((happens plan w (Rolls t ks Committed) done).rows y)) (sym key) (rw d (rw among refl));
}
  where
    key : (record_left_by plan t x.0).key ≡ x.0
    key = firm_key plan t x.0 is.1

-- The condition of a put of what is left is met: what is there is of the transaction, in that unresolved state.
abbrev IsMetBefore : (ℕ → Plan) → List Place → List StoreContents → ℕ → Key × State → Type 0
IsMetBefore plan places before t x = (is_committed x.1 ≡ false) × (holds (condition.Version (id t) x.1) (stored_at places before (record_left_by plan t x.0).key) ≡ true)

-- what a roll forward leaves, whether a client makes it or it lands
forward_puts : (plan : ℕ → Plan) (places : List Place) (w : History) (past : List Labelled) (e : Event) (before now : List StoreContents) (t : ℕ) (ks : List Key) (q : Request) (r : Reply) (done : Bool)
    → Knows plan w past → ContainsHistory plan places w before → Effect places e before now → has_effect places e before now ≡ done → (w.row t ≡ Some Committed) × (t < 2 ^ 128) → ((k : Key) → has_key ks k ≡ true → WritesAt plan t k)
    → AsksRollForward plan q t ks → Asks e q r → Moves plan places w (Rolls t ks Committed) done now
forward_puts plan places w past e before now t ks q r done knows held effect is known are form asks =
    record {
      allowed = λ d. (λ k among. stood k (are k among) (of_key (λ (x : Key × State). x.0) (IsMetBefore plan places before t) form.found k (met d) (ap (λ qs. has_key qs k) (sym form.keys) ∙ among)), known.0);
      held = link_puts plan places w v before now (map (roll_forward_at plan t) form.found) done held pc.changed (all_mapped (roll_forward_at plan t) (IsPutOf plan v done) form.found puts)
          (λ k h. at_keys_aside w.rows ks (λ x. rolled (plan t) t x Committed) done k (ap (λ qs. done && has_key qs k) (form.keys ∙ sym keys) ∙ h)) (λ u. refl);
    }
  where
    v : History
    v = happens plan w (Rolls t ks Committed) done

    at : AllByRecursion (λ (x : Key × State). (has_key ks x.0 ≡ true) × WritesAt plan t x.0) form.found
    at = all_unmapped (λ (x : Key × State). x.0) (λ k. (has_key ks k ≡ true) × WritesAt plan t k) form.found
        (subst (AllByRecursion (λ k. (has_key ks k ≡ true) × WritesAt plan t k)) form.keys (each_key _ ks (λ k among. (among, are k among))))

    puts : AllByRecursion (λ (x : Key × State). IsPutOf plan (happens plan w (Rolls t ks Committed) done) done (roll_forward_at plan t x)) form.found
    puts = weaker _ _ form.found (λ x h. put_forward plan w t ks done x h.0 h.1) at

    keys : put_keys (map (roll_forward_at plan t) form.found) ≡ map (λ (x : Key × State). x.0) form.found
    keys = keys_put (roll_forward_at plan t) (λ (x : Key × State). x.0) form.found (weaker _ _ form.found (λ x h. firm_key plan t x.0 h.1.1) at)

    pc : HasChanged places (map change_of (map (roll_forward_at plan t) form.found)) r before now done
    pc = puts_call places e (map (roll_forward_at plan t) form.found) r before now done (subst (λ y. Asks e y r) form.asks asks) effect is
        (all_mapped (roll_forward_at plan t) _ form.found (weaker _ _ form.found (λ x loose. not_open_version (id t) x.1 (record_left_by plan t x.0) loose (firm_committed plan t x.0)) form.unresolved))

    met : done ≡ true → AllByRecursion (IsMetBefore plan places before t) form.found
    met d = both _ _ form.found form.unresolved (all_unmapped (roll_forward_at plan t) _ form.found (all_unmapped change_of _ (map (roll_forward_at plan t) form.found) (pc.changed.held d)))

    stood : (k : Key) → WritesAt plan t k → (x : Key × State) × (x.0 ≡ k) × IsMetBefore plan places before t x → w.rows k ≡ Some (Held t)
    stood k is x =
        open_stands plan w past k t x.0.1 knows known.1 x.2.0
        (subst (λ y. holds (condition.Version (id t) x.0.1) y ≡ true) (ap (λ y. stored_at places before (record_left_by plan t y).key) x.1 ∙ ap (stored_at places before) (firm_key plan t k is.1) ∙ held.records k is.0) x.2.1)

-- a record that is rolled is what the transaction prepared at its key, which is written
own_at : (plan : ℕ → Plan) (w : History) (past : List Labelled) (t : ℕ) (x : Record × State) → Knows plan w past → MayRoll plan past t x.0.key x.0 x.1 → IsOwn plan w t x.0.key x.0
own_at plan w past t x knows m = prepared_there plan w past t x.0.key x.0 knows m.outside m.prepared

-- a transaction that rolls something is of an id that fits, and was accepted
one_own : (plan : ℕ → Plan) (w : History) (past : List Labelled) (t : ℕ) (xs : List (Record × State)) → Knows plan w past → AllByRecursion (λ (x : Record × State). MayRoll plan past t x.0.key x.0 x.1) xs → 0 < length (map (λ (x : Record × State). x.0.key) xs)
    → (t < 2 ^ 128) × (w.protocol.accepted t ≡ true)
one_own plan w past t [] knows all some = absurd (omega (arith, some))
one_own plan w past t (x ∷ xs) knows all some = let own = own_at plan w past t x knows all.0 in (own.fits, own.accepted)

pub record RollsForward (plan : ℕ → Plan) (w : History) (t : ℕ) (ks : List Key) (q : Request) : Type 0 where
  pub row : w.row t ≡ Some Committed
  pub fits : t < 2 ^ 128
  pub accepted : w.protocol.accepted t ≡ true
  pub asked : (k : Key) → has_key ks k ≡ true → (is_data k ≡ true) × (w.protocol.asked t k ≡ true)
  pub form : AsksRollForward plan q t ks

-- where a record that is rolled is, and in which state
abbrev found_at : Record × State → Key × State
found_at x = (x.0.key, x.1)

-- the request of a roll forward is the puts that the plan has
pub rolls_forward : (plan : ℕ → Plan) (w : History) (past : List Labelled) (e : Event) (t : ℕ) (ks : List Key) → Knows plan w past → (m : MayRollForward plan past e t ks) → RollsForward plan w t ks (sent (map (roll_forward_of (id t) m.moment) m.rolled))
rolls_forward plan w past e t ks knows m = record {
  row = known.0;
  fits = own.0;
  accepted = own.1;
  asked = λ k among. let x = of_key (λ (y : Record × State). y.0.key) _ m.rolled k m.each (ap (λ qs. has_key qs k) (sym m.keys) ∙ among) in subst (λ y. (is_data y ≡ true) × (w.protocol.asked t y ≡ true)) x.1 (x.2.outside, (own_at plan w past t x.0 knows x.2).asked);
  form = record {
    found = map found_at m.rolled;
    keys = m.keys ∙ sym (map_mapped (λ (x : Key × State). x.0) found_at m.rolled);
    some = m.some;
    once_each = m.once_each;
    unresolved = all_mapped found_at (λ (x : Key × State). is_committed x.1 ≡ false) m.rolled (weaker _ _ m.rolled (λ x h. h.is_open) m.each);
    asks = ap sent (map_each (roll_forward_of (id t) m.moment) (λ x. roll_forward_at plan t (found_at x)) m.rolled (weaker _ _ m.rolled same m.each) ∙ sym (map_mapped (roll_forward_at plan t) found_at m.rolled));
  };
}
  where
    own : (t < 2 ^ 128) × (w.protocol.accepted t ≡ true)
    own = one_own plan w past t m.rolled knows m.each (subst (λ qs. 0 < length qs) m.keys m.some)

    known : (w.row t ≡ Some Committed) × (m.moment ≡ (plan t).now)
    known = committed_of plan w past t m.moment knows own.0 m.known

    same : (x : Record × State) → MayRoll plan past t x.0.key x.0 x.1 → roll_forward_of (id t) m.moment x ≡ roll_forward_at plan t (x.0.key, x.1)
    same x h = ap (λ (y : Record). record { rec = y; condition = condition.Version (id t) x.1 }) (ap (λ y. forward_record y m.moment) (own_at plan w past t x knows h).same ∙ forward_at plan t x.0.key m.moment known.1)

pub forward_moves : (plan : ℕ → Plan) (places : List Place) (w : History) (past : List Labelled) (e : Event) (before now : List StoreContents) (t : ℕ) (ks : List Key) (done : Bool)
    → Knows plan w past → ContainsHistory plan places w before → Effect places e before now → has_effect places e before now ≡ done → MayRollForward plan past e t ks → Moves plan places w (Rolls t ks Committed) done now
forward_moves plan places w past e before now t ks done knows held effect is m =
    let f = rolls_forward plan w past e t ks knows m in
    forward_puts plan places w past e before now t ks _ m.r done knows held effect is (f.row, f.fits) (λ k among. let x = f.asked k among in (x.0, knows.inv.asked t k x.1)) f.form (called e m.client _ m.r m.call)

-- a roll forward that lands
pub late_forward_moves : (plan : ℕ → Plan) (places : List Place) (w : History) (past : List Labelled) (e : Event) (before now : List StoreContents) (t : ℕ) (ks : List Key) (q : Request) (r : Reply) (done : Bool)
    → Knows plan w past → ContainsHistory plan places w before → Effect places e before now → has_effect places e before now ≡ done → Asks e q r → AsksRollForward plan q t ks → StaysAllowed plan w (Rolls t ks Committed) → Moves plan places w (Rolls t ks Committed) done now
late_forward_moves plan places w past e before now t ks q r done knows held effect is asks form stays =
    forward_puts plan places w past e before now t ks q r done knows held effect is (stays.0, stays.1) (λ k among. let x = stays.3 k among in (x.0, knows.inv.asked t k x.1)) form asks

---- back

backs : (plan : ℕ → Plan) (places : List Place) (e : Event) (t : ℕ) (k : Key) (s : State) (v : Option ℕ) (r : Reply) (before now : List StoreContents) (done : Bool) → is_committed s ≡ false → ((u : ℕ) → v ≡ Some u → written (plan u) k ≢ None)
    → Asks e (undo (condition.Version (id t) s) k (option_map (λ u. record_left_by plan u k) v)) r → Effect places e before now → has_effect places e before now ≡ done → HasChanged places (record { key = k; left = option_map (λ u. record_left_by plan u k) v; condition = condition.Version (id t) s } ∷ []) r before now done
backs plan places e t k s None r before now done is writer asks effect took = delete_call places e k (condition.Version (id t) s) r before now done asks effect took refl
backs plan places e t k s (Some u) r before now done is writer asks effect took =
    put_call places e (record_left_by plan u k) (condition.Version (id t) s) r before now done k asks effect took (firm_key plan u k (writer u refl)) (not_open_version (id t) s (record_left_by plan u k) is (firm_committed plan u k))

firm_for : (plan : ℕ → Plan) (k : Key) (v : Option ℕ) → option_map (λ u. record_left_by plan u k) v ≡ option_map (record_for plan k) (final_of v)
firm_for plan k None = refl
firm_for plan k (Some u) = refl

rolled_rows : (plan : ℕ → Plan) (w : History) (t : ℕ) (k : Key) (d : Decision) (b : Bool) (q : Key) → (happens plan w (Rolls t (k ∷ []) d) b).rows q ≡ (if b && same_key q k then rolled (plan t) t k d else w.rows q)
rolled_rows plan w t k d true q = elim (same_key_decides q k) [
  | inl e ↦ rw e.0 (ap (λ y. rolled (plan t) t y d) e.1)
  | inr n ↦ rw n.0 refl
]
rolled_rows plan w t k d false q = refl

-- what a roll back leaves, whether a client makes it or it lands
back_puts : (plan : ℕ → Plan) (places : List Place) (w : History) (past : List Labelled) (e : Event) (before now : List StoreContents) (t : ℕ) (k : Key) (s : State) (r : Reply) (done : Bool)
    → Knows plan w past → ContainsHistory plan places w before → Effect places e before now → has_effect places e before now ≡ done → w.row t ≡ Some Aborted → t < 2 ^ 128 → is_data k ≡ true → w.protocol.accepted t ≡ true → is_committed s ≡ false
    → Asks e (roll_back_at plan t k s) r → Moves plan places w (Rolls t (k ∷ []) Aborted) done now
back_puts plan places w past e before now t k s r done knows held effect is row fits outside accepted open_state asks =
    let v = base_of (written (plan t) k) in
    let c = condition.Version (id t) s in
    let b = backs plan places e t k s v r before now done open_state (λ u h. (knows.inv.base t k u accepted h).1) asks effect is in
    record {
      allowed = λ h. (only_key (λ q. w.rows q ≡ Some (Held t)) k (open_stands plan w past k t s knows fits open_state (subst (λ x. holds c x ≡ true) (held.records k outside) (b.changed.held h).0)), row);
      held = link_write plan places w (happens plan w (Rolls t (k ∷ []) Aborted) done) before now k c (option_map (λ u. record_left_by plan u k) v) (final_of v) done held b.changed outside (λ h. firm_for plan k v) (rolled_rows plan w t k Aborted done) (λ u. refl);
    }

-- the request of a roll back is the one that the plan has
pub back_is : (plan : ℕ → Plan) (w : History) (past : List Labelled) (e : Event) (t : ℕ) (k : Key) → Knows plan w past → (m : MayRollBack plan past e t k)
    → (w.row t ≡ Some Aborted) × (undo (condition.Version (id t) m.s) k (before_record m.rolled) ≡ roll_back_at plan t k m.s)
back_is plan w past e t k knows m =
    let own = prepared_there plan w past t k m.rolled knows m.roll.outside m.roll.prepared in
    (aborted_of plan w past t knows own.fits m.known, ap (undo (condition.Version (id t) m.s) k) (ap before_record own.same ∙ held_before plan t k (knows.planned t own.accepted) own.writes))

pub back_moves : (plan : ℕ → Plan) (places : List Place) (w : History) (past : List Labelled) (e : Event) (before now : List StoreContents) (t : ℕ) (k : Key) (done : Bool)
    → Knows plan w past → ContainsHistory plan places w before → Effect places e before now → has_effect places e before now ≡ done → MayRollBack plan past e t k → Moves plan places w (Rolls t (k ∷ []) Aborted) done now
back_moves plan places w past e before now t k done knows held effect is m =
    let own = prepared_there plan w past t k m.rolled knows m.roll.outside m.roll.prepared in
    let f = back_is plan w past e t k knows m in
    back_puts plan places w past e before now t k m.s m.r done knows held effect is f.0 own.fits m.roll.outside own.accepted m.roll.is_open (subst (λ x. Asks e x m.r) f.1 (called e m.client _ m.r m.call))

-- a roll back that lands
pub late_back_moves : (plan : ℕ → Plan) (places : List Place) (w : History) (past : List Labelled) (e : Event) (before now : List StoreContents) (t : ℕ) (k : Key) (q : Request) (r : Reply) (done : Bool)
    → Knows plan w past → ContainsHistory plan places w before → Effect places e before now → has_effect places e before now ≡ done → Asks e q r → AsksRollBack plan q t k → StaysAllowed plan w (Rolls t (k ∷ []) Aborted) → Moves plan places w (Rolls t (k ∷ []) Aborted) done now
late_back_moves plan places w past e before now t k q r done knows held effect is asks form stays =
    back_puts plan places w past e before now t k form.0 r done knows held effect is stays.0 stays.1 (stays.3 k (same_key_self k)).0 stays.2 form.1 (subst (λ x. Asks e x r) form.2 asks)

---- removals

tombstone_row : (r : Record) → is_tombstone r ≡ true → row_of_image r ≡ None
tombstone_row r h = rw h refl

no_row : (c : Change) → row_of_change c ≡ None → is_delete c ≡ true
no_row (change.Row columns) e = clash (by e)
  where
    by : Some columns ≡ None → true ≡ false
    by e = absurd (cc)
no_row change.Delete e = refl

pub firm_row : (plan : ℕ → Plan) (t : ℕ) (k : Key) → IsWrite (write_there (plan t) k) → row_of_image (record_left_by plan t k) ≡ row_of_change (write_there (plan t) k).change
unfolding record_left_by record_prepared_by
firm_row plan t k h = forward-prepared-row (write_there (plan t) k) (id t) (plan t).now (plan t).now h

deletes_it : (plan : Plan) (k : Key) → written plan k ≢ None → is_delete (write_there plan k).change ≡ true → deletes plan k ≡ true
unfolding deletes
deletes_it plan k writes h = ap (λ o. option_map_or (λ w. is_delete w.change) o false) (writes_it plan k writes) ∙ h

-- who left a tombstone deleted the row
pub tombstone_deletes : (plan : ℕ → Plan) (t : ℕ) (k : Key) → IsPlanned plan t → written (plan t) k ≢ None → is_tombstone (record_left_by plan t k) ≡ true → deletes (plan t) k ≡ true
tombstone_deletes plan t k planned writes h =
    deletes_it (plan t) k writes (no_row (write_there (plan t) k).change (sym (firm_row plan t k (planned.write k (write_there (plan t) k) (writes_it (plan t) k writes)).0) ∙ tombstone_row (record_left_by plan t k) h))

removed_rows : (plan : ℕ → Plan) (w : History) (t : ℕ) (k : Key) (b : Bool) (q : Key) → (happens plan w (Removes k t) b).rows q ≡ (if b && same_key q k then None else w.rows q)
removed_rows plan w t k true q = refl
removed_rows plan w t k false q = refl

-- what a removal leaves, whether VACUUM makes it or it lands
remove_puts : (plan : ℕ → Plan) (places : List Place) (w : History) (past : List Labelled) (e : Event) (before now : List StoreContents) (t : ℕ) (k : Key) (r : Reply) (done : Bool)
    → Knows plan w past → ContainsHistory plan places w before → Effect places e before now → has_effect places e before now ≡ done → IsWriter plan w k t → deletes (plan t) k ≡ true → is_data k ≡ true → ((u : ℕ) → IsLive w.protocol u → w.decided_at t < w.protocol.begun u)
    → Asks e (ask.DeleteIf k (condition.Version (id t) state.Committed)) r → Moves plan places w (Removes k t) done now
remove_puts plan places w past e before now t k r done knows held effect is writer gone outside gate asks =
    let c = condition.Version (id t) state.Committed in
    let dc = delete_call places e k c r before now done asks effect is refl in
    record {
      allowed = (writer, gone, λ h. firm_stands plan w past k t knows (writer_fits plan w past k t knows writer) (subst (λ x. holds c x ≡ true) (held.records k outside) (dc.changed.held h).0), gate);
      held = link_write plan places w (happens plan w (Removes k t) done) before now k c None None done held dc.changed outside (λ h. refl) (removed_rows plan w t k done) (λ u. refl);
    }

pub remove_moves : (plan : ℕ → Plan) (places : List Place) (w : History) (past : List Labelled) (e : Event) (before now : List StoreContents) (t : ℕ) (k : Key) (done : Bool)
    → Knows plan w past → ContainsHistory plan places w before → Effect places e before now → has_effect places e before now ≡ done → MayRemove past e k t → Moves plan places w (Removes k t) done now
remove_moves plan places w past e before now t k done knows held effect is m =
    let f = settled_of plan w past k m.tombstone knows m.outside m.settled in
    let same : t ≡ f.t = same_writer m.tombstone t f.t m.writer (ap (λ (y : Record). id_in y.columns) f.same ∙ firm_writer plan f.t k f.fits) in
    let writer : IsWriter plan w k t = subst (λ u. IsWriter plan w k u) (sym same) f.writer in
    let tomb : is_tombstone (record_left_by plan t k) ≡ true = subst (λ u. is_tombstone (record_left_by plan u k) ≡ true) (sym same) (ap is_tombstone (sym f.same) ∙ m.gone) in
    let gone = tombstone_deletes plan t k (knows.planned t (writer_accepted plan w k t knows.inv.accepted writer)) writer.1 tomb in
    remove_puts plan places w past e before now t k m.r done knows held effect is writer gone m.outside (λ u l. clash (sym (stopped u l.0) ∙ l.1)) (called e m.client _ m.r m.call)
  where
    stopped : (u : ℕ) → w.protocol.is_open u ≡ true → w.protocol.stopped (w.protocol.owner u) ≡ true
    stopped u o = subst (λ (x : ProtocolState). x.stopped (x.owner u) ≡ true) knows.talks (m.gate u (subst (λ (x : ProtocolState). x.is_open u ≡ true) (sym knows.talks) o))

-- a removal that lands
pub late_remove_moves : (plan : ℕ → Plan) (places : List Place) (w : History) (past : List Labelled) (e : Event) (before now : List StoreContents) (t : ℕ) (k : Key) (q : Request) (r : Reply) (done : Bool)
    → Knows plan w past → ContainsHistory plan places w before → Effect places e before now → has_effect places e before now ≡ done → Asks e q r → HasForm plan q (Removes k t) → StaysAllowed plan w (Removes k t) → Moves plan places w (Removes k t) done now
late_remove_moves plan places w past e before now t k q r done knows held effect is asks form stays =
    remove_puts plan places w past e before now t k r done knows held effect is stays.0 stays.1 stays.2 stays.3 (subst (λ x. Asks e x r) form asks)
