-- Checks, the taking of a COMMIT, and the parts that change nothing, as the moves before.
use Rattle.std.proofs.Common.{◌≡◌, ◌≢◌, ℕ, Bool, true, false, List, Option, Some, None, ◌⊎◌, inl, inr, refl, sym, ap, subst, ◌∙◌}
use Rattle.std.specs.Prelude.{if◌then◌else◌, slice_get}
use Rattle.std.specs.Option.{option_map, option_and_then}
use Rattle.law_protocol.specs.Types.{Event, Key, Place, Read, Record, Reply, Request, Scan, TxId, Write}
use Rattle.sdb_types.specs.declared.record.Request.TheVariants as ask
use Rattle.sdb_types.specs.Contents.{holds, in_span, after, Contents}
use Rattle.sdb_record.specs.Meta.{id_in}
use Rattle.sdb_record.specs.Moved.{version_of, condition_of}
use Rattle.sdb_record.specs.Among.{version_among}
use Rattle.sdb_model.specs.declared.event.Event.TheVariants as event
use Rattle.sdb_model.specs.Events.{StoreContents, Effect, stored_at, IsCall}
use Rattle.law_protocol.specs.Plan.{Plan, write_at, written, version_read_at, number_of}
use Rattle.sdb_model.specs.ReadSet.{ReadItem, KeyRead, SpanRead, version_read}
use Rattle.law_protocol.specs.History.{Other, Begins, Takes, Checks, Stops, ProtocolState, History, base_of, happens, IsLive, IsWriter, Deciding}
use Rattle.law_protocol.specs.Lawful.{Labelled, protocol_state, id, is_quiet, IsUnchanged, MayBegin, MayTake, MayCheck}
use Rattle.law_protocol.specs.Records.{record_left_by, ContainsHistory}
use Rattle.law_protocol.proofs.Canon.{firm_writer, same_writer}
use Rattle.law_protocol.proofs.Effects.{AtCall, at_call}
use Rattle.law_protocol.proofs.Observed.{get_reply, scan_reply, read_leaves}
use Rattle.law_protocol.proofs.Known.{IsPlanned, IsFirmOf, written_is}
use Rattle.law_protocol.proofs.Settled.{Knows, firm_of as settled_of}
use Rattle.law_protocol.proofs.Links.{link_same}
use Rattle.law_protocol.proofs.Moves.{Moves, live, version_stands, writer_fits}
use Rattle.sdb_types.proofs.Public.{clash, same_key_decides}
use Rattle.sdb_types.specs.Order.{same_key}

---- checks

-- what a noted get and a noted scan say of a key
pub noted_got : (plan : Plan) (i : ℕ) (read : Read) (k : Key) (v : Option ℕ) → slice_get plan.read_set i ≡ Some (KeyRead read) → version_read_at plan i k ≡ Some v → (read.key ≡ k) × (v ≡ number_of read.version)
unfolding version_read_at
noted_got plan i read k v at h = by (same_key_decides read.key k) (sym (ap (λ o. option_map number_of (option_and_then (λ n. version_read n k) o)) at) ∙ h)
  where
    some_is : (a b : Option ℕ) → Some a ≡ Some b → b ≡ a
    some_is a b e = cc

    by : ((same_key read.key k ≡ true) × (read.key ≡ k)) ⊎ ((same_key read.key k ≡ false) × (read.key ≢ k)) → option_map number_of (if same_key read.key k then Some read.version else None) ≡ Some v → (read.key ≡ k) × (v ≡ number_of read.version)
    by (inl e) f = (e.1, some_is (number_of read.version) v (sym (ap (λ b. option_map number_of (if b then Some read.version else None)) e.0) ∙ f))
    by (inr e) f = absurd (none (sym (ap (λ b. option_map number_of (if b then Some read.version else None)) e.0) ∙ f))
      where
        none : ◌≡◌ {A = Option (Option ℕ)} None (Some v) → ⊥
        none x = cc

noted_scanned : (plan : Plan) (i : ℕ) (scan : Scan) (k : Key) (v : Option ℕ) → slice_get plan.read_set i ≡ Some (SpanRead scan) → version_read_at plan i k ≡ Some v → (in_span scan.span k ≡ true) × (v ≡ number_of (version_among scan.found k))
unfolding version_read_at
noted_scanned plan i scan k v at h = by (in_span scan.span k) refl (sym (ap (λ o. option_map number_of (option_and_then (λ n. version_read n k) o)) at) ∙ h)
  where
    some_is : (a b : Option ℕ) → Some a ≡ Some b → b ≡ a
    some_is a b e = cc

    by : (b : Bool) → in_span scan.span k ≡ b → option_map number_of (if b then Some (version_among scan.found k) else None) ≡ Some v → (in_span scan.span k ≡ true) × (v ≡ number_of (version_among scan.found k))
    by true e f = (e, some_is (number_of (version_among scan.found k)) v f)
    by false e f = absurd (none f)
      where
        none : ◌≡◌ {A = Option (Option ℕ)} None (Some v) → ⊥
        none x = cc

number_back : (version : Option TxId) → option_map id (number_of version) ≡ version
number_back None = refl
number_back (Some i) = refl

-- what an unchanged reply says of each key
unchanged_at : (plan : ℕ → Plan) (places : List Place) (t i : ℕ) (item : ReadItem) (q : Request) (r : Reply) (before now : List StoreContents) → slice_get (plan t).read_set i ≡ Some item → AtCall places q r before now → IsUnchanged (plan t) item q r
    → (k : Key) (v : Option ℕ) → version_read_at (plan t) i k ≡ Some v → written (plan t) k ≡ None → holds (condition_of (option_map id v)) (stored_at places before k) ≡ true
unchanged_at plan places t i (KeyRead read) q r before now at a u k v n free =
    let s = noted_got (plan t) i read k v at n in
    let a' : AtCall places (ask.Get read.key) r before now = subst (λ x. AtCall places x r before now) u.1 a in
    let agrees = get_reply places read.key r u.0 before now a' u.2 in
    rw s.1 (rw (number_back read.version) (subst (λ x. holds (condition_of read.version) (stored_at places before x) ≡ true) s.0 (subst (λ x. holds (condition_of read.version) x ≡ true) agrees u.3)))
unchanged_at plan places t i (SpanRead scan) q r before now at a u k v n free =
    let s = noted_scanned (plan t) i scan k v at n in
    let a' : AtCall places (ask.Scan scan.span) r before now = subst (λ x. AtCall places x r before now) u.1 a in
    let agrees = scan_reply scan.span r u.0 a' u.2 k s.0 in
    rw s.1 (rw (number_back (version_among scan.found k)) (subst (λ x. holds (condition_of (version_among scan.found k)) x ≡ true) agrees (u.3 k s.0 free)))

read_still : (plan : Plan) (places : List Place) (item : ReadItem) (q : Request) (r : Reply) (before now : List StoreContents) → AtCall places q r before now → IsUnchanged plan item q r → (k : Key) → stored_at places now k ≡ stored_at places before k
read_still plan places (KeyRead read) q r before now a u k = read_leaves places q r before now a (λ m. ap (λ x. after x m) u.1) k
read_still plan places (SpanRead scan) q r before now a u k = read_leaves places q r before now a (λ m. ap (λ x. after x m) u.1) k

pub check_moves : (plan : ℕ → Plan) (places : List Place) (w : History) (past : List Labelled) (e : Event) (before now : List StoreContents) (t i : ℕ) (done : Bool)
    → Knows plan w past → ContainsHistory plan places w before → Effect places e before now → MayCheck plan past e t i → Moves plan places w (Checks t i) done now
check_moves plan places w past e before now t i done knows held effect m =
    let alive = live w past m.client t knows.talks m.within in
    let is : IsCall places m.call.store m.q m.call.how m.r before now = subst (λ x. Effect places x before now) m.call.call effect in
    let a = at_call places m.call.store m.q m.call.how m.r before now is in
    record {
      allowed = (
        alive.0,
        alive.1,
        subst (λ (x : ProtocolState). x.stage t ≢ Deciding) knows.talks m.stage,
        λ k found n free. version_stands plan w past k found knows (λ u h. writer_fits plan w past k u knows (knows.inv.as_read t i k u alive.0 (n ∙ ap (λ x. Some x) h)).0)
            (subst (λ x. holds (condition_of (option_map id found)) x ≡ true) (held.records k ((knows.planned t alive.0).tables i k found n)) (unchanged_at plan places t i m.item m.q m.r before now m.at a m.unchanged k found n free)),
      );
      held = link_same plan places w (happens plan w (Checks t i) done) before now held (read_still (plan t) places m.item m.q m.r before now a m.unchanged) (λ q. refl) (λ u. refl);
    }

---- nothing changes

quiet_read : (places : List Place) (q : Request) (r : Reply) (before now : List StoreContents) → AtCall places q r before now → (event_quiet : (m : Contents) → after q m ≡ m) → (k : Key) → stored_at places now k ≡ stored_at places before k
quiet_read places q r before now a same = read_leaves places q r before now a same

quiet_still : (places : List Place) (e : Event) (before now : List StoreContents) → is_quiet e ≡ true → Effect places e before now → (k : Key) → stored_at places now k ≡ stored_at places before k
quiet_still places (event.Take client text answer) before now h f k = ap (λ x. stored_at places x k) f
quiet_still places (event.Call client store (ask.Get key) how r answer) before now h f k = read_leaves places (ask.Get key) r before now (at_call places store (ask.Get key) how r before now f) (λ m. refl) k
quiet_still places (event.Call client store (ask.Scan span) how r answer) before now h f k = read_leaves places (ask.Scan span) r before now (at_call places store (ask.Scan span) how r before now f) (λ m. refl) k
quiet_still places (event.Call client store (ask.PutIf rec c) how r answer) before now h f k = clash (sym h)
quiet_still places (event.Call client store (ask.DeleteIf key c) how r answer) before now h f k = clash (sym h)
quiet_still places (event.Call client store (ask.PutAll batch) how r answer) before now h f k = clash (sym h)
quiet_still places (event.Stop client) before now h f k = clash (sym h)
quiet_still places (event.Clock moment) before now h f k = ap (λ x. stored_at places x k) f
quiet_still places (event.Idle client) before now h f k = ap (λ x. stored_at places x k) f
quiet_still places (event.Alter table column kind altered) before now h f k = ap (λ x. stored_at places x k) f
quiet_still places (event.Land number store q how r) before now h f k = clash (sym h)

pub other_moves : (plan : ℕ → Plan) (places : List Place) (w : History) (e : Event) (before now : List StoreContents) (done : Bool) → ContainsHistory plan places w before → Effect places e before now → is_quiet e ≡ true → Moves plan places w Other done now
other_moves plan places w e before now done held effect quiet = record { allowed = tt; held = link_same plan places w (happens plan w Other done) before now held (quiet_still places e before now quiet effect) (λ q. refl) (λ u. refl) }

pub stop_moves : (plan : ℕ → Plan) (places : List Place) (w : History) (e : Event) (before now : List StoreContents) (c : ℕ) (done : Bool) → ContainsHistory plan places w before → Effect places e before now → e ≡ event.Stop c → Moves plan places w (Stops c) done now
stop_moves plan places w e before now c done held effect is = record { allowed = tt; held = link_same plan places w (happens plan w (Stops c) done) before now held (λ k. ap (λ x. stored_at places x k) (still (subst (λ x. Effect places x before now) is effect))) (λ q. refl) (λ u. refl) }
  where
    still : now ≡ before → now ≡ before
    still e = e

pub begin_moves : (plan : ℕ → Plan) (places : List Place) (w : History) (past : List Labelled) (e : Event) (before now : List StoreContents) (t c : ℕ) (done : Bool)
    → Knows plan w past → ContainsHistory plan places w before → Effect places e before now → MayBegin past e t c → Moves plan places w (Begins t c) done now
begin_moves plan places w past e before now t c done knows held effect m = record {
  allowed = (fresh, untaken fresh);
  held = link_same plan places w (happens plan w (Begins t c) done) before now held (λ k. ap (λ x. stored_at places x k) still) (λ q. refl) (λ u. refl);
}
  where
    fresh : w.protocol.begun t ≡ 0
    fresh = subst (λ (x : ProtocolState). x.begun t ≡ 0) knows.talks m.fresh

    untaken : w.protocol.begun t ≡ 0 → w.protocol.accepted t ≡ false
    untaken z = by (w.protocol.accepted t) refl
      where
        by : (b : Bool) → w.protocol.accepted t ≡ b → w.protocol.accepted t ≡ false
        by true e = absurd (((knows.inv.begun t).1 e).0 z)
        by false e = e

    still : now ≡ before
    still = subst (λ x. Effect places x before now) m.take effect

---- the taking of a COMMIT

-- the base of a write is what its writer left
base_firm : (plan : ℕ → Plan) (w : History) (past : List Labelled) (e : Event) (t : ℕ) (k : Key) (wr : Write) → Knows plan w past → MayTake plan past e t → write_at (plan t) k ≡ Some wr → (o : Option Record) → wr.base ≡ o
    → (wr.base ≡ option_map (λ u. record_left_by plan u k) (base_of (written (plan t) k))) × ((u : ℕ) → base_of (written (plan t) k) ≡ Some u → IsWriter plan w k u)
base_firm plan w past e t k wr knows m at None is = (is ∙ ap (option_map (λ u. record_left_by plan u k)) (sym none), λ u h. absurd (apart u (sym none ∙ h)))
  where
    none : base_of (written (plan t) k) ≡ None
    none = ap base_of (written_is (plan t) k wr at) ∙ ap (λ (x : Option Record). number_of (version_of x)) is

    apart : (u : ℕ) → ◌≡◌ {A = Option ℕ} None (Some u) → ⊥
    apart u x = cc
base_firm plan w past e t k wr knows m at (Some b) is = (is ∙ ap (λ x. Some x) f.same ∙ ap (option_map (λ u. record_left_by plan u k)) (sym version), λ u h. subst (λ x. IsWriter plan w k x) (some_is f.t u (sym version ∙ h)) f.writer)
  where
    f : IsFirmOf plan w k b
    f = settled_of plan w past k b knows (m.writes k wr at).1 (m.bases k wr b at is)

    version : base_of (written (plan t) k) ≡ Some f.t
    version = ap base_of (written_is (plan t) k wr at) ∙ ap (λ (x : Option Record). number_of (version_of x)) is ∙ ap number_of (ap (λ (x : Record). id_in x.columns) f.same ∙ firm_writer plan f.t k f.fits)

    some_is : (x y : ℕ) → Some x ≡ Some y → x ≡ y
    some_is x y e = ap (λ o. Rattle.std.specs.Prelude.unwrap_or o 0) e

pub take_planned : (plan : ℕ → Plan) (w : History) (past : List Labelled) (e : Event) (t : ℕ) → Knows plan w past → MayTake plan past e t → IsPlanned plan t
take_planned plan w past e t knows m = record {
  moment = m.moment;
  write = m.writes;
  base = λ k wr at. (base_firm plan w past e t k wr knows m at wr.base refl).0;
  tables = m.tables;
}

take_bases : (plan : ℕ → Plan) (w : History) (past : List Labelled) (e : Event) (t : ℕ) → Knows plan w past → MayTake plan past e t → (k : Key) (u : ℕ) → base_of (written (plan t) k) ≡ Some u → IsWriter plan w k u
unfolding written
take_bases plan w past e t knows m k u h = by (write_at (plan t) k) refl h
  where
    by : (o : Option Write) → write_at (plan t) k ≡ o → base_of (option_map (λ w. number_of (version_of w.base)) o) ≡ Some u → IsWriter plan w k u
    by None at h = absurd (apart h)
      where
        apart : ◌≡◌ {A = Option ℕ} None (Some u) → ⊥
        apart x = cc
    by (Some wr) at h = (base_firm plan w past e t k wr knows m at wr.base refl).1 u (ap base_of (written_is (plan t) k wr at) ∙ h)

take_notes : (plan : ℕ → Plan) (w : History) (past : List Labelled) (e : Event) (t : ℕ) → Knows plan w past → MayTake plan past e t → (i : ℕ) (k : Key) (u : ℕ) → version_read_at (plan t) i k ≡ Some (Some u) → IsWriter plan w k u
take_notes plan w past e t knows m i k u n =
    let b = m.read_set i k u n in
    let f = settled_of plan w past k b.0 knows (m.tables i k (Some u) n) b.1 in
    subst (λ x. IsWriter plan w k x) (same_writer b.0 f.t u (ap (λ (x : Record). id_in x.columns) f.same ∙ firm_writer plan f.t k f.fits) b.2) f.writer

pub take_moves : (plan : ℕ → Plan) (places : List Place) (w : History) (past : List Labelled) (e : Event) (before now : List StoreContents) (t : ℕ) (done : Bool)
    → Knows plan w past → ContainsHistory plan places w before → Effect places e before now → MayTake plan past e t → Moves plan places w (Takes t) done now
take_moves plan places w past e before now t done knows held effect m = record {
  allowed = (
    subst (λ (x : ProtocolState). x.accepted t ≡ false) knows.talks m.fresh,
    subst (λ (x : ProtocolState). IsLive x t) knows.talks (m.is_open, ap (protocol_state past).stopped m.owner ∙ m.goes_on),
    take_bases plan w past e t knows m,
    take_notes plan w past e t knows m,
  );
  held = link_same plan places w (happens plan w (Takes t) done) before now held (λ k. ap (λ x. stored_at places x k) still) (λ q. refl) (λ u. refl);
}
  where
    still : now ≡ before
    still = subst (λ x. Effect places x before now) m.take effect
