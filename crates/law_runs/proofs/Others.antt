-- In the coordinator's table records are at the keys of transactions' rows alone.
use Rattle.std.proofs.Common.{◌≡◌, ◌≢◌, ℕ, ◌<◌, ◌^◌, Bool, true, false, List, [], ◌∷◌, map, Option, Some, None, ◌⊎◌, inl, inr, refl, sym, ap, subst, ◌∙◌}
use Rattle.std.specs.Prelude.{◌&&◌, if◌then◌else◌, is_none}
use Rattle.std.specs.List.{AllByRecursion}
use Rattle.std.specs.Option.{option_map}
use Rattle.law_runs.specs.Types.{Event, Key, Pair, Place, Record, Reply, Request, State, TxId, Write}
use Rattle.sdb_types.specs.declared.record.Put.{Put}
use Rattle.sdb_types.specs.declared.record.Request.TheVariants as ask
use Rattle.sdb_types.specs.Contents.{Contents, after, all_put, holds, put_keys, record_at, record_of, sent, unmet_from}
use Rattle.sdb_types.specs.Order.{has_key, same_key}
use Rattle.sdb_types.proofs.Public.{all_put_outside, clash, same_key_decides}
use Rattle.sdb_types.specs.declared.record.Condition.TheVariants as condition
use Rattle.sdb_record.specs.declared.coordinator.Decision.TheVariants.{Committed, Aborted}
use Rattle.sdb_record.specs.Coordinator.{coordinator_key_of}
use Rattle.sdb_record.specs.Parts.{before_part, before_record, record_with}
use Rattle.sdb_record.proofs.Public.{forward-key, prepared-key, row-key}
use Rattle.sdb_record.specs.Puts.{prepare_of}
use Rattle.sdb_record.specs.Rolls.{forward_record, prepared_record, undo}
use Rattle.sdb_model.specs.declared.event.Event.TheVariants as event
use Rattle.sdb_model.specs.declared.event.How.TheVariants.{Delayed}
use Rattle.sdb_types.specs.declared.record.Reply.TheVariants as reply
use Rattle.sdb_model.specs.Events.{Effect, StoreContents, stored_at}
use Rattle.sdb_model.specs.ReadSet.{KeyRead, ReadItem, SpanRead}
use Rattle.law_protocol.specs.History.{Action, Other, Begins, Takes, Prepares, Checks, Decides, Aborts, Rolls, Removes, Ends, Stops, History, ProtocolState}
use Rattle.law_protocol.specs.Lawful.{IsCallOf, IsLawful, IsUnchanged, IsEnabled, MayOccur, MayRoll, Labelled, WasDelayed, id, is_quiet, roll_forward_of}
use Rattle.law_protocol.specs.Plan.{Plan, write_at}
use Rattle.law_protocol.specs.Trace.{IsTraced, StartsEmpty, closing, history}
use Rattle.law_protocol.proofs.Public.{after_delete, after_put, all_mapped, at_call, AtCall, held_key, Knows, of_key, prepared_there, accepted_fits, occurs_by, weaker, whole}
use Rattle.sdb_model.specs.Tables.{is_data}

-- the key of a transaction's row
pub record IsRowKey (k : Key) : Type 0 where
  pub t : ℕ
  pub fits : t < 2 ^ 128
  pub same : k ≡ coordinator_key_of (id t)

---- what is at a key was there before the event, or the event puts it there

abbrev pub PutsBy : Request → Key → Type 0
PutsBy (ask.Get key) k = ⊥
PutsBy (ask.Scan span) k = ⊥
PutsBy (ask.PutIf rec condition) k = rec.key ≡ k
PutsBy (ask.DeleteIf key condition) k = ⊥
PutsBy (ask.PutAll b) k = has_key (put_keys b) k ≡ true

abbrev pub PutsAt : Event → Key → Type 0
PutsAt (event.Take client text answer) k = ⊥
PutsAt (event.Call client store q how r answer) k = PutsBy q k
PutsAt (event.Stop client) k = ⊥
PutsAt (event.Clock moment) k = ⊥
PutsAt (event.Idle client) k = ⊥
PutsAt (event.Land number store q how r) k = PutsBy q k
PutsAt (event.Alter table column kind altered) k = ⊥

left_or_put : (q : Request) (m : Contents) (k : Key) (row : Record) → record_at (after q m) k ≡ Some row → (record_at m k ≡ Some row) ⊎ PutsBy q k
left_or_put (ask.Get key) m k row h = inl h
left_or_put (ask.Scan span) m k row h = inl h
left_or_put (ask.PutIf rec c) m k row h = by (holds c (record_at m rec.key)) (same_key k rec.key) (same_key_decides k rec.key) (sym (after_put rec c m k) ∙ h)
  where
    by : (b s : Bool) → ((s ≡ true) × (k ≡ rec.key)) ⊎ ((s ≡ false) × (k ≢ rec.key)) → (if b && s then Some rec else record_at m k) ≡ Some row → (record_at m k ≡ Some row) ⊎ (rec.key ≡ k)
    by b s (inl e) h = inr (sym e.1)
    by true true (inr n) h = absurd (cc)
    by true false (inr n) h = inl h
    by false s (inr n) h = inl h
left_or_put (ask.DeleteIf key c) m k row h = by (holds c (record_at m key) && same_key k key) (sym (after_delete key c m k) ∙ h)
  where
    by : (b : Bool) → (if b then None else record_at m k) ≡ Some row → (record_at m k ≡ Some row) ⊎ ⊥
    by true h = absurd (cc)
    by false h = inl h
left_or_put (ask.PutAll b) m k row h = by (is_none (unmet_from 1 b m)) h
  where
    put : (x : Bool) → has_key (put_keys b) k ≡ x → record_at (all_put b m) k ≡ Some row → (record_at m k ≡ Some row) ⊎ (has_key (put_keys b) k ≡ true)
    put true e h = inr e
    put false e h = inl (sym (ap (λ (o : Option (List Pair)). option_map (λ columns. record_of (k, columns)) o) (all_put_outside b m k e)) ∙ h)

    by : (x : Bool) → record_at (if x then all_put b m else m) k ≡ Some row → (record_at m k ≡ Some row) ⊎ (has_key (put_keys b) k ≡ true)
    by true h = put (has_key (put_keys b) k) refl h
    by false h = inl h

call_left_or_put : (places : List Place) (q : Request) (r : Reply) (before now : List StoreContents) (k : Key) (row : Record) → AtCall places q r before now → stored_at places now k ≡ Some row → (stored_at places before k ≡ Some row) ⊎ PutsBy q k
call_left_or_put places q r before now k row a h = elim (a.there k) [
  | inl x ↦ elim a.moved [
    | inl m ↦ elim (left_or_put q a.held k row (sym (x.1 ∙ ap (λ c. record_at c k) m.0) ∙ h)) [ inl stood ↦ inl (x.0 ∙ stood) | inr put ↦ inr put ]
    | inr m ↦ inl (x.0 ∙ sym (x.1 ∙ ap (λ c. record_at c k) m.0) ∙ h)
  ]
  | inr x ↦ inl (sym x.0 ∙ h)
]

pub stood_or_put : (places : List Place) (e : Event) (before now : List StoreContents) (k : Key) (row : Record) → Effect places e before now → stored_at places now k ≡ Some row → (stored_at places before k ≡ Some row) ⊎ PutsAt e k
stood_or_put places (event.Take client text answer) before now k row same h = inl (ap (λ s. stored_at places s k) (sym same) ∙ h)
stood_or_put places (event.Call client store q how r answer) before now k row c h = call_left_or_put places q r before now k row (at_call places store q how r before now c) h
stood_or_put places (event.Stop client) before now k row same h = inl (ap (λ s. stored_at places s k) (sym same) ∙ h)
stood_or_put places (event.Clock moment) before now k row same h = inl (ap (λ s. stored_at places s k) (sym same) ∙ h)
stood_or_put places (event.Idle client) before now k row same h = inl (ap (λ s. stored_at places s k) (sym same) ∙ h)
stood_or_put places (event.Alter table column kind altered) before now k row same h = inl (ap (λ s. stored_at places s k) (sym same) ∙ h)
stood_or_put places (event.Land number store q how r) before now k row c h = call_left_or_put places q r before now k row (at_call places store q how r before now c) h

---- where an event puts

data_apart : {A : Type 0} (k q : Key) → is_data k ≡ true → is_data q ≡ false → k ≡ q → A
data_apart k q of_data row same = clash (sym of_data ∙ ap is_data same ∙ row)

called : (e : Event) (client : ℕ) (q : Request) (r : Reply) (k : Key) → IsCallOf e client q r → PutsAt e k → PutsBy q k
called e client q r k call put = subst (λ x. PutsAt x k) call.call put

quiet_puts_none : (e : Event) (k : Key) → is_quiet e ≡ true → PutsAt e k → ⊥
quiet_puts_none (event.Take client text answer) k quiet put = put
quiet_puts_none (event.Call client store (ask.Get key) how r answer) k quiet put = put
quiet_puts_none (event.Call client store (ask.Scan span) how r answer) k quiet put = put
quiet_puts_none (event.Call client store (ask.PutIf rec c) how r answer) k quiet put = absurd (cc)
quiet_puts_none (event.Call client store (ask.DeleteIf key c) how r answer) k quiet put = put
quiet_puts_none (event.Call client store (ask.PutAll b) how r answer) k quiet put = absurd (cc)
quiet_puts_none (event.Stop client) k quiet put = put
quiet_puts_none (event.Clock moment) k quiet put = put
quiet_puts_none (event.Idle client) k quiet put = put
quiet_puts_none (event.Alter table column kind altered) k quiet put = put
quiet_puts_none (event.Land number store q how r) k quiet put = absurd (cc (quiet))

check_puts_none : (plan : Plan) (item : ReadItem) (q : Request) (r : Reply) (k : Key) → IsUnchanged plan item q r → PutsBy q k → ⊥
check_puts_none plan (KeyRead read) q r k same put = subst (λ x. PutsBy x k) same.1 put
check_puts_none plan (SpanRead scan) q r k same put = subst (λ x. PutsBy x k) same.1 put

key_before : (r b : Record) → before_record r ≡ Some b → b.key ≡ r.key
unfolding before_record
key_before r b e = by r.key (before_part r.columns) e
  where
    by : (key : Key) (ps : List Pair) → record_with key ps ≡ Some b → b.key ≡ key
    by key [] e = absurd (cc)
    by key (p ∷ ps) e = cc

back_puts : (k : Key) (t : TxId) (s : State) (o : Option Record) (q : Key) → ((b : Record) → o ≡ Some b → b.key ≡ k) → PutsBy (undo (condition.Version t s) k o) q → k ≡ q
back_puts k t s None q key put = absurd put
back_puts k t s (Some b) q key put = sym (key b refl) ∙ put

-- what is put at a key is one of the puts that are sent
put_at_key : (P : Put → Type 0) (b : List Put) (q : Key) → AllByRecursion P b → PutsBy (sent b) q → (p : Put) × (p.rec.key ≡ q) × P p
put_at_key P [] q all put = clash (sym put)
put_at_key P (p ∷ []) q all put = (p, put, all.0)
put_at_key P (p ∷ r ∷ ps) q all put = of_key (λ (x : Put). x.rec.key) P (p ∷ r ∷ ps) q all put

-- puts in tables of records put nothing elsewhere
data_puts : {A : Type 0} (b : List Put) (q : Key) → AllByRecursion (λ (p : Put). is_data p.rec.key ≡ true) b → is_data q ≡ false → PutsBy (sent b) q → A
data_puts b q all row put = let p = put_at_key (λ (p : Put). is_data p.rec.key ≡ true) b q all put in data_apart p.0.rec.key q p.2 row p.1

rolled_key : (plan : ℕ → Plan) (w : History) (past : List Labelled) (t : ℕ) (k : Key) (r : Record) (s : State) → Knows plan w past → MayRoll plan past t k r s → r.key ≡ k
rolled_key plan w past t k r s knows m =
    let own = prepared_there plan w past t k r knows m.outside m.prepared in
    ap (λ (x : Record). x.key) own.same ∙ held_key plan t k own.writes

-- What is put in the coordinator's table is put at the key of a transaction's row.
puts_row : (plan : ℕ → Plan) (w : History) (past : List Labelled) (e : Event) (action : Action) (q : Key) → Knows plan w past → IsEnabled plan past e action → is_data q ≡ false → PutsAt e q → IsRowKey q
puts_row plan w past e Other q knows m row put = absurd (quiet_puts_none e q m put)
puts_row plan w past e (Begins t c) q knows m row put = absurd (subst (λ x. PutsAt x q) m.take put)
puts_row plan w past e (Takes t) q knows m row put = absurd (subst (λ x. PutsAt x q) m.take put)
puts_row plan w past e (Prepares t ks word) q knows m row put = data_puts (map (prepare_of (id t) (plan t).now) m.group) q (all_mapped (prepare_of (id t) (plan t).now) (λ (p : Put). is_data p.rec.key ≡ true) m.group (weaker _ _ m.group in_data m.each)) row (called e m.client _ m.r q m.call put)
  where
    accepted : w.protocol.accepted t ≡ true
    accepted = subst (λ (x : ProtocolState). x.accepted t ≡ true) knows.talks m.within.accepted

    in_data : (x : Write) → write_at (plan t) x.key ≡ Some x → is_data (prepared_record x (id t) (plan t).now).key ≡ true
    in_data x at = ap is_data (prepared-key x (id t) (plan t).now) ∙ ((knows.planned t accepted).write x.key x at).1
puts_row plan w past e (Checks t i) q knows m row put = absurd (check_puts_none (plan t) m.item m.q m.r q m.unchanged (called e m.client m.q m.r q m.call put))
puts_row plan w past e (Decides t word) q knows m row put = record {
  t = t;
  fits = accepted_fits w t knows.inv.begun knows.fits (subst (λ (x : ProtocolState). x.accepted t ≡ true) knows.talks m.within.accepted);
  same = sym (called e m.client _ m.r q m.call put) ∙ row-key (id t) Committed (plan t).now;
}
puts_row plan w past e (Aborts t moment word) q knows m row put = record {
  t = t;
  fits = m.fits;
  same = sym (called e m.client _ m.r q m.call put) ∙ row-key (id t) Aborted moment;
}
puts_row plan w past e (Rolls t ks Committed) q knows m row put = data_puts (map (roll_forward_of (id t) m.moment) m.rolled) q (all_mapped (roll_forward_of (id t) m.moment) (λ (p : Put). is_data p.rec.key ≡ true) m.rolled (weaker _ _ m.rolled in_data m.each)) row (called e m.client _ m.r q m.call put)
  where
    in_data : (x : Record × State) → MayRoll plan past t x.0.key x.0 x.1 → is_data (forward_record x.0 m.moment).key ≡ true
    in_data x roll = ap is_data (forward-key x.0 m.moment) ∙ roll.outside
puts_row plan w past e (Rolls t [] Aborted) q knows m row put = absurd m
puts_row plan w past e (Rolls t (k ∷ []) Aborted) q knows m row put =
    data_apart k q m.roll.outside row (back_puts k (id t) m.s (before_record m.rolled) q (λ b h. key_before m.rolled b h ∙ rolled_key plan w past t k m.rolled m.s knows m.roll) (called e m.client _ m.r q m.call put))
puts_row plan w past e (Rolls t (k ∷ l ∷ ks) Aborted) q knows m row put = absurd m
puts_row plan w past e (Removes k t) q knows m row put = absurd (called e m.client _ m.r q m.call put)
puts_row plan w past e (Ends t) q knows m row put = absurd m
puts_row plan w past e (Stops c) q knows m row put = absurd (subst (λ x. PutsAt x q) m put)

---- every event

-- What a delayed call was to put is at the key of a transaction's row, where that is of the coordinator's table.
delayed_row : (plan : ℕ → Plan) (places : List Place) (opening : List StoreContents) (past : List Labelled) (ss : List (List StoreContents)) (q : Request) (action : Action) (k : Key) → StartsEmpty places opening → IsLawful plan past → IsTraced places opening past ss → WasDelayed past q action → is_data k ≡ false → PutsBy q k → IsRowKey k
delayed_row plan places opening [] ss q action k empty l t was outside put = absurd was
delayed_row plan places opening (p ∷ past) [] q action k empty l t was outside put = absurd t
delayed_row plan places opening (p ∷ past) (s ∷ ss) q action k empty l t (inl d) outside put =
    puts_row plan (history plan places opening past ss) past (event.Call d.client d.store q Delayed reply.Fault d.answer) p.action k (whole plan places opening past ss empty l.0 t.0).knows (subst (λ (e : Event). MayOccur plan past e p.action) d.call l.1) outside put
delayed_row plan places opening (p ∷ past) (s ∷ ss) q action k empty l t (inr was) outside put = delayed_row plan places opening past ss q action k empty l.0 t.0 was outside put

-- After a lawful list of events from empty stores, each record of the coordinator's table is at the key of a transaction's row.
pub only_rows : (plan : ℕ → Plan) (places : List Place) (opening : List StoreContents) (past : List Labelled) (ss : List (List StoreContents)) (k : Key) (row : Record) → StartsEmpty places opening → IsLawful plan past → IsTraced places opening past ss → is_data k ≡ false → stored_at places (closing opening ss) k ≡ Some row → IsRowKey k
only_rows plan places opening [] [] k row empty l t outside h = absurd (none (sym (empty k) ∙ h))
  where
    none : ◌≡◌ {A = Option Record} None (Some row) → ⊥
    none e = cc
only_rows plan places opening [] (s ∷ ss) k row empty l t outside h = absurd t
only_rows plan places opening (p ∷ past) [] k row empty l t outside h = absurd t
only_rows plan places opening (p ∷ past) (s ∷ ss) k row empty l t outside h = elim (stood_or_put places p.event (closing opening ss) s k row t.1 h) [
  | inl stood ↦ only_rows plan places opening past ss k row empty l.0 t.0 outside stood
  | inr put ↦ elim (occurs_by plan past p.event p.action l.1) [
    | inl m ↦ puts_row plan (history plan places opening past ss) past p.event p.action k (whole plan places opening past ss empty l.0 t.0).knows m outside put
    | inr x ↦ delayed_row plan places opening past ss x.request p.action k empty l.0 t.0 x.was outside (subst (λ (e : Event). PutsAt e k) x.land put)
  ]
]
