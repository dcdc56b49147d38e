-- What is so of a world stays so.
use Rattle.std.proofs.Common.{◌≡◌, ℕ, zero, suc, ℤ, ◌+◌, true, false, List, [], ◌∷◌, ◌++◌, Option, Some, None, refl, sym, ap, subst, ◌∙◌, slice_set, add-zero}
use Rattle.std.specs.Prelude.{is_none, slice_get, IsSome}
use Rattle.law_runs.specs.Types.{Answer, ClientSlot, Event, How, Reply, Request, Script, Table}
use Rattle.sdb_model.specs.Catalogs.{added, catalog_after}
use Rattle.sdb_model.proofs.Public.{after_more}
use Rattle.sdb_record.specs.Meta.{is_moment}
use Rattle.sdb_model.specs.declared.event.Event.TheVariants as event
use Rattle.sdb_model.specs.Rows.{Name}
use Rattle.law_protocol.specs.Spread.{IsAbout}
use Rattle.sdb_client.specs.Client.{ClientAt}
use Rattle.law_clients.specs.About.{IsOfTables}
use Rattle.law_clients.specs.States.{IsAfter, IsFitted}
use Rattle.law_runs.specs.World.{AreInFlight, IsClientState, IsSettled, WorldAt, at_moment, with_client, with_event, with_late}
use Rattle.sdb_client.specs.Execution.{client_after, client_stopped}
use Rattle.law_runs.proofs.Slots.{set_here, set_length, set_other, suc_is}
use Rattle.law_runs.proofs.Ties.{IsApart, apart_pending, apart_stopped, apart_taken, own_call_pending, own_call_stopped, own_call_taken, own_stop_pending, own_stop_stopped, own_stop_taken, own_take_pending, own_take_stopped, own_take_taken}
use Rattle.sdb_types.proofs.Public.{all_last as all_more, clash, some_is}

pub by_nat : {G : Type 0} (i j : ℕ) → (i ≡ j → G) → ((i ≡ j → ⊥) → G) → G
by_nat zero zero a b = a refl
by_nat zero (suc j) a b = b (λ e. cc)
by_nat (suc i) zero a b = b (λ e. cc)
by_nat (suc i) (suc j) a b = by_nat i j (λ e. a (ap suc e)) (λ n. b (λ e. n (suc_is i j e)))

---- a client that the event isn't of

-- what fits the catalog fits it after the event
abbrev pub Refits : Script → List Event → Event → ClientSlot → Type 0
Refits script es e s = s.stopped ≡ false → IsFitted (catalog_after script.catalog es) s.client → IsFitted (catalog_after script.catalog (es ++ e ∷ [])) s.client

-- where the event adds no column
pub refits_same : (script : Script) (es : List Event) (e : Event) (s : ClientSlot) → ((ts : List Table) → added ts e ≡ ts) → Refits script es e s
refits_same script es e s quiet goes h = subst (λ (ts : List Table). IsFitted ts s.client) (sym (after_more script.catalog es e ∙ quiet (catalog_after script.catalog es))) h

seat_stays : (script : Script) (es : List Event) (e : Event) (j : ℕ) (s : ClientSlot) → IsApart (suc j) e → Refits script es e s → IsClientState script es j s → IsClientState script (es ++ e ∷ []) j s
seat_stays script es e j s apart refits h = record {
  number = h.number;
  fitted = λ goes. refits goes (h.fitted goes);
  about = h.about;
  accepted = h.accepted ∙ sym (apart_taken (suc j) es e apart);
  stopped = h.stopped ∙ sym (apart_stopped (suc j) es e apart);
  busy = λ t. h.busy (sym (apart_pending (suc j) es e apart) ∙ t);
  idle = λ t. h.idle (sym (apart_pending (suc j) es e apart) ∙ t);
}

-- an event that is of no client's doing
pub world_stays : (w : WorldAt) (e : Event) (fs : List (Option Request)) → ((j : ℕ) → IsApart (suc j) e) → ((j : ℕ) (s : ClientSlot) → slice_get w.client_slots j ≡ Some s → Refits w.script w.events e s) → IsAbout w.script.catalog e → AreInFlight (w.events ++ e ∷ []) fs → IsSettled w → IsSettled (with_late (with_event w e) fs)
world_stays w e fs apart refits about late h = record {
  playable = h.playable;
  clients = h.clients;
  each = λ j s at. seat_stays w.script w.events e j s (apart j) (refits j s at) (h.each j s at);
  late = late;
  moment = h.moment;
  about = all_more (IsAbout w.script.catalog) w.events e h.about about;
}

-- the clock moves
pub world_ticks : (w : WorldAt) (m : ℤ) → is_moment m ≡ true → ((j : ℕ) → IsApart (suc j) (event.Clock m)) → AreInFlight (w.events ++ event.Clock m ∷ []) w.flights → IsSettled w → IsSettled (with_event (at_moment w m) (event.Clock m))
world_ticks w m is apart late h = record {
  playable = h.playable;
  clients = h.clients;
  each = λ j s at. seat_stays w.script w.events (event.Clock m) j s (apart j) (refits_same w.script w.events (event.Clock m) s (λ ts. refl)) (h.each j s at);
  late = late;
  moment = is;
  about = all_more (IsAbout w.script.catalog) w.events (event.Clock m) h.about tt;
}

-- a client is elsewhere, and the event is its own
pub world_moves : (w : WorldAt) (i : ℕ) (s t : ClientSlot) (e : Event) (fs : List (Option Request)) → ((ts : List Table) → added ts e ≡ ts) → slice_get w.client_slots i ≡ Some s → ((j : ℕ) → (i ≡ j → ⊥) → IsApart (suc j) e) → IsClientState w.script (w.events ++ e ∷ []) i t → IsAbout w.script.catalog e → AreInFlight (w.events ++ e ∷ []) fs → IsSettled w → IsSettled (with_late (with_event (with_client w i t) e) fs)
world_moves w i s t e fs quiet at apart own about late h = record {
  playable = h.playable;
  clients = set_length w.client_slots i t ∙ h.clients;
  each = λ j u there.
      by_nat i j
      (λ same. subst (λ (k : ℕ). slice_get (slice_set w.client_slots i t) k ≡ Some u → IsClientState w.script (w.events ++ e ∷ []) k u) same (λ here. subst (IsClientState w.script (w.events ++ e ∷ []) i) (some_is t u (sym (set_here w.client_slots i s t at) ∙ here)) own) there)
      (λ other. seat_stays w.script w.events e j u (apart j other) (refits_same w.script w.events e u quiet) (h.each j u (sym (set_other w.client_slots i j t (λ same. other (sym same))) ∙ there)));
  late = late;
  moment = h.moment;
  about = all_more (IsAbout w.script.catalog) w.events e h.about about;
}

---- a client after its own event

none_true : (o : Option Answer) → is_none o ≡ true → o ≡ None
none_true None t = refl
none_true (Some a) t = absurd (cc)

none_false : (o : Option Answer) → is_none o ≡ false → IsSome o
none_false None t = absurd (cc)
none_false (Some a) t = refl

module _ (script : Script) (es : List Event) (i : ℕ) (s : ClientSlot) (h : IsClientState script es i s) (a : Option Answer) (d : ClientAt) (after : IsAfter (catalog_after script.catalog es) s.client a d) (about : IsOfTables script.catalog d) where
  pub seat_takes : (text : List ℕ) → IsClientState script (es ++ event.Take (suc i) text a ∷ []) i (client_after s 1 d)
  seat_takes text = record {
    number = after.number ∙ h.number;
    fitted = λ goes. subst (λ (ts : List Table). IsFitted ts d) (sym (after_more script.catalog es (event.Take (suc i) text a))) after.fitted;
    about = about;
    accepted = ap (λ (n : ℕ). n + 1) h.accepted ∙ sym (own_take_taken (suc i) es text a);
    stopped = h.stopped ∙ sym (own_take_stopped (suc i) es text a);
    busy = λ t. after.busy (none_true a (sym (own_take_pending (suc i) es text a) ∙ t));
    idle = λ t. after.idle (none_false a (sym (own_take_pending (suc i) es text a) ∙ t));
  }

  pub seat_calls : (store : Name) (q : Request) (how : How) (r : Reply) → IsClientState script (es ++ event.Call (suc i) store q how r a ∷ []) i (client_after s 0 d)
  seat_calls store q how r = record {
    number = after.number ∙ h.number;
    fitted = λ goes. subst (λ (ts : List Table). IsFitted ts d) (sym (after_more script.catalog es (event.Call (suc i) store q how r a))) after.fitted;
    about = about;
    accepted = add-zero s.accepted ∙ h.accepted ∙ sym (own_call_taken (suc i) es store q how r a);
    stopped = h.stopped ∙ sym (own_call_stopped (suc i) es store q how r a);
    busy = λ t. after.busy (none_true a (sym (own_call_pending (suc i) es store q how r a) ∙ t));
    idle = λ t. after.idle (none_false a (sym (own_call_pending (suc i) es store q how r a) ∙ t));
  }

pub seat_stops : (script : Script) (es : List Event) (i : ℕ) (s : ClientSlot) → IsClientState script es i s → IsClientState script (es ++ event.Stop (suc i) ∷ []) i (client_stopped s)
seat_stops script es i s h = record {
  number = h.number;
  fitted = λ goes. clash goes;
  about = h.about;
  accepted = h.accepted ∙ sym (own_stop_taken (suc i) es);
  stopped = sym (own_stop_stopped (suc i) es);
  busy = λ t. h.busy (sym (own_stop_pending (suc i) es) ∙ t);
  idle = λ t. h.idle (sym (own_stop_pending (suc i) es) ∙ t);
}
