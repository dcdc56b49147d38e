-- What a client's step comes to, by what the code has of it.
use Rattle.std.proofs.Common.{◌≡◌, ℕ, suc, ◌+◌, ◌<◌, ◌^◌, true, List, [], ◌∷◌, ◌++◌, length, Option, Some, None, Result, Ok, Err, IfSome, refl, sym, ap, subst, ◌∙◌, get_or, slice_set, add-zero}
use Rattle.std.specs.Prelude.{OnOk, slice_get}
use Rattle.std.proofs.Math.Numerals.{add-one}
use Rattle.std.proofs.lemmas.Option.{slice_get_read}
use Rattle.sdb_world.specs.Types.{Answer, ClientSlot, Event, Gate, How, Reply, Request, Table, TableName}
use Rattle.sdb_types.specs.Contents.{CanAnswer}
use Rattle.sdb_stores.specs.Views.{Attached, home_in, names_of, table_of}
use Rattle.sdb_model.specs.declared.event.Event.TheVariants as event
use Rattle.sdb_model.specs.Catalogs.{catalog_after}
use Rattle.sdb_model.specs.Rows.{Name}
use Rattle.sdb_model.specs.Events.{store_of, table_asked}
use Rattle.sdb_model.specs.Follows.{IsHowOfStep, texts_of}
use Rattle.sdb_client.specs.Client.{ClientAt, ReplyPost, client_pending, next_id, TextStep}
use Rattle.sdb_contents.specs.Board.{AreUsable, IsMade, contents_of_views}
use Rattle.sdb_contents.proofs.Public.{asked, named_home}
use Rattle.sdb_world.specs.declared.delivery.Delivery.{Delivery}
use Rattle.law_runs.specs.World.{IsWorld, WorldAt, with_late}
use Rattle.sdb_world.specs.Step.{HasCalled, HasLanded, HasLeft, HasStarted, IsDeliveryOf, IsPendingAt}
use Rattle.sdb_client.specs.Execution.{IsGateAt, flights_after}
use Rattle.sdb_types.proofs.Public.{some_is}
use Rattle.sdb_model.specs.Tables.{is_table_of_run}
use Rattle.sdb_model.specs.Calls.{is_stored_reply}

--- the event that was pushed, written out
pub pushed_as : (old : List Event) {new : List Event} {e f : Event} → e ≡ f → new ≡ old ++ e ∷ [] → new ≡ old ++ f ∷ []
pushed_as old is pushed = pushed ∙ ap (λ (x : Event). old ++ x ∷ []) is

-- the client that was read at a place is there
pub read_there : (client_slots : List ClientSlot) (i : ℕ) (s : ClientSlot) → i < length client_slots → s ≡ get_or client_slots i s → slice_get client_slots i ≡ Some s
read_there client_slots i s low read = slice_get_read client_slots (length client_slots) i s refl low read

-- what is so of the client at a place is so of the one that was read there
pub at_read : (P : ClientSlot → Type 0) (client_slots : List ClientSlot) (i : ℕ) (s : ClientSlot) → i < length client_slots → s ≡ get_or client_slots i s → IfSome (slice_get client_slots i) P → P s
at_read P client_slots i s low read h = subst (λ (o : Option ClientSlot). IfSome o P) (read_there client_slots i s low read) h

-- the next text of a client
abbrev pub IsNextText : WorldAt → ℕ → List ℕ → Type 0
IsNextText w i text = IfSome (slice_get w.client_slots i) (λ s. slice_get (texts_of w.script.clients (suc i)) s.accepted ≡ Some text)

-- it is no longer than a text may be
pub next_short : (w : WorldAt) (i : ℕ) (s : ClientSlot) (text : List ℕ) → IsWorld w → i < length w.client_slots → s ≡ get_or w.client_slots i s → IsNextText w i text → length text < 2 ^ 32
next_short w i s text h low read next = h.playable.short (suc i) s.accepted text (at_read (λ (x : ClientSlot). slice_get (texts_of w.script.clients (suc i)) x.accepted ≡ Some text) w.client_slots i s low read next)

-- a statement is left to it
pub some_left : (w : WorldAt) (i : ℕ) (s : ClientSlot) → i < length w.client_slots → s ≡ get_or w.client_slots i s → HasLeft w i → s.accepted < length (texts_of w.script.clients (suc i))
some_left w i s low read left = at_read (λ (x : ClientSlot). x.accepted < length (texts_of w.script.clients (suc i))) w.client_slots i s low read left

abbrev pub after_taking : WorldAt → ℕ → ClientSlot → ClientAt → List Event → WorldAt
after_taking u i s d es = record { script = u.script; client_slots = slice_set u.client_slots i (record { client = d; accepted = s.accepted + 1; stopped = s.stopped }); flights = u.flights; events = es; clock = u.clock }

-- A client took its next text.
pub took : (u w : WorldAt) → u ≡ w → (i : ℕ) (s : ClientSlot) (text : List ℕ) (gate : Gate) (a : Option Answer) (d : ClientAt) (es : List Event) → i < length w.client_slots → s ≡ get_or w.client_slots i s → IsNextText w i text
    → TextStep (record { catalog = catalog_after u.script.catalog u.events; now = u.clock; gate = gate; fresh = next_id s.client }) text s.client a d → IsGateAt gate w.client_slots i → d.begun < 2 ^ 64 → es ≡ u.events ++ event.Take (i + 1) text a ∷ [] → HasStarted w i (after_taking u i s d es)
took u w same i s text gate a d es low read next takes gated begun came =
    subst (λ (x : WorldAt). HasStarted w i (after_taking x i s d es)) (sym same)
    (record {
      client_slot = s;
      text = text;
      gate = gate;
      answer = a;
      client = d;
      at = read_there w.client_slots i s low read;
      next = at_read (λ (x : ClientSlot). slice_get (texts_of w.script.clients (suc i)) x.accepted ≡ Some text) w.client_slots i s low read next;
      takes = subst (λ (x : WorldAt). TextStep (record { catalog = catalog_after x.script.catalog x.events; now = x.clock; gate = gate; fresh = next_id s.client }) text s.client a d) same takes;
      gated = gated;
      begun = begun;
      left = λ k. record { script = w.script; client_slots = slice_set w.client_slots i (record { client = d; accepted = s.accepted + 1; stopped = s.stopped }); flights = w.flights; events = here k; clock = w.clock };
    })
  where
    here : es ≡ w.events ++ event.Take (suc i) text a ∷ []
    here = came ∙ ap (λ (x : WorldAt). x.events ++ event.Take (i + 1) text a ∷ []) same ∙ ap (λ (n : ℕ). w.events ++ event.Take n text a ∷ []) (add-one i)

abbrev pub after_calling : WorldAt → ℕ → ClientSlot → ClientAt → List (Option Request) → List Event → WorldAt
after_calling u i s d fs es = record { script = u.script; client_slots = slice_set u.client_slots i (record { client = d; accepted = s.accepted; stopped = s.stopped }); flights = fs; events = es; clock = u.clock }

-- the store of a call is that of its table's namespace
pub named_store : (stores : Attached) (q : Request) (table : TableName) (store : Name) → table ≡ table_of q → slice_get (names_of stores.views) (home_in stores table.ns) ≡ Some store → {catalog : List Table} → AreUsable catalog stores → store ≡ store_of stores.places (contents_of_views stores.views) (table_asked q).ns
named_store stores q table store same found fit =
    some_is store (store_of stores.places (contents_of_views stores.views) (table_asked q).ns)
    (sym found ∙ named_home stores.places stores.views table.ns fit.some (fit.homed table.ns) ∙ ap (λ (t : TableName). Some (store_of stores.places (contents_of_views stores.views) t.ns)) (same ∙ asked q))

-- A client's call was made.
pub called : (old new : Attached) (u w : WorldAt) → u ≡ w → (i : ℕ) (s : ClientSlot) (way : Delivery) (store : Name) (q : Request) (how : How) (r : Reply) (a : Option Answer) (d : ClientAt) (fs : List (Option Request)) (es : List Event) → i < length w.client_slots → s ≡ get_or w.client_slots i s → IsPendingAt w i q → CanAnswer q r → IsDeliveryOf way how r → is_stored_reply r ≡ true
    → ReplyPost s.client s.client.vacuum r u.clock a d → (AreUsable w.script.catalog old → is_table_of_run w.script.catalog (table_asked q) ≡ true → (store ≡ store_of old.places (contents_of_views old.views) (table_asked q).ns) × IsMade q how r old new) → fs ≡ flights_after u.flights how q → es ≡ u.events ++ event.Call (i + 1) store q how r a ∷ []
    → HasCalled old new w i way (after_calling u i s d fs es)
called old new u w same i s way store q how r a d fs es low read pends can allowed stored answered made late came =
    subst (λ (x : WorldAt). HasCalled old new w i way (after_calling x i s d fs es)) (sym same)
    (record {
      client_slot = s;
      store = store;
      request = q;
      how = how;
      reply = r;
      answer = a;
      client = d;
      at = read_there w.client_slots i s low read;
      pending = at_read (λ (x : ClientSlot). client_pending x.client ≡ Some q) w.client_slots i s low read pends;
      can = can;
      allowed = allowed;
      stored = stored;
      answered = subst (λ (x : WorldAt). ReplyPost s.client s.client.vacuum r x.clock a d) same answered;
      made = made;
      left = λ k. record { script = w.script; client_slots = slice_set w.client_slots i (record { client = d; accepted = sym (add-zero s.accepted) k; stopped = s.stopped }); flights = flown k; events = here k; clock = w.clock };
    })
  where
    flown : fs ≡ flights_after w.flights how q
    flown = late ∙ ap (λ (x : WorldAt). flights_after x.flights how q) same

    here : es ≡ w.events ++ event.Call (suc i) store q how r a ∷ []
    here = came ∙ ap (λ (x : WorldAt). x.events ++ event.Call (i + 1) store q how r a ∷ []) same ∙ ap (λ (n : ℕ). w.events ++ event.Call n store q how r a ∷ []) (add-one i)

abbrev pub after_landing : WorldAt → List (Option Request) → List Event → WorldAt
after_landing u fs es = record { script = u.script; client_slots = u.client_slots; flights = fs; events = es; clock = u.clock }

-- A request landed.
pub landed : (old new : Attached) (u w : WorldAt) (number place : ℕ) (store : Name) (q : Request) (how : How) (r : Reply) (es : List Event) → number ≡ suc place → slice_get w.flights place ≡ Some (Some q) → u ≡ with_late w (slice_set w.flights place None) → CanAnswer q r → IsHowOfStep how r → is_stored_reply r ≡ true
    → (AreUsable w.script.catalog old → is_table_of_run w.script.catalog (table_asked q) ≡ true → (store ≡ store_of old.places (contents_of_views old.views) (table_asked q).ns) × IsMade q how r old new) → es ≡ u.events ++ event.Land number store q how r ∷ []
    → HasLanded old new w number (after_landing u u.flights es)
landed old new u w number place store q how r es number_is at left can allowed stored made came = record {
  place = place;
  store = store;
  request = q;
  how = how;
  reply = r;
  number_is = number_is;
  at = at;
  can = can;
  allowed = allowed;
  stored = stored;
  made = made;
  left = ap (λ (x : WorldAt). after_landing x x.flights es) left ∙ ap (λ (xs : List Event). after_landing w (slice_set w.flights place None) xs) (came ∙ ap (λ (x : WorldAt). x.events ++ event.Land number store q how r ∷ []) left);
}

-- what follows of a success
pub on_ok : {T E A B : Type 0} (r : Result T E) → OnOk r A → (A → B) → OnOk r B
on_ok (Ok x) a f = f a
on_ok (Err e) a f = tt
