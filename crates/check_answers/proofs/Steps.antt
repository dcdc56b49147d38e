-- A client's step, by what the code has of it.
use Rattle.std.proofs.Common.{◌≡◌, ◌∙◌, ℕ, suc, ◌<◌, ◌^◌, true, false, List, length, Option, Some, IfSome, refl, sym, ap, subst, get_or, take, [], ◌∷◌, ◌++◌, ◌+◌, add-zero, add-one}
use Rattle.std.specs.Prelude.{slice_get}
use Rattle.std.proofs.Math.Seq.{take-suc}
use Rattle.std.proofs.lemmas.Option.{slice_get_read}
use Rattle.check_answers.specs.Types.{Answer, ClientSlot, Event, Gate, How, Reply, Request, Script}
use Rattle.sdb_types.specs.declared.record.Reply.TheVariants as reply
use Rattle.sdb_types.specs.Contents.{CanAnswer}
use Rattle.sdb_model.specs.declared.event.How.TheVariants.{Seen, Delayed}
use Rattle.sdb_model.specs.Catalogs.{catalog_after}
use Rattle.sdb_model.specs.Follows.{texts_of}
use Rattle.sdb_client.specs.Client.{ClientAt, IsIdle, ReplyPost, client_pending, next_id, TextStep}
use Rattle.sdb_client.proofs.Public.{step_of_reply, step_of_text}
use Rattle.sdb_client.specs.Execution.{CallStep, IsGateAt, State, TakeStep, client_after, flights_after, with_client_at, with_flights}
use Rattle.sdb_model.specs.Calls.{is_stored_reply}

pub took : (script : Script) (past : List Event) (s : State) (c at : ℕ) (client_slot : ClientSlot) (gate : Gate) (text : List ℕ) (answer : Option Answer) (client : ClientAt)
    → c ≡ suc at → at < length s.client_slots → IfSome (slice_get s.client_slots at) (λ x. x.stopped ≡ false) → client_slot ≡ get_or s.client_slots at client_slot → IsIdle client_slot.client → slice_get (texts_of script.clients (suc at)) client_slot.accepted ≡ Some text → IsGateAt gate s.client_slots at → client.begun < 2 ^ 64
    → TextStep (record { catalog = catalog_after script.catalog past; now = s.clock; gate = gate; fresh = next_id client_slot.client }) text client_slot.client answer client → TakeStep script past s c text answer (with_client_at s at (client_after client_slot 1 client))
took script past s c at client_slot gate text answer client number low goes read idle next gated small takes = record {
  place = at;
  client_slot = client_slot;
  gate = gate;
  client = client;
  number = number;
  at = there;
  goes_on = subst (λ (o : Option ClientSlot). IfSome o (λ x. x.stopped ≡ false)) there goes;
  idle = idle;
  next = subst (λ n. slice_get (texts_of script.clients n) client_slot.accepted ≡ Some text) (sym number) next;
  gated = gated;
  small = small;
  takes = step_of_text (record { catalog = catalog_after script.catalog past; now = s.clock; gate = gate; fresh = next_id client_slot.client }) text client_slot.client answer client takes;
  left = refl;
}
  where
    there : slice_get s.client_slots at ≡ Some client_slot
    there = slice_get_read s.client_slots (length s.client_slots) at client_slot refl low read

pub called : (s v : State) (c at : ℕ) (client_slot : ClientSlot) (q : Request) (r : Reply) (answer : Option Answer) (client : ClientAt)
    → c ≡ suc at → at < length s.client_slots → IfSome (slice_get s.client_slots at) (λ x. x.stopped ≡ false) → client_slot ≡ get_or s.client_slots at client_slot → client_pending client_slot.client ≡ Some q → CanAnswer q r → is_stored_reply r ≡ true
    → ReplyPost client_slot.client client_slot.client.vacuum r s.clock answer client → v ≡ with_client_at s at (record { client = client; accepted = client_slot.accepted; stopped = client_slot.stopped }) → CallStep s c q Seen r answer v
called s v c at client_slot q r answer client number low goes read pending can stored takes left = record {
  place = at;
  client_slot = client_slot;
  client = client;
  number = number;
  at = there;
  goes_on = subst (λ (o : Option ClientSlot). IfSome o (λ x. x.stopped ≡ false)) there goes;
  pending = pending;
  can = can;
  stored = stored;
  late = λ e. absurd (cc);
  takes = step_of_reply client_slot.client q r s.clock pending answer client takes;
  left = left ∙ ap (λ n. with_client_at s at (record { client = client; accepted = n; stopped = client_slot.stopped })) (sym (add-zero client_slot.accepted));
}
  where
    there : slice_get s.client_slots at ≡ Some client_slot
    there = slice_get_read s.client_slots (length s.client_slots) at client_slot refl low read

-- and where it was lost, discarded or delayed
pub departed : (s u v : State) (c : ℕ) (q : Request) (how : How) (r : Reply) (answer : Option Answer) → (how ≡ Delayed → r ≡ reply.Fault) → CallStep s c q Seen r answer u → v ≡ with_flights u (flights_after u.flights how q) → CallStep s c q how r answer v
departed s u v c q how r answer late h left = record {
  place = h.place;
  client_slot = h.client_slot;
  client = h.client;
  number = h.number;
  at = h.at;
  goes_on = h.goes_on;
  pending = h.pending;
  can = h.can;
  stored = h.stored;
  late = late;
  takes = h.takes;
  left = left ∙ ap (λ (w : State). with_flights w (flights_after w.flights how q)) h.left;
}

-- the first events with one more
pub event_more : (es : List Event) (i : ℕ) (e : Event) → i < length es → e ≡ get_or es i e → take (i + 1) es ≡ take i es ++ e ∷ []
event_more es i e inside is = ap (λ (n : ℕ). take n es) (add-one i) ∙ take-suc es i e inside ∙ ap (λ (x : Event). take i es ++ x ∷ []) (sym is)
