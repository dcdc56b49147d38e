-- At every moment of a run: which calls were delayed, and what is so of their requests.
use Rattle.std.proofs.Common.{◌≡◌, ℕ, zero, suc, ◌<◌, ◌^◌, Bool, true, false, List, [], ◌∷◌, ◌++◌, take, drop, Option, Some, None, ◌⊎◌, inl, inr, refl, sym, ap, subst, ◌∙◌, arith}
use Rattle.std.specs.Prelude.{◌==◌, if◌then◌else◌, slice_get}
use Rattle.std.specs.List.{cons_option, filter_map, list_any}
use Rattle.std.proofs.lemmas.List.{take-map}
use Rattle.law_protocol.specs.Types.{Event, Key, Place, Request}
use Rattle.sdb_types.specs.declared.record.Reply.TheVariants as reply
use Rattle.sdb_types.proofs.Public.{clash}
use Rattle.sdb_model.specs.declared.event.Event.TheVariants as event
use Rattle.sdb_model.specs.declared.event.How.TheVariants.{Seen, Lost, Discarded, Delayed, Broken}
use Rattle.sdb_model.specs.Events.{StoreContents, Effect}
use Rattle.sdb_model.specs.Follows.{delayed_at, delayed_by, in_flight, lands}
use Rattle.sdb_model.specs.Transactions.{prepares}
use Rattle.law_protocol.specs.History.{Action, Other, Begins, Takes, Prepares, Checks, Decides, Aborts, Rolls, Removes, Ends, Stops, History, happens}
use Rattle.law_protocol.specs.Lawful.{Labelled, IsDelayed, WasDelayed, id}
use Rattle.law_protocol.specs.Flight.{HasForm, StaysAllowed}
use Rattle.law_protocol.specs.Trace.{IsTraced, after_end, closing, history}
use Rattle.law_protocol.specs.Explained.{IsRunOf, RecordedAnswered, newest_first}
use Rattle.law_protocol.specs.Runs.{DelayedCall, IsMomentOf, IsRecordedAt, RunInOrder, WasDelayedBy, events_in, history_at, history_in, past_at}
use Rattle.law_protocol.proofs.Each.{has_first}
use Rattle.law_protocol.proofs.Known.{accepted_fits}
use Rattle.law_protocol.proofs.Moments.{IsCut, cut, early_run, early_whole, half, turned_append, turned_length}
use Rattle.law_protocol.proofs.Points.{WriterFits, form_prepares, in_order, is_prepare_of, order_onto}
use Rattle.law_protocol.proofs.Allowed.{Allowed}
use Rattle.law_protocol.proofs.Seen.{All}
use Rattle.law_protocol.proofs.Times.{lasts}
use Rattle.law_protocol.proofs.Whole.{Whole}

---- which calls were delayed

-- among one event more
one_more_delayed : (es : List Event) (e : Event) (k : ℕ) (q : Request) → slice_get (filter_map delayed_by (es ++ e ∷ [])) k ≡ Some q → (slice_get (filter_map delayed_by es) k ≡ Some q) ⊎ (delayed_by e ≡ Some q)
one_more_delayed [] e k q h = by (delayed_by e) k h
  where
    by : (o : Option Request) (i : ℕ) → slice_get (cons_option o []) i ≡ Some q → (slice_get {X = Request} [] i ≡ Some q) ⊎ (o ≡ Some q)
    by None i h = inl h
    by (Some x) zero h = inr h
    by (Some x) (suc i) h = inl h
one_more_delayed (x ∷ es) e k q h = by (delayed_by x) k h (λ i. one_more_delayed es e i q)
  where
    by : (o : Option Request) (i : ℕ) → slice_get (cons_option o (filter_map delayed_by (es ++ e ∷ []))) i ≡ Some q
        → ((j : ℕ) → slice_get (filter_map delayed_by (es ++ e ∷ [])) j ≡ Some q → (slice_get (filter_map delayed_by es) j ≡ Some q) ⊎ (delayed_by e ≡ Some q))
        → (slice_get (cons_option o (filter_map delayed_by es)) i ≡ Some q) ⊎ (delayed_by e ≡ Some q)
    by None i h rest = rest i h
    by (Some y) zero h rest = inl h
    by (Some y) (suc i) h rest = rest i h

delayed_is : (places : List Place) (p : Labelled) (before now : List StoreContents) (q : Request) → Effect places p.event before now → delayed_by p.event ≡ Some q → IsDelayed p q p.action
delayed_is places p before now q effect h = by p.event refl effect h
  where
    some_is : {x : Request} → Some x ≡ Some q → x ≡ q
    some_is e = cc

    none : ◌≡◌ {A = Option Request} None (Some q) → ⊥
    none e = cc

    by : (e : Event) → p.event ≡ e → Effect places e before now → delayed_by e ≡ Some q → IsDelayed p q p.action
    by (event.Call client store x Delayed r given) is c h = record {
      client = client;
      store = store;
      answer = given;
      call = is ∙ ap (λ y. event.Call client store x Delayed y given) c.performed.0 ∙ ap (λ y. event.Call client store y Delayed reply.Fault given) (some_is h);
      action_is = refl;
    }
    by (event.Call client store x Seen r given) is c h = absurd (none h)
    by (event.Call client store x Lost r given) is c h = absurd (none h)
    by (event.Call client store x Discarded r given) is c h = absurd (none h)
    by (event.Call client store x Broken r given) is c h = absurd (none h)
    by (event.Take client text given) is c h = absurd (none h)
    by (event.Stop client) is c h = absurd (none h)
    by (event.Clock moment) is c h = absurd (none h)
    by (event.Idle client) is c h = absurd (none h)
    by (event.Alter table column kind altered) is c h = absurd (none h)
    by (event.Land number store x how r) is c h = absurd (none h)

was_delayed : (places : List Place) (opening : List StoreContents) (past : List Labelled) (ss : List (List StoreContents)) (k : ℕ) (q : Request) → IsTraced places opening past ss → slice_get (filter_map delayed_by (in_order past)) k ≡ Some q → (action : Action) × WasDelayed past q action
was_delayed places opening [] ss k q t h = absurd (none h)
  where
    none : ◌≡◌ {A = Option Request} None (Some q) → ⊥
    none e = cc
was_delayed places opening (p ∷ past) [] k q t h = absurd t
was_delayed places opening (p ∷ past) (s ∷ ss) k q t h = elim (one_more_delayed (in_order past) p.event k q h) [
  | inl old ↦ let f = was_delayed places opening past ss k q t.0 old in (f.0, inr f.1)
  | inr now ↦ (p.action, inl (delayed_is places p (closing opening ss) s q t.1 now))
]

-- the run up to a moment, and its events in order
pub run_at : (r : RunInOrder) (n : ℕ) → IsMomentOf r n → IsRunOf r.plan r.places r.opening (past_at r n) (newest_first (take n r.moments))
run_at r n m = let c = cut r.plan r.places r.opening r.labelled r.moments n r.run m in early_run r.plan r.places r.opening (take n r.labelled) (drop n r.labelled) (take n r.moments) (drop n r.moments) c.same c.whole

pub order_at : (r : RunInOrder) (n : ℕ) → in_order (past_at r n) ≡ take n (events_in r)
order_at r n = order_onto [] (take n r.labelled) ∙ sym (take-map (λ (p : Labelled). p.event) n r.labelled)

-- a request in flight is of a call that was delayed
pub flying_was_delayed : (r : RunInOrder) (n k : ℕ) (q : Request) → IsMomentOf r n → in_flight k (take n (events_in r)) ≡ Some q → WasDelayedBy r n q
flying_was_delayed r n k q m h = by k (landed (list_any (lands k) (take n (events_in r))) h)
  where
    landed : (b : Bool) → (if b then None else delayed_at k (take n (events_in r))) ≡ Some q → delayed_at k (take n (events_in r)) ≡ Some q
    landed true e = absurd (none e)
      where
        none : ◌≡◌ {A = Option Request} None (Some q) → ⊥
        none e = cc
    landed false e = e

    by : (i : ℕ) → delayed_at i (take n (events_in r)) ≡ Some q → WasDelayedBy r n q
    by zero e = absurd (none e)
      where
        none : ◌≡◌ {A = Option Request} None (Some q) → ⊥
        none e = cc
    by (suc i) e =
        let f = was_delayed r.places r.opening (past_at r n) (newest_first (take n r.moments)) i q (run_at r n m).traced (ap (λ es. slice_get (filter_map delayed_by es) i) (order_at r n) ∙ e) in
        record { action = f.0; was = f.1 }

---- what is so of them

pub whole_at : (r : RunInOrder) (n : ℕ) → IsMomentOf r n → Whole r.plan r.places (history_at r n) (past_at r n) (closing r.opening (newest_first (take n r.moments)))
whole_at r n m = early_whole r.plan r.places r.opening r.labelled r.moments n (cut r.plan r.places r.opening r.labelled r.moments n r.run m)

pub delayed_allowed : (r : RunInOrder) (n : ℕ) (d : DelayedCall r n) → IsMomentOf r n → HasForm r.plan d.request d.action × StaysAllowed r.plan (history_at r n) d.action
delayed_allowed r n d m = (whole_at r n m).knows.delayed d.request d.action d.was

-- each prepare of a recorded transaction was acknowledged
pub recorded_answered : (r : RunInOrder) (n : ℕ) → IsMomentOf r n → RecordedAnswered (history_at r n)
recorded_answered r n m t k row asked = let i = (whole_at r n m).all.one in (i.decided t row).answered k (i.asked t k asked)

-- so none was delayed
pub recorded_undelayed : (r : RunInOrder) (n t : ℕ) (d : DelayedCall r n) → IsMomentOf r n → IsRecordedAt r n t → prepares (id t) d.request ≡ false
recorded_undelayed r n t d m row = let x = delayed_allowed r n d m in form_prepares r.plan t d.request d.action (fits t accepted) (writer_fits d.action x.1) x.0 ∙ none d.action x.0 x.1
  where
    w : History
    w = history_at r n

    i : Whole r.plan r.places (history_at r n) (past_at r n) (closing r.opening (newest_first (take n r.moments)))
    i = whole_at r n m

    fits : (u : ℕ) → w.protocol.accepted u ≡ true → u < 2 ^ 128
    fits u h = accepted_fits w u i.all.one.begun i.knows.fits h

    accepted : w.protocol.accepted t ≡ true
    accepted = grind (arith, i.all.one.accepted t Rattle.law_protocol.proofs.Small.any_key 0)

    same : (u : ℕ) → (t == u) ≡ true → t ≡ u
    same u e = grind (arith, Rattle.sdb_types.proofs.Public.tests)

    other : (u : ℕ) (k : Key) (b : Bool) → (t == u) ≡ b → (w.protocol.asked u k ≡ true) × (w.protocol.answered u k ≡ false) → (t == u) ≡ false
    other u k false e h = e
    other u k true e h = clash (sym (recorded_answered r n m t k row (rw (same u e) h.0)) ∙ rw (same u e) h.1)

    writer_fits : (x : Action) → StaysAllowed r.plan w x → WriterFits x
    writer_fits (Prepares u ks word) s = fits u s.0
    writer_fits Other s = tt
    writer_fits (Begins u c) s = tt
    writer_fits (Takes u) s = tt
    writer_fits (Checks u j) s = tt
    writer_fits (Decides u word) s = tt
    writer_fits (Aborts u moment word) s = tt
    writer_fits (Rolls u ks e) s = tt
    writer_fits (Removes k u) s = tt
    writer_fits (Ends u) s = tt
    writer_fits (Stops c) s = tt

    none : (x : Action) → HasForm r.plan d.request x → StaysAllowed r.plan w x → is_prepare_of t x ≡ false
    none (Prepares u [] word) f s = absurd (omega (arith, f.some))
    none (Prepares u (k ∷ ks) word) f s = other u k (t == u) refl (s.1.0 k (has_first k ks))
    none Other f s = refl
    none (Begins u c) f s = refl
    none (Takes u) f s = refl
    none (Checks u j) f s = refl
    none (Decides u word) f s = refl
    none (Aborts u moment word) f s = refl
    none (Rolls u ks e) f s = refl
    none (Removes k u) f s = refl
    none (Ends u) f s = refl
    none (Stops c) f s = refl

---- later

-- what each action keeps of a moment's history is so at the end
pub lasts_from : (r : RunInOrder) (n : ℕ) → IsMomentOf r n → (P : History → Type 0)
    → ((w : History) (x : Action) (done : Bool) → All r.plan w → Allowed r.plan w x done → P w → P (happens r.plan w x done))
    → ((w : History) (t : ℕ) → P w → P (after_end r.plan w (Some t)))
    → P (history_at r n) → P (history_in r)
lasts_from r n m P stable closes h =
    subst (λ y. P (history r.plan r.places r.opening (newest_first y) (newest_first r.moments))) (sym (half n r.labelled))
    (subst (λ y. P (history r.plan r.places r.opening (newest_first (take n r.labelled ++ drop n r.labelled)) (newest_first y))) (sym (half n r.moments))
    (subst (λ y. P (history r.plan r.places r.opening y (newest_first (take n r.moments ++ drop n r.moments)))) (sym (turned_append (take n r.labelled) (drop n r.labelled)))
    (subst (λ y. P (history r.plan r.places r.opening (newest_first (drop n r.labelled) ++ newest_first (take n r.labelled)) y)) (sym (turned_append (take n r.moments) (drop n r.moments)))
    (lasts r.plan r.places r.opening (newest_first (drop n r.labelled)) (newest_first (take n r.labelled)) (newest_first (drop n r.moments)) (newest_first (take n r.moments)) P stable closes (turned_length (drop n r.labelled) ∙ c.same ∙ sym (turned_length (drop n r.moments))) turned h))))
  where
    c : IsCut r.plan r.places r.opening r.labelled r.moments n
    c = cut r.plan r.places r.opening r.labelled r.moments n r.run m

    turned : IsRunOf r.plan r.places r.opening (newest_first (drop n r.labelled) ++ newest_first (take n r.labelled)) (newest_first (drop n r.moments) ++ newest_first (take n r.moments))
    turned = subst (λ y. IsRunOf r.plan r.places r.opening y (newest_first (drop n r.moments) ++ newest_first (take n r.moments))) (turned_append (take n r.labelled) (drop n r.labelled)) (subst (λ y. IsRunOf r.plan r.places r.opening (newest_first (take n r.labelled ++ drop n r.labelled)) y) (turned_append (take n r.moments) (drop n r.moments)) c.whole)
