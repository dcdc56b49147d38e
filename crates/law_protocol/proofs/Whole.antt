-- Every lawful list of events with a trace from empty stores.
use Rattle.std.proofs.Common.{◌≡◌, ◌≢◌, ℕ, ℤ, ◌<◌, ◌^◌, Bool, true, false, List, [], ◌∷◌, Option, Some, None, inl, inr, refl, sym, ap, subst, ◌∙◌, arith}
use Rattle.std.specs.Prelude.{◌==◌}
use Rattle.law_protocol.specs.Types.{Decision, Event, Place, Request}
use Rattle.sdb_types.specs.declared.record.Reply.TheVariants as reply
use Rattle.sdb_record.specs.declared.coordinator.Decision.TheVariants.{Committed, Aborted}
use Rattle.sdb_record.specs.Meta.{is_moment}
use Rattle.sdb_model.specs.declared.event.How.TheVariants.{Delayed}
use Rattle.sdb_model.specs.Events.{StoreContents, Effect, contact_of}
use Rattle.law_protocol.specs.Plan.{Plan}
use Rattle.law_protocol.specs.History.{Action, Other, Begins, Takes, Prepares, Checks, Decides, Aborts, Rolls, Removes, Ends, Stops, ProtocolState, History, start, state_after_event, state_after, happens, with_row}
use Rattle.law_protocol.specs.Lawful.{Labelled, IsEnabled, IsLawful, MayOccur, WasDelayed}
use Rattle.law_protocol.specs.Records.{ContainsHistory}
use Rattle.law_protocol.specs.Flight.{HasForm, StaysAllowed}
use Rattle.law_protocol.specs.Trace.{closing, IsTraced, StartsEmpty, has_effect, after_end, history}
use Rattle.sdb_types.proofs.Public.{tests}
use Rattle.law_protocol.proofs.Allowed.{Allowed}
use Rattle.law_protocol.proofs.Changes.{Asks}
use Rattle.law_protocol.proofs.Flight.{stays_kept, stays_closed}
use Rattle.law_protocol.proofs.Occurring.{occurs_by}
use Rattle.law_protocol.proofs.Landing.{form_of, land_moves, stays_from_call}
use Rattle.law_protocol.proofs.Seen.{All, all_closed, all_kept, all_start}
use Rattle.law_protocol.proofs.Observed.{stood}
use Rattle.law_protocol.proofs.Known.{IsPlanned, AreMoments, known_closed, known_kept, known_now}
use Rattle.law_protocol.proofs.Settled.{Knows}
use Rattle.law_protocol.proofs.Moves.{Moves, prepare_moves, decide_moves, abort_moves}
use Rattle.law_protocol.proofs.Rolling.{forward_moves, back_moves, remove_moves}
use Rattle.law_protocol.proofs.Reading.{check_moves, other_moves, stop_moves, begin_moves, take_moves, take_planned}

-- all that holds after the events so far
pub record Whole (plan : ℕ → Plan) (places : List Place) (w : History) (past : List Labelled) (store_contents : List StoreContents) : Type 0 where
  pub all : All plan w
  pub knows : Knows plan w past
  pub held : ContainsHistory plan places w store_contents

enabled_moves : (plan : ℕ → Plan) (places : List Place) (w : History) (past : List Labelled) (e : Event) (before now : List StoreContents) (r : Action) (done : Bool)
    → Knows plan w past → ContainsHistory plan places w before → Effect places e before now → has_effect places e before now ≡ done → IsEnabled plan past e r → Moves plan places w r done now
enabled_moves plan places w past e before now Other done knows held effect is m = other_moves plan places w e before now done held effect m
enabled_moves plan places w past e before now (Begins t c) done knows held effect is m = begin_moves plan places w past e before now t c done knows held effect m
enabled_moves plan places w past e before now (Takes t) done knows held effect is m = take_moves plan places w past e before now t done knows held effect m
enabled_moves plan places w past e before now (Prepares t ks word) done knows held effect is m = prepare_moves plan places w past e before now t ks word done knows held effect is m
enabled_moves plan places w past e before now (Checks t i) done knows held effect is m = check_moves plan places w past e before now t i done knows held effect m
enabled_moves plan places w past e before now (Decides t word) done knows held effect is m = decide_moves plan places w past e before now t word done knows held effect is m
enabled_moves plan places w past e before now (Aborts t moment word) done knows held effect is m = abort_moves plan places w past e before now t moment word done held effect is m
enabled_moves plan places w past e before now (Rolls t ks Committed) done knows held effect is m = forward_moves plan places w past e before now t ks done knows held effect is m
enabled_moves plan places w past e before now (Rolls t [] Aborted) done knows held effect is m = absurd m
enabled_moves plan places w past e before now (Rolls t (k ∷ []) Aborted) done knows held effect is m = back_moves plan places w past e before now t k done knows held effect is m
enabled_moves plan places w past e before now (Rolls t (k ∷ l ∷ ks) Aborted) done knows held effect is m = absurd m
enabled_moves plan places w past e before now (Removes k t) done knows held effect is m = remove_moves plan places w past e before now t k done knows held effect is m
enabled_moves plan places w past e before now (Ends t) done knows held effect is m = absurd m
enabled_moves plan places w past e before now (Stops c) done knows held effect is m = stop_moves plan places w e before now c done held effect m

pub moves : (plan : ℕ → Plan) (places : List Place) (w : History) (past : List Labelled) (e : Event) (before now : List StoreContents) (r : Action) (done : Bool)
    → Knows plan w past → ContainsHistory plan places w before → Effect places e before now → has_effect places e before now ≡ done → MayOccur plan past e r → Moves plan places w r done now
moves plan places w past e before now r done knows held effect is o = elim (occurs_by plan past e r o) [
  | inl m ↦ enabled_moves plan places w past e before now r done knows held effect is m
  | inr l ↦ land_moves plan places w past e before now r done knows held effect is l
]

happens_talk : (plan : ℕ → Plan) (w : History) (r : Action) (done : Bool) → (happens plan w r done).protocol ≡ state_after_event w.protocol r
happens_talk plan w Other done = refl
happens_talk plan w (Begins t c) done = refl
happens_talk plan w (Takes t) done = refl
happens_talk plan w (Prepares t k word) done = refl
happens_talk plan w (Checks t i) done = refl
happens_talk plan w (Decides t word) done = refl
happens_talk plan w (Aborts t moment word) done = refl
happens_talk plan w (Rolls t k d) done = refl
happens_talk plan w (Removes k t) done = refl
happens_talk plan w (Ends t) done = refl
happens_talk plan w (Stops c) done = refl

-- ids, plans and moments

ids_kept : (plan : ℕ → Plan) (w : History) (past : List Labelled) (e : Event) (r : Action) (done : Bool) → Knows plan w past → IsEnabled plan past e r → (u : ℕ) → (happens plan w r done).protocol.begun u ≢ 0 → u < 2 ^ 128
ids_kept plan w past e (Begins t c) done knows m u h = by (u == t) refl
  where
    same : (u == t) ≡ true → u ≡ t
    same e = grind (arith, tests)

    by : (b : Bool) → (u == t) ≡ b → u < 2 ^ 128
    by true e = rw (same e) m.fits
    by false e = knows.fits u (λ z. h (rw e z))
ids_kept plan w past e Other done knows m u h = knows.fits u h
ids_kept plan w past e (Takes t) done knows m u h = knows.fits u h
ids_kept plan w past e (Prepares t k word) done knows m u h = knows.fits u h
ids_kept plan w past e (Checks t i) done knows m u h = knows.fits u h
ids_kept plan w past e (Decides t word) done knows m u h = knows.fits u h
ids_kept plan w past e (Aborts t moment word) done knows m u h = knows.fits u h
ids_kept plan w past e (Rolls t k d) done knows m u h = knows.fits u h
ids_kept plan w past e (Removes k t) done knows m u h = knows.fits u h
ids_kept plan w past e (Ends t) done knows m u h = knows.fits u h
ids_kept plan w past e (Stops c) done knows m u h = knows.fits u h

plans_kept : (plan : ℕ → Plan) (w : History) (past : List Labelled) (e : Event) (r : Action) (done : Bool) → Knows plan w past → IsEnabled plan past e r → (u : ℕ) → (happens plan w r done).protocol.accepted u ≡ true → IsPlanned plan u
plans_kept plan w past e (Takes t) done knows m u h = by (u == t) refl
  where
    same : (u == t) ≡ true → u ≡ t
    same e = grind (arith, tests)

    by : (b : Bool) → (u == t) ≡ b → IsPlanned plan u
    by true f = rw (same f) (take_planned plan w past e t knows m)
    by false f = knows.planned u (sym (rw f refl) ∙ h)
plans_kept plan w past e Other done knows m u h = knows.planned u h
plans_kept plan w past e (Begins t c) done knows m u h = knows.planned u h
plans_kept plan w past e (Prepares t k word) done knows m u h = knows.planned u h
plans_kept plan w past e (Checks t i) done knows m u h = knows.planned u h
plans_kept plan w past e (Decides t word) done knows m u h = knows.planned u h
plans_kept plan w past e (Aborts t moment word) done knows m u h = knows.planned u h
plans_kept plan w past e (Rolls t k d) done knows m u h = knows.planned u h
plans_kept plan w past e (Removes k t) done knows m u h = knows.planned u h
plans_kept plan w past e (Ends t) done knows m u h = knows.planned u h
plans_kept plan w past e (Stops c) done knows m u h = knows.planned u h

-- what lands begins nothing and takes no COMMIT
landed_same : (plan : ℕ → Plan) (w : History) (action : Action) (done : Bool) (u : ℕ) → StaysAllowed plan w action → ((happens plan w action done).protocol.begun u ≡ w.protocol.begun u) × ((happens plan w action done).protocol.accepted u ≡ w.protocol.accepted u)
landed_same plan w Other done u s = (refl, refl)
landed_same plan w (Prepares t ks word) done u s = (refl, refl)
landed_same plan w (Decides t word) done u s = (refl, refl)
landed_same plan w (Aborts t moment word) done u s = (refl, refl)
landed_same plan w (Rolls t ks d) done u s = (refl, refl)
landed_same plan w (Removes k t) done u s = (refl, refl)
landed_same plan w (Begins t c) done u s = absurd s
landed_same plan w (Takes t) done u s = absurd s
landed_same plan w (Checks t i) done u s = absurd s
landed_same plan w (Ends t) done u s = absurd s
landed_same plan w (Stops c) done u s = absurd s

moments_same : (plan : ℕ → Plan) (w v : History) (u : ℕ) → v.row u ≡ w.row u → v.moment u ≡ w.moment u → AreMoments plan w u → AreMoments plan v u
moments_same plan w v u row moment m = record {
  some = λ h. rw moment (m.some (λ n. h (row ∙ n)));
  committed = λ h. moment ∙ m.committed (sym row ∙ h);
}

moments_put : (plan : ℕ → Plan) (w : History) (h : ProtocolState) (t : ℕ) (d : Decision) (moment : ℤ) (done : Bool) (u : ℕ) → (done ≡ true → is_moment moment ≡ true) → (d ≡ Committed → moment ≡ (plan t).now) → AreMoments plan w u → AreMoments plan (with_row w h t d moment done) u
moments_put plan w h t d moment false u ok is m = moments_same plan w (with_row w h t d moment false) u refl refl m
moments_put plan w h t d moment true u ok is m = by (u == t) refl
  where
    same : (u == t) ≡ true → u ≡ t
    same e = grind (arith, tests)

    some_is : {x y : Decision} → Some x ≡ Some y → x ≡ y
    some_is e = cc

    by : (b : Bool) → (u == t) ≡ b → AreMoments plan (with_row w h t d moment true) u
    by true e = record {
      some = λ n. rw e (ok refl);
      committed = λ c. rw e (is (some_is (sym (rw e refl) ∙ c)) ∙ ap (λ x. (plan x).now) (sym (same e)));
    }
    by false e = moments_same plan w (with_row w h t d moment true) u (rw e refl) (rw e refl) m

moments_kept : (plan : ℕ → Plan) (w : History) (past : List Labelled) (e : Event) (r : Action) (done : Bool) → Knows plan w past → Allowed plan w r done → IsEnabled plan past e r → (u : ℕ) → AreMoments plan (happens plan w r done) u
moments_kept plan w past e (Decides t word) done knows a m u = moments_put plan w _ t Committed (plan t).now done u (λ d. (knows.planned t a.0).moment) (λ x. refl) (knows.moments u)
moments_kept plan w past e (Aborts t moment word) done knows a m u = moments_put plan w _ t Aborted moment done u (λ d. m.moment_is) (λ x. absurd (apart x)) (knows.moments u)
  where
    apart : Aborted ≡ Committed → ⊥
    apart x = cc
moments_kept plan w past e Other done knows a m u = moments_same plan w (happens plan w Other done) u refl refl (knows.moments u)
moments_kept plan w past e (Begins t c) done knows a m u = moments_same plan w (happens plan w (Begins t c) done) u refl refl (knows.moments u)
moments_kept plan w past e (Takes t) done knows a m u = moments_same plan w (happens plan w (Takes t) done) u refl refl (knows.moments u)
moments_kept plan w past e (Prepares t k word) done knows a m u = moments_same plan w (happens plan w (Prepares t k word) done) u refl refl (knows.moments u)
moments_kept plan w past e (Checks t i) done knows a m u = moments_same plan w (happens plan w (Checks t i) done) u refl refl (knows.moments u)
moments_kept plan w past e (Rolls t k d) done knows a m u = moments_same plan w (happens plan w (Rolls t k d) done) u refl refl (knows.moments u)
moments_kept plan w past e (Removes k t) done knows a m u = moments_same plan w (happens plan w (Removes k t) done) u refl refl (knows.moments u)
moments_kept plan w past e (Ends t) done knows a m u = moments_same plan w (happens plan w (Ends t) done) u refl refl (knows.moments u)
moments_kept plan w past e (Stops c) done knows a m u = moments_same plan w (happens plan w (Stops c) done) u refl refl (knows.moments u)

landed_moments : (plan : ℕ → Plan) (w : History) (past : List Labelled) (action : Action) (done : Bool) → Knows plan w past → StaysAllowed plan w action → (u : ℕ) → AreMoments plan (happens plan w action done) u
landed_moments plan w past (Decides t word) done knows s u = moments_put plan w _ t Committed (plan t).now done u (λ d. (knows.planned t s.0.accepted).moment) (λ x. refl) (knows.moments u)
landed_moments plan w past (Aborts t moment word) done knows s u = moments_put plan w _ t Aborted moment done u (λ d. s.1) (λ x. absurd (apart x)) (knows.moments u)
  where
    apart : Aborted ≡ Committed → ⊥
    apart x = cc
landed_moments plan w past Other done knows s u = moments_same plan w (happens plan w Other done) u refl refl (knows.moments u)
landed_moments plan w past (Prepares t ks word) done knows s u = moments_same plan w (happens plan w (Prepares t ks word) done) u refl refl (knows.moments u)
landed_moments plan w past (Rolls t ks d) done knows s u = moments_same plan w (happens plan w (Rolls t ks d) done) u refl refl (knows.moments u)
landed_moments plan w past (Removes k t) done knows s u = moments_same plan w (happens plan w (Removes k t) done) u refl refl (knows.moments u)
landed_moments plan w past (Begins t c) done knows s u = absurd s
landed_moments plan w past (Takes t) done knows s u = absurd s
landed_moments plan w past (Checks t i) done knows s u = absurd s
landed_moments plan w past (Ends t) done knows s u = absurd s
landed_moments plan w past (Stops c) done knows s u = absurd s

-- ids, plans and moments, after an event of any kind
record AreSound (plan : ℕ → Plan) (w : History) : Type 0 where
  fits : (u : ℕ) → w.protocol.begun u ≢ 0 → u < 2 ^ 128
  planned : (u : ℕ) → w.protocol.accepted u ≡ true → IsPlanned plan u
  moments : (u : ℕ) → AreMoments plan w u

sound_kept : (plan : ℕ → Plan) (w : History) (past : List Labelled) (e : Event) (r : Action) (done : Bool) → Knows plan w past → Allowed plan w r done → MayOccur plan past e r → AreSound plan (happens plan w r done)
sound_kept plan w past e r done knows a o = elim (occurs_by plan past e r o) [
  | inl m ↦ record { fits = ids_kept plan w past e r done knows m; planned = plans_kept plan w past e r done knows m; moments = moments_kept plan w past e r done knows a m }
  | inr l ↦ landed (knows.delayed l.request r l.was).1
]
  where
    landed : StaysAllowed plan w r → AreSound plan (happens plan w r done)
    landed s = record {
      fits = λ u h. knows.fits u (λ z. h ((landed_same plan w r done u s).0 ∙ z));
      planned = λ u h. knows.planned u (sym (landed_same plan w r done u s).1 ∙ h);
      moments = landed_moments plan w past r done knows s;
    }

-- what was delayed, the call of this event among it
delayed_kept : (plan : ℕ → Plan) (w : History) (past : List Labelled) (p : Labelled) (done : Bool) → Knows plan w past → Allowed plan w p.action done → MayOccur plan past p.event p.action
    → (q : Request) (action : Action) → WasDelayed (record p { ends = None } ∷ past) q action → HasForm plan q action × StaysAllowed plan (happens plan w p.action done) action
delayed_kept plan w past p done knows a o q action (inr was) = let f = knows.delayed q action was in (f.0, stays_kept plan w p.action done action knows.inv.heard a f.1)
delayed_kept plan w past p done knows a o q action (inl now) = subst (λ x. HasForm plan q x × StaysAllowed plan (happens plan w p.action done) x) now.action_is (form_of plan w past p.event p.action q reply.Fault knows o asks, stays)
  where
    asks : Asks p.event q reply.Fault
    asks = record { store = now.store; how = Delayed; is = ap contact_of now.call }

    stays : StaysAllowed plan (happens plan w p.action done) p.action
    stays = stays_from_call plan w past p.event p.action done q knows a (subst (λ e. IsEnabled plan past e p.action) (sym now.call) (subst (λ e. MayOccur plan past e p.action) now.call o)) asks

---- one event more

labelled : (plan : ℕ → Plan) (places : List Place) (w : History) (past : List Labelled) (p : Labelled) (before now : List StoreContents) (done : Bool) → Whole plan places w past before → Effect places p.event before now → has_effect places p.event before now ≡ done → MayOccur plan past p.event p.action
    → Whole plan places (happens plan w p.action done) (record p { ends = None } ∷ past) now
labelled plan places w past p before now done i effect is m =
    let x = moves plan places w past p.event before now p.action done i.knows i.held effect is m in
    let all = all_kept plan w p.action done i.all x.allowed in
    let sound = sound_kept plan w past p.event p.action done i.knows x.allowed m in
    record {
      all = all;
      knows = record {
        inv = all.one;
        talks = ap (λ h. state_after_event h p.action) i.knows.talks ∙ sym (happens_talk plan w p.action done);
        observed = λ r s. known_kept plan w p.action done r i.knows.inv x.allowed (elim s [
          | inl here ↦ known_now plan places w before r i.knows.inv i.knows.fits i.held (stood places p.event before now r effect here)
          | inr there ↦ i.knows.observed r there
        ]);
        fits = sound.fits;
        planned = sound.planned;
        moments = sound.moments;
        delayed = delayed_kept plan w past p done i.knows x.allowed m;
      };
      held = x.held;
    }

with_end : (plan : ℕ → Plan) (places : List Place) (w : History) (past : List Labelled) (p : Labelled) (now : List StoreContents) (ends : Option ℕ) → Whole plan places w (record p { ends = None } ∷ past) now → Whole plan places (after_end plan w ends) (record p { ends = ends } ∷ past) now
with_end plan places w past p now None i = i
with_end plan places w past p now (Some t) i =
    let all = all_closed plan w t i.all in
    record {
      all = all;
      knows = record {
        inv = all.one;
        talks = ap (λ h. state_after h (Ends t)) i.knows.talks;
        observed = λ r s. known_closed plan w t r (i.knows.observed r s);
        fits = i.knows.fits;
        planned = i.knows.planned;
        moments = λ u. moments_same plan w (after_end plan w (Some t)) u refl refl (i.knows.moments u);
        delayed = λ q action was. let f = i.knows.delayed q action (unended was) in (f.0, stays_closed plan w t action f.1);
      };
      held = record { records = i.held.records; rows = i.held.rows };
    }
  where
    unended : {q : Request} {action : Action} → WasDelayed (record p { ends = Some t } ∷ past) q action → WasDelayed (record p { ends = None } ∷ past) q action
    unended (inl d) = inl (record { client = d.client; store = d.store; answer = d.answer; call = d.call; action_is = d.action_is })
    unended (inr was) = inr was

empty_start : (plan : ℕ → Plan) (places : List Place) (opening : List StoreContents) → StartsEmpty places opening → Whole plan places start [] opening
empty_start plan places opening empty = record {
  all = all_start plan;
  knows = record {
    inv = (all_start plan).one;
    talks = refl;
    observed = λ r s. absurd s;
    fits = λ t h. absurd (h refl);
    planned = λ t h. absurd (cc);
    moments = λ t. record { some = λ h. absurd (h refl); committed = λ h. absurd (cc) };
    delayed = λ q action was. absurd was;
  };
  held = record { records = λ k there. empty k; rows = λ t fits. empty _ };
}

pub whole : (plan : ℕ → Plan) (places : List Place) (opening : List StoreContents) (past : List Labelled) (ss : List (List StoreContents)) → StartsEmpty places opening → IsLawful plan past → IsTraced places opening past ss → Whole plan places (history plan places opening past ss) past (closing opening ss)
whole plan places opening [] [] empty l t = empty_start plan places opening empty
whole plan places opening [] (s ∷ ss) empty l t = absurd t
whole plan places opening (p ∷ past) [] empty l t = absurd t
whole plan places opening (p ∷ past) (s ∷ ss) empty l t =
    let before = whole plan places opening past ss empty l.0 t.0 in
    let w = history plan places opening past ss in
    let done = has_effect places p.event (closing opening ss) s in
    with_end plan places (happens plan w p.action done) past p s p.ends (labelled plan places w past p (closing opening ss) s done before t.1 refl l.1)
