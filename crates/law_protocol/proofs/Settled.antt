-- What a read comes to is what a recorded transaction left.
use Rattle.std.proofs.Common.{◌≡◌, ◌≢◌, ℕ, ℤ, ◌<◌, ◌^◌, true, false, List, Option, Some, None, inl, inr, refl, sym, ap, subst, ◌∙◌, arith}
use Rattle.std.specs.Option.{option_map}
use Rattle.law_protocol.specs.Types.{Decision, Key, Record, Request}
use Rattle.sdb_types.specs.declared.record.State.TheVariants as state
use Rattle.sdb_record.specs.declared.coordinator.Decision.TheVariants.{Committed, Aborted}
use Rattle.sdb_record.specs.Meta.{id_in, is_in}
use Rattle.sdb_record.specs.Parts.{before_record}
use Rattle.sdb_record.specs.Rolls.{forward_record}
use Rattle.law_protocol.specs.Plan.{Plan, written}
use Rattle.law_protocol.specs.History.{Action, History, ProtocolState, base_of, IsWriter}
use Rattle.law_protocol.specs.Lawful.{Labelled, WasDelayed, protocol_state, IsObserved, IsPreparedObserved, IsSettled, Itself, Forward, Back, IsPreparedThere, prepared_at, IsKnownCommitted, IsKnownAborted}
use Rattle.law_protocol.specs.Records.{record_prepared_by, record_left_by}
use Rattle.law_protocol.specs.Flight.{HasForm, StaysAllowed}
use Rattle.law_protocol.proofs.Cover.{Inv}
use Rattle.law_protocol.proofs.Canon.{held_writer, held_open, firm_committed, same_writer}
use Rattle.law_protocol.proofs.Known.{IsPlanned, IsFirmOf, IsHeldOf, Known, AreMoments, row_known, held_before, took_is_accepted, accepted_fits, writer_accepted, writes_it}
use Rattle.sdb_types.proofs.Public.{clash}
use Rattle.sdb_model.specs.Tables.{is_data}

-- What holds at a moment, over what was observed and what was delayed up to then.
pub record Knows (plan : ℕ → Plan) (w : History) (past : List Labelled) : Type 0 where
  pub inv : Inv plan w
  pub talks : protocol_state past ≡ w.protocol
  pub observed : (r : Record) → IsObserved past r → Known plan w r
  pub fits : (t : ℕ) → w.protocol.begun t ≢ 0 → t < 2 ^ 128
  pub planned : (t : ℕ) → w.protocol.accepted t ≡ true → IsPlanned plan t
  pub moments : (t : ℕ) → AreMoments plan w t
  pub delayed : (q : Request) (action : Action) → WasDelayed past q action → HasForm plan q action × StaysAllowed plan w action

-- a record that was shown unresolved is what its transaction prepared there
pub record IsOwn (plan : ℕ → Plan) (w : History) (t : ℕ) (k : Key) (r : Record) : Type 0 where
  pub same : r ≡ record_prepared_by plan t k
  pub accepted : w.protocol.accepted t ≡ true
  pub asked : w.protocol.asked t k ≡ true
  pub writes : written (plan t) k ≢ None
  pub fits : t < 2 ^ 128

pub held_shown : (plan : ℕ → Plan) (w : History) (past : List Labelled) (t : ℕ) (k : Key) (r : Record) → Knows plan w past → is_data k ≡ true → IsPreparedObserved past t k r → IsOwn plan w t k r
held_shown plan w past t k r knows outside h = elim ((knows.observed r h.observed).put (subst (λ x. is_data x ≡ true) (sym h.key) outside)) [
  | inl f ↦ absurd (firm f)
  | inr x ↦ own x
]
  where
    firm : IsFirmOf plan w r.key r → ⊥
    firm f = clash (sym (firm_committed plan f.t r.key) ∙ ap (λ y. is_in state.Committed y.columns) (sym f.same) ∙ h.held)

    own : IsHeldOf plan w r.key r → IsOwn plan w t k r
    own x =
        let at : r ≡ record_prepared_by plan x.t k = x.same ∙ ap (record_prepared_by plan x.t) h.key in
        let e : t ≡ x.t = same_writer r t x.t h.writer (ap (λ y. id_in y.columns) at ∙ held_writer plan x.t k x.fits) in
        let took_effect : w.took_effect x.t k ≡ true = subst (λ y. w.took_effect x.t y ≡ true) h.key x.took_effect in
        record {
          same = rw e at;
          accepted = rw e (took_is_accepted w x.t k knows.inv.accepted took_effect);
          asked = rw e ((knows.inv.took_effect x.t k).0 took_effect).0;
          writes = rw e (knows.inv.asked x.t k ((knows.inv.took_effect x.t k).0 took_effect).0);
          fits = rw e x.fits;
        }

pub forward_at : (plan : ℕ → Plan) (t : ℕ) (k : Key) (m : ℤ) → m ≡ (plan t).now → forward_record (record_prepared_by plan t k) m ≡ record_left_by plan t k
unfolding record_left_by
forward_at plan t k m e = ap (forward_record (record_prepared_by plan t k)) e

prepared_is : (plan : ℕ → Plan) (t : ℕ) (k : Key) → written (plan t) k ≢ None → prepared_at plan t k ≡ Some (record_prepared_by plan t k)
unfolding record_prepared_by
prepared_is plan t k writes = rw (writes_it (plan t) k writes) refl

pub firm_of : (plan : ℕ → Plan) (w : History) (past : List Labelled) (k : Key) (b : Record) → Knows plan w past → is_data k ≡ true → IsSettled past k b → IsFirmOf plan w k b
firm_of plan w past k b knows outside (Itself observed key firm) = elim ((knows.observed b observed).put (subst (λ x. is_data x ≡ true) (sym key) outside)) [
  | inl f ↦ record { t = f.t; same = f.same ∙ ap (record_left_by plan f.t) key; writer = subst (λ x. IsWriter plan w x f.t) key f.writer; fits = f.fits }
  | inr h ↦ absurd (held h)
]
  where
    held : IsHeldOf plan w b.key b → ⊥
    held h = clash (sym firm ∙ ap (λ y. is_in state.Committed y.columns) h.same ∙ held_open plan h.t b.key)
firm_of plan w past k b knows outside (Forward t r moment held row same) =
    let own = held_shown plan w past t k r knows outside held in
    let x = row_known past t Committed moment knows.observed (knows.moments t) own.fits row in
    record { t = t; same = same ∙ ap (λ y. forward_record y moment) own.same ∙ forward_at plan t k moment (x.1 ∙ (knows.moments t).committed x.0); writer = (x.0, own.writes); fits = own.fits }
firm_of plan w past k b knows outside (Back t r held same) =
    let own = held_shown plan w past t k r knows outside held in
    by t own.accepted (base_of (written (plan t) k)) refl (sym same ∙ ap before_record own.same ∙ held_before plan t k (knows.planned t own.accepted) own.writes)
  where
    some_is : (x y : Record) → Some x ≡ Some y → x ≡ y
    some_is x y e = cc

    by : (t : ℕ) → w.protocol.accepted t ≡ true → (v : Option ℕ) → base_of (written (plan t) k) ≡ v → Some b ≡ option_map (λ u. record_left_by plan u k) v → IsFirmOf plan w k b
    by t accepted None h e = absurd (cc)
    by t accepted (Some u) h e = let writer = knows.inv.base t k u accepted h in record { t = u; same = some_is b (record_left_by plan u k) e; writer = writer; fits = accepted_fits w u knows.inv.begun knows.fits (writer_accepted plan w k u knows.inv.accepted writer) }

-- what is rolled is what was prepared there
pub prepared_there : (plan : ℕ → Plan) (w : History) (past : List Labelled) (t : ℕ) (k : Key) (r : Record) → Knows plan w past → is_data k ≡ true → IsPreparedThere plan past t k r → IsOwn plan w t k r
prepared_there plan w past t k r knows outside (inl h) = held_shown plan w past t k r knows outside h
prepared_there plan w past t k r knows outside (inr h) =
    let asked : w.protocol.asked t k ≡ true = subst (λ (x : ProtocolState). x.asked t k ≡ true) knows.talks h.0 in
    let accepted = asked_taken asked in
    let writes = knows.inv.asked t k asked in
    record { same = some_is r (record_prepared_by plan t k) (sym h.1 ∙ prepared_is plan t k writes); accepted = accepted; asked = asked; writes = writes; fits = accepted_fits w t knows.inv.begun knows.fits accepted }
  where
    some_is : (x y : Record) → Some x ≡ Some y → x ≡ y
    some_is x y e = cc

    asked_taken : w.protocol.asked t k ≡ true → w.protocol.accepted t ≡ true
    asked_taken a = grind (arith, knows.inv.accepted t k 0)

---- decisions

pub committed_of : (plan : ℕ → Plan) (w : History) (past : List Labelled) (t : ℕ) (m : ℤ) → Knows plan w past → t < 2 ^ 128 → IsKnownCommitted plan past t m → (w.row t ≡ Some Committed) × (m ≡ (plan t).now)
committed_of plan w past t m knows fits (inl row) = let x = row_known past t Committed m knows.observed (knows.moments t) fits row in (x.0, x.1 ∙ (knows.moments t).committed x.0)
committed_of plan w past t m knows fits (inr (inl won)) = ((knows.inv.heard t).0 (subst (λ (x : ProtocolState). x.won t ≡ true) knows.talks won.0), won.1)
committed_of plan w past t m knows fits (inr (inr own)) = ((row_known past t Committed own.1.0 knows.observed (knows.moments t) fits own.1.1).0, own.2)

pub aborted_of : (plan : ℕ → Plan) (w : History) (past : List Labelled) (t : ℕ) → Knows plan w past → t < 2 ^ 128 → IsKnownAborted past t → w.row t ≡ Some Aborted
aborted_of plan w past t knows fits (inl row) = (row_known past t Aborted row.0 knows.observed (knows.moments t) fits row.1).0
aborted_of plan w past t knows fits (inr (inl dead)) = (knows.inv.heard t).1 (subst (λ (x : ProtocolState). x.dead t ≡ true) knows.talks dead)
aborted_of plan w past t knows fits (inr (inr met)) = by (w.row t) refl
  where
    by : (o : Option Decision) → w.row t ≡ o → w.row t ≡ Some Aborted
    by None e = absurd ((knows.inv.heard t).2 (subst (λ (x : ProtocolState). x.met t ≡ true) knows.talks met.0) e)
    by (Some Committed) e = clash (sym (knows.inv.decided t e).risked ∙ subst (λ (x : ProtocolState). x.risked t ≡ false) knows.talks met.1)
    by (Some Aborted) e = e
