-- What follows at one moment.
use Rattle.std.proofs.Common.{◌≡◌, ◌≢◌, ℕ, ◌<◌, ◌≤◌, ◌^◌, true, false, List, Option, Some, None, ◌⊎◌, inl, inr, refl, sym, ap, subst, ◌∙◌, arith}
use Rattle.std.specs.Prelude.{if◌then◌else◌, IsSomeAnd}
use Rattle.std.specs.Option.{option_map, option_and_then}
use Rattle.std.specs.Result.{result_ok}
use Rattle.law_protocol.specs.Types.{Decided, Decision, Key, Place, Record}
use Rattle.sdb_types.specs.declared.record.State.TheVariants as state
use Rattle.sdb_record.specs.declared.coordinator.Decision.TheVariants.{Committed, Aborted}
use Rattle.sdb_record.specs.Coordinator.{coordinator_key_of, coordinator_row_of, decision_in}
use Rattle.sdb_record.specs.Meta.{id_in, is_in}
use Rattle.sdb_record.specs.Parts.{before_record}
use Rattle.sdb_record.specs.Rolls.{image_of, image_under}
use Rattle.sdb_record.proofs.Public.{image-open, image-settled, row-decision}
use Rattle.sdb_model.specs.Events.{StoreContents}
use Rattle.sdb_model.specs.Images.{decision_at, decision_on, image_at}
use Rattle.sdb_model.specs.Transactions.{Recorded}
use Rattle.law_protocol.specs.Plan.{Plan, written, version_read_at}
use Rattle.law_protocol.specs.History.{History, Standing, Final, Held, ProtocolState, base_of, image_in, image, or_else, shadow, is_recorded, IsWriter, Covers}
use Rattle.law_protocol.specs.Lawful.{Labelled, id}
use Rattle.law_protocol.specs.Records.{record_prepared_by, record_left_by, record_for}
use Rattle.law_protocol.specs.Explained.{RecordedIsPut, IsPreparedRecord, UnresolvedPrepared, IsCommittedRecord, CommittedIsCanon, PreparedPersists, AbortedRemoved, IsLastWriter, IsNeverWritten, IsRemoved, ImageOf, ImageIsLastWriter, WritersInOrder, PointsDiffer, IsAsFound, SawLast, CheckSaw, PrepareSaw, IsCurrent, ReadsCurrent, Middle, IsAsFound as Saw}
use Rattle.law_protocol.proofs.Cover.{Inv}
use Rattle.law_protocol.proofs.Seen.{All, IsSeen}
use Rattle.law_protocol.proofs.Canon.{held_writer, held_open, firm_writer, firm_committed, same_writer}
use Rattle.law_protocol.proofs.Known.{held_before, accepted_fits, took_is_accepted}
use Rattle.law_protocol.proofs.Settled.{Knows, forward_at}
use Rattle.law_protocol.proofs.Moves.{writer_fits}
use Rattle.law_protocol.proofs.Whole.{Whole}
use Rattle.sdb_types.proofs.Public.{clash, some_is}
use Rattle.sdb_model.specs.Tables.{is_data}

---- rows

pub decision_is : (plan : ℕ → Plan) (places : List Place) (w : History) (past : List Labelled) (store_contents : List StoreContents) (t : ℕ) → Whole plan places w past store_contents → t < 2 ^ 128 → decision_at places store_contents (id t) ≡ option_map (λ d. record { decision = d; created_at = w.moment t }) (w.row t)
decision_is plan places w past store_contents t i fits = ap (option_and_then (λ row. result_ok (decision_in row))) (i.held.rows t fits) ∙ by (w.row t) refl
  where
    by : (o : Option Decision) → w.row t ≡ o → option_and_then (λ row. result_ok (decision_in row)) (option_map (λ d. coordinator_row_of (id t) d (w.moment t)) o) ≡ option_map (λ d. record { decision = d; created_at = w.moment t }) o
    by None e = refl
    by (Some d) e = ap result_ok (row-decision (id t) d (w.moment t) fits ((i.knows.moments t).some (λ n. apart (sym e ∙ n))))
      where
        apart : Some d ≡ None → ⊥
        apart x = absurd (cc)

pub recorded_row : (plan : ℕ → Plan) (places : List Place) (w : History) (past : List Labelled) (store_contents : List StoreContents) (t : ℕ) → Whole plan places w past store_contents → t < 2 ^ 128 → Recorded places store_contents (id t) → w.row t ≡ Some Committed
recorded_row plan places w past store_contents t i fits r = by (w.row t) refl (subst (λ (x : Option Decided). IsSomeAnd x (λ d. d.decision ≡ Committed)) (decision_is plan places w past store_contents t i fits) r)
  where
    by : (o : Option Decision) → w.row t ≡ o → IsSomeAnd (option_map (λ d. record { decision = d; created_at = w.moment t }) o) (λ (d : Decided). d.decision ≡ Committed) → w.row t ≡ Some Committed
    by None e h = absurd h
    by (Some d) e h = e ∙ ap (λ x. Some x) h

pub row_recorded : (plan : ℕ → Plan) (places : List Place) (w : History) (past : List Labelled) (store_contents : List StoreContents) (t : ℕ) → Whole plan places w past store_contents → t < 2 ^ 128 → w.row t ≡ Some Committed → Recorded places store_contents (id t)
row_recorded plan places w past store_contents t i fits r = subst (λ (x : Option Decided). IsSomeAnd x (λ d. d.decision ≡ Committed)) (sym (decision_is plan places w past store_contents t i fits)) (subst (λ (o : Option Decision). IsSomeAnd (option_map (λ d. record { decision = d; created_at = w.moment t }) o) (λ (d : Decided). d.decision ≡ Committed)) (sym r) refl)

pub recorded_is_put : (plan : ℕ → Plan) (places : List Place) (w : History) (past : List Labelled) (store_contents : List StoreContents) → Whole plan places w past store_contents → RecordedIsPut plan places w store_contents
recorded_is_put plan places w past store_contents i t fits r =
    let row = recorded_row plan places w past store_contents t i fits r in
    let d = i.all.one.decided t row in
    record {
      put = row;
      row = i.held.rows t fits ∙ ap (option_map (λ d. coordinator_row_of (id t) d (w.moment t))) row ∙ ap (λ m. Some (coordinator_row_of (id t) Committed m)) ((i.knows.moments t).committed row);
      wrote = λ k h. (((i.all.one.took_effect t k).1 (d.answered k h)).0, d.answered k h);
      point = (((i.all.one.begun t).1 (accepted row)).1, d.point);
    }
  where
    accepted : w.row t ≡ Some Committed → w.protocol.accepted t ≡ true
    accepted h = grind (arith, i.all.one.accepted t (coordinator_key_of (id t)) 0)

---- records

pub unresolved_prepared : (plan : ℕ → Plan) (places : List Place) (w : History) (past : List Labelled) (store_contents : List StoreContents) → Whole plan places w past store_contents → UnresolvedPrepared plan places w store_contents
unresolved_prepared plan places w past store_contents i k r outside at open_state = by (w.rows k) refl (sym (i.held.records k outside) ∙ at)
  where
    by : (s : Option Standing) → w.rows k ≡ s → option_map (record_for plan k) s ≡ Some r → IsPreparedRecord plan w k r
    by None e h = absurd (cc)
    by (Some (Final t)) e h = clash (sym (firm_committed plan t k) ∙ ap (λ (x : Record). is_in state.Committed x.columns) (some_is (record_left_by plan t k) r h) ∙ open_state)
    by (Some (Held t)) e h =
        let took_effect = i.all.one.held k t e in
        let same = sym (some_is (record_prepared_by plan t k) r h) in
        record { t = t; writer = ap (λ (x : Record). id_in x.columns) same ∙ held_writer plan t k (accepted_fits w t i.all.one.begun i.knows.fits (took_is_accepted w t k i.all.one.accepted took_effect)); took_effect = took_effect; same = same }

pub committed_is_canon : (plan : ℕ → Plan) (places : List Place) (w : History) (past : List Labelled) (store_contents : List StoreContents) → Whole plan places w past store_contents → CommittedIsCanon plan places w store_contents
committed_is_canon plan places w past store_contents i k r outside at firm = by (w.rows k) refl (sym (i.held.records k outside) ∙ at)
  where
    by : (s : Option Standing) → w.rows k ≡ s → option_map (record_for plan k) s ≡ Some r → IsCommittedRecord plan places w store_contents k r
    by None e h = absurd (cc)
    by (Some (Held t)) e h = clash (sym firm ∙ ap (λ (x : Record). is_in state.Committed x.columns) (sym (some_is (record_prepared_by plan t k) r h)) ∙ held_open plan t k)
    by (Some (Final t)) e h =
        let writes = i.all.one.firm k t e in
        let fits : t < 2 ^ 128 = writer_fits plan w past k t i.knows writes in
        let same = sym (some_is (record_left_by plan t k) r h) in
        record { t = t; writer = ap (λ (x : Record). id_in x.columns) same ∙ firm_writer plan t k fits; recorded = row_recorded plan places w past store_contents t i fits writes.0; writes = writes; same = same }

pub took_data : (plan : ℕ → Plan) (w : History) (past : List Labelled) (t : ℕ) (k : Key) → Knows plan w past → w.took_effect t k ≡ true → is_data k ≡ true
took_data plan w past t k knows took_effect =
    let accepted = took_is_accepted w t k knows.inv.accepted took_effect in
    ((knows.planned t accepted).write k (Rattle.law_protocol.specs.Records.write_there (plan t) k) (Rattle.law_protocol.proofs.Known.writes_it (plan t) k (knows.inv.asked t k ((knows.inv.took_effect t k).0 took_effect).0))).1

pub prepared_stay : (plan : ℕ → Plan) (places : List Place) (w : History) (past : List Labelled) (store_contents : List StoreContents) → Whole plan places w past store_contents → PreparedPersists plan places w store_contents
prepared_stay plan places w past store_contents i t k took_effect none = i.held.records k (took_data plan w past t k i.knows took_effect) ∙ ap (option_map (record_for plan k)) (i.all.one.agrees t k took_effect none)

apart_rows : (w : History) (t : ℕ) → w.row t ≡ Some Committed → w.row t ≡ Some Aborted → ⊥
apart_rows w t a b = absurd (grind arith)

pub aborted_gone : (plan : ℕ → Plan) (places : List Place) (w : History) (past : List Labelled) (store_contents : List StoreContents) → Whole plan places w past store_contents → AbortedRemoved plan places w store_contents
aborted_gone plan places w past store_contents i t k r aborted outside at = (firm, held)
  where
    firm : is_in state.Committed r.columns ≡ true → id_in r.columns ≢ Some (id t)
    firm is e =
        let c = committed_is_canon plan places w past store_contents i k r outside at is in
        apart_rows w t (subst (λ x. w.row x ≡ Some Committed) (same_writer r c.t t c.writer e) c.writes.0) aborted

    under : (u : ℕ) (b : Record) (v : Option ℕ) → w.protocol.accepted u ≡ true → base_of (written (plan u) k) ≡ v → Some b ≡ option_map (λ x. record_left_by plan x k) v → id_in b.columns ≡ Some (id t) → ⊥
    under u b None accepted e h f = absurd (cc)
    under u b (Some x) accepted e h f =
        let writer = i.all.one.base u k x accepted e in
        let same : x ≡ t = same_writer b x t (ap (λ (y : Record). id_in y.columns) (some_is b (record_left_by plan x k) h) ∙ firm_writer plan x k (writer_fits plan w past k x i.knows writer)) f in
        apart_rows w t (subst (λ y. w.row y ≡ Some Committed) same writer.0) aborted

    held : (b : Record) → is_in state.Committed r.columns ≡ false → before_record r ≡ Some b → id_in b.columns ≢ Some (id t)
    held b is before e =
        let p = unresolved_prepared plan places w past store_contents i k r outside at is in
        let accepted = took_is_accepted w p.t k i.all.one.accepted p.took_effect in
        under p.t b (base_of (written (plan p.t) k)) accepted refl (sym before ∙ ap before_record p.same ∙ held_before plan p.t k (i.knows.planned p.t accepted) (i.all.one.asked p.t k ((i.all.one.took_effect p.t k).0 p.took_effect).0)) e

---- images

image_held : (plan : ℕ → Plan) (places : List Place) (w : History) (past : List Labelled) (store_contents : List StoreContents) (t : ℕ) (k : Key) → Whole plan places w past store_contents → w.rows k ≡ Some (Held t) → image_of (record_prepared_by plan t k) (decision_on places store_contents (record_prepared_by plan t k)) ≡ option_map (λ u. record_left_by plan u k) (if is_recorded (w.row t) then Some t else base_of (written (plan t) k))
image_held plan places w past store_contents t k i e =
    image-open (record_prepared_by plan t k) (decision_on places store_contents (record_prepared_by plan t k)) (held_open plan t k)
    ∙ ap (image_under (record_prepared_by plan t k)) (ap (option_and_then (decision_at places store_contents)) (held_writer plan t k fits) ∙ decision_is plan places w past store_contents t i fits)
    ∙ by (w.row t) refl
  where
    took_effect : w.took_effect t k ≡ true
    took_effect = i.all.one.held k t e

    accepted : w.protocol.accepted t ≡ true
    accepted = took_is_accepted w t k i.all.one.accepted took_effect

    fits : t < 2 ^ 128
    fits = accepted_fits w t i.all.one.begun i.knows.fits accepted

    before : before_record (record_prepared_by plan t k) ≡ option_map (λ u. record_left_by plan u k) (base_of (written (plan t) k))
    before = held_before plan t k (i.knows.planned t accepted) (i.all.one.asked t k ((i.all.one.took_effect t k).0 took_effect).0)

    by : (o : Option Decision) → w.row t ≡ o → image_under (record_prepared_by plan t k) (option_map (λ d. record { decision = d; created_at = w.moment t }) o) ≡ option_map (λ u. record_left_by plan u k) (if is_recorded o then Some t else base_of (written (plan t) k))
    by None f = before
    by (Some Aborted) f = before
    by (Some Committed) f = ap (λ x. Some x) (forward_at plan t k (w.moment t) ((i.knows.moments t).committed f))

pub image_is : (plan : ℕ → Plan) (places : List Place) (w : History) (past : List Labelled) (store_contents : List StoreContents) (k : Key) → Whole plan places w past store_contents → is_data k ≡ true → image_at places store_contents k ≡ option_map (λ u. record_left_by plan u k) (image plan w k)
image_is plan places w past store_contents k i outside = ap (option_and_then (λ r. image_of r (decision_on places store_contents r))) (i.held.records k outside) ∙ by (w.rows k) refl
  where
    by : (s : Option Standing) → w.rows k ≡ s → option_and_then (λ r. image_of r (decision_on places store_contents r)) (option_map (record_for plan k) s) ≡ option_map (λ u. record_left_by plan u k) (image_in plan w k s)
    by None e = refl
    by (Some (Final t)) e = image-settled (record_left_by plan t k) (decision_on places store_contents (record_left_by plan t k)) (firm_committed plan t k)
    by (Some (Held t)) e = image_held plan places w past store_contents t k i e

covered : (plan : ℕ → Plan) (w : History) (t u : ℕ) (x : Option ℕ) → x ≡ Some u → Covers w.protocol t x → (t ≡ u) ⊎ (w.protocol.point t < w.protocol.point u)
covered plan w t u x e c = turn (subst (λ y. Covers w.protocol t y) e c)
  where
    turn : (u ≡ t) ⊎ (w.protocol.point t < w.protocol.point u) → (t ≡ u) ⊎ (w.protocol.point t < w.protocol.point u)
    turn (inl a) = inl (sym a)
    turn (inr b) = inr b

last_writer : (plan : ℕ → Plan) (w : History) (k : Key) (u : ℕ) → Inv plan w → shadow plan w k ≡ Some u → IsLastWriter plan w k u
last_writer plan w k u i e = record { writer = Rattle.law_protocol.proofs.Cover.writer_of plan w k u i e; last = λ t h. covered plan w t u (shadow plan w k) e (i.cover t k h) }

pub image_is_last_writer : (plan : ℕ → Plan) (places : List Place) (w : History) (past : List Labelled) (store_contents : List StoreContents) → Whole plan places w past store_contents → ImageIsLastWriter plan places w store_contents
image_is_last_writer plan places w past store_contents i k outside = subst (λ x. ImageOf plan w k x) (sym (image_is plan places w past store_contents k i outside)) (by (image plan w k) refl)
  where
    gone : (g : Option ℕ) → w.gone k ≡ g → image plan w k ≡ None → IsNeverWritten plan w k ⊎ IsRemoved plan w k
    gone None f e = inl (λ t h. bare t (ap (λ z. or_else z (w.gone k)) e ∙ f) (i.all.one.cover t k h))
      where
        bare : (t : ℕ) → shadow plan w k ≡ None → Covers w.protocol t (shadow plan w k) → ⊥
        bare t none c = subst (λ y. Covers w.protocol t y) none c
    gone (Some u) f e = inr (record { u = u; last = last_writer plan w k u i.all.one (ap (λ z. or_else z (w.gone k)) e ∙ f); deleted = (i.all.one.gone k u f).1; removed = f })

    by : (o : Option ℕ) → image plan w k ≡ o → ImageOf plan w k (option_map (λ u. record_left_by plan u k) o)
    by None e = gone (w.gone k) refl e
    by (Some u) e = (u, last_writer plan w k u i.all.one (ap (λ z. or_else z (w.gone k)) e), refl)

---- order

pub writers_in_order : (plan : ℕ → Plan) (w : History) → All plan w → WritersInOrder plan w
writers_in_order plan w i t u k a b lt = order (i.one.decided t a.0).point (earlier (i.one.earlier t u k))
  where
    took_effect : (v : ℕ) → IsWriter plan w k v → (w.took_effect v k ≡ true) × (w.prepared_at v k ≤ w.protocol.point v)
    took_effect v h = (i.one.took_effect v k).1 ((i.one.decided v h.0).answered k h.1)

    earlier : (t ≢ u → w.took_effect t k ≡ true → w.took_effect u k ≡ true → w.prepared_at t k < w.prepared_at u k → (w.row t ≢ None) × (w.decided_at t < w.prepared_at u k)) → w.decided_at t < w.prepared_at u k
    earlier f = (f (λ e. irrefl (ap (λ x. w.prepared_at x k) e) lt) (took_effect t a).0 (took_effect u b).0 lt).1
      where
        irrefl : {m n : ℕ} → m ≡ n → m < n → ⊥
        irrefl e l = omega arith

    order : w.protocol.point t < w.decided_at t → w.decided_at t < w.prepared_at u k → w.protocol.point t < w.protocol.point u
    order p q = let s = (took_effect u b).1 in omega arith

pub points_differ : (plan : ℕ → Plan) (w : History) → All plan w → PointsDiffer w
points_differ plan w i t u a b ne e = zero (i.one.apart t u ne e) ((i.one.begun t).1 (accepted a)).1
  where
    accepted : w.row t ≡ Some Committed → w.protocol.accepted t ≡ true
    accepted h = grind (arith, i.one.accepted t Rattle.law_protocol.proofs.Small.any_key 0)

    zero : w.protocol.point t ≡ 0 → w.protocol.begun t < w.protocol.point t → ⊥
    zero z l = omega arith

---- reads

as_found : (plan : ℕ → Plan) (w : History) (t : ℕ) (k : Key) (found x : Option ℕ) → Saw plan w t k found x → IsAsFound plan w t k found x
as_found plan w t k (Some u) x s = s
as_found plan w t k None None s = s
as_found plan w t k None (Some u) s = s

named : (h : ProtocolState) (v : ℕ) (x : Option ℕ) → Covers h v x → (u : ℕ) × (x ≡ Some u) × ((u ≡ v) ⊎ (h.point v < h.point u))
named h v None c = absurd c
named h v (Some u) c = (u, refl, c)

saw_last : (plan : ℕ → Plan) (w : History) (t : ℕ) (k : Key) (found : Option ℕ) (n : ℕ) (x : Option ℕ) → IsSeen plan w t k found n x → SawLast plan w t k found n x
saw_last plan w t k found n x s = record { as_found = as_found plan w t k found x s.saw; writer = s.writer; resolved = s.early; last = λ v ne h l. named w.protocol v x (s.last v ne h l) }

pub check_saw : (plan : ℕ → Plan) (w : History) → All plan w → CheckSaw plan w
check_saw plan w i t j k found c n free = saw_last plan w t k found (w.checked_at t j) (w.basis t j k) (i.reads t j k found c n free)

pub prepare_saw : (plan : ℕ → Plan) (w : History) → All plan w → PrepareSaw plan w
prepare_saw plan w i t k h = saw_last plan w t k (base_of (written (plan t) k)) (w.prepared_at t k) (w.under t k) (i.writes t k h)

-- those with an earlier point were recorded before the event that saw the key
current : (plan : ℕ → Plan) (w : History) (t : ℕ) (k : Key) (found : Option ℕ) (n : ℕ) (x : Option ℕ) → IsSeen plan w t k found n x
    → ((v : ℕ) → v ≢ t → IsWriter plan w k v → w.protocol.point v < w.protocol.point t → w.decided_at v < n)
    → ((u : ℕ) → x ≡ Some u → w.protocol.point u < w.protocol.point t) → IsCurrent plan w t k found
current plan w t k found n x s before below = record {
  x = x;
  as_found = as_found plan w t k found x s.saw;
  writer = λ u e. ((s.writer u e).0, below u e);
  last = λ v ne h l. named w.protocol v x (s.last v ne h (before v ne h l));
}

writer_took : (plan : ℕ → Plan) (w : History) (k : Key) (v : ℕ) → Inv plan w → IsWriter plan w k v → (w.took_effect v k ≡ true) × (w.prepared_at v k ≤ w.protocol.point v)
writer_took plan w k v i h = (i.took_effect v k).1 ((i.decided v h.0).answered k h.1)

-- a key that it doesn't write
current_read : (plan : ℕ → Plan) (w : History) (t j : ℕ) (k : Key) (found : Option ℕ) → All plan w → w.row t ≡ Some Committed → version_read_at (plan t) j k ≡ Some found → written (plan t) k ≡ None → IsCurrent plan w t k found
current_read plan w t j k found i r n free = current plan w t k found (w.checked_at t j) (w.basis t j k) seen before (below found refl)
  where
    checked : w.protocol.checked t j ≡ true
    checked = (i.one.decided t r).checked j k found n free

    seen : IsSeen plan w t k found (w.checked_at t j) (w.basis t j k)
    seen = i.reads t j k found checked n free

    after : w.protocol.point t < w.checked_at t j
    after = (i.checked t j checked).2

    before : (v : ℕ) → v ≢ t → IsWriter plan w k v → w.protocol.point v < w.protocol.point t → w.decided_at v < w.checked_at t j
    before v ne h l = (seen.early v ne (writer_took plan w k v i.one h).0 (lower (writer_took plan w k v i.one h).1 l after)).1
      where
        lower : w.prepared_at v k ≤ w.protocol.point v → w.protocol.point v < w.protocol.point t → w.protocol.point t < w.checked_at t j → w.prepared_at v k < w.checked_at t j
        lower a b c = omega arith

    removed : (u : ℕ) → w.protocol.point u < w.decided_at u → w.decided_at u < w.protocol.begun t → w.protocol.begun t < w.protocol.point t → w.protocol.point u < w.protocol.point t
    removed u a b c = omega arith

    below : (f : Option ℕ) → found ≡ f → (u : ℕ) → w.basis t j k ≡ Some u → w.protocol.point u < w.protocol.point t
    below (Some y) f u e = subst (λ z. w.protocol.point z < w.protocol.point t) (some_is y u (sym (subst (λ z. Saw plan w t k z (w.basis t j k)) f seen.saw) ∙ e)) (i.one.as_read t j k y (i.checked t j checked).0 (n ∙ ap (λ z. Some z) f)).1
    below None f u e = removed u (i.one.decided u (seen.writer u e).0.0).point (subst (λ z. Saw plan w t k None z) e (subst (λ z. Saw plan w t k z (w.basis t j k)) f seen.saw)).1 ((i.one.begun t).1 (i.checked t j checked).0).1

-- and a key that it does
current_write : (plan : ℕ → Plan) (w : History) (t : ℕ) (k : Key) → All plan w → IsWriter plan w k t → IsCurrent plan w t k (base_of (written (plan t) k))
current_write plan w t k i h = current plan w t k (base_of (written (plan t) k)) (w.prepared_at t k) (w.under t k) seen before (λ u e. below u (i.one.decided u (seen.writer u e).0.0).point (seen.writer u e).1 own.1)
  where
    own : (w.took_effect t k ≡ true) × (w.prepared_at t k ≤ w.protocol.point t)
    own = writer_took plan w k t i.one h

    seen : IsSeen plan w t k (base_of (written (plan t) k)) (w.prepared_at t k) (w.under t k)
    seen = i.writes t k ((i.one.decided t h.0).answered k h.1)

    below : (u : ℕ) → w.protocol.point u < w.decided_at u → w.decided_at u < w.prepared_at t k → w.prepared_at t k ≤ w.protocol.point t → w.protocol.point u < w.protocol.point t
    below u a b c = omega arith

    before : (v : ℕ) → v ≢ t → IsWriter plan w k v → w.protocol.point v < w.protocol.point t → w.decided_at v < w.prepared_at t k
    before v ne x l = by (lower (w.prepared_at v k) (w.prepared_at t k))
      where
        vs : (w.took_effect v k ≡ true) × (w.prepared_at v k ≤ w.protocol.point v)
        vs = writer_took plan w k v i.one x

        lower : (a b : ℕ) → (a < b) ⊎ ((b < a) ⊎ (a ≡ b))
        lower a b = grind arith

        late : w.decided_at t < w.prepared_at v k → w.prepared_at v k ≤ w.protocol.point v → w.protocol.point v < w.protocol.point t → w.protocol.point t < w.decided_at t → ⊥
        late a b c d = omega arith

        by : (w.prepared_at v k < w.prepared_at t k) ⊎ ((w.prepared_at t k < w.prepared_at v k) ⊎ (w.prepared_at v k ≡ w.prepared_at t k)) → w.decided_at v < w.prepared_at t k
        by (inl a) = (seen.early v ne vs.0 a).1
        by (inr (inl a)) = absurd (late (i.one.earlier t v k (λ e. ne (sym e)) own.0 vs.0 a).1 vs.1 l (i.one.decided t h.0).point)
        by (inr (inr a)) = absurd (i.distinct v t k ne vs.0 own.0 a)

pub reads_current : (plan : ℕ → Plan) (w : History) → All plan w → ReadsCurrent plan w
reads_current plan w i t j k found r n = by (written (plan t) k) refl
  where
    by : (o : Option (Option ℕ)) → written (plan t) k ≡ o → IsCurrent plan w t k found
    by None e = current_read plan w t j k found i r n e
    by (Some base) e = subst (λ x. IsCurrent plan w t k x) (ap base_of e ∙ sym ((i.one.decided t r).agrees j k found base n e)) (current_write plan w t k i (r, some e))
      where
        some : written (plan t) k ≡ Some base → written (plan t) k ≢ None
        some e n = absurd (grind arith)

---- the middle law

pub middle : (plan : ℕ → Plan) (w : History) → All plan w → Middle plan w
middle plan w i t v none accepted prepared recorded lt = record { writes = λ k h. writes k h (written (plan v) k) refl; read_set = λ j k h. read_set j k h (version_read_at (plan v) j k) refl; never_read = never_read }
  where
    mine : (k : Key) → written (plan t) k ≢ None → (w.took_effect t k ≡ true) × (w.prepared_at t k ≤ w.protocol.point t)
    mine k h = (i.one.took_effect t k).1 (prepared k h)

    differ : t ≢ v
    differ e = absurd (rows (subst (λ x. w.row x ≡ Some Committed) (sym e) recorded))
      where
        rows : w.row t ≡ Some Committed → ⊥
        rows h = absurd (grind arith)

    lower : (a b : ℕ) → (a < b) ⊎ ((b < a) ⊎ (a ≡ b))
    lower a b = grind arith

    late : (k : Key) → w.decided_at v < w.prepared_at t k → w.prepared_at t k ≤ w.protocol.point t → w.protocol.point v < w.decided_at v → ⊥
    late k a b c = omega arith

    both : (k : Key) → written (plan t) k ≢ None → written (plan v) k ≢ None → ⊥
    both k h x =
        let a = mine k h in
        let b = writer_took plan w k v i.one (recorded, x) in
        elim (lower (w.prepared_at v k) (w.prepared_at t k)) [
          | inl l ↦ late k (i.one.earlier v t k (λ e. differ (sym e)) b.0 a.0 l).1 a.1 (i.one.decided v recorded).point
          | inr l ↦ elim l [
            | inl m ↦ (i.one.earlier t v k differ a.0 b.0 m).0 none
            | inr m ↦ i.distinct v t k (λ e. differ (sym e)) b.0 a.0 m
          ]
        ]

    writes : (k : Key) → written (plan t) k ≢ None → (o : Option (Option ℕ)) → written (plan v) k ≡ o → written (plan v) k ≡ None
    writes k h None e = e
    writes k h (Some base) e = absurd (both k h (some e))
      where
        some : written (plan v) k ≡ Some base → written (plan v) k ≢ None
        some e n = absurd (grind arith)

    below : (k : Key) (n : ℕ) → w.prepared_at t k ≤ w.protocol.point t → w.protocol.point v < n → w.prepared_at t k < n
    below k n a b = omega arith

    read_set : (j : ℕ) (k : Key) → written (plan t) k ≢ None → (o : Option (Option ℕ)) → version_read_at (plan v) j k ≡ o → version_read_at (plan v) j k ≡ None
    read_set j k h None e = e
    read_set j k h (Some found) e =
        let free = writes k h (written (plan v) k) refl in
        let checked = (i.one.decided v recorded).checked j k found e free in
        let a = mine k h in
        absurd (((i.reads v j k found checked e free).early t differ a.0 (below k (w.checked_at v j) a.1 (i.checked v j checked).2)).0 none)

    never_read : (j : ℕ) (k : Key) → version_read_at (plan t) j k ≢ Some (Some v)
    never_read j k n = cross (i.one.as_read t j k v accepted n).1
      where
        cross : w.protocol.point v < w.protocol.point t → ⊥
        cross l = omega arith
