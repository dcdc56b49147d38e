-- A recovery of a client that is alone: each reply leads it on, and it ends with the record's image in its place.
use Rattle.std.proofs.Common.{◌≡◌, ℤ, true, false, List, Option, Some, None, ◌⊎◌, inl, inr, refl, sym, ap, subst, ◌∙◌}
use Rattle.std.specs.Prelude.{is_ok, IsSomeAnd, if◌then◌else◌}
use Rattle.std.specs.Option.{option_and_then}
use Rattle.std.specs.Result.{result_ok}
use Rattle.law_clients.specs.Types.{Decided, Key, Meta, Record, RecoverPhase, RecoverStep, Reply, Request, Table}
use Rattle.sdb_types.specs.declared.record.Condition.TheVariants as condition
use Rattle.sdb_types.specs.declared.record.Reply.TheVariants as reply
use Rattle.sdb_types.specs.Contents.{holds}
use Rattle.sdb_types.specs.Order.{same_key}
use Rattle.sdb_types.proofs.Public.{clash, false_true, same_key_self, same_key_decides}
use Rattle.sdb_record.specs.declared.coordinator.Decision.TheVariants as decision
use Rattle.sdb_record.specs.Coordinator.{coordinator_key_of, coordinator_row_of, decision_in, is_coordinator_table}
use Rattle.sdb_record.specs.Meta.{is_moment, is_unresolved}
use Rattle.sdb_record.specs.Parts.{before_record}
use Rattle.sdb_record.specs.Rolls.{forward_record, image_under, undo}
use Rattle.sdb_record.proofs.Public.{checked-version, forward-committed, forward-key, row-decision, row-key}
use Rattle.sdb_txn.proofs.Public.{decided_at}
use Rattle.sdb_phases.specs.declared.step.RecoverStep.TheVariants as steps
use Rattle.sdb_phases.specs.declared.step.RecoverPhase.TheVariants as phase
use Rattle.sdb_phases.specs.Recover.{recover_next, recover_request_at, row_followed, undecided, is_as_found}
use Rattle.sdb_phases.proofs.Public.{by_expiry, by_row}
use Rattle.law_clients.specs.Reader.{IsMetaOf}
use Rattle.law_clients.proofs.Meta.{before_firm, meta_of}
use Rattle.law_clients.specs.Database.{Called, Done, Found, Got, Database, IsWith, NotFound, Same, Undone, Wrote, decided_in, is_committed_or_none, is_listed}
use Rattle.law_clients.specs.OnlyResolves.{IsApart, OnlyResolves, IsSound}
use Rattle.law_clients.specs.Recovers.{RecoveryLeadsTo, IsAborted, PhaseAlone, RecoverAlone, RecoversTo}
use Rattle.law_clients.proofs.Resolves.{abort_settles, roll_settles, settles_refl, under_aborted}
use Rattle.law_clients.proofs.ReadRecords.{coordinators}

-- databases that are the same at each key are one
pub one_database : (g h : Database) → Same g h → g ≡ h
one_database g h same = λ i k. sym (same k) i

-- what a row says, by the row
abbrev pub row_at : Option Record → Option Decided
row_at o = option_and_then (λ row. result_ok (decision_in row)) o

module _ (catalog : List Table) (apart : IsApart catalog) (rec : Record) (meta : Meta) (moment : ℤ) (time : is_moment moment ≡ true) where
  abbrev key : Key
  key = coordinator_key_of meta.id

  -- where nothing changed
  stays : (g h : Database) (n : RecoverPhase × RecoverStep) → Same g h → RecoveryLeadsTo catalog g rec meta moment n → RecoversTo catalog g h rec meta moment n
  stays g h n same leads_to = subst (λ x. RecoversTo catalog g x rec meta moment n) (one_database g h same) (record { resolves = settles_refl catalog g; others = λ k listed other. refl; leads_to = leads_to })

  -- a call that failed ends a recovery, or hides its effect
  with_phase : (g h : Database) (p n : RecoverPhase) → RecoverAlone catalog g rec meta p → h rec.key ≡ g rec.key → PhaseAlone h meta n → RecoverAlone catalog h rec meta n
  with_phase g h p n alone same now = record { present = same ∙ alone.present; listed = alone.listed; unresolved = alone.unresolved; says = alone.says; phase = now }

  of : (g : Database) (p : RecoverPhase) → RecoverAlone catalog g rec meta p → IsMetaOf rec meta
  of g p alone = meta_of rec meta alone.unresolved alone.says

  ---- looks

  -- a row of its transaction is followed
  followed : (g : Database) (p : RecoverPhase) (row : Record) → IsSound catalog g → RecoverAlone catalog g rec meta p → g key ≡ Some row → RecoveryLeadsTo catalog g rec meta moment (row_followed meta row)
  followed g p row sound alone e =
      by_row meta row (RecoveryLeadsTo catalog g rec meta moment)
      (λ d says f. with_phase g g p (phase.Forward d.created_at) alone refl (ap row_at e ∙ ap result_ok says ∙ ap (λ y. Some (record { decision = y; created_at = d.created_at })) f, decided_at row d says))
      (λ d says f. with_phase g g p phase.Back alone refl (subst (λ o. IsSomeAnd o (λ x. x.decision ≡ decision.Aborted)) (sym (ap row_at e ∙ ap result_ok says)) f))
      (λ name says. let ok : is_ok (decision_in row) ≡ true = sound.rows key row (coordinators meta.id) e in clash (sym ok ∙ ap is_ok says))

  -- without one the transaction is undecided
  waits : (g : Database) (p : RecoverPhase) → RecoverAlone catalog g rec meta p → g key ≡ None → RecoveryLeadsTo catalog g rec meta moment (undecided meta moment)
  waits g p alone e =
      by_expiry meta moment (RecoveryLeadsTo catalog g rec meta moment) (λ f. with_phase g g p (phase.Abort moment) alone refl (e, time)) (λ f. (refl, refl, e, f, alone.present))

  look_next : (g : Database) (r : Reply) → IsSound catalog g → RecoverAlone catalog g rec meta phase.Look → Got key r g → RecoveryLeadsTo catalog g rec meta moment (recover_next rec meta phase.Look moment r)
  look_next g r sound alone (Found replied) = subst (λ x. RecoveryLeadsTo catalog g rec meta moment (recover_next rec meta phase.Look moment x)) (sym replied) (by (g key) refl)
    where
      by : (o : Option Record) → g key ≡ o → RecoveryLeadsTo catalog g rec meta moment (recover_next rec meta phase.Look moment (reply.Found o))
      by None e = waits g phase.Look alone e
      by (Some row) e = followed g phase.Look row sound alone e
  look_next g r sound alone (NotFound (inl replied)) = subst (λ x. RecoveryLeadsTo catalog g rec meta moment (recover_next rec meta phase.Look moment x)) (sym replied) tt
  look_next g r sound alone (NotFound (inr replied)) = subst (λ x. RecoveryLeadsTo catalog g rec meta moment (recover_next rec meta phase.Look moment x)) (sym replied) tt

  again_next : (g : Database) (r : Reply) → IsSound catalog g → RecoverAlone catalog g rec meta phase.Again → Got key r g → RecoveryLeadsTo catalog g rec meta moment (recover_next rec meta phase.Again moment r)
  again_next g r sound alone (Found replied) = subst (λ x. RecoveryLeadsTo catalog g rec meta moment (recover_next rec meta phase.Again moment x)) (sym replied) (by (g key) refl)
    where
      by : (o : Option Record) → g key ≡ o → RecoveryLeadsTo catalog g rec meta moment (recover_next rec meta phase.Again moment (reply.Found o))
      by None e = tt
      by (Some row) e = followed g phase.Again row sound alone e
  again_next g r sound alone (NotFound (inl replied)) = subst (λ x. RecoveryLeadsTo catalog g rec meta moment (recover_next rec meta phase.Again moment x)) (sym replied) tt
  again_next g r sound alone (NotFound (inr replied)) = subst (λ x. RecoveryLeadsTo catalog g rec meta moment (recover_next rec meta phase.Again moment x)) (sym replied) tt

  ---- writes

  -- a key of a table is none of the coordinator's
  apart_from_row : (k : Key) → is_listed catalog k ≡ true → same_key k key ≡ false
  apart_from_row k listed = elim (same_key_decides k key) [
    | inl e ↦ false_true (sym (apart k listed) ∙ ap (λ x. is_coordinator_table x.table) e.1 ∙ coordinators meta.id)
    | inr n ↦ n.0
  ]

  -- what ABORTED leaves
  module _ (g h : Database) (m : ℤ) (alone : RecoverAlone catalog g rec meta (phase.Abort m)) (now : IsWith key (Some (coordinator_row_of meta.id decision.Aborted m)) g h) where
    abbrev aborted : Record
    aborted = coordinator_row_of meta.id decision.Aborted m

    listed_stays : (k : Key) → is_listed catalog k ≡ true → h k ≡ g k
    listed_stays k listed = now k ∙ ap (λ b. if b then Some aborted else g k) (apart_from_row k listed)

    put_settles : OnlyResolves catalog g h
    put_settles = abort_settles catalog g h meta.id m rec apart alone.listed alone.present (of g (phase.Abort m) alone).held (of g (phase.Abort m) alone).writer (of g (phase.Abort m) alone).fits alone.phase.1 alone.phase.0 now

    row_now : h key ≡ Some aborted
    row_now = now key ∙ ap (λ b. if b then Some aborted else g key) (same_key_self key)

    is_aborted : IsAborted h meta.id
    is_aborted = subst (λ o. IsSomeAnd (row_at o) (λ d. d.decision ≡ decision.Aborted)) (sym row_now) (subst (λ x. IsSomeAnd (result_ok x) (λ d. d.decision ≡ decision.Aborted)) (sym (row-decision meta.id decision.Aborted m (of g (phase.Abort m) alone).fits alone.phase.1)) refl)

    put_done : (r : Reply) → (r ≡ reply.Applied) ⊎ (r ≡ reply.Fault) → RecoversTo catalog g h rec meta moment (recover_next rec meta (phase.Abort m) moment r)
    put_done r replied = record { resolves = put_settles; others = λ k listed other. listed_stays k listed; leads_to = by replied }
      where
        same : h rec.key ≡ g rec.key
        same = listed_stays rec.key alone.listed

        by : (r ≡ reply.Applied) ⊎ (r ≡ reply.Fault) → RecoveryLeadsTo catalog h rec meta moment (recover_next rec meta (phase.Abort m) moment r)
        by (inl e) = subst (λ x. RecoveryLeadsTo catalog h rec meta moment (recover_next rec meta (phase.Abort m) moment x)) (sym e) (with_phase g h (phase.Abort m) phase.Back alone same is_aborted)
        by (inr e) = subst (λ x. RecoveryLeadsTo catalog h rec meta moment (recover_next rec meta (phase.Abort m) moment x)) (sym e) (with_phase g h (phase.Abort m) phase.Again alone same tt)

  abort_next : (g h : Database) (m : ℤ) (r : Reply) → RecoverAlone catalog g rec meta (phase.Abort m) → Wrote key (Some (coordinator_row_of meta.id decision.Aborted m)) r g h → RecoversTo catalog g h rec meta moment (recover_next rec meta (phase.Abort m) moment r)
  abort_next g h m r alone (Done replied now) = put_done g h m alone now r replied
  abort_next g h m r alone (Undone (inl replied) same) = subst (λ x. RecoversTo catalog g h rec meta moment (recover_next rec meta (phase.Abort m) moment x)) (sym replied) (stays g h (phase.Again, steps.More) same (with_phase g g (phase.Abort m) phase.Again alone refl tt))
  abort_next g h m r alone (Undone (inr replied) same) = subst (λ x. RecoversTo catalog g h rec meta moment (recover_next rec meta (phase.Abort m) moment x)) (sym replied) (stays g h (phase.Ended, steps.NoMemory) same tt)

  -- a roll to the image by a decision
  rolled : (g h : Database) (p : RecoverPhase) (d : Decided) (n : RecoverPhase × RecoverStep) → RecoverAlone catalog g rec meta p → decided_in g meta.id ≡ Some d → IsWith rec.key (image_under rec (Some d)) g h → RecoveryLeadsTo catalog h rec meta moment n → RecoversTo catalog g h rec meta moment n
  rolled g h p d n alone decided now leads_to = record {
    resolves = roll_settles catalog g h rec d apart alone.listed alone.present (of g p alone).held (ap (λ o. option_and_then (decided_in g) o) (of g p alone).writer ∙ decided) now;
    others = λ k listed other. elim (same_key_decides k rec.key) [ inl e ↦ absurd (other e.1) | inr f ↦ now k ∙ ap (λ b. if b then image_under rec (Some d) else g k) f.0 ];
    leads_to = leads_to;
  }

  there : (g h : Database) (new : Option Record) → IsWith rec.key new g h → h rec.key ≡ new
  there g h new now = now rec.key ∙ ap (λ b. if b then new else g rec.key) (same_key_self rec.key)

  forward_next : (g h : Database) (at : ℤ) (r : Reply) → RecoverAlone catalog g rec meta (phase.Forward at) → Wrote rec.key (Some (forward_record rec at)) r g h → RecoversTo catalog g h rec meta moment (recover_next rec meta (phase.Forward at) moment r)
  forward_next g h at r alone (Done (inl replied) now) = subst (λ x. RecoversTo catalog g h rec meta moment (recover_next rec meta (phase.Forward at) moment x)) (sym replied) (rolled g h (phase.Forward at) (record { decision = decision.Committed; created_at = at }) (phase.Ended, steps.Image (Some (forward_record rec at))) alone alone.phase.0 now (there g h (Some (forward_record rec at)) now, forward-committed rec at))
  forward_next g h at r alone (Done (inr replied) now) = subst (λ x. RecoversTo catalog g h rec meta moment (recover_next rec meta (phase.Forward at) moment x)) (sym replied) (rolled g h (phase.Forward at) (record { decision = decision.Committed; created_at = at }) (phase.Ended, steps.Faulted) alone alone.phase.0 now tt)
  forward_next g h at r alone (Undone (inl replied) same) = subst (λ x. RecoversTo catalog g h rec meta moment (recover_next rec meta (phase.Forward at) moment x)) (sym replied) (stays g h (phase.Ended, steps.Faulted) same tt)
  forward_next g h at r alone (Undone (inr replied) same) = subst (λ x. RecoversTo catalog g h rec meta moment (recover_next rec meta (phase.Forward at) moment x)) (sym replied) (stays g h (phase.Ended, steps.NoMemory) same tt)

  -- what there was before is a committed record, or none
  before_is_firm : is_unresolved rec ≡ true → is_committed_or_none (before_record rec) ≡ true
  before_is_firm loose = by (before_record rec) refl
    where
      by : (o : Option Record) → before_record rec ≡ o → is_committed_or_none o ≡ true
      by None e = refl
      by (Some b) e = (before_firm rec b loose e).committed

  back_next : (g h : Database) (r : Reply) → RecoverAlone catalog g rec meta phase.Back → Wrote rec.key (before_record rec) r g h → RecoversTo catalog g h rec meta moment (recover_next rec meta phase.Back moment r)
  back_next g h r alone w = by (decided_in g meta.id) refl alone.phase w
    where
      at : (d : Decided) → decided_in g meta.id ≡ Some d → d.decision ≡ decision.Aborted → IsWith rec.key (before_record rec) g h → (n : RecoverPhase × RecoverStep) → RecoveryLeadsTo catalog h rec meta moment n → RecoversTo catalog g h rec meta moment n
      at d e a now n leads_to = rolled g h phase.Back d n alone e (subst (λ o. IsWith rec.key o g h) (sym (under_aborted rec d a)) now) leads_to

      by : (o : Option Decided) → decided_in g meta.id ≡ o → IsSomeAnd o (λ d. d.decision ≡ decision.Aborted) → Wrote rec.key (before_record rec) r g h → RecoversTo catalog g h rec meta moment (recover_next rec meta phase.Back moment r)
      by None e a w = absurd a
      by (Some d) e a (Done (inl replied) now) = subst (λ x. RecoversTo catalog g h rec meta moment (recover_next rec meta phase.Back moment x)) (sym replied) (at d e a now (phase.Ended, steps.Image (before_record rec)) (there g h (before_record rec) now, before_is_firm alone.unresolved))
      by (Some d) e a (Done (inr replied) now) = subst (λ x. RecoversTo catalog g h rec meta moment (recover_next rec meta phase.Back moment x)) (sym replied) (at d e a now (phase.Ended, steps.Faulted) tt)
      by (Some d) e a (Undone (inl replied) same) = subst (λ x. RecoversTo catalog g h rec meta moment (recover_next rec meta phase.Back moment x)) (sym replied) (stays g h (phase.Ended, steps.Faulted) same tt)
      by (Some d) e a (Undone (inr replied) same) = subst (λ x. RecoversTo catalog g h rec meta moment (recover_next rec meta phase.Back moment x)) (sym replied) (stays g h (phase.Ended, steps.NoMemory) same tt)

  -- the condition of a roll holds of the record
  found_holds : (g : Database) (p : RecoverPhase) (k : Key) → k ≡ rec.key → RecoverAlone catalog g rec meta p → holds (is_as_found meta) (g k) ≡ true
  found_holds g p k e alone = ap (λ x. holds (is_as_found meta) (g x)) e ∙ ap (holds (is_as_found meta)) alone.present ∙ checked-version rec meta alone.says

  -- a call of the request that is pending
  back_called : (g h : Database) (r : Reply) → RecoverAlone catalog g rec meta phase.Back → (o : Option Record) → before_record rec ≡ o → Called (undo (is_as_found meta) rec.key o) r g h → Wrote rec.key o r g h
  back_called g h r alone None e w = w.0 (found_holds g phase.Back rec.key refl alone)
  back_called g h r alone (Some b) e w =
      let at = (before_firm rec b alone.unresolved e).key in
      subst (λ k. Wrote k (Some b) r g h) at (w.0 (found_holds g phase.Back b.key at alone))

pub recovers : (catalog : List Table) → IsApart catalog → (rec : Record) (meta : Meta) (moment : ℤ) → is_moment moment ≡ true → (g h : Database) (p : RecoverPhase) (q : Request) (r : Reply) → IsSound catalog g → RecoverAlone catalog g rec meta p → recover_request_at rec meta p ≡ Some q → Called q r g h → RecoversTo catalog g h rec meta moment (recover_next rec meta p moment r)
recovers catalog apart rec meta moment time g h p q r sound alone asked called = by p alone (subst (λ o. IsCalledBy o) (sym asked) called)
  where
    IsCalledBy : Option Request → Type 0
    IsCalledBy None = ⊥
    IsCalledBy (Some x) = Called x r g h

    by : (p : RecoverPhase) → RecoverAlone catalog g rec meta p → IsCalledBy (recover_request_at rec meta p) → RecoversTo catalog g h rec meta moment (recover_next rec meta p moment r)
    by phase.Look alone c = stays catalog apart rec meta moment time g h (recover_next rec meta phase.Look moment r) c.0 (look_next catalog apart rec meta moment time g r sound alone c.1)
    by phase.Again alone c = stays catalog apart rec meta moment time g h (recover_next rec meta phase.Again moment r) c.0 (again_next catalog apart rec meta moment time g r sound alone c.1)
    by (phase.Abort m) alone c = abort_next catalog apart rec meta moment time g h m r alone (subst (λ k. Wrote k (Some (coordinator_row_of meta.id decision.Aborted m)) r g h) (row-key meta.id decision.Aborted m) (c.0 (ap (λ k. holds condition.Absent (g k)) (row-key meta.id decision.Aborted m) ∙ ap (holds condition.Absent) alone.phase.0)))
    by (phase.Forward at) alone c = forward_next catalog apart rec meta moment time g h at r alone (subst (λ k. Wrote k (Some (forward_record rec at)) r g h) (forward-key rec at) (c.0 (found_holds catalog apart rec meta moment time g (phase.Forward at) (forward_record rec at).key (forward-key rec at) alone)))
    by phase.Back alone c = back_next catalog apart rec meta moment time g h r alone (back_called catalog apart rec meta moment time g h r alone (before_record rec) refl c)
    by phase.Ended alone c = absurd c
