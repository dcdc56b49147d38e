-- A VACUUM of a client that is alone: rows stay, and where it has ended by itself it has removed the tombstones, and counted them.
use Rattle.std.proofs.Common.{◌≡◌, ◌≢◌, ℕ, ℤ, Bool, true, false, List, [], ◌∷◌, Option, Some, None, Result, Ok, Err, ◌⊎◌, inl, inr, refl, sym, ap, subst, ◌∙◌, arith, suc}
use Rattle.std.specs.Prelude.{◌+◌, is_ok, is_some, not, ◌&&◌, ◌||◌, if◌then◌else◌}
use Rattle.std.specs.Option.{option_and_then, option_map, option_map_or}
use Rattle.std.specs.Result.{result_ok}
use Rattle.std.specs.List.{AllByRecursion, list_all, list_any}
use Rattle.law_clients.specs.Types.{Decided, Key, Meta, Record, RecoverPhase, RecoverStep, Reply, Request, Span, Table, TxId}
use Rattle.sdb_types.specs.declared.record.Condition.TheVariants as condition
use Rattle.sdb_types.specs.declared.record.Request.TheVariants as ask
use Rattle.sdb_types.specs.declared.record.Reply.TheVariants as reply
use Rattle.sdb_types.specs.declared.record.State.TheVariants as state
use Rattle.sdb_types.specs.Contents.{holds, in_span, record_among, rise}
use Rattle.sdb_types.specs.Order.{same_key}
use Rattle.sdb_types.proofs.Public.{and_both, and_first, and_second, false_true, none_some, same_key_of, same_key_self, same_key_decides, some_is}
use Rattle.sdb_record.specs.Coordinator.{coordinator_key_of, decision_in, is_coordinator_table, is_expired}
use Rattle.sdb_record.specs.Meta.{checked, id_in, is_in, is_moment, is_transactional, is_unresolved}
use Rattle.sdb_record.specs.Moved.{condition_of}
use Rattle.sdb_record.specs.Parts.{are_stored, user_columns}
use Rattle.sdb_record.specs.Rolls.{image_of, is_tombstone, remove_request, row_of_image}
use Rattle.sdb_phases.specs.declared.step.RecoverStep.TheVariants as steps
use Rattle.sdb_phases.specs.declared.step.RecoverPhase.TheVariants as phase
use Rattle.sdb_phases.specs.Recover.{recover_next}
use Rattle.sdb_txn.specs.Read.{Kind, Firm, Bad, kind_of, opened}
use Rattle.sdb_vacuum.specs.Vacuum.{Removing, Resolving, Scanning, Tombstone, VacuumStage, Over, answered, first_of, first_one, with_call, next_of_row, next_table, pending_at, removal_answered, resolved, step_at}
use Rattle.law_clients.specs.ReadAt.{Rise, keys_of}
use Rattle.law_clients.proofs.Lists.{each_both, each_unmap}
use Rattle.law_clients.proofs.Meta.{meta_of}
use Rattle.law_clients.proofs.Rows.{found_each, inside_each, rise_is}
use Rattle.law_clients.specs.Database.{Called, Done, Database, IsWith, NotReturned, Scanned, Returned, Undone, Wrote, decided_in, decided_on, image_in, is_committed_or_none, is_listed, row_in}
use Rattle.law_clients.specs.OnlyResolves.{IsApart, IsPreparedFor, IsAbortedRow, OnlyResolves, IsSound}
use Rattle.law_clients.specs.Recovers.{RecoveryLeadsTo}
use Rattle.law_clients.specs.SessionVacuums.{IsVacuumedAt, LeftAlone, Quiet, RemovedSoFar, VacuumLeadsTo, VacuumStageAlone}
use Rattle.law_clients.specs.Tombstones.{HasVacuumed, IsPassedOver, is_among, is_clean, is_deleted, is_removed}
use Rattle.law_clients.proofs.Resolves.{firm_image, image_stays, row_stays, sound_stays, unresolved_before}
use Rattle.law_clients.proofs.SessionReading.{others_apart}
use Rattle.law_clients.proofs.Recovers.{one_database, recovers}
use Rattle.law_clients.proofs.Writes.{version_holds}
use Rattle.law_clients.proofs.ReadRecords.{coordinators}

---- what a database means

-- the committed image of a record, or of none
abbrev pub means : Database → Option Record → Option Record
means g o = option_and_then (λ r. image_of r (decided_on g r)) o

-- whether an image is a tombstone
abbrev pub is_dead : Option Record → Bool
is_dead o = option_map_or is_tombstone o false

---- quiet moves

pub quiet_refl : (catalog : List Table) (g : Database) → IsSound catalog g → Quiet catalog g g
quiet_refl catalog g sound = record {
  sound = sound;
  same_rows = λ k listed. refl;
  images = λ k listed. inl refl;
  loose = λ k r listed e loose. e;
  rows = λ k row there e. e;
  fresh = λ k row there e f. none_some row (sym e ∙ f);
}

pub quiet_trans : (catalog : List Table) (g h j : Database) → Quiet catalog g h → Quiet catalog h j → Quiet catalog g j
quiet_trans catalog g h j s t = record {
  sound = t.sound;
  same_rows = λ k listed. t.same_rows k listed ∙ s.same_rows k listed;
  images = λ k listed. images k (s.images k listed) (t.images k listed);
  loose = λ k r listed e loose. s.loose k r listed (t.loose k r listed e loose) loose;
  rows = λ k row there e. t.rows k row there (s.rows k row there e);
  fresh = λ k row there e f. fresh k row there e f (h k) refl;
}
  where
    images : (k : Key) → (image_in h k ≡ image_in g k) ⊎ ((is_deleted g k ≡ true) × (image_in h k ≡ None)) → (image_in j k ≡ image_in h k) ⊎ ((is_deleted h k ≡ true) × (image_in j k ≡ None)) → (image_in j k ≡ image_in g k) ⊎ ((is_deleted g k ≡ true) × (image_in j k ≡ None))
    images k (inl e) (inl f) = inl (f ∙ e)
    images k (inl e) (inr x) = inr (ap is_dead (sym e) ∙ x.0, x.1)
    images k (inr x) (inl f) = inr (x.0, f ∙ x.1)
    images k (inr x) (inr y) = inr (x.0, y.1)

    held_before : (k : Key) → IsPreparedFor catalog h k → IsPreparedFor catalog g k
    held_before k x = record { at = x.at; r = x.r; id = x.id; listed = x.listed; present = s.loose x.at x.r x.listed x.present x.loose; loose = x.loose; writer = x.writer; key = x.key }

    fresh : (k : Key) (row : Record) → is_coordinator_table k.table ≡ true → g k ≡ None → j k ≡ Some row → (o : Option Record) → h k ≡ o → IsAbortedRow row × IsPreparedFor catalog g k
    fresh k row there e f None m = let x = t.fresh k row there m f in (x.0, held_before k x.1)
    fresh k row there e f (Some was) m = let x = s.fresh k was there e m in (subst IsAbortedRow (some_is was row (sym (t.rows k was there m) ∙ f)) x.0, x.1)

pub quiet_of : (catalog : List Table) (g h : Database) → IsSound catalog g → ((k : Key) (r : Record) → h k ≡ Some r → r.key ≡ k) → OnlyResolves catalog g h → Quiet catalog g h
quiet_of catalog g h sound own s = record {
  sound = sound_stays catalog g h s sound own;
  same_rows = λ k listed. row_stays catalog g h s sound k listed;
  images = λ k listed. inl (image_stays catalog g h s sound k listed);
  loose = λ k r listed e loose. unresolved_before catalog g h s sound k r listed e loose;
  rows = λ k row there e. s.rows k row there e;
  fresh = λ k row there e f. s.fresh k row there e f;
}

-- Where a record of a table goes, each other image stays.
pub removed_others : (catalog : List Table) → IsApart catalog → (g h : Database) (b : Record) → is_listed catalog b.key ≡ true → IsWith b.key None g h → (k : Key) → same_key k b.key ≡ false → image_in h k ≡ image_in g k
removed_others catalog apart g h b listed now k n = ap (means h) (now k ∙ ap (λ x. if x then None else g k) n) ∙ ap (λ (f : Record → Option Decided). option_and_then (λ r. image_of r (f r)) (g k)) deciding
  where
    other : (q : Key) → is_coordinator_table q.table ≡ true → h q ≡ g q
    other q there = elim (same_key_decides q b.key) [
      | inl s ↦ false_true (sym (apart b.key listed) ∙ ap (λ (x : Key). is_coordinator_table x.table) (sym s.1) ∙ there)
      | inr m ↦ now q ∙ ap (λ x. if x then None else g q) m.0
    ]

    -- a decision hangs on the coordinator's rows alone
    decided_same : (r : Record) → decided_on h r ≡ decided_on g r
    decided_same r = ap (λ f. option_and_then f (id_in r.columns)) same
      where
        same : decided_in h ≡ decided_in g
        same = λ i id. ap (λ o. option_and_then (λ row. result_ok (decision_in row)) o) (other (coordinator_key_of id) (coordinators id)) i

    deciding : decided_on h ≡ decided_on g
    deciding = λ i r. decided_same r i

-- a committed record means itself
pub firm_means : (g : Database) (k : Key) (b : Record) → g k ≡ Some b → is_in state.Committed b.columns ≡ true → image_in g k ≡ Some b
firm_means g k b present firm = ap (means g) present ∙ firm_image (Some b) (decided_on g) firm

-- a tombstone goes
pub removed_quiet : (catalog : List Table) → IsApart catalog → (g h : Database) (b : Record) → IsSound catalog g → is_listed catalog b.key ≡ true → g b.key ≡ Some b → is_in state.Committed b.columns ≡ true → is_tombstone b ≡ true → IsWith b.key None g h → Quiet catalog g h
removed_quiet catalog apart g h b sound listed present firm dead now = record {
  sound = record {
    own = λ k r e. sound.own k r (was k r e);
    accepted = λ k r there e. sound.accepted k r there (was k r e);
    rows = λ k r there e. sound.rows k r there (was k r e);
    fits = λ k columns there e. sound.fits k columns there (sym (same_rows k) ∙ e);
  };
  same_rows = λ k there. same_rows k;
  images = λ k there. images k;
  loose = λ k r there e loose. was k r e;
  rows = λ k row there e. other k there ∙ e;
  fresh = λ k row there e f. none_some row (sym e ∙ was k row f);
}
  where
    at : (k : Key) → same_key k b.key ≡ true → h k ≡ None
    at k e = now k ∙ ap (λ x. if x then None else g k) e

    away : (k : Key) → same_key k b.key ≡ false → h k ≡ g k
    away k e = now k ∙ ap (λ x. if x then None else g k) e

    was : (k : Key) (r : Record) → h k ≡ Some r → g k ≡ Some r
    was k r e = elim (same_key_decides k b.key) [ inl s ↦ none_some r (sym (at k s.0) ∙ e) | inr n ↦ sym (away k n.0) ∙ e ]

    other : (k : Key) → is_coordinator_table k.table ≡ true → h k ≡ g k
    other k there = elim (same_key_decides k b.key) [
      | inl s ↦ false_true (sym (apart b.key listed) ∙ ap (λ (x : Key). is_coordinator_table x.table) (sym s.1) ∙ there)
      | inr n ↦ away k n.0
    ]

    image_at : (k : Key) → k ≡ b.key → image_in g k ≡ Some b
    image_at k e = ap (image_in g) e ∙ firm_means g b.key b present firm

    same_rows : (k : Key) → row_in h k ≡ row_in g k
    same_rows k = elim (same_key_decides k b.key) [
      | inl s ↦ ap (λ o. option_and_then row_of_image (means h o)) (at k s.0) ∙ sym (ap (option_and_then row_of_image) (image_at k s.1) ∙ ap (λ x. if x then None else Some (user_columns b.columns)) dead)
      | inr n ↦ ap (option_and_then row_of_image) (removed_others catalog apart g h b listed now k n.0)
    ]

    images : (k : Key) → (image_in h k ≡ image_in g k) ⊎ ((is_deleted g k ≡ true) × (image_in h k ≡ None))
    images k = elim (same_key_decides k b.key) [
      | inl s ↦ inr (ap is_dead (image_at k s.1) ∙ dead, ap (means h) (at k s.0))
      | inr n ↦ inl (removed_others catalog apart g h b listed now k n.0)
    ]

---- what was removed

-- nothing yet
pub removed_none : (catalog : List Table) (g : Database) → RemovedSoFar catalog g g 0
removed_none catalog g = record { keys = []; once = tt; count = refl; gone = λ k h. false_true h; others = λ k listed away. refl }

-- it stays so while records are resolved
removed_resolved : (catalog : List Table) (was g h : Database) (n : ℕ) → IsSound catalog g → OnlyResolves catalog g h → RemovedSoFar catalog was g n → RemovedSoFar catalog was h n
removed_resolved catalog was g h n sound s r = record {
  keys = r.keys;
  once = r.once;
  count = r.count;
  gone = λ k e. let x = r.gone k e in (x.0, x.1, s.firm k x.0 (ap is_committed_or_none x.2) ∙ x.2);
  others = λ k listed away. image_stays catalog g h s sound k listed ∙ r.others k listed away;
}

or_false : (a b : Bool) → (a || b) ≡ false → (a ≡ false) × (b ≡ false)
or_false true b e = false_true (sym e)
or_false false b e = (refl, e)

-- one tombstone more
removed_more : (catalog : List Table) → IsApart catalog → (was g h : Database) (n : ℕ) (b : Record) → RemovedSoFar catalog was g n → is_listed catalog b.key ≡ true → g b.key ≡ Some b → is_in state.Committed b.columns ≡ true → is_tombstone b ≡ true → IsWith b.key None g h → RemovedSoFar catalog was h (n + 1)
removed_more catalog apart was g h n b r listed present firm dead now = record {
  keys = b.key ∷ r.keys;
  once = (fresh, r.once);
  count = ap suc r.count ∙ omega arith;
  gone = gone;
  others = λ k there away. let x = or_false (same_key k b.key) (is_among r.keys k) away in removed_others catalog apart g h b listed now k x.0 ∙ r.others k there x.1;
}
  where
    fresh : is_among r.keys b.key ≡ false
    fresh = by (is_among r.keys b.key) refl
      where
        by : (x : Bool) → is_among r.keys b.key ≡ x → is_among r.keys b.key ≡ false
        by true e = none_some b (sym (r.gone b.key e).2 ∙ present)
        by false e = e

    was_dead : is_deleted was b.key ≡ true
    was_dead = ap is_dead (sym (r.others b.key listed fresh)) ∙ ap is_dead (firm_means g b.key b present firm) ∙ dead

    gone : (k : Key) → is_among (b.key ∷ r.keys) k ≡ true → (is_listed catalog k ≡ true) × (is_deleted was k ≡ true) × (h k ≡ None)
    gone k e = elim (same_key_decides k b.key) [
      | inl s ↦ (ap (is_listed catalog) s.1 ∙ listed, ap (is_deleted was) s.1 ∙ was_dead, now k ∙ ap (λ x. if x then None else g k) s.0)
      | inr m ↦ let x = r.gone k (sym (ap (λ y. y || is_among r.keys k) m.0) ∙ e) in (x.0, x.1, now k ∙ ap (λ y. if y then None else g k) m.0 ∙ x.2)
    ]

-- Where each key of a table is done, so is the VACUUM.
pub has_vacuumed : (catalog : List Table) (was g : Database) (at : ℤ) (n : ℕ) → RemovedSoFar catalog was g n → ((k : Key) → is_listed catalog k ≡ true → IsVacuumedAt was g at k) → HasVacuumed catalog was g at n
has_vacuumed catalog was g at n r vacuumed = record {
  keys = r.keys;
  once = r.once;
  count = r.count;
  exact = λ k. exact k (is_among r.keys k) refl;
  others = r.others;
  clean = λ k listed. (vacuumed k listed).clean;
  passed = λ k listed. (vacuumed k listed).passed;
}
  where
    still : (k : Key) → is_listed catalog k ≡ true → is_among r.keys k ≡ false → (o : Option Record) → g k ≡ o → (d : Bool) → is_deleted was k ≡ d → (is_deleted was k && not (is_some (g k))) ≡ false
    still k listed away o e false f = ap (λ x. x && not (is_some (g k))) f
    still k listed away (Some b) e true f = ap (λ x. x && not (is_some (g k))) f ∙ ap (λ x. not (is_some x)) e
    still k listed away None e true f = false_true (ap is_dead (sym (ap (means g) e)) ∙ ap is_dead (r.others k listed away) ∙ f)

    exact : (k : Key) (x : Bool) → is_among r.keys k ≡ x → is_among r.keys k ≡ is_removed catalog was g k
    exact k true e = let x = r.gone k e in e ∙ sym (and_both (is_listed catalog k) _ x.0 (and_both (is_deleted was k) _ x.1 (ap (λ o. not (is_some o)) x.2)))
    exact k false e = e ∙ sym (by (is_listed catalog k) refl)
      where
        by : (x : Bool) → is_listed catalog k ≡ x → is_removed catalog was g k ≡ false
        by true f = ap (λ x. x && (is_deleted was k && not (is_some (g k)))) f ∙ still k f e (g k) refl (is_deleted was k) refl
        by false f = ap (λ x. x && (is_deleted was k && not (is_some (g k)))) f

---- rows that are left

-- where nothing is
none_swept : (was g : Database) (at : ℤ) (k : Key) → g k ≡ None → IsVacuumedAt was g at k
none_swept was g at k e = record { clean = ap is_clean e; passed = λ dead. false_true (sym (ap is_dead (ap (means g) e)) ∙ dead) }

-- where a committed record is that isn't a tombstone
firm_swept : (was g : Database) (at : ℤ) (k : Key) (r : Record) → g k ≡ Some r → is_in state.Committed r.columns ≡ true → is_tombstone r ≡ false → IsVacuumedAt was g at k
firm_swept was g at k r present firm live = record {
  clean = ap is_clean present ∙ ap (λ b. not (b && is_tombstone r)) firm ∙ ap not live;
  passed = λ dead. false_true (sym (ap is_dead (firm_means g k r present firm) ∙ live) ∙ dead);
}

module _ (catalog : List Table) (was : Database) (moment : ℤ) (g : Database) where
  -- a row that is done is passed over
  passed : (ss : List Span) (r : Record) (left : List Record) → LeftAlone catalog was moment g ss (r ∷ left) → IsVacuumedAt was g moment r.key → LeftAlone catalog was moment g ss left
  passed ss r left l c = record {
    tables = l.tables;
    rise = l.rise.1;
    matches = l.matches.1;
    vacuumed = λ k listed outside none. elim (same_key_decides k r.key) [
      | inl e ↦ subst (IsVacuumedAt was g moment) (sym e.1) c
      | inr n ↦ l.vacuumed k listed outside (ap (λ b. if b then Some r else record_among left k) n.0 ∙ none)
    ];
  }

  next_alone : (ss : List Span) (n : ℕ) → RemovedSoFar catalog was g n → LeftAlone catalog was moment g ss [] → VacuumLeadsTo catalog was moment g (next_table ss n)
  next_alone [] n removed l = has_vacuumed catalog was g moment n removed (λ k listed. l.vacuumed k listed refl refl)
  next_alone (s ∷ ss) n removed l = (removed, l)

  more_alone : IsSound catalog g → (ss : List Span) (n : ℕ) → RemovedSoFar catalog was g n → (left : List Record) → LeftAlone catalog was moment g ss left → VacuumLeadsTo catalog was moment g (next_of_row ss n (first_of left))
  more_alone sound ss n removed [] l = next_alone ss n removed l
  more_alone sound ss n removed (r ∷ left) l = by (is_transactional r) refl (is_in state.Committed r.columns) refl (checked r.columns) refl (more_alone sound ss n removed left)
    where
      is_write : is_transactional r ≡ true
      is_write = sound.accepted r.key r l.matches.0.0 l.matches.0.1

      Rest : Type 0
      Rest = LeftAlone catalog was moment g ss left → VacuumLeadsTo catalog was moment g (next_of_row ss n (first_of left))

      G : Kind → Type 0
      G k = VacuumLeadsTo catalog was moment g (next_of_row ss n (first_one k r left (first_of left)))

      firm : is_in state.Committed r.columns ≡ true → (b : Bool) → is_tombstone r ≡ b → Rest → G Firm
      firm f true t rest = subst (λ b. VacuumLeadsTo catalog was moment g (next_of_row ss n (if b then Tombstone r left else first_of left))) (sym t) (removed, (l, f, t))
      firm f false t rest = subst (λ b. VacuumLeadsTo catalog was moment g (next_of_row ss n (if b then Tombstone r left else first_of left))) (sym t) (rest (passed ss r left l (firm_swept was g moment r.key r l.matches.0.1 f t)))

      by : (t : Bool) → is_transactional r ≡ t → (c : Bool) → is_in state.Committed r.columns ≡ c → (m : Result Meta (List ℕ)) → checked r.columns ≡ m → Rest → G (kind_of r)
      by false e c f m h rest = false_true (sym e ∙ is_write)
      by true e true f m h rest = subst G (sym (ap (λ b. if b then (if is_in state.Committed r.columns then Firm else opened (checked r.columns)) else Bad) e ∙ ap (λ b. if b then Firm else opened (checked r.columns)) f)) (firm f (is_tombstone r) refl rest)
      by true e false f (Ok meta) h rest = subst G (sym (ap (λ b. if b then (if is_in state.Committed r.columns then Firm else opened (checked r.columns)) else Bad) e ∙ ap (λ b. if b then Firm else opened (checked r.columns)) f ∙ ap opened h))
          (removed, (l, record { present = l.matches.0.1; listed = l.matches.0.0; unresolved = and_both (is_transactional r) _ is_write (ap not f); says = h; phase = tt }))
      by true e false f (Err name) h rest = false_true (sym (ap is_ok h) ∙ and_second (are_stored r.columns) (is_ok (checked r.columns)) is_write)

  ---- a scan

  scanned_alone : IsSound catalog g → (span : Span) (ss : List Span) (n : ℕ) → RemovedSoFar catalog was g n → LeftAlone catalog was moment g (span ∷ ss) [] → (r : Reply) → Scanned span r g → VacuumLeadsTo catalog was moment g (answered ss n r)
  scanned_alone sound span ss n removed l r (Returned rows replied at inside) = subst (λ x. VacuumLeadsTo catalog was moment g (answered ss n x)) (sym replied) (more_alone sound ss n removed rows (record {
    tables = l.tables.1;
    rise = up;
    matches = each_both (λ x. record_among rows x.key ≡ Some x) (λ x. in_span span x.key ≡ true) (λ x. (is_listed catalog x.key ≡ true) × (g x.key ≡ Some x)) rows (λ x f i. (l.tables.0 x.key i, sym (at x.key i) ∙ f)) (found_each rows up) (each_unmap (λ k. in_span span k ≡ true) (λ (x : Record). x.key) rows within);
    vacuumed = λ k listed outside none. vacuumed k listed outside none (in_span span k) refl;
  }))
    where
      up : Rise (keys_of rows)
      up = rise_is rows (and_first (rise rows) (list_all (λ x. in_span span x.key) rows) inside)

      within : AllByRecursion (λ k. in_span span k ≡ true) (keys_of rows)
      within = inside_each span rows (and_second (rise rows) (list_all (λ x. in_span span x.key) rows) inside)

      vacuumed : (k : Key) → is_listed catalog k ≡ true → list_any (λ s. in_span s k) ss ≡ false → record_among rows k ≡ None → (b : Bool) → in_span span k ≡ b → IsVacuumedAt was g moment k
      vacuumed k listed outside none true e = none_swept was g moment k (sym (at k e) ∙ none)
      vacuumed k listed outside none false e = l.vacuumed k listed (ap (λ b. b || list_any (λ s. in_span s k) ss) e ∙ outside) refl
  scanned_alone sound span ss n removed l r (NotReturned (inl replied)) = subst (λ x. VacuumLeadsTo catalog was moment g (answered ss n x)) (sym replied) tt
  scanned_alone sound span ss n removed l r (NotReturned (inr replied)) = subst (λ x. VacuumLeadsTo catalog was moment g (answered ss n x)) (sym replied) tt

---- the first of the rows changes

-- all other keys of tables hold what they held, and mean it
record StaysBut (catalog : List Table) (key : Key) (g h : Database) : Type 0 where
  records : (k : Key) → is_listed catalog k ≡ true → k ≢ key → h k ≡ g k
  images : (k : Key) → is_listed catalog k ≡ true → k ≢ key → image_in h k ≡ image_in g k

module _ (catalog : List Table) (was : Database) (moment : ℤ) (g h : Database) (ss : List Span) (rec : Record) (left : List Record) (l : LeftAlone catalog was moment g ss (rec ∷ left)) (stays : StaysBut catalog rec.key g h) where
  apart_left : (xs : List Record) → AllByRecursion (λ r. same_key rec.key r.key ≡ false) xs → AllByRecursion (λ r. (is_listed catalog r.key ≡ true) × (g r.key ≡ Some r)) xs → AllByRecursion (λ r. (is_listed catalog r.key ≡ true) × (h r.key ≡ Some r)) xs
  apart_left xs a s = each_both (λ r. same_key rec.key r.key ≡ false) (λ r. (is_listed catalog r.key ≡ true) × (g r.key ≡ Some r)) (λ r. (is_listed catalog r.key ≡ true) × (h r.key ≡ Some r)) xs (λ r n x. (x.0, stays.records r.key x.0 (λ e. false_true (sym n ∙ same_key_of rec.key r.key (sym e))) ∙ x.1)) a s

  left_present : AllByRecursion (λ r. (is_listed catalog r.key ≡ true) × (h r.key ≡ Some r)) left
  left_present = apart_left left (others_apart [] rec left l.rise) l.matches.1

  -- a key that is done stays so
  swept_stays : (k : Key) → is_listed catalog k ≡ true → k ≢ rec.key → IsVacuumedAt was g moment k → IsVacuumedAt was h moment k
  swept_stays k listed other s = record {
    clean = ap is_clean (stays.records k listed other) ∙ s.clean;
    passed = λ dead. let x = s.passed (ap is_dead (sym (stays.images k listed other)) ∙ dead) in record { id = x.id; moment = x.moment; busy = x.busy; same = stays.records k listed other ∙ x.same };
  }

  -- it is done
  gone : IsVacuumedAt was h moment rec.key → LeftAlone catalog was moment h ss left
  gone c = record {
    tables = l.tables;
    rise = l.rise.1;
    matches = left_present;
    vacuumed = λ k listed outside none. elim (same_key_decides k rec.key) [
      | inl e ↦ subst (IsVacuumedAt was h moment) (sym e.1) c
      | inr n ↦ swept_stays k listed n.1 (l.vacuumed k listed outside (ap (λ b. if b then Some rec else record_among left k) n.0 ∙ none))
    ];
  }

  -- another record of its key is there
  replaced : (x : Record) → x.key ≡ rec.key → h rec.key ≡ Some x → LeftAlone catalog was moment h ss (x ∷ left)
  replaced x same present = record {
    tables = l.tables;
    rise = subst (λ q. Rise (q ∷ keys_of left)) (sym same) l.rise;
    matches = ((ap (is_listed catalog) same ∙ l.matches.0.0, ap h same ∙ present), left_present);
    vacuumed = λ k listed outside none. elim (same_key_decides k rec.key) [
      | inl e ↦ none_some x (sym none ∙ ap (λ b. if b then Some x else record_among left k) (same_key_of k x.key (e.1 ∙ sym same)))
      | inr n ↦ swept_stays k listed n.1 (l.vacuumed k listed outside (ap (λ b. if b then Some rec else record_among left k) n.0 ∙ sym (ap (λ b. if b then Some x else record_among left k) (ap (same_key k) same ∙ n.0)) ∙ none))
    ];
  }

---- a recovery

module _ (catalog : List Table) (now : ℤ) (was g h : Database) (ss : List Span) (n : ℕ) (rec : Record) (meta : Meta) (left : List Record) (l : LeftAlone catalog was now g ss (rec ∷ left)) (unresolved : is_unresolved rec ≡ true) (says : checked rec.columns ≡ Ok meta) where
  -- a record whose transaction may still decide stays as it was
  busy_passed : Quiet catalog was h → is_in state.Committed rec.columns ≡ false → (id : TxId) (at : ℤ) → RecoveryLeadsTo catalog h rec meta now (phase.Ended, steps.Busy id at) → IsPassedOver was h now rec.key
  busy_passed quiet loose id at x = record {
    id = meta.id;
    moment = meta.prepared_at;
    busy = record { r = rec; meta = meta; present = there; unresolved = unresolved; says = says; writer = refl; moment = refl; undecided = undecided (was (coordinator_key_of meta.id)) refl; early = ap (λ t. is_expired t now) (sym x.1) ∙ x.3 };
    same = x.4 ∙ sym there;
  }
    where
      there : was rec.key ≡ Some rec
      there = quiet.loose rec.key rec l.matches.0.0 x.4 loose

      undecided : (o : Option Record) → was (coordinator_key_of meta.id) ≡ o → was (coordinator_key_of meta.id) ≡ None
      undecided None e = e
      undecided (Some row) e = none_some row (sym x.2 ∙ quiet.rows (coordinator_key_of meta.id) row (coordinators meta.id) e)

  resolved_alone : Quiet catalog was h → RemovedSoFar catalog was h n → is_in state.Committed rec.columns ≡ false → StaysBut catalog rec.key g h → (next : RecoverPhase × RecoverStep) → RecoveryLeadsTo catalog h rec meta now next → VacuumLeadsTo catalog was now h (resolved ss n rec meta left next)
  resolved_alone quiet removed loose stays (p, steps.More) x = (removed, (replaced catalog was now g h ss rec left l stays rec refl x.present, x))
  resolved_alone quiet removed loose stays (p, steps.Image None) x = more_alone catalog was now h quiet.sound ss n removed left (gone catalog was now g h ss rec left l stays (none_swept was h now rec.key x.0))
  resolved_alone quiet removed loose stays (p, steps.Image (Some b)) x = by (is_tombstone b) refl
    where
      key : b.key ≡ rec.key
      key = quiet.sound.own rec.key b x.0

      by : (d : Bool) → is_tombstone b ≡ d → VacuumLeadsTo catalog was now h (resolved ss n rec meta left (p, steps.Image (Some b)))
      by true e = subst (λ c. VacuumLeadsTo catalog was now h (if c then with_call ss n (Removing b left) else next_of_row ss n (first_of left))) (sym e) (removed, (replaced catalog was now g h ss rec left l stays b key x.0, x.1, e))
      by false e = subst (λ c. VacuumLeadsTo catalog was now h (if c then with_call ss n (Removing b left) else next_of_row ss n (first_of left))) (sym e) (more_alone catalog was now h quiet.sound ss n removed left (gone catalog was now g h ss rec left l stays (firm_swept was h now rec.key b x.0 x.1 e)))
  resolved_alone quiet removed loose stays (p, steps.Busy id at) x = more_alone catalog was now h quiet.sound ss n removed left (gone catalog was now g h ss rec left l stays (record { clean = ap is_clean x.4 ∙ ap (λ c. not (c && is_tombstone rec)) loose; passed = λ dead. busy_passed quiet loose id at x }))
  resolved_alone quiet removed loose stays (p, steps.Faulted) x = tt
  resolved_alone quiet removed loose stays (p, steps.BadRecord key) x = absurd x
  resolved_alone quiet removed loose stays (p, steps.NoMemory) x = tt

---- a removal

module _ (catalog : List Table) (apart : IsApart catalog) (moment : ℤ) (was g h : Database) (ss : List Span) (n : ℕ) (b : Record) (left : List Record) (sound : IsSound catalog g) (l : LeftAlone catalog was moment g ss (b ∷ left)) (firm : is_in state.Committed b.columns ≡ true) (dead : is_tombstone b ≡ true) where
  removed_stays : IsWith b.key None g h → StaysBut catalog b.key g h
  removed_stays now = record {
    records = λ k listed other. now k ∙ ap (λ x. if x then None else g k) (differs k other);
    images = λ k listed other. removed_others catalog apart g h b l.matches.0.0 now k (differs k other);
  }
    where
      differs : (k : Key) → k ≢ b.key → same_key k b.key ≡ false
      differs k other = elim (same_key_decides k b.key) [ inl e ↦ absurd (other e.1) | inr f ↦ f.0 ]

  removed_alone : RemovedSoFar catalog was g n → (r : Reply) → Wrote b.key None r g h → Quiet catalog g h × VacuumLeadsTo catalog was moment h (removal_answered ss n left r)
  removed_alone removed r (Done replied now) = (quiet, by replied)
    where
      quiet : Quiet catalog g h
      quiet = removed_quiet catalog apart g h b sound l.matches.0.0 l.matches.0.1 firm dead now

      by : (r ≡ reply.Applied) ⊎ (r ≡ reply.Fault) → VacuumLeadsTo catalog was moment h (removal_answered ss n left r)
      by (inl e) = subst (λ x. VacuumLeadsTo catalog was moment h (removal_answered ss n left x)) (sym e)
          (more_alone catalog was moment h quiet.sound ss (n + 1) (removed_more catalog apart was g h n b removed l.matches.0.0 l.matches.0.1 firm dead now) left
          (gone catalog was moment g h ss b left l (removed_stays now) (none_swept was h moment b.key (now b.key ∙ ap (λ x. if x then None else g b.key) (same_key_self b.key)))))
      by (inr e) = subst (λ x. VacuumLeadsTo catalog was moment h (removal_answered ss n left x)) (sym e) tt
  removed_alone removed r (Undone (inl replied) same) = subst (λ j. Quiet catalog g j × VacuumLeadsTo catalog was moment j (removal_answered ss n left r)) (one_database g h same) (quiet_refl catalog g sound, subst (λ x. VacuumLeadsTo catalog was moment g (removal_answered ss n left x)) (sym replied) tt)
  removed_alone removed r (Undone (inr replied) same) = subst (λ j. Quiet catalog g j × VacuumLeadsTo catalog was moment j (removal_answered ss n left r)) (one_database g h same) (quiet_refl catalog g sound, subst (λ x. VacuumLeadsTo catalog was moment g (removal_answered ss n left x)) (sym replied) tt)

  removal_called : (q : Request) (r : Reply) → remove_request b ≡ Some q → Called q r g h → Wrote b.key None r g h
  removal_called q r asked called = by (id_in b.columns) refl
    where
      is_write : (x : Record) → Some b ≡ Some x → is_transactional x ≡ true
      is_write x e = subst (λ y. is_transactional y ≡ true) (some_is b x e) (sound.accepted b.key b l.matches.0.0 l.matches.0.1)

      of : (id : TxId) → id_in b.columns ≡ Some id → Called (ask.DeleteIf b.key (condition.Version id state.Committed)) r g h → Wrote b.key None r g h
      of id e w = w.0 (ap (holds (condition.Version id state.Committed)) l.matches.0.1 ∙ ap (λ o. holds (condition_of o) (Some b)) (sym e) ∙ version_holds (Some b) firm is_write)

      by : (o : Option TxId) → id_in b.columns ≡ o → Wrote b.key None r g h
      by None e = none_some q (sym (ap (option_map (λ id. ask.DeleteIf b.key (condition.Version id state.Committed))) e) ∙ asked)
      by (Some id) e = of id e (subst (λ x. Called x r g h) (sym (some_is (ask.DeleteIf b.key (condition.Version id state.Committed)) q (sym (ap (option_map (λ i. ask.DeleteIf b.key (condition.Version i state.Committed))) e) ∙ asked))) called)

-- Whatever call of a VACUUM is pending, and whatever its reply.
pub vacuums : (catalog : List Table) → IsApart catalog → (now : ℤ) → is_moment now ≡ true → (was g h : Database) (ss : List Span) (n : ℕ) (s : VacuumStage) (q : Request) (r : Reply) → Quiet catalog was g → ((k : Key) (x : Record) → h k ≡ Some x → x.key ≡ k)
    → RemovedSoFar catalog was g n → VacuumStageAlone catalog was now g ss s → pending_at s ≡ Some q → Called q r g h → Quiet catalog g h × VacuumLeadsTo catalog was now h (step_at ss n s now r)
vacuums catalog apart now time was g h ss n (Scanning span) q r quiet own removed alone asked called =
    let x = subst (λ y. Called y r g h) (sym (some_is (ask.Scan span) q asked)) called in
    subst (λ j. Quiet catalog g j × VacuumLeadsTo catalog was now j (answered ss n r)) (one_database g h x.0) (quiet_refl catalog g quiet.sound, scanned_alone catalog was now g quiet.sound span ss n removed alone r x.1)
vacuums catalog apart now time was g h ss n (Resolving rec meta p left) q r quiet own removed alone asked called =
    let x = recovers catalog apart rec meta now time g h p q r quiet.sound alone.1 asked called in
    let moved = quiet_of catalog g h quiet.sound own x.resolves in
    let stays : StaysBut catalog rec.key g h = record { records = x.others; images = λ k listed other. image_stays catalog g h x.resolves quiet.sound k listed } in
    (moved, resolved_alone catalog now was g h ss n rec meta left alone.0 alone.1.unresolved alone.1.says (quiet_trans catalog was g h quiet moved) (removed_resolved catalog was g h n quiet.sound x.resolves removed) (meta_of rec meta alone.1.unresolved alone.1.says).held stays (recover_next rec meta p now r) x.leads_to)
vacuums catalog apart now time was g h ss n (Removing b left) q r quiet own removed alone asked called =
    removed_alone catalog apart now was g h ss n b left quiet.sound alone.0 alone.1 alone.2 removed r (removal_called catalog apart now was g h ss n b left quiet.sound alone.0 alone.1 alone.2 q r asked called)
vacuums catalog apart now time was g h ss n Over q r quiet own removed alone asked called = none_some q asked
