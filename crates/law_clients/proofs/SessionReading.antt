-- A read of a client that is alone: its rows are what is there, each unresolved one is resolved, and its images are then in place.
use Rattle.std.proofs.Common.{◌≡◌, ◌≢◌, ℤ, Bool, true, false, List, [], ◌∷◌, ◌++◌, Option, Some, None, Result, Ok, Err, inl, inr, refl, sym, ap, subst, ◌∙◌, append_assoc, append-nil}
use Rattle.std.specs.Prelude.{ℕ, is_ok, not, if◌then◌else◌}
use Rattle.std.specs.List.{AllByRecursion, list_all}
use Rattle.std.specs.declared.cmp.Ordering.TheVariants.{Less}
use Rattle.law_clients.specs.Types.{Access, Key, Meta, Record, RecoverPhase, RecoverStep, Reply, Request, Table}
use Rattle.sdb_types.specs.declared.record.Reply.TheVariants as reply
use Rattle.sdb_types.specs.declared.record.State.TheVariants as state
use Rattle.sdb_types.specs.Contents.{in_span, record_among, rise}
use Rattle.sdb_types.specs.Order.{key_cmp, same_key}
use Rattle.sdb_types.proofs.Public.{and_both, and_first, and_second, false_true, none_some, same_key_exact, same_key_is, same_key_of, same_key_decides, same_key_turned, some_is}
use Rattle.sdb_record.specs.declared.access.Access.TheVariants as access
use Rattle.sdb_record.specs.Meta.{checked, is_in, is_moment, is_transactional, is_unresolved}
use Rattle.sdb_record.specs.Parts.{are_stored}
use Rattle.sdb_model.specs.Access.{in_access}
use Rattle.sdb_phases.specs.declared.step.RecoverStep.TheVariants as steps
use Rattle.sdb_phases.specs.Recover.{recover_next}
use Rattle.sdb_txn.specs.Read.{Kind, Firm, Bad, ReadStage, Asking, Resolving, Ended, answered, kind_of, opened, read_pending_at, read_step, request_of, resolved, settle, settle_one}
use Rattle.law_clients.specs.ReadAt.{AreInOrder, Rise, keys_of}
use Rattle.law_clients.proofs.Lists.{each_more, each_unmap}
use Rattle.law_clients.proofs.Rows.{found_each, inside_each, rise_is, differ_of}
use Rattle.law_clients.specs.Database.{Called, Found, Database, NotFound, NotReturned, Same, Returned, is_listed}
use Rattle.law_clients.specs.OnlyResolves.{IsApart, OnlyResolves, IsSound}
use Rattle.law_clients.specs.Recovers.{IsUndecided, RecoversTo}
use Rattle.law_clients.specs.SessionReads.{AreCommitted, IsOfTables, ReadAlone, AreRowsAt}
use Rattle.law_clients.proofs.Resolves.{settles_refl, sound_stays}
use Rattle.law_clients.proofs.Recovers.{one_database, recovers}

---- lists of rows

-- one in the middle
middle : {A : Type 0} (P : A → Type 0) (xs : List A) (x : A) (ys : List A) → AllByRecursion P (xs ++ x ∷ ys) → P x
middle P [] x ys a = a.0
middle P (z ∷ xs) x ys a = middle P xs x ys a.1

-- with another in its place
swapped : {A : Type 0} (P : A → Type 0) (xs : List A) (x y : A) (ys : List A) → P y → AllByRecursion P (xs ++ x ∷ ys) → AllByRecursion P (xs ++ y ∷ ys)
swapped P [] x y ys p a = (p, a.1)
swapped P (z ∷ xs) x y ys p a = (a.0, swapped P xs x y ys p a.1)

-- at another key than one in the middle
among_other : (xs : List Record) (x : Record) (ys : List Record) (k : Key) → same_key k x.key ≡ false → record_among (xs ++ x ∷ ys) k ≡ record_among (xs ++ ys) k
among_other [] x ys k apart = ap (λ b. if b then Some x else record_among ys k) apart
among_other (z ∷ xs) x ys k apart = ap (λ o. if same_key k z.key then Some z else o) (among_other xs x ys k apart)

-- where none has a key
pub among_none : (rs : List Record) (k : Key) → AllByRecursion (λ r. same_key k r.key ≡ false) rs → record_among rs k ≡ None
among_none [] k a = refl
among_none (r ∷ rs) k a = ap (λ b. if b then Some r else record_among rs k) a.0 ∙ among_none rs k a.1

-- the others than one in the middle of rows that rise have other keys
pub others_apart : (xs : List Record) (x : Record) (ys : List Record) → Rise (keys_of (xs ++ x ∷ ys)) → AllByRecursion (λ r. same_key x.key r.key ≡ false) (xs ++ ys)
others_apart [] x ys h = each_less ys (each_unmap (λ q. key_cmp x.key q ≡ Less) (λ (r : Record). r.key) ys h.0)
  where
    each_less : (rs : List Record) → AllByRecursion (λ r. key_cmp x.key r.key ≡ Less) rs → AllByRecursion (λ r. same_key x.key r.key ≡ false) rs
    each_less [] a = tt
    each_less (r ∷ rs) a = (same_key_turned x.key r.key ∙ differ_of x.key r.key a.0, each_less rs a.1)
others_apart (z ∷ xs) x ys h = (differ_of z.key x.key (middle (λ (r : Record). key_cmp z.key r.key ≡ Less) xs x ys (each_unmap (λ q. key_cmp z.key q ≡ Less) (λ (r : Record). r.key) (xs ++ x ∷ ys) h.0)), others_apart xs x ys h.1)

-- rows without one in the middle still rise
rise_without : (xs : List Record) (x : Record) (ys : List Record) → Rise (keys_of (xs ++ x ∷ ys)) → Rise (keys_of (xs ++ ys))
rise_without [] x ys h = h.1
rise_without (z ∷ xs) x ys h = (each_map_drop xs h.0, rise_without xs x ys h.1)
  where
    each_map_drop : (rs : List Record) → AllByRecursion (λ q. key_cmp z.key q ≡ Less) (keys_of (rs ++ x ∷ ys)) → AllByRecursion (λ q. key_cmp z.key q ≡ Less) (keys_of (rs ++ ys))
    each_map_drop [] a = a.1
    each_map_drop (r ∷ rs) a = (a.0, each_map_drop rs a.1)

in_without : (a : Access) (xs : List Record) (x : Record) (ys : List Record) → AllByRecursion (λ k. in_access a k ≡ true) (keys_of (xs ++ x ∷ ys)) → AllByRecursion (λ k. in_access a k ≡ true) (keys_of (xs ++ ys))
in_without a [] x ys h = h.1
in_without a (z ∷ xs) x ys h = (h.0, in_without a xs x ys h.1)

-- with another of its key in the middle they have the same keys
keys_same : (xs : List Record) (x y : Record) (ys : List Record) → y.key ≡ x.key → keys_of (xs ++ x ∷ ys) ≡ keys_of (xs ++ y ∷ ys)
keys_same [] x y ys e = ap (λ k. k ∷ keys_of ys) (sym e)
keys_same (z ∷ xs) x y ys e = ap (λ ks. z.key ∷ ks) (keys_same xs x y ys e)

-- one in the middle is found
found_middle : (xs : List Record) (x : Record) (ys : List Record) → Rise (keys_of (xs ++ x ∷ ys)) → record_among (xs ++ x ∷ ys) x.key ≡ Some x
found_middle xs x ys h = middle (λ r. record_among (xs ++ x ∷ ys) r.key ≡ Some r) xs x ys (found_each (xs ++ x ∷ ys) h)

module _ (catalog : List Table) (apart : IsApart catalog) (a : Access) (tables : IsOfTables catalog a) (now : ℤ) where
  -- a row is in the database
  row_present : (g : Database) (xs : List Record) (x : Record) (ys : List Record) → AreRowsAt g a (xs ++ x ∷ ys) → (in_access a x.key ≡ true) × (g x.key ≡ Some x)
  row_present g xs x ys s =
      let within = middle (λ (r : Record). in_access a r.key ≡ true) xs x ys (each_unmap (λ k. in_access a k ≡ true) (λ (r : Record). r.key) (xs ++ x ∷ ys) s.place.1) in
      (within, sym (s.all x.key within) ∙ found_middle xs x ys s.place.0)

  -- Each row is committed, or the first that isn't is looked up.
  settles_on : (g : Database) (images left : List Record) → IsSound catalog g → AreRowsAt g a (images ++ left) → AreCommitted images → ReadAlone catalog g a now (settle images left)
  settles_on g images [] sound s firm = (subst (AreRowsAt g a) (append-nil images) s, firm)
  settles_on g images (r ∷ left) sound s firm = by (is_transactional r) refl (is_in state.Committed r.columns) refl (checked r.columns) refl
      (λ f. settles_on g (images ++ r ∷ []) left sound (subst (AreRowsAt g a) (sym (append_assoc images (r ∷ []) left)) s) (each_more (λ x. is_in state.Committed x.columns ≡ true) images r firm f))
    where
      here : (in_access a r.key ≡ true) × (g r.key ≡ Some r)
      here = row_present g images r left s

      is_write : is_transactional r ≡ true
      is_write = sound.accepted r.key r (tables r.key here.0) here.1

      G : Kind → Type 0
      G k = ReadAlone catalog g a now (settle_one k images r left (settle (images ++ r ∷ []) left))

      by : (t : Bool) → is_transactional r ≡ t → (c : Bool) → is_in state.Committed r.columns ≡ c → (m : Result Meta (List ℕ)) → checked r.columns ≡ m → (is_in state.Committed r.columns ≡ true → ReadAlone catalog g a now (settle (images ++ r ∷ []) left)) → G (kind_of r)
      by false e c f m h rest = false_true (sym e ∙ is_write)
      by true e true f m h rest = subst G (sym (ap (λ b. if b then (if is_in state.Committed r.columns then Firm else opened (checked r.columns)) else Bad) e ∙ ap (λ b. if b then Firm else opened (checked r.columns)) f)) (rest f)
      by true e false f (Ok meta) h rest = subst G (sym (ap (λ b. if b then (if is_in state.Committed r.columns then Firm else opened (checked r.columns)) else Bad) e ∙ ap (λ b. if b then Firm else opened (checked r.columns)) f ∙ ap opened h))
          (s, firm, record { present = here.1; listed = tables r.key here.0; unresolved = and_both (is_transactional r) _ is_write (ap not f); says = h; phase = tt })
      by true e false f (Err name) h rest = false_true (sym (ap is_ok h) ∙ and_second (are_stored r.columns) (is_ok (checked r.columns)) is_write)

---- the first reply

key_itself : (k q : Key) → q ≡ k → in_access (access.Get k) q ≡ true
key_itself k q e = sym (same_key_is k q) ∙ same_key_of k q (sym e)

key_place : (k : Key) (x : Record) → x.key ≡ k → AreInOrder (access.Get k) (keys_of (x ∷ []))
key_place k x e = ((tt, tt), (key_itself k x.key e, tt))

key_is : (k q : Key) → in_access (access.Get k) q ≡ true → q ≡ k
key_is k q e = sym (same_key_exact k q (same_key_is k q ∙ e))

get_on : (catalog : List Table) → IsApart catalog → (now : ℤ) (g : Database) → IsSound catalog g → (k : Key) → IsOfTables catalog (access.Get k) → (o : Option Record) → g k ≡ o → ReadAlone catalog g (access.Get k) now (answered (reply.Found o))
get_on catalog apart now g sound k tables None e = (record { place = (tt, tt); all = λ q within. sym (ap g (key_is k q within) ∙ e) }, tt)
get_on catalog apart now g sound k tables (Some x) e = settles_on catalog apart (access.Get k) tables now g [] (x ∷ []) sound (record {
  place = key_place k x (sound.own k x e);
  all = λ q within. ap (λ b. if b then Some x else None) (same_key_of q x.key (key_is k q within ∙ sym (sound.own k x e))) ∙ sym (ap g (key_is k q within) ∙ e);
}) tt

asked_on : (catalog : List Table) → IsApart catalog → (now : ℤ) (g h : Database) → IsSound catalog g → (a : Access) → IsOfTables catalog a → (r : Reply) → Called (request_of a) r g h → Same g h × ReadAlone catalog g a now (answered r)
asked_on catalog apart now g h sound (access.Get k) tables r (same, Found replied) = (same, subst (λ x. ReadAlone catalog g (access.Get k) now (answered x)) (sym replied) (get_on catalog apart now g sound k tables (g k) refl))
asked_on catalog apart now g h sound (access.Get k) tables r (same, NotFound (inl replied)) = (same, subst (λ x. ReadAlone catalog g (access.Get k) now (answered x)) (sym replied) tt)
asked_on catalog apart now g h sound (access.Get k) tables r (same, NotFound (inr replied)) = (same, subst (λ x. ReadAlone catalog g (access.Get k) now (answered x)) (sym replied) tt)
asked_on catalog apart now g h sound (access.Scan span) tables r (same, Returned rows replied at inside) = (
  same,
  subst (λ x. ReadAlone catalog g (access.Scan span) now (answered x)) (sym replied) (settles_on catalog apart (access.Scan span) tables now g [] rows sound (record {
    place = (rise_is rows (and_first (rise rows) (list_all (λ r. in_span span r.key) rows) inside), inside_each span rows (and_second (rise rows) (list_all (λ r. in_span span r.key) rows) inside));
    all = at;
  }) tt),
)
asked_on catalog apart now g h sound (access.Scan span) tables r (same, NotReturned (inl replied)) = (same, subst (λ x. ReadAlone catalog g (access.Scan span) now (answered x)) (sym replied) tt)
asked_on catalog apart now g h sound (access.Scan span) tables r (same, NotReturned (inr replied)) = (same, subst (λ x. ReadAlone catalog g (access.Scan span) now (answered x)) (sym replied) tt)

---- a reply to a recovery

module _ (catalog : List Table) (apart : IsApart catalog) (now : ℤ) (g h : Database) (a : Access) (tables : IsOfTables catalog a) (images : List Record) (rec : Record) (meta : Meta) (left : List Record) (rows : AreRowsAt g a (images ++ rec ∷ left)) (firm : AreCommitted images) where
  -- at another key of the access all is as it was
  module _ (others : (k : Key) → is_listed catalog k ≡ true → k ≢ rec.key → h k ≡ g k) where
    elsewhere : (k : Key) → in_access a k ≡ true → same_key k rec.key ≡ false → k ≢ rec.key → record_among (images ++ left) k ≡ h k
    elsewhere k within apart_key differs = sym (among_other images rec left k apart_key) ∙ rows.all k within ∙ sym (others k (tables k within) differs)

    -- the record is as before
    rows_stay : h rec.key ≡ Some rec → AreRowsAt h a (images ++ rec ∷ left)
    rows_stay present = record {
      place = rows.place;
      all = λ k within. elim (same_key_decides k rec.key) [
        | inl e ↦ ap (record_among (images ++ rec ∷ left)) e.1 ∙ found_middle images rec left rows.place.0 ∙ sym (ap h e.1 ∙ present)
        | inr n ↦ among_other images rec left k n.0 ∙ elsewhere k within n.0 n.1
      ];
    }

    -- it is gone
    rows_without : h rec.key ≡ None → AreRowsAt h a (images ++ left)
    rows_without present = record {
      place = (rise_without images rec left rows.place.0, in_without a images rec left rows.place.1);
      all = λ k within. elim (same_key_decides k rec.key) [
        | inl e ↦ ap (record_among (images ++ left)) e.1 ∙ among_none (images ++ left) rec.key (others_apart images rec left rows.place.0) ∙ sym (ap h e.1 ∙ present)
        | inr n ↦ elsewhere k within n.0 n.1
      ];
    }

    -- its image is in its place
    rows_with : (b : Record) → b.key ≡ rec.key → h rec.key ≡ Some b → AreRowsAt h a ((images ++ b ∷ []) ++ left)
    rows_with b key present = subst (AreRowsAt h a) (sym (append_assoc images (b ∷ []) left)) (record {
      place = place;
      all = λ k within. elim (same_key_decides k rec.key) [
        | inl e ↦ ap (record_among (images ++ b ∷ left)) (e.1 ∙ sym key) ∙ found_middle images b left place.0 ∙ sym (ap h e.1 ∙ present)
        | inr n ↦ among_other images b left k (ap (same_key k) key ∙ n.0) ∙ elsewhere k within n.0 n.1
      ];
    })
      where
        place : AreInOrder a (keys_of (images ++ b ∷ left))
        place = subst (AreInOrder a) (keys_same images rec b left key) rows.place

  resolved_on : ((k : Key) (r : Record) → h k ≡ Some r → r.key ≡ k) → IsSound catalog h → is_unresolved rec ≡ true → checked rec.columns ≡ Ok meta → (n : RecoverPhase × RecoverStep) → RecoversTo catalog g h rec meta now n → ReadAlone catalog h a now (resolved images rec meta left n)
  resolved_on own sound loose says (p, steps.More) x = (rows_stay x.others x.leads_to.present, firm, x.leads_to)
  resolved_on own sound loose says (p, steps.Image None) x = settles_on catalog apart a tables now h images left sound (rows_without x.others x.leads_to.0) firm
  resolved_on own sound loose says (p, steps.Image (Some b)) x = settles_on catalog apart a tables now h (images ++ b ∷ []) left sound (rows_with x.others b (own rec.key b x.leads_to.0) x.leads_to.0) (each_more (λ r. is_in state.Committed r.columns ≡ true) images b firm x.leads_to.1)
  resolved_on own sound loose says (p, steps.Busy id at) x = (within, record { r = rec; meta = meta; present = x.leads_to.4; unresolved = loose; says = says; writer = x.leads_to.0; moment = x.leads_to.1; undecided = subst (IsUndecided h) (sym x.leads_to.0) x.leads_to.2; early = x.leads_to.3 })
    where
      within : in_access a rec.key ≡ true
      within = (row_present catalog apart a tables now g images rec left rows).0
  resolved_on own sound loose says (p, steps.Faulted) x = tt
  resolved_on own sound loose says (p, steps.BadRecord key) x = absurd x.leads_to
  resolved_on own sound loose says (p, steps.NoMemory) x = tt

-- Whatever call of a read is pending, and whatever its reply.
pub reads : (catalog : List Table) → IsApart catalog → (a : Access) → IsOfTables catalog a → (before now : ℤ) → is_moment now ≡ true → (g h : Database) (s : ReadStage) (q : Request) (r : Reply) → IsSound catalog g → ((k : Key) (x : Record) → h k ≡ Some x → x.key ≡ k)
    → ReadAlone catalog g a before s → read_pending_at (request_of a) s ≡ Some q → Called q r g h → OnlyResolves catalog g h × ReadAlone catalog h a now (read_step s now r)
reads catalog apart a tables before now time g h Asking q r sound own alone asked called =
    let x = asked_on catalog apart now g h sound a tables r (subst (λ y. Called y r g h) (sym (some_is (request_of a) q asked)) called) in
    subst (λ y. OnlyResolves catalog g y × ReadAlone catalog y a now (read_step Asking now r)) (one_database g h x.0) (settles_refl catalog g, x.1)
reads catalog apart a tables before now time g h (Resolving images rec meta p left) q r sound own alone asked called =
    let x = recovers catalog apart rec meta now time g h p q r sound alone.2 asked called in
    (x.resolves, resolved_on catalog apart now g h a tables images rec meta left alone.0 alone.1 own (sound_stays catalog g h x.resolves sound own) alone.2.unresolved alone.2.says (recover_next rec meta p now r) x)
reads catalog apart a tables before now time g h (Ended s) q r sound own alone asked called = none_some q asked
