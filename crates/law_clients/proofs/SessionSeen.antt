-- What an open transaction has read stays current, as more is read and written, and as unresolved records are resolved.
use Rattle.std.proofs.Common.{◌≡◌, ◌≢◌, Bool, true, false, cond, List, [], ◌∷◌, ◌++◌, Option, Some, None, IfSome, ◌⊎◌, inl, inr, refl, sym, ap, subst, ◌∙◌}
use Rattle.std.specs.Prelude.{is_some, not, ◌||◌, if◌then◌else◌}
use Rattle.std.specs.Option.{option_and_then, option_map}
use Rattle.std.specs.List.{AllByRecursion, list_any}
use Rattle.std.proofs.lemmas.List.Folds.{list_any-append}
use Rattle.law_clients.specs.Types.{Access, Key, Keyed, Record, Scan, Span, Table, TxId}
use Rattle.sdb_types.specs.declared.record.Request.TheVariants as ask
use Rattle.sdb_types.specs.declared.record.Reply.TheVariants as reply
use Rattle.sdb_types.specs.Contents.{in_span, record_among}
use Rattle.sdb_types.specs.Order.{same_key}
use Rattle.sdb_types.proofs.Public.{false_true, itself, none_some, or_else, or_false, or_true, same_key_is, same_key_of, same_key_decides, some_is}
use Rattle.sdb_snapshot.specs.Entries.{value_at}
use Rattle.sdb_record.specs.declared.access.Access.TheVariants as access
use Rattle.sdb_record.specs.Meta.{is_transactional}
use Rattle.sdb_record.specs.Moved.{same_version, version_of}
use Rattle.sdb_record.specs.Rolls.{IsBaseOf}
use Rattle.sdb_model.specs.Access.{in_access}
use Rattle.sdb_model.specs.declared.event.Event.TheVariants as event
use Rattle.sdb_model.specs.declared.event.How.TheVariants as how
use Rattle.law_protocol.specs.History.{Other}
use Rattle.law_protocol.specs.Lawful.{Itself, Labelled, labelled_with}
use Rattle.sdb_snapshot.specs.Reads.{AreBases, IsUnmoved, ReadRecord, base_at, has_changed, is_key_read, record_read_at, reads_of, with_images}
use Rattle.sdb_snapshot.specs.Seen.{Seen, with_get, with_scan, with_written}
use Rattle.sdb_snapshot.specs.Written.{AreChanges}
use Rattle.sdb_snapshot.proofs.Public.{read_images, value_last}
use Rattle.law_clients.specs.Reads.{MayRecord, SeenOk, first_image, with_read}
use Rattle.law_clients.specs.ReadAt.{IsImage, IsOfData}
use Rattle.law_clients.proofs.Lists.{each_more, each_unmap}
use Rattle.law_clients.proofs.Rows.{found_each, images_later}
use Rattle.law_clients.proofs.Seen.{read_noted, seen_later, write_kept, rise_read, version_found}
use Rattle.law_clients.specs.Database.{Database, is_committed_or_none, is_listed}
use Rattle.law_clients.specs.OnlyResolves.{IsApart, OnlyResolves, IsSound}
use Rattle.law_clients.specs.SessionReads.{AreCommitted, IsOfTables, AreRowsAt}
use Rattle.law_clients.specs.Commits.{IsScanCurrent}
use Rattle.law_clients.specs.Seen.{SeenAlone, was_covered}
use Rattle.law_clients.proofs.SessionReading.{among_none}

---- read items

-- what is noted at a key is none or a committed record of it
bases_at : (read_set : List ReadRecord) → AreBases read_set → (k : Key) (b : Record) → base_at read_set k ≡ Some b → IsBaseOf k b
bases_at [] all k b e = none_some b e
bases_at (n ∷ read_set) all k b e = by (same_key_decides k n.0) (bases_at read_set all.1 k b)
  where
    at : (f : Option Record) → n.1 ≡ f → IfSome f (IsBaseOf n.0) → k ≡ n.0 → f ≡ Some b → IsBaseOf k b
    at None h is_write s g = none_some b g
    at (Some x) h is_write s g = subst (λ q. IsBaseOf q b) (sym s) (subst (IsBaseOf n.0) (some_is x b g) is_write)

    by : ((same_key k n.0 ≡ true) × (k ≡ n.0)) ⊎ ((same_key k n.0 ≡ false) × (k ≢ n.0)) → (base_at read_set k ≡ Some b → IsBaseOf k b) → IsBaseOf k b
    by (inl s) rest = at n.1 refl all.0 s.1 (ap (λ t. option_and_then (λ x. x) (cond t (Some n.1) (value_at read_set k))) (sym s.0) ∙ e)
    by (inr s) rest = rest (ap (λ t. option_and_then (λ x. x) (cond t (Some n.1) (value_at read_set k))) (sym s.0) ∙ e)

pub base_firm : (read_set : List ReadRecord) → AreBases read_set → (k : Key) → is_committed_or_none (base_at read_set k) ≡ true
base_firm read_set all k = by (base_at read_set k) refl
  where
    by : (o : Option Record) → base_at read_set k ≡ o → is_committed_or_none o ≡ true
    by None e = refl
    by (Some b) e = (bases_at read_set all k b e).2

---- what stays

pub seen_settles : (catalog : List Table) (past : List Labelled) (g h : Database) (s : Seen) → SeenAlone catalog past g s → OnlyResolves catalog g h → SeenAlone catalog past h s
seen_settles catalog past g h s alone resolves = record {
  ok = alone.ok;
  scans = each s.scans alone.scans;
  matches = λ k covered. let x = alone.matches k covered in (x.0, resolves.firm k x.0 (ap is_committed_or_none x.1 ∙ base_firm s.read_set alone.ok.kept.bases k) ∙ x.1);
}
  where
    one : (x : Scan) → IsScanCurrent catalog g x → IsScanCurrent catalog h x
    one x a = record {
      rise = a.rise;
      outside = a.outside;
      inside = λ k within.
          let i = a.inside k within in
          let same = resolves.firm k i.0 i.1 in
          (i.0, ap is_committed_or_none same ∙ i.1, ap version_of same ∙ i.2);
    }

    each : (xs : List Scan) → AllByRecursion (IsScanCurrent catalog g) xs → AllByRecursion (IsScanCurrent catalog h) xs
    each [] a = tt
    each (x ∷ xs) a = (one x a.0, each xs a.1)

pub seen_written : (catalog : List Table) (past : List Labelled) (g : Database) (s : Seen) (changes : List Keyed) → SeenAlone catalog past g s → AreChanges s.read_set changes → SeenAlone catalog past g (with_written s changes)
seen_written catalog past g s changes alone are = record { ok = write_kept past s changes alone.ok are; scans = alone.scans; matches = alone.matches }

---- versions

among_firm : (rs : List Record) → AreCommitted rs → (k : Key) → is_committed_or_none (record_among rs k) ≡ true
among_firm [] firm k = refl
among_firm (r ∷ rs) firm k = by (same_key k r.key) (among_firm rs firm.1 k)
  where
    by : (b : Bool) → is_committed_or_none (record_among rs k) ≡ true → is_committed_or_none (if b then Some r else record_among rs k) ≡ true
    by true h = firm.0
    by false h = h

---- a read more

-- events that return some records
abbrev pub are_images : List Record → List Labelled → List Labelled
are_images [] past = past
are_images (b ∷ bs) past = labelled_with Other (event.Call 0 [] (ask.Get b.key) how.Seen (reply.Found (Some b)) None) ∷ are_images bs past

seen_later_all : (bs : List Record) (past : List Labelled) (s : Seen) → SeenOk past s → SeenOk (are_images bs past) s
seen_later_all [] past s ok = ok
seen_later_all (b ∷ bs) past s ok = seen_later (are_images bs past) (labelled_with Other (event.Call 0 [] (ask.Get b.key) how.Seen (reply.Found (Some b)) None)) s (seen_later_all bs past s ok)

images_seen : (bs : List Record) (past : List Labelled) → AreCommitted bs → AllByRecursion (λ b. is_transactional b ≡ true) bs → AllByRecursion (IsImage (are_images bs past)) bs
images_seen [] past firm accepted = tt
images_seen (b ∷ bs) past firm accepted = (
  (Itself (inl refl) refl firm.0, accepted.0, firm.0),
  images_later (are_images bs past) (labelled_with Other (event.Call 0 [] (ask.Get b.key) how.Seen (reply.Found (Some b)) None)) bs (images_seen bs past firm.1 accepted.1),
)

module _ (catalog : List Table) (apart : IsApart catalog) (past : List Labelled) (g : Database) (sound : IsSound catalog g) (s : Seen) (alone : SeenAlone catalog past g s) (a : Access) (tables : IsOfTables catalog a) (images : List Record) (rows : AreRowsAt g a images) (firm : AreCommitted images) where
  -- images pass the checks
  images_taken : AllByRecursion (λ b. is_transactional b ≡ true) images
  images_taken = each images (found_each images rows.place.0) (each_unmap (λ k. in_access a k ≡ true) (λ (r : Record). r.key) images rows.place.1)
    where
      each : (rs : List Record) → AllByRecursion (λ b. record_among images b.key ≡ Some b) rs → AllByRecursion (λ b. in_access a b.key ≡ true) rs → AllByRecursion (λ b. is_transactional b ≡ true) rs
      each [] f w = tt
      each (b ∷ rs) f w = (sound.accepted b.key b (tables b.key w.0) (sym (rows.all b.key w.0) ∙ f.0), each rs f.1 w.1)

  of_data : IsOfData a
  of_data k within = ap not (apart k (tables k within))

  -- what was noted and what the images have at a key, one after the other
  joined : (o : Option Record) → option_and_then (λ x. x) (option_map Some o) ≡ o
  joined None = refl
  joined (Some r) = refl

  none_out : (k : Key) → in_access a k ≡ false → record_among images k ≡ None
  none_out k out = among_none images k (each images (each_unmap (λ q. in_access a q ≡ true) (λ (r : Record). r.key) images rows.place.1))
    where
      each : (rs : List Record) → AllByRecursion (λ r. in_access a r.key ≡ true) rs → AllByRecursion (λ r. same_key k r.key ≡ false) rs
      each [] w = tt
      each (r ∷ rs) w = (elim (same_key_decides k r.key) [ inl e ↦ false_true (sym out ∙ ap (in_access a) e.1 ∙ w.0) | inr n ↦ n.0 ], each rs w.1)

  -- A scan finds each key that was read as it was read: it never differs.
  pub unmoved : (span : Span) → a ≡ access.Scan span → IsUnmoved s.read_set span images
  unmoved span is q within = by (record_read_at s.read_set q) refl
    where
      inside : in_access a q ≡ true
      inside = ap (λ x. in_access x q) is ∙ within

      version : (v : Option TxId) → same_version v v ≡ true
      version None = refl
      version (Some id) = itself id.0

      by : (o : Option (Option Record)) → record_read_at s.read_set q ≡ o → has_changed o (record_among images q) ≡ false
      by None e = refl
      by (Some f) e =
          let present = (alone.matches q (ap (λ b. b || list_any (λ x. in_span x.span q) s.scans) (ap is_some e))).1 in
          let same : record_among images q ≡ f = rows.all q inside ∙ present ∙ ap (option_and_then (λ x. x)) e in
          ap (λ o. not (same_version (version_of f) (version_of o))) same ∙ ap not (version (version_of f))

  -- at each key that is covered once a scan is noted
  scan_current : (span : Span) → a ≡ access.Scan span → (k : Key) → was_covered (with_scan s span images) k ≡ true → (is_listed catalog k ≡ true) × (g k ≡ base_at (with_images s.read_set images) k)
  scan_current span is k covered = by (record_read_at s.read_set k) refl
    where
      later : value_at (with_images s.read_set images) k ≡ or_else (value_at s.read_set k) (option_map Some (record_among images k))
      later = read_images s.read_set images k

      fresh : record_read_at s.read_set k ≡ None → (b : Bool) → in_access a k ≡ b → (is_listed catalog k ≡ true) × (g k ≡ record_among images k)
      fresh e true within = (tables k within, sym (rows.all k within))
      fresh e false out =
          let old = alone.matches k (before e out) in
          (old.0, old.1 ∙ ap (option_and_then (λ x. x)) e ∙ sym (none_out k out))
        where
          before : record_read_at s.read_set k ≡ None → in_access a k ≡ false → was_covered s k ≡ true
          before e out =
              let none : is_some (value_at (with_images s.read_set images) k) ≡ false = ap is_some (later ∙ ap (λ o. or_else o (option_map Some (record_among images k))) e ∙ ap (option_map Some) (none_out k out)) in
              let scans : list_any (λ x. in_span x.span k) (s.scans ++ record { span = span; found = reads_of images } ∷ []) ≡ true = sym (ap (λ b. b || list_any (λ x. in_span x.span k) (s.scans ++ record { span = span; found = reads_of images } ∷ [])) none) ∙ covered in
              let split : (list_any (λ x. in_span x.span k) s.scans || (in_span span k || false)) ≡ true = sym (list_any-append (λ (x : Scan). in_span x.span k) s.scans (record { span = span; found = reads_of images } ∷ [])) ∙ scans in
              let without : in_span span k ≡ false = sym (ap (λ x. in_access x k) is) ∙ out in
              ap (λ b. is_key_read s.read_set k || b) (sym (or_false (list_any (λ x. in_span x.span k) s.scans)) ∙ ap (λ b. list_any (λ x. in_span x.span k) s.scans || (b || false)) (sym without) ∙ split) ∙ or_true (is_key_read s.read_set k)

      by : (o : Option (Option Record)) → record_read_at s.read_set k ≡ o → (is_listed catalog k ≡ true) × (g k ≡ base_at (with_images s.read_set images) k)
      by (Some f) e =
          let old = alone.matches k (ap (λ b. b || list_any (λ x. in_span x.span k) s.scans) (ap is_some e)) in
          (old.0, old.1 ∙ sym (ap (option_and_then (λ x. x)) (later ∙ ap (λ o. or_else o (option_map Some (record_among images k))) e ∙ sym e)))
      by None e =
          let x = fresh e (in_access a k) refl in
          (x.0, x.1 ∙ sym (ap (option_and_then (λ x. x)) (later ∙ ap (λ o. or_else o (option_map Some (record_among images k))) e) ∙ joined (record_among images k)))

  -- what a scan found is current
  found_current : (span : Span) → a ≡ access.Scan span → IsScanCurrent catalog g (record { span = span; found = reads_of images })
  found_current span is = record {
    rise = rise_read images rows.place.0;
    outside = λ k out. version_found images k ∙ ap version_of (none_out k (ap (λ x. in_access x k) is ∙ out));
    inside = λ k within.
        let i : in_access a k ≡ true = ap (λ x. in_access x k) is ∙ within in
        let present : record_among images k ≡ g k = rows.all k i in
        (tables k i, ap is_committed_or_none (sym present) ∙ among_firm images firm k, ap version_of (sym present) ∙ sym (version_found images k));
  }

  pub scanned : (span : Span) → a ≡ access.Scan span → SeenAlone catalog (are_images images past) g (with_scan s span images)
  scanned span is = record {
    ok = subst (λ x. SeenOk (are_images images past) (with_read s x images)) is (read_noted (are_images images past) s a images (seen_later_all images past s alone.ok) of_data (subst (λ x. MayRecord s x images) (sym is) (unmoved span is)) (images_seen images past firm images_taken) rows.place);
    scans = each_more (IsScanCurrent catalog g) s.scans (record { span = span; found = reads_of images }) alone.scans (found_current span is);
    matches = scan_current span is;
  }

  -- and once a get is
  first_is : (key : Key) → a ≡ access.Get key → first_image images ≡ record_among images key
  first_is key is = by images (each_unmap (λ k. in_access a k ≡ true) (λ (r : Record). r.key) images rows.place.1)
    where
      by : (rs : List Record) → AllByRecursion (λ r. in_access a r.key ≡ true) rs → first_image rs ≡ record_among rs key
      by [] w = refl
      by (b ∷ rs) w = sym (ap (λ t. if t then Some b else record_among rs key) (same_key_is key b.key ∙ sym (ap (λ x. in_access x b.key) is) ∙ w.0))

  get_current : (key : Key) → a ≡ access.Get key → (k : Key) → was_covered (with_get s key (first_image images)) k ≡ true → (is_listed catalog k ≡ true) × (g k ≡ base_at (s.read_set ++ (key, first_image images) ∷ []) k)
  get_current key is k covered = by (record_read_at s.read_set k) refl (same_key_decides k key)
    where
      f : Option Record
      f = first_image images

      later : value_at (s.read_set ++ (key, f) ∷ []) k ≡ or_else (value_at s.read_set k) (cond (same_key k key) (Some f) None)
      later = value_last s.read_set key f k

      by : (o : Option (Option Record)) → record_read_at s.read_set k ≡ o → ((same_key k key ≡ true) × (k ≡ key)) ⊎ ((same_key k key ≡ false) × (k ≢ key)) → (is_listed catalog k ≡ true) × (g k ≡ base_at (s.read_set ++ (key, f) ∷ []) k)
      by (Some x) e t =
          let old = alone.matches k (ap (λ b. b || list_any (λ y. in_span y.span k) s.scans) (ap is_some e)) in
          (old.0, old.1 ∙ sym (ap (option_and_then (λ y. y)) (later ∙ ap (λ o. or_else o (cond (same_key k key) (Some f) None)) e ∙ sym e)))
      by None e (inl t) =
          let within : in_access a k ≡ true = ap (λ x. in_access x k) is ∙ sym (same_key_is key k) ∙ same_key_of key k (sym t.1) in
          (tables k within, sym (rows.all k within) ∙ ap (record_among images) t.1 ∙ sym (first_is key is) ∙ sym (ap (option_and_then (λ y. y)) (later ∙ ap (λ o. or_else o (cond (same_key k key) (Some f) None)) e ∙ ap (λ b. cond b (Some f) None) t.0)))
      by None e (inr n) =
          let none : value_at (s.read_set ++ (key, f) ∷ []) k ≡ None = later ∙ ap (λ o. or_else o (cond (same_key k key) (Some f) None)) e ∙ ap (λ b. cond b (Some f) None) n.0 in
          let scans : list_any (λ y. in_span y.span k) s.scans ≡ true = sym (ap (λ b. b || list_any (λ y. in_span y.span k) s.scans) (ap is_some none)) ∙ covered in
          let old = alone.matches k (ap (λ b. is_key_read s.read_set k || b) scans ∙ or_true (is_key_read s.read_set k)) in
          (old.0, old.1 ∙ ap (option_and_then (λ y. y)) e ∙ sym (ap (option_and_then (λ y. y)) none))

  pub gotten : (key : Key) → a ≡ access.Get key → is_key_read s.read_set key ≡ false → SeenAlone catalog (are_images images past) g (with_get s key (first_image images))
  gotten key is free = record {
    ok = subst (λ x. SeenOk (are_images images past) (with_read s x images)) is (read_noted (are_images images past) s a images (seen_later_all images past s alone.ok) of_data (subst (λ x. MayRecord s x images) (sym is) free) (images_seen images past firm images_taken) rows.place);
    scans = alone.scans;
    matches = get_current key is;
  }
