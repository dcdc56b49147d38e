-- What is so of what a transaction has read and written is kept by each read and by each write, and is what its COMMIT needs.
use Rattle.std.proofs.Common.{ℕ, ◌≡◌, ◌≢◌, ◌<◌, ◌^◌, ℤ, Bool, true, false, cond, List, [], ◌∷◌, ◌++◌, Option, Some, None, IfSome, refl, sym, ap, subst, ◌∙◌, ◌⊎◌, inl, inr}
use Rattle.std.specs.Prelude.{is_some, ◌&&◌, ◌||◌, ◌==◌, find, not, if◌then◌else◌}
use Rattle.std.specs.List.{AllByRecursion, list_any}
use Rattle.std.specs.Option.{option_and_then, option_map}
use Rattle.std.proofs.lemmas.List.Folds.{list_any-append}
use Rattle.sdb_types.proofs.Public.{all_each as each_any, and_both, key_exact, or_else, same_key_exact, same_key_self, same_key_decides}
use Rattle.std.specs.Ordering.{is_eq, is_lt}
use Rattle.std.specs.declared.cmp.Ordering.TheVariants.{Less}
use Rattle.law_clients.specs.Types.{Access, Key, Keyed, Read, Record, Scan, Span, TxId, Write}
use Rattle.sdb_types.specs.Order.{key_cmp, same_key}
use Rattle.sdb_types.specs.Contents.{in_span, record_among}
use Rattle.sdb_snapshot.specs.Entries.{value_at}
use Rattle.sdb_record.specs.declared.access.Access.TheVariants as access
use Rattle.sdb_record.specs.Meta.{id_in, is_moment}
use Rattle.sdb_record.specs.Moved.{version_of, same_version}
use Rattle.sdb_record.specs.Rolls.{IsBaseOf, IsWrite}
use Rattle.sdb_record.specs.Among.{version_among}
use Rattle.law_protocol.specs.Lawful.{Labelled, IsSettled}
use Rattle.sdb_phases.specs.Checks.{base_of}
use Rattle.sdb_snapshot.specs.Reads.{ReadRecord, IsUnmoved, has_changed, is_key_read, base_at, with_read_record, with_images, reads_of}
use Rattle.sdb_snapshot.specs.Written.{AreChanges, HaveBases}
use Rattle.sdb_snapshot.specs.Seen.{Seen, nothing, with_get, with_scan, with_written}
use Rattle.sdb_snapshot.proofs.Public.{Keeps, kept_get, kept_scan, kept_writes, read_images, or_there, value_last}
use Rattle.sdb_validate.specs.Rescan.{reads_rise, starts_behind}
use Rattle.law_clients.specs.Reads.{VersionSettled, IsReadThere, IsReadItemOk, IsReadOk, IsScanOk, IsFoundOk, is_found, was_read, was_found, SeenOk, first_image, with_read, MayRecord, work_of, ReadAgrees, Sound, Settled}
use Rattle.law_clients.specs.ReadAt.{IsImage, IsOfData, Rise, AreInOrder, keys_of}
use Rattle.law_clients.proofs.Lists.{each_both, each_more, each_unmap}
use Rattle.law_clients.proofs.Rows.{settled_later}
use Rattle.sdb_model.specs.Tables.{is_data}

---- what stays

pub version_later : (past : List Labelled) (q : Labelled) (k : Key) (v : Option TxId) → VersionSettled past k v → VersionSettled (q ∷ past) k v
version_later past q k None h = tt
version_later past q k (Some u) h = (h.0, settled_later past q k h.0 h.1, h.2)

note_later : (past : List Labelled) (q : Labelled) (e : ReadRecord) → IsReadItemOk past e → IsReadItemOk (q ∷ past) e
note_later past q (k, None) h = (h.0, tt)
note_later past q (k, Some b) h = (h.0, settled_later past q k b h.1)

pub seen_later : (past : List Labelled) (q : Labelled) (s : Seen) → SeenOk past s → SeenOk (q ∷ past) s
seen_later past q s ok = record {
  kept = ok.kept;
  found = ok.found;
  as_read = ok.as_read;
  read_set = each_any (IsReadItemOk past) (IsReadItemOk (q ∷ past)) s.read_set (λ e h. note_later past q e h) ok.read_set;
  reads = ok.reads;
  scans = each_any (IsScanOk past) (IsScanOk (q ∷ past)) s.scans (λ x h. (h.0, λ k inside. ((h.1 k inside).0, version_later past q k (version_among x.found k) (h.1 k inside).1))) ok.scans;
}

pub seen_nothing : (past : List Labelled) → SeenOk past nothing
seen_nothing past = record { kept = record { read = λ q w. absurd (cc (w)); bases = tt; valid = tt; based = tt; once = tt }; read_set = tt; reads = tt; scans = tt; found = tt; as_read = λ q n. absurd (cc (n)) }

---- read items

read_keeps : (read_set later : List ReadRecord) (r : Read) → Keeps read_set later → IsReadOk read_set r → IsReadOk later r
read_keeps read_set later r keeps ok = (ap is_some (keeps r.key ok.0) ∙ ok.0, ok.1 ∙ ap (λ o. version_of (option_and_then (λ x. x) o)) (sym (keeps r.key ok.0)))

reads_keep : (read_set later : List ReadRecord) (rs : List Read) → Keeps read_set later → AllByRecursion (IsReadOk read_set) rs → AllByRecursion (IsReadOk later) rs
reads_keep read_set later rs keeps all = each_any (IsReadOk read_set) (IsReadOk later) rs (λ r ok. read_keeps read_set later r keeps ok) all

found_keeps : (read_set later : List ReadRecord) (x : Scan) → Keeps read_set later → IsFoundOk read_set x → IsFoundOk later x
found_keeps read_set later x keeps ok q f = (ap is_some (keeps q (ok q f).0) ∙ (ok q f).0, ap (λ o. version_of (option_and_then (λ y. y) o)) (keeps q (ok q f).0) ∙ (ok q f).1)

scans_keep : (read_set later : List ReadRecord) (xs : List Scan) → Keeps read_set later → AllByRecursion (IsFoundOk read_set) xs → AllByRecursion (IsFoundOk later) xs
scans_keep read_set later xs keeps all = each_any (IsFoundOk read_set) (IsFoundOk later) xs (λ x ok. found_keeps read_set later x keeps ok) all

-- one read more, or one scan more
read_more : (rs : List Read) (xs : List Scan) (r : Read) (q : Key) → ((was_read rs q || was_found xs q) ≡ true) ⊎ (same_key q r.key ≡ true) → (was_read (rs ++ r ∷ []) q || was_found xs q) ≡ true
read_more rs xs r q h = ap (λ b. b || was_found xs q) (list_any-append (λ (y : Read). same_key q y.key) rs (r ∷ [])) ∙ by (was_read rs q) (same_key q r.key) (was_found xs q) h
  where
    by : (a b c : Bool) → ((a || c) ≡ true) ⊎ (b ≡ true) → ((a || (b || false)) || c) ≡ true
    by a b c h = grind (Rattle.std.proofs.Common.arith)

scan_more : (rs : List Read) (xs : List Scan) (x : Scan) (q : Key) → ((was_read rs q || was_found xs q) ≡ true) ⊎ ((in_span x.span q && is_found x q) ≡ true) → (was_read rs q || was_found (xs ++ x ∷ []) q) ≡ true
scan_more rs xs x q h = ap (λ b. was_read rs q || b) (list_any-append (λ (y : Scan). in_span y.span q && is_found y q) xs (x ∷ [])) ∙ by (was_read rs q) (in_span x.span q && is_found x q) (was_found xs q) h
  where
    by : (a b c : Bool) → ((a || c) ≡ true) ⊎ (b ≡ true) → (a || (c || (b || false))) ≡ true
    by a b c h = grind (Rattle.std.proofs.Common.arith)

none_is : {A : Type 0} (o : Option A) → is_some o ≡ false → o ≡ None
none_is None h = refl
none_is (Some x) h = absurd (cc)

-- what was noted last, at a key that was not noted
last_read : (read_set : List ReadRecord) (k : Key) (f : Option Record) → is_key_read read_set k ≡ false → value_at (read_set ++ (k, f) ∷ []) k ≡ Some f
last_read read_set k f free = value_last read_set k f k ∙ ap (λ o. or_else o (cond (same_key k k) (Some f) None)) (none_is (value_at read_set k) free) ∙ ap (λ b. cond b (Some f) None) (same_key_self k)

---- a get

first_base : (past : List Labelled) (k : Key) (images : List Record) → AllByRecursion (IsImage past) images → AreInOrder (access.Get k) (keys_of images) → IfSome (first_image images) (λ b. IsBaseOf k b × IsSettled past k b)
first_base past k [] all place = tt
first_base past k (b ∷ bs) all place =
    let same : b.key ≡ k = sym (key_exact k b.key (tied_is (key_cmp k b.key) place.1.0)) in
    ((same, all.0.1, all.0.2), subst (λ x. IsSettled past x b) same all.0.0)
  where
    tied_is : (o : Rattle.std.specs.declared.cmp.Ordering.Ordering) → is_eq o ≡ true → o ≡ Rattle.std.specs.declared.cmp.Ordering.TheVariants.Equal
    tied_is Less h = absurd (cc)
    tied_is Rattle.std.specs.declared.cmp.Ordering.TheVariants.Equal h = refl
    tied_is Rattle.std.specs.declared.cmp.Ordering.TheVariants.Greater h = absurd (cc)

get_noted : (past : List Labelled) (s : Seen) (k : Key) (f : Option Record) → SeenOk past s → is_data k ≡ true → is_key_read s.read_set k ≡ false → IfSome f (λ b. IsBaseOf k b × IsSettled past k b) → SeenOk past (with_get s k f)
get_noted past s k f ok outside free found = record {
  kept = kept_get s.read_set s.writes k f ok.kept (base f found);
  read_set = each_more (IsReadItemOk past) s.read_set (k, f) ok.read_set (outside, settled f found);
  reads = each_more (IsReadOk later) s.reads (record { key = k; version = version_of f }) (reads_keep s.read_set later s.reads (λ q h. value_last s.read_set k f q ∙ or_there (value_at s.read_set q) (cond (same_key q k) (Some f) None) h) ok.reads) (ap is_some (last_read s.read_set k f free), ap (λ o. version_of (option_and_then (λ x. x) o)) (sym (last_read s.read_set k f free)));
  scans = ok.scans;
  found = scans_keep s.read_set later s.scans (λ q h. value_last s.read_set k f q ∙ or_there (value_at s.read_set q) (cond (same_key q k) (Some f) None) h) ok.found;
  as_read = λ q n. read_more s.reads s.scans (record { key = k; version = version_of f }) q (by q (value_at s.read_set q) (same_key q k) refl refl (ap is_some (sym (value_last s.read_set k f q)) ∙ n));
}
  where
    by : (q : Key) (o : Option (Option Record)) (b : Bool) → value_at s.read_set q ≡ o → same_key q k ≡ b → is_some (or_else o (cond b (Some f) None)) ≡ true → ((was_read s.reads q || was_found s.scans q) ≡ true) ⊎ (same_key q k ≡ true)
    by q (Some x) b e t n = inl (ok.as_read q (ap is_some e))
    by q None true e t n = inr t
    by q None false e t n = absurd (cc (n))

    later : List ReadRecord
    later = s.read_set ++ (k, f) ∷ []

    base : (o : Option Record) → IfSome o (λ b. IsBaseOf k b × IsSettled past k b) → IfSome o (IsBaseOf k)
    base None h = tt
    base (Some b) h = h.0

    settled : (o : Option Record) → IfSome o (λ b. IsBaseOf k b × IsSettled past k b) → IfSome o (IsSettled past k)
    settled None h = tt
    settled (Some b) h = h.1

---- a scan

-- each image of a table
abbrev IsTableImage : List Labelled → Record → Type 0
IsTableImage past b = IsImage past b × (is_data b.key ≡ true)

notes_images : (past : List Labelled) (read_set : List ReadRecord) (rs : List Record) → AllByRecursion (IsReadItemOk past) read_set → AllByRecursion (IsTableImage past) rs → AllByRecursion (IsReadItemOk past) (with_images read_set rs)
notes_images past read_set [] n i = n
notes_images past read_set (r ∷ rs) n i = notes_images past (with_read_record read_set r.key (Some r)) rs (by (is_key_read read_set r.key)) i.1
  where
    by : (b : Bool) → AllByRecursion (IsReadItemOk past) (if b then read_set else read_set ++ (r.key, Some r) ∷ [])
    by true = n
    by false = each_more (IsReadItemOk past) read_set (r.key, Some r) n (i.0.1, i.0.0.0)

pub rise_read : (rs : List Record) → Rise (keys_of rs) → reads_rise (reads_of rs) ≡ true
rise_read [] h = refl
rise_read (r ∷ rs) h = ap (λ b. b && reads_rise (reads_of rs)) (starts rs h.0) ∙ rise_read rs h.1
  where
    starts : (xs : List Record) → AllByRecursion (λ q. key_cmp r.key q ≡ Less) (keys_of xs) → starts_behind r.key (reads_of xs) ≡ true
    starts [] a = refl
    starts (x ∷ xs) a = ap is_lt a.0

version_here : (past : List Labelled) (k : Key) (b : Record) (v : Option TxId) → IsSettled past k b → id_in b.columns ≡ v → VersionSettled past k v
version_here past k b None s e = tt
version_here past k b (Some u) s e = (b, s, e)

version_read : (past : List Labelled) (rs : List Record) (k : Key) → AllByRecursion (IsImage past) rs → VersionSettled past k (version_among (reads_of rs) k)
version_read past [] k all = tt
version_read past (r ∷ rs) k all = by (same_key_decides k r.key) (version_read past rs k all.1)
  where
    by : ((same_key k r.key ≡ true) × (k ≡ r.key)) ⊎ ((same_key k r.key ≡ false) × (k ≢ r.key)) → VersionSettled past k (version_among (reads_of rs) k) → VersionSettled past k (version_among (reads_of (r ∷ rs)) k)
    by (inl x) ih = subst (λ b. VersionSettled past k (option_and_then (λ (y : Read). y.version) (if b then Some (record { key = r.key; version = version_of (Some r) }) else find (λ (y : Read). same_key k y.key) (reads_of rs)))) (sym x.0) (version_here past k r (id_in r.columns) (subst (λ y. IsSettled past y r) (sym x.1) all.0.0) refl)
    by (inr x) ih = subst (λ b. VersionSettled past k (option_and_then (λ (y : Read). y.version) (if b then Some (record { key = r.key; version = version_of (Some r) }) else find (λ (y : Read). same_key k y.key) (reads_of rs)))) (sym x.0) ih

-- the version of what a scan found at a key
pub version_found : (rs : List Record) (q : Key) → version_among (reads_of rs) q ≡ version_of (record_among rs q)
version_found [] q = refl
version_found (r ∷ rs) q = by (same_key q r.key) (version_found rs q)
  where
    by : (b : Bool) → version_among (reads_of rs) q ≡ version_of (record_among rs q) → option_and_then (λ (y : Read). y.version) (if b then Some (record { key = r.key; version = id_in r.columns }) else find (λ (y : Read). same_key q y.key) (reads_of rs)) ≡ version_of (if b then Some r else record_among rs q)
    by true ih = refl
    by false ih = ih

-- a scan found a record where it is among its records
found_is : (rs : List Record) (q : Key) → list_any (λ (r : Read). same_key q r.key) (reads_of rs) ≡ is_some (record_among rs q)
found_is [] q = refl
found_is (r ∷ rs) q = by (same_key q r.key) (found_is rs q)
  where
    by : (b : Bool) → list_any (λ (x : Read). same_key q x.key) (reads_of rs) ≡ is_some (record_among rs q) → (b || list_any (λ (x : Read). same_key q x.key) (reads_of rs)) ≡ is_some (if b then Some r else record_among rs q)
    by true ih = refl
    by false ih = ih

-- and lies in its span
found_inside : (span : Span) (rs : List Record) (q : Key) → AllByRecursion (λ k. in_span span k ≡ true) (keys_of rs) → is_some (record_among rs q) ≡ true → in_span span q ≡ true
found_inside span [] q all h = absurd (cc (h))
found_inside span (r ∷ rs) q all h = by (same_key q r.key) refl h (λ e. found_inside span rs q all.1 e)
  where
    by : (b : Bool) → same_key q r.key ≡ b → is_some (if b then Some r else record_among rs q) ≡ true → (is_some (record_among rs q) ≡ true → in_span span q ≡ true) → in_span span q ≡ true
    by true t e ih = subst (λ k. in_span span k ≡ true) (sym (same_key_exact q r.key t)) all.0
    by false t e ih = ih e

same_is_one : (a b : Option TxId) → same_version a b ≡ true → a ≡ b
same_is_one None None h = refl
same_is_one None (Some b) h = absurd (cc (h))
same_is_one (Some a) None h = absurd (cc (h))
same_is_one (Some a) (Some b) h = ap (λ n. Some (record { 0 = n })) (equal a.0 b.0 h)
  where
    equal : (x y : ℕ) → (x == y) ≡ true → x ≡ y
    equal x y h = grind (Rattle.std.proofs.Common.arith, Rattle.std.proofs.lemmas.Bool.Decides.nat_tests)

-- what a scan that differs nowhere found is noted
found_noted : (read_set : List ReadRecord) (span : Span) (rs : List Record) → IsUnmoved read_set span rs → AllByRecursion (λ k. in_span span k ≡ true) (keys_of rs) → IsFoundOk (with_images read_set rs) (record { span = span; found = reads_of rs })
found_noted read_set span rs unmoved inside q f = by (value_at read_set q) (record_among rs q) refl refl
  where
    there : is_some (record_among rs q) ≡ true
    there = sym (found_is rs q) ∙ f

    not_false : (b : Bool) → not b ≡ false → b ≡ true
    not_false true e = refl
    not_false false e = absurd (cc (e))

    by : (o : Option (Option Record)) (p : Option Record) → value_at read_set q ≡ o → record_among rs q ≡ p → (is_key_read (with_images read_set rs) q ≡ true) × (version_of (base_at (with_images read_set rs) q) ≡ version_among (reads_of rs) q)
    by o None e g = absurd (clash (sym there ∙ ap is_some g))
      where
        clash : true ≡ false → ⊥
        clash x = cc
    by None (Some b) e g =
        let at : value_at (with_images read_set rs) q ≡ Some (Some b) = read_images read_set rs q ∙ ap (λ x. or_else x (option_map Some (record_among rs q))) e ∙ ap (option_map Some) g in
        (ap is_some at, ap (λ x. version_of (option_and_then (λ y. y) x)) at ∙ sym (version_found rs q ∙ ap version_of g))
    by (Some x) (Some b) e g =
        let at : value_at (with_images read_set rs) q ≡ Some x = read_images read_set rs q ∙ ap (λ y. or_else y (option_map Some (record_among rs q))) e in
        let same : same_version (version_of x) (version_of (record_among rs q)) ≡ true = not_false (same_version (version_of x) (version_of (record_among rs q))) (sym (ap (λ y. has_changed y (record_among rs q)) e) ∙ unmoved q (found_inside span rs q inside there)) in
        (ap is_some at, ap (λ y. version_of (option_and_then (λ z. z) y)) at ∙ same_is_one (version_of x) (version_of (record_among rs q)) same ∙ sym (version_found rs q))

scan_noted : (past : List Labelled) (s : Seen) (span : Span) (rs : List Record) → SeenOk past s → IsOfData (access.Scan span) → IsUnmoved s.read_set span rs → AllByRecursion (IsImage past) rs → AreInOrder (access.Scan span) (keys_of rs) → SeenOk past (with_scan s span rs)
scan_noted past s span rs ok tables unmoved all place = record {
  kept = kept_scan s.read_set s.writes rs ok.kept (each_any (IsImage past) (λ r. IsBaseOf r.key r) rs (λ r i. (refl, i.1, i.2)) all);
  read_set = notes_images past s.read_set rs ok.read_set (each_both (IsImage past) (λ r. in_span span r.key ≡ true) (IsTableImage past) rs (λ r i inside. (i, tables r.key inside)) all (each_unmap (λ k. in_span span k ≡ true) (λ (r : Record). r.key) rs place.1));
  reads = reads_keep s.read_set (with_images s.read_set rs) s.reads (λ q h. read_images s.read_set rs q ∙ or_there (value_at s.read_set q) _ h) ok.reads;
  scans = each_more (IsScanOk past) s.scans (record { span = span; found = reads_of rs }) ok.scans (rise_read rs place.0, λ k inside. (tables k inside, version_read past rs k all));
  found = each_more (IsFoundOk (with_images s.read_set rs)) s.scans (record { span = span; found = reads_of rs }) (scans_keep s.read_set (with_images s.read_set rs) s.scans (λ q h. read_images s.read_set rs q ∙ or_there (value_at s.read_set q) _ h) ok.found) (found_noted s.read_set span rs unmoved place.1);
  as_read = λ q n. scan_more s.reads s.scans (record { span = span; found = reads_of rs }) q (by q (value_at s.read_set q) (record_among rs q) refl refl (ap is_some (sym (read_images s.read_set rs q)) ∙ n));
}
  where
    by : (q : Key) (o : Option (Option Record)) (p : Option Record) → value_at s.read_set q ≡ o → record_among rs q ≡ p → is_some (or_else o (option_map Some (record_among rs q))) ≡ true → ((was_read s.reads q || was_found s.scans q) ≡ true) ⊎ ((in_span span q && list_any (λ (r : Read). same_key q r.key) (reads_of rs)) ≡ true)
    by q (Some x) p e g n = inl (ok.as_read q (ap is_some e))
    by q None (Some b) e g n = inr (and_both (in_span span q) (list_any (λ (r : Read). same_key q r.key) (reads_of rs)) (found_inside span rs q place.1 (ap is_some g)) (found_is rs q ∙ ap is_some g))
    by q None None e g n = absurd (clash (sym (ap (λ y. is_some (option_map Some y)) g) ∙ n))
      where
        clash : false ≡ true → ⊥
        clash x = cc

-- A read that is done is noted.
pub read_noted : (past : List Labelled) (s : Seen) (a : Access) (images : List Record) → SeenOk past s → IsOfData a → MayRecord s a images → AllByRecursion (IsImage past) images → AreInOrder a (keys_of images) → SeenOk past (with_read s a images)
read_noted past s (access.Get k) images ok tables free all place = get_noted past s k (first_image images) ok (tables k (ap is_eq (Rattle.std.specs.Cmp.tied_itself Rattle.sdb_types.proofs.Public.key_total k))) free (first_base past k images all place)
read_noted past s (access.Scan span) images ok tables free all place = scan_noted past s span images ok tables free all place

-- Changes of keys that were read may be written.
pub write_kept : (past : List Labelled) (s : Seen) (changes : List Keyed) → SeenOk past s → AreChanges s.read_set changes → SeenOk past (with_written s changes)
write_kept past s changes ok valid = record {
  kept = kept_writes s.read_set s.writes changes ok.kept valid;
  read_set = ok.read_set;
  reads = ok.reads;
  scans = ok.scans;
  found = ok.found;
  as_read = ok.as_read;
}

---- as the COMMIT takes it

-- what is noted at a key
value_says : (past : List Labelled) (read_set : List ReadRecord) (k : Key) (f : Option Record) → AllByRecursion (IsReadItemOk past) read_set → value_at read_set k ≡ Some f → IsReadItemOk past (k, f)
value_says past [] k f all h = absurd (cc)
value_says past (e ∷ es) k f all h = by (same_key k e.0) refl h (λ s. value_says past es k f all.1 s)
  where
    some_is : (x y : Option Record) → Some x ≡ Some y → x ≡ y
    some_is x y s = cc

    by : (b : Bool) → same_key k e.0 ≡ b → cond b (Some e.1) (value_at es k) ≡ Some f → (value_at es k ≡ Some f → IsReadItemOk past (k, f)) → IsReadItemOk past (k, f)
    by true t s ih = subst (IsReadItemOk past) (sym (both (same_key_exact k e.0 t) (some_is e.1 f s))) all.0
      where
        both : k ≡ e.0 → e.1 ≡ f → (k, f) ≡ e
        both x y = ap (λ q. (q, f)) x ∙ ap (λ o. (e.0, o)) (sym y)
    by false t s ih = ih s

noted_table : (past : List Labelled) (read_set : List ReadRecord) (k : Key) → AllByRecursion (IsReadItemOk past) read_set → is_key_read read_set k ≡ true → is_data k ≡ true
noted_table past read_set k all h = by (value_at read_set k) refl h
  where
    by : (o : Option (Option Record)) → value_at read_set k ≡ o → is_some o ≡ true → is_data k ≡ true
    by None e s = absurd (cc (s))
    by (Some f) e s = (value_says past read_set k f all e).0

pub base_settled : (past : List Labelled) (read_set : List ReadRecord) (k : Key) (b : Record) → AllByRecursion (IsReadItemOk past) read_set → base_at read_set k ≡ Some b → IsSettled past k b
base_settled past read_set k b all h = by (value_at read_set k) refl h
  where
    some_is : (x y : Record) → Some x ≡ Some y → x ≡ y
    some_is x y s = cc

    by : (o : Option (Option Record)) → value_at read_set k ≡ o → option_and_then (λ x. x) o ≡ Some b → IsSettled past k b
    by None e s = absurd (cc (s))
    by (Some None) e s = absurd (cc (s))
    by (Some (Some x)) e s = subst (IsSettled past k) (some_is x b s) (value_says past read_set k (Some x) all e).1

-- what was found was found at a key of a table
pub base_table : (past : List Labelled) (read_set : List ReadRecord) (k : Key) (b : Record) → AllByRecursion (IsReadItemOk past) read_set → base_at read_set k ≡ Some b → is_data k ≡ true
base_table past read_set k b all h = by (value_at read_set k) refl h
  where
    by : (o : Option (Option Record)) → value_at read_set k ≡ o → option_and_then (λ x. x) o ≡ Some b → is_data k ≡ true
    by None e s = absurd (cc (s))
    by (Some f) e s = (value_says past read_set k f all e).0

base_version : (past : List Labelled) (read_set : List ReadRecord) (k : Key) → AllByRecursion (IsReadItemOk past) read_set → VersionSettled past k (version_of (base_at read_set k))
base_version past read_set k all = by (base_at read_set k) refl
  where
    by : (o : Option Record) → base_at read_set k ≡ o → VersionSettled past k (version_of o)
    by None e = tt
    by (Some b) e = version_here past k b (id_in b.columns) (base_settled past read_set k b all e) refl

base_noted : (read_set : List ReadRecord) (ws : List Write) (k : Key) (v : Option TxId) → HaveBases read_set ws → base_of ws k ≡ Some v → version_of (base_at read_set k) ≡ v
base_noted read_set [] k v h e = absurd (cc)
base_noted read_set (w ∷ ws) k v h e = by (same_key k w.key) refl e (λ s. base_noted read_set ws k v h.1 s)
  where
    some_is : (x y : Option TxId) → Some x ≡ Some y → x ≡ y
    some_is x y s = cc

    by : (b : Bool) → same_key k w.key ≡ b → cond b (Some (version_of w.base)) (base_of ws k) ≡ Some v → (base_of ws k ≡ Some v → version_of (base_at read_set k) ≡ v) → version_of (base_at read_set k) ≡ v
    by true t s ih = ap (λ q. version_of (base_at read_set q)) (same_key_exact k w.key t) ∙ ap version_of (sym h.0.1) ∙ some_is (version_of w.base) v s
    by false t s ih = ih s

-- What a transaction has read and written is fit for its COMMIT.
pub sound_of : (past : List Labelled) (id : TxId) (now : ℤ) (s : Seen) → id.0 < 2 ^ 128 → is_moment now ≡ true → SeenOk past s → Sound (work_of id now s)
sound_of past id now s fits moment ok = record {
  fits = fits;
  moment = moment;
  valid = each_both IsWrite (λ w. (is_key_read s.read_set w.key ≡ true) × (w.base ≡ base_at s.read_set w.key)) (λ w. IsWrite w × (is_data w.key ≡ true)) s.writes (λ w f b. (f, noted_table past s.read_set w.key ok.read_set b.0)) ok.kept.valid ok.kept.based;
  once = ok.kept.once;
  reads = each_any (IsReadOk s.read_set) (ReadAgrees s.writes) s.reads (λ r h v e. h.1 ∙ base_noted s.read_set s.writes r.key v ok.kept.based e) ok.reads;
  scans = each_any (IsScanOk past) (λ x. reads_rise x.found ≡ true) s.scans (λ x h. h.0) ok.scans;
}

pub settled_of : (past : List Labelled) (id : TxId) (now : ℤ) (s : Seen) → SeenOk past s → Settled past (work_of id now s)
settled_of past id now s ok = record {
  bases = each_any (λ w. (is_key_read s.read_set w.key ≡ true) × (w.base ≡ base_at s.read_set w.key)) (λ w. (b : Record) → w.base ≡ Some b → IsSettled past w.key b) s.writes (λ w h b e. base_settled past s.read_set w.key b ok.read_set (sym h.1 ∙ e)) ok.kept.based;
  reads = each_any (IsReadOk s.read_set) (λ r. IsReadThere past r.key r.version) s.reads (λ r h. (noted_table past s.read_set r.key ok.read_set h.0, subst (VersionSettled past r.key) (sym h.1) (base_version past s.read_set r.key ok.read_set))) ok.reads;
  scans = each_any (IsScanOk past) (λ x. (k : Key) → in_span x.span k ≡ true → IsReadThere past k (version_among x.found k)) s.scans (λ x h. h.1) ok.scans;
}
