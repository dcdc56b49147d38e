-- One statement more, and one read more.
use Rattle.std.proofs.Common.{◌≡◌, Bool, true, false, List, [], ◌∷◌, ◌++◌, Option, Some, None, refl, sym, ap, subst, ◌∙◌, cond}
use Rattle.std.specs.Prelude.{is_some, ◌||◌, ◌&&◌}
use Rattle.std.specs.List.{AllByRecursion}
use Rattle.std.specs.Option.{option_and_then}
use Rattle.std.specs.FinMap.{get}
use Rattle.std.specs.Ordering.{is_eq}
use Rattle.law_clients.specs.Types.{Access, Answer, Key, Keyed, Read, Record, Scan, Span, Statement, Table}
use Rattle.sdb_types.specs.Order.{key_cmp, same_key}
use Rattle.sdb_types.specs.Contents.{in_span}
use Rattle.sdb_types.proofs.Public.{key_exact, same_key_exact}
use Rattle.sdb_snapshot.specs.Entries.{value_at}
use Rattle.sdb_record.specs.declared.access.Access.TheVariants as access
use Rattle.sdb_record.specs.Moved.{version_of}
use Rattle.sdb_model.specs.Exec.{Tables, exec}
use Rattle.sdb_model.specs.Access.{rows_at, with_changes}
use Rattle.sdb_model.specs.Serial.{run_body}
use Rattle.sdb_snapshot.specs.Reads.{ReadRecord, record_read_at, base_at, is_key_read, reads_of}
use Rattle.sdb_snapshot.specs.Rows.{row_found, with_own}
use Rattle.sdb_snapshot.specs.Seen.{Seen, Agrees, nothing, overlay, with_written, same_span, is_scanned}
use Rattle.sdb_snapshot.proofs.Public.{Keeps, read_images, or_there, overlay_is, own_is, value_last}
use Rattle.law_protocol.specs.Lawful.{Labelled}
use Rattle.law_clients.specs.Reads.{IsFoundOk, IsReadOk, SeenOk, first_image, is_found, was_found, was_read, with_read}
use Rattle.law_clients.proofs.Lists.{each_both}
use Rattle.law_clients.specs.Body.{ReadAgrees, ScanAgrees, AgreesAll, BodyOk, IsCovered}

---- what was read gives the rows of tables that agree

read_tells : (s : Seen) (d : Tables) (q : Key) (rs : List Read) → AllByRecursion (ReadAgrees s d) rs → was_read rs q ≡ true → row_found (base_at s.read_set q) ≡ get d q
read_tells s d q [] all h = absurd (cc (h))
read_tells s d q (r ∷ rs) all h = by (same_key q r.key) refl h (λ e. read_tells s d q rs all.1 e)
  where
    by : (b : Bool) → same_key q r.key ≡ b → (b || was_read rs q) ≡ true → (was_read rs q ≡ true → row_found (base_at s.read_set q) ≡ get d q) → row_found (base_at s.read_set q) ≡ get d q
    by true t e ih = subst (λ k. row_found (base_at s.read_set k) ≡ get d k) (sym (same_key_exact q r.key t)) all.0
    by false t e ih = ih e

scan_tells : (s : Seen) (d : Tables) (q : Key) (xs : List Scan) → AllByRecursion (ScanAgrees s d) xs → was_found xs q ≡ true → row_found (base_at s.read_set q) ≡ get d q
scan_tells s d q [] all h = absurd (cc (h))
scan_tells s d q (x ∷ xs) all h = by (in_span x.span q) (is_found x q) refl refl h (λ e. scan_tells s d q xs all.1 e)
  where
    by : (a b : Bool) → in_span x.span q ≡ a → is_found x q ≡ b → ((a && b) || was_found xs q) ≡ true → (was_found xs q ≡ true → row_found (base_at s.read_set q) ≡ get d q) → row_found (base_at s.read_set q) ≡ get d q
    by true true i f e ih = (all.0 q i).0 f
    by true false i f e ih = ih e
    by false b i f e ih = ih e

noted_tells : (past : List Labelled) (s : Seen) (d : Tables) (q : Key) → SeenOk past s → AgreesAll s d → is_key_read s.read_set q ≡ true → row_found (base_at s.read_set q) ≡ get d q
noted_tells past s d q ok all n = by (was_read s.reads q) refl (ok.as_read q n)
  where
    by : (b : Bool) → was_read s.reads q ≡ b → (b || was_found s.scans q) ≡ true → row_found (base_at s.read_set q) ≡ get d q
    by true r e = read_tells s d q s.reads all.reads r
    by false r e = scan_tells s d q s.scans all.scans e

-- in a span that was scanned
span_tells : (s : Seen) (d : Tables) (span : Span) (q : Key) (xs : List Scan) → (is_key_read s.read_set q ≡ true → row_found (base_at s.read_set q) ≡ get d q) → in_span span q ≡ true → AllByRecursion (ScanAgrees s d) xs → AllByRecursion (IsFoundOk s.read_set) xs → is_scanned xs span ≡ true → row_found (base_at s.read_set q) ≡ get d q
span_tells s d span q [] answered inside all ok h = absurd (cc (h))
span_tells s d span q (x ∷ xs) answered inside all ok h = by (same_span x.span span) refl h (λ e. span_tells s d span q xs answered inside all.1 ok.1 e)
  where
    clash : true ≡ false → ⊥
    clash e = cc

    unfound : (b : Bool) → is_found x q ≡ b → in_span x.span q ≡ true → record_read_at s.read_set q ≡ None → get d q ≡ None
    unfound true f i n = absurd (clash (sym (ok.0 q f).0 ∙ ap is_some n))
    unfound false f i n = (all.0 q i).1 f

    at : (o : Option (Option Record)) → in_span x.span q ≡ true → record_read_at s.read_set q ≡ o → row_found (base_at s.read_set q) ≡ get d q
    at None i n = ap (λ o. row_found (option_and_then (λ (found : Option Record). found) o)) n ∙ sym (unfound (is_found x q) refl i n)
    at (Some found) i n = answered (ap is_some n)

    by : (b : Bool) → same_span x.span span ≡ b → (b || is_scanned xs span) ≡ true → (is_scanned xs span ≡ true → row_found (base_at s.read_set q) ≡ get d q) → row_found (base_at s.read_set q) ≡ get d q
    by true t e ih = at (record_read_at s.read_set q) (subst (λ (y : Span). in_span y q ≡ true) (sym ((Rattle.sdb_types.specs.Exactness.span_is_exact x.span span).0 t)) inside) refl
    by false t e ih = ih e

pub access_agrees : (past : List Labelled) (s : Seen) (a : Access) (d : Tables) → SeenOk past s → IsCovered s a → AgreesAll s d → Agrees s a d
access_agrees past s (access.Get key) d ok covered all q inside = subst (λ k. row_found (base_at s.read_set k) ≡ get d k) (key_exact key q (eq_is (key_cmp key q) inside)) (noted_tells past s d key ok all covered)
  where
    eq_is : (o : Rattle.std.specs.declared.cmp.Ordering.Ordering) → is_eq o ≡ true → o ≡ Rattle.std.specs.declared.cmp.Ordering.TheVariants.Equal
    eq_is Rattle.std.specs.declared.cmp.Ordering.TheVariants.Less h = absurd (cc)
    eq_is Rattle.std.specs.declared.cmp.Ordering.TheVariants.Equal h = refl
    eq_is Rattle.std.specs.declared.cmp.Ordering.TheVariants.Greater h = absurd (cc)
access_agrees past s (access.Scan span) d ok covered all q inside = span_tells s d span q s.scans (noted_tells past s d q ok all) inside all.scans ok.found covered

---- one statement more

abbrev onto : List Table → Statement → List Answer × Tables → List Answer × Tables
onto catalog s q = (q.0 ++ (exec catalog s q.1).0 ∷ [], (exec catalog s q.1).1)

abbrev before : Answer → List Answer × Tables → List Answer × Tables
before a q = (a ∷ q.0, q.1)

run_behind : (catalog : List Table) (ss : List Statement) (s : Statement) (d : Tables) → run_body catalog (ss ++ s ∷ []) d ≡ onto catalog s (run_body catalog ss d)
run_behind catalog [] s d = refl
run_behind catalog (t ∷ ss) s d = ap (before (exec catalog t d).0) (run_behind catalog ss s (exec catalog t d).1)

-- A statement that is answered on the overlay of its access, as it is on all tables that have these rows there, and whose
-- changes are written, is one more of the body.
pub body_step : (past : List Labelled) (catalog : List Table) (fit : Tables → Bool) (body : List Statement) (answers : List Answer) (s : Seen) (statement : Statement) (a : Access) (answer : Answer) (changes : List Keyed)
    → BodyOk catalog fit body answers s → SeenOk past s → IsCovered s a
    → ((e : Tables) → fit e ≡ true → rows_at a e ≡ overlay a s → (exec catalog statement e ≡ (answer, with_changes e changes)) × (fit (with_changes e changes) ≡ true))
    → BodyOk catalog fit (body ++ statement ∷ []) (answers ++ answer ∷ []) (with_written s changes)
body_step past catalog fit body answers s statement a answer changes ok seen covered exec_is = record {
  runs = λ d f all. run_behind catalog body statement d ∙ ap (onto catalog statement) (ok.runs d f (same d all)) ∙ ap (λ (q : Answer × Tables). (answers ++ q.0 ∷ [], q.1)) (at d f (same d all)).0 ∙ ap (λ t. (answers ++ answer ∷ [], t)) (sym (own_is d s.read_set s.writes changes));
  fits = λ d f all. subst (λ t. fit t ≡ true) (sym (own_is d s.read_set s.writes changes)) (at d f (same d all)).1;
}
  where
    same : (d : Tables) → AgreesAll (with_written s changes) d → AgreesAll s d
    same d all = record { reads = all.reads; scans = all.scans }

    at : (d : Tables) → fit d ≡ true → AgreesAll s d → (exec catalog statement (with_own d s.writes) ≡ (answer, with_changes (with_own d s.writes) changes)) × (fit (with_changes (with_own d s.writes) changes) ≡ true)
    at d f all = exec_is (with_own d s.writes) (ok.fits d f all) (sym (overlay_is s a d (access_agrees past s a d seen covered all)))

-- Before the first statement nothing is asked of the tables, and they stay.
pub body_begins : (catalog : List Table) (fit : Tables → Bool) → BodyOk catalog fit [] [] nothing
body_begins catalog fit = record { runs = λ d f all. refl; fits = λ d f all. f }

---- one read more

kept_base : (read_set later : List ReadRecord) (q : Key) → Keeps read_set later → is_key_read read_set q ≡ true → base_at later q ≡ base_at read_set q
kept_base read_set later q keeps n = ap (option_and_then (λ (f : Option Record). f)) (keeps q n)

reads_back : (s later : Seen) (d : Tables) (rs : List Read) → Keeps s.read_set later.read_set → AllByRecursion (IsReadOk s.read_set) rs → AllByRecursion (ReadAgrees later d) rs → AllByRecursion (ReadAgrees s d) rs
reads_back s later d rs keeps ok all = each_both (IsReadOk s.read_set) (ReadAgrees later d) (ReadAgrees s d) rs (λ r n a. ap row_found (sym (kept_base s.read_set later.read_set r.key keeps n.0)) ∙ a) ok all

scans_back : (s later : Seen) (d : Tables) (xs : List Scan) → Keeps s.read_set later.read_set → AllByRecursion (IsFoundOk s.read_set) xs → AllByRecursion (ScanAgrees later d) xs → AllByRecursion (ScanAgrees s d) xs
scans_back s later d xs keeps ok all = each_both (IsFoundOk s.read_set) (ScanAgrees later d) (ScanAgrees s d) xs (λ x n a q inside. (λ f. ap row_found (sym (kept_base s.read_set later.read_set q keeps (n q f).0)) ∙ (a q inside).0 f, (a q inside).1)) ok all

front_of : {A : Type 0} (P : A → Type 0) (xs ys : List A) → AllByRecursion P (xs ++ ys) → AllByRecursion P xs
front_of P [] ys a = tt
front_of P (x ∷ xs) ys a = (a.0, front_of P xs ys a.1)

-- what agrees after a read agreed before it
agreed_before : (past : List Labelled) (s : Seen) (a : Access) (images : List Record) (d : Tables) → SeenOk past s → AgreesAll (with_read s a images) d → AgreesAll s d
agreed_before past s (access.Get k) images d seen all =
    let keeps : Keeps s.read_set (with_read s (access.Get k) images).read_set = λ q h. value_last s.read_set k (first_image images) q ∙ or_there (value_at s.read_set q) (cond (same_key q k) (Some (first_image images)) None) h in
    record {
      reads = reads_back s (with_read s (access.Get k) images) d s.reads keeps seen.reads (front_of (ReadAgrees (with_read s (access.Get k) images) d) s.reads (record { key = k; version = version_of (first_image images) } ∷ []) all.reads);
      scans = scans_back s (with_read s (access.Get k) images) d s.scans keeps seen.found all.scans;
    }
agreed_before past s (access.Scan span) images d seen all =
    let keeps : Keeps s.read_set (with_read s (access.Scan span) images).read_set = λ q h. read_images s.read_set images q ∙ or_there (value_at s.read_set q) _ h in
    record {
      reads = reads_back s (with_read s (access.Scan span) images) d s.reads keeps seen.reads all.reads;
      scans = scans_back s (with_read s (access.Scan span) images) d s.scans keeps seen.found (front_of (ScanAgrees (with_read s (access.Scan span) images) d) s.scans (record { span = span; found = reads_of images } ∷ []) all.scans);
    }

-- So statements so far stay as they are.
pub body_read : (past : List Labelled) (catalog : List Table) (fit : Tables → Bool) (body : List Statement) (answers : List Answer) (s : Seen) (a : Access) (images : List Record) → SeenOk past s → BodyOk catalog fit body answers s → BodyOk catalog fit body answers (with_read s a images)
body_read past catalog fit body answers s (access.Get k) images seen ok = record { runs = λ d f all. ok.runs d f (agreed_before past s (access.Get k) images d seen all); fits = λ d f all. ok.fits d f (agreed_before past s (access.Get k) images d seen all) }
body_read past catalog fit body answers s (access.Scan span) images seen ok = record { runs = λ d f all. ok.runs d f (agreed_before past s (access.Scan span) images d seen all); fits = λ d f all. ok.fits d f (agreed_before past s (access.Scan span) images d seen all) }
