-- Scans at the places of their spans.
use Rattle.std.proofs.Common.{◌≡◌, ℕ, zero, suc, ◌+◌, Bool, true, false, not, ◌||◌, cond, List, [], ◌∷◌, ◌++◌, length, take, Option, Some, refl, sym, ap, subst, ◌∙◌}
use Rattle.std.specs.Prelude.{Result, Ok, Err, OnOk, OnErr, find}
use Rattle.std.specs.Option.{option_map_or}
use Rattle.std.proofs.lemmas.List.Folds.{find_at}
use Rattle.sdb_snapshot.specs.Types.{Scan, Span}
use Rattle.sdb_types.specs.Exactness.{span_is_exact}
use Rattle.sdb_types.proofs.Public.{by_test, clash, false_by, one_more, or_second, some_is}
use Rattle.sdb_snapshot.specs.Sets.{HaveFirstIndexes, first_scan, is_scan_at}
use Rattle.sdb_snapshot.specs.Seen.{is_scanned, same_span}

-- of two equal spans both were scanned or none
same_scanned : (scans : List Scan) (k q : Span) (b : Bool) → same_span k q ≡ true → is_scanned scans k ≡ b → is_scanned scans q ≡ b
same_scanned scans k q b t h = subst (λ (x : Span). is_scanned scans x ≡ b) ((span_is_exact k q).0 t) h

---- a prefix

first_step : (b s t : Bool) (m n : ℕ) → (b || s) ≡ true → (s ≡ true → (t ≡ true) × (m ≡ n)) → ((b || t) ≡ true) × (cond (not b) (1 + m) 0 ≡ cond (not b) (1 + n) 0)
first_step true s t m n h g = (refl, refl)
first_step false s t m n h g = let r = g h in (r.0, ap (λ k. 1 + k) r.1)

-- a span that was scanned among the first scans has its first scan among them
scanned_first : (scans : List Scan) (n : ℕ) (q : Span) → is_scanned (take n scans) q ≡ true → (is_scanned scans q ≡ true) × (first_scan (take n scans) q ≡ first_scan scans q)
scanned_first [] zero q h = absurd (cc)
scanned_first [] (suc n) q h = absurd (cc)
scanned_first (x ∷ xs) zero q h = absurd (cc)
scanned_first (x ∷ xs) (suc n) q h =
    first_step (same_span x.span q) (is_scanned (take n xs) q) (is_scanned xs q) (first_scan (take n xs) q) (first_scan xs q) h (scanned_first xs n q)

pub places_first : (scans : List Scan) (n : ℕ) (place : Span → Option ℕ) → HaveFirstIndexes scans place → HaveFirstIndexes (take n scans) place
places_first scans n place h q s = let r = scanned_first scans n q s in h q r.0 ∙ ap Some (sym r.1)

---- a scan more

last_step : (b s : Bool) (m n : ℕ) → (b || s) ≡ true → (s ≡ true → m ≡ n) → cond (not b) (1 + m) 0 ≡ cond (not b) (1 + n) 0
last_step true s m n h g = refl
last_step false s m n h g = ap (λ k. 1 + k) (g h)

first_before : (scans : List Scan) (x : Scan) (q : Span) → is_scanned scans q ≡ true → first_scan (scans ++ x ∷ []) q ≡ first_scan scans q
first_before [] x q h = absurd (cc)
first_before (y ∷ ys) x q h = last_step (same_span y.span q) (is_scanned ys q) (first_scan (ys ++ x ∷ []) q) (first_scan ys q) h (first_before ys x q)

new_step : (b s : Bool) (m n : ℕ) → (b || s) ≡ false → (s ≡ false → m ≡ n) → cond (not b) (1 + m) 0 ≡ suc n
new_step true s m n h g = absurd (cc)
new_step false s m n h g = ap (λ k. 1 + k) (g h) ∙ one_more n

first_new : (scans : List Scan) (x : Scan) (q : Span) → is_scanned scans q ≡ false → same_span x.span q ≡ true → first_scan (scans ++ x ∷ []) q ≡ length scans
first_new [] x q h t = ap (λ b. cond (not b) (1 + 0) 0) t
first_new (y ∷ ys) x q h t = new_step (same_span y.span q) (is_scanned ys q) (first_scan (ys ++ x ∷ []) q) (length ys) h (λ g. first_new ys x q g t)

or_step : (b s t : Bool) → (b || s) ≡ true → (s ≡ true → t ≡ true) → (b || t) ≡ true
or_step true s t h g = refl
or_step false s t h g = g h

or_none : (b : Bool) → (b || false) ≡ true → b ≡ false → false ≡ true
or_none true h f = sym f ∙ h
or_none false h f = h

scanned_before : (scans : List Scan) (x : Scan) (q : Span) → same_span x.span q ≡ false → is_scanned (scans ++ x ∷ []) q ≡ true → is_scanned scans q ≡ true
scanned_before [] x q f h = or_none (same_span x.span q) h f
scanned_before (y ∷ ys) x q f h = or_step (same_span y.span q) (is_scanned (ys ++ x ∷ []) q) (is_scanned ys q) h (scanned_before ys x q f)

-- of a span that was not scanned, with its place
places_new : (scans : List Scan) (x : Scan) (place next : Span → Option ℕ) → is_scanned scans x.span ≡ false → HaveFirstIndexes scans place
    → ((q : Span) → next q ≡ cond (same_span x.span q) (Some (length scans)) (place q)) → HaveFirstIndexes (scans ++ x ∷ []) next
places_new scans x place next new h is q s =
    by_test (same_span x.span q)
    (λ t. is q ∙ ap (λ b. cond b (Some (length scans)) (place q)) t ∙ ap Some (sym (first_new scans x q (same_scanned scans x.span q false t new) t)))
    (λ f. let old = scanned_before scans x q f s in
    is q ∙ ap (λ b. cond b (Some (length scans)) (place q)) f ∙ h q old ∙ ap Some (sym (first_before scans x q old)))

-- a place of a span that was not scanned
places_stale : (scans : List Scan) (k : Span) (n : ℕ) (place next : Span → Option ℕ) → is_scanned scans k ≡ false → HaveFirstIndexes scans place
    → ((q : Span) → next q ≡ cond (same_span k q) (Some n) (place q)) → HaveFirstIndexes scans next
places_stale scans k n place next new h is q s =
    by_test (same_span k q)
    (λ t. clash (sym s ∙ same_scanned scans k q false t new))
    (λ f. is q ∙ ap (λ b. cond b (Some n) (place q)) f ∙ h q s)

-- of a span that was scanned
places_again : (scans : List Scan) (x : Scan) (place : Span → Option ℕ) → is_scanned scans x.span ≡ true → HaveFirstIndexes scans place → HaveFirstIndexes (scans ++ x ∷ []) place
places_again scans x place old h q s =
    let scanned : is_scanned scans q ≡ true = by_test (same_span x.span q) (λ t. same_scanned scans x.span q true t old) (λ f. scanned_before scans x q f s) in
    h q scanned ∙ ap Some (sym (first_before scans x q scanned))

-- whether or not the scan could be put
pub places_pushed : {A E : Type 0} (r : Result A E) (scans later : List Scan) (x : Scan) (place : Span → Option ℕ) → is_scanned scans x.span ≡ true → HaveFirstIndexes scans place
    → OnOk r (later ≡ scans ++ x ∷ []) → OnErr r (later ≡ scans) → HaveFirstIndexes later place
places_pushed (Ok a) scans later x place old h ok err = subst (λ (xs : List Scan). HaveFirstIndexes xs place) (sym ok) (places_again scans x place old h)
places_pushed (Err e) scans later x place old h ok err = subst (λ (xs : List Scan). HaveFirstIndexes xs place) (sym err) h

pub places_opened : {A E : Type 0} (r : Result A E) (scans later : List Scan) (x : Scan) (place next : Span → Option ℕ) → is_scanned scans x.span ≡ false → HaveFirstIndexes scans place
    → ((q : Span) → next q ≡ cond (same_span x.span q) (Some (length scans)) (place q)) → OnOk r (later ≡ scans ++ x ∷ []) → OnErr r (later ≡ scans) → HaveFirstIndexes later next
places_opened (Ok a) scans later x place next new h is ok err = subst (λ (xs : List Scan). HaveFirstIndexes xs next) (sym ok) (places_new scans x place next new h is)
places_opened (Err e) scans later x place next new h is ok err = subst (λ (xs : List Scan). HaveFirstIndexes xs next) (sym err) (places_stale scans x.span (length scans) place next new h is)

---- a span is looked up

found_step : (b s : Bool) (x : Scan) (q : Span) (o : Option Scan) → same_span x.span q ≡ b → (b || s) ≡ true → (s ≡ true → (y : Scan) × (o ≡ Some y) × (same_span y.span q ≡ true))
    → (y : Scan) × (cond b (Some x) o ≡ Some y) × (same_span y.span q ≡ true)
found_step true s x q o t h g = (x, refl, t)
found_step false s x q o t h g = g h

scan_found : (scans : List Scan) (q : Span) → is_scanned scans q ≡ true → (y : Scan) × (find (λ s. same_span s.span q) scans ≡ Some y) × (same_span y.span q ≡ true)
scan_found [] q h = absurd (cc)
scan_found (x ∷ xs) q h = found_step (same_span x.span q) (is_scanned xs q) x q (find (λ (s : Scan). same_span s.span q) xs) refl h (scan_found xs q)

-- the first scan of a span is of that span
stands_first : (scans : List Scan) (q : Span) → is_scanned scans q ≡ true → is_scan_at scans (first_scan scans q) q ≡ true
stands_first scans q h =
    let y = scan_found scans q h in
    ap (λ (o : Option Scan). option_map_or (λ s. same_span s.span q) o false) (sym (find_at (λ (s : Scan). same_span s.span q) scans) ∙ y.1) ∙ y.2

-- a span with a scan at some place was scanned
stands_anywhere : (scans : List Scan) (i : ℕ) (q : Span) → is_scan_at scans i q ≡ true → is_scanned scans q ≡ true
stands_anywhere [] zero q h = absurd (cc)
stands_anywhere [] (suc i) q h = absurd (cc)
stands_anywhere (x ∷ xs) zero q h = ap (λ b. b || is_scanned xs q) h
stands_anywhere (x ∷ xs) (suc i) q h = or_second (same_span x.span q) (is_scanned xs q) (stands_anywhere xs i q h)

pub looked_up : (scans : List Scan) (place : Span → Option ℕ) (q : Span) (i : ℕ) → HaveFirstIndexes scans place → place q ≡ Some i → is_scan_at scans i q ≡ is_scanned scans q
looked_up scans place q i h at =
    by_test (is_scanned scans q)
    (λ t. let first : i ≡ first_scan scans q = some_is i (first_scan scans q) (sym at ∙ h q t) in
    ap (λ n. is_scan_at scans n q) first ∙ stands_first scans q t ∙ sym t)
    (λ f. false_by (is_scan_at scans i q) (λ t. clash (sym (stands_anywhere scans i q t) ∙ f)) ∙ sym f)
