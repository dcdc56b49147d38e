-- One transaction of the order: the tables before it agree with what it noted, and the tables after it are the next.
use Rattle.std.proofs.Common.{◌≡◌, ℕ, zero, suc, Bool, true, false, List, [], ◌∷◌, ◌++◌, map, Option, Some, None, refl, sym, ap, subst, ◌∙◌}
use Rattle.std.specs.Prelude.{slice_get, find, filter, not, ◌||◌, if◌then◌else◌}
use Rattle.std.specs.List.{list_any, AllByRecursion}
use Rattle.std.specs.Option.{option_map, option_and_then}
use Rattle.std.specs.FinMap.{get}
use Rattle.std.proofs.lemmas.Option.{slice_get-map}
use Rattle.law_clients.specs.Types.{Key, Pair, Read, Record, Scan, TxId, Write}
use Rattle.sdb_types.specs.Contents.{in_span}
use Rattle.sdb_record.specs.Moved.{version_of}
use Rattle.sdb_record.specs.Rolls.{row_of_change}
use Rattle.sdb_record.specs.Among.{version_among, write_among, is_written}
use Rattle.sdb_model.specs.Exec.{Tables}
use Rattle.sdb_snapshot.specs.Reads.{base_at}
use Rattle.sdb_snapshot.specs.Rows.{row_found, with_own}
use Rattle.sdb_snapshot.specs.Seen.{Seen}
use Rattle.sdb_snapshot.proofs.Public.{get_own, own_row}
use Rattle.sdb_model.specs.ReadSet.{ReadItem, KeyRead, SpanRead, version_read}
use Rattle.law_protocol.specs.Plan.{Plan, write_at, written, version_read_at, number_of}
use Rattle.law_protocol.specs.History.{History, or_else}
use Rattle.law_protocol.specs.Serial.{last_writer, row_left, if_written, ReadsSerial}
use Rattle.sdb_phases.specs.Work.{Work}
use Rattle.law_clients.specs.Owner.{plan_of, items_of_work, checked_items, own_items}
use Rattle.law_protocol.specs.Lawful.{Labelled}
use Rattle.law_clients.specs.Reads.{IsFoundOk, IsReadOk, SeenOk}
use Rattle.law_clients.specs.Body.{ReadAgrees, ScanAgrees, AgreesAll}
use Rattle.law_clients.specs.Left.{AreLeft, AreAfter}
use Rattle.sdb_types.proofs.Public.{all_each as each_any, same_key_self}
use Rattle.sdb_types.specs.Order.{same_key}

---- places of notes

abbrev IsPlaced : {A : Type 0} → List A → A → Type 0
IsPlaced xs x = (i : ℕ) × (slice_get xs i ≡ Some x)

pass : {A : Type 0} (y : A) (xs : List A) (x : A) → IsPlaced xs x → IsPlaced (y ∷ xs) x
pass y xs x p = (suc p.0, p.1)

placed : {A : Type 0} (xs : List A) → AllByRecursion (IsPlaced xs) xs
placed [] = tt
placed (x ∷ xs) = ((zero, refl), each_any (IsPlaced xs) (IsPlaced (x ∷ xs)) xs (λ y p. pass x xs y p) (placed xs))

placed_filter : {A : Type 0} (t : A → Bool) (xs : List A) → AllByRecursion (λ x. t x ≡ true → IsPlaced (filter t xs) x) xs
placed_filter t [] = tt
placed_filter {A = A} t (x ∷ xs) = by (t x) refl (placed_filter t xs)
  where
    clash : false ≡ true → ⊥
    clash e = cc

    by : (b : Bool) → t x ≡ b → AllByRecursion (λ y. t y ≡ true → IsPlaced (filter t xs) y) xs → (t x ≡ true → IsPlaced (if b then x ∷ filter t xs else filter t xs) x) × AllByRecursion (λ y. t y ≡ true → IsPlaced (if b then x ∷ filter t xs else filter t xs) y) xs
    by true e ih = (λ h. (zero, refl), each_any (λ y. t y ≡ true → IsPlaced (filter t xs) y) (λ y. t y ≡ true → IsPlaced (x ∷ filter t xs) y) xs (λ y p h. pass x (filter t xs) y (p h)) ih)
    by false e ih = (λ h. absurd (clash (sym e ∙ h)), ih)

placed_map : {A B : Type 0} (f : A → B) (xs : List A) (x : A) → IsPlaced xs x → IsPlaced (map f xs) (f x)
placed_map f xs x p = (p.0, slice_get-map f xs p.0 ∙ ap (option_map f) p.1)

placed_front : {A : Type 0} (xs ys : List A) (x : A) → IsPlaced xs x → IsPlaced (xs ++ ys) x
placed_front {A = A} xs ys x p = (p.0, by xs p.0 p.1)
  where
    none_some : (x : A) → ◌≡◌ {A = Option A} None (Some x) → ⊥
    none_some x e = cc

    by : (xs : List A) (i : ℕ) → slice_get xs i ≡ Some x → slice_get (xs ++ ys) i ≡ Some x
    by [] i e = absurd (none_some x e)
    by (z ∷ zs) zero e = e
    by (z ∷ zs) (suc i) e = by zs i e

placed_back : {A : Type 0} (xs ys : List A) (y : A) → IsPlaced ys y → IsPlaced (xs ++ ys) y
placed_back [] ys y p = p
placed_back (x ∷ xs) ys y p = pass x (xs ++ ys) y (placed_back xs ys y p)

reads_placed : (p : Work) → AllByRecursion (λ r. IsPlaced (items_of_work p) (KeyRead r)) p.reads
reads_placed p = both p.reads (placed_filter (λ (r : Read). not (is_written p.writes r.key)) p.reads) (placed_filter (λ (r : Read). is_written p.writes r.key) p.reads)
  where
    at : (r : Read) (b : Bool) → is_written p.writes r.key ≡ b → (not (is_written p.writes r.key) ≡ true → IsPlaced (filter (λ (r : Read). not (is_written p.writes r.key)) p.reads) r) → (is_written p.writes r.key ≡ true → IsPlaced (filter (λ (r : Read). is_written p.writes r.key) p.reads) r) → IsPlaced (items_of_work p) (KeyRead r)
    at r true e x y = placed_back (checked_items p) (own_items p) (KeyRead r) (placed_map KeyRead (filter (λ (r : Read). is_written p.writes r.key) p.reads) r (y e))
    at r false e x y = placed_front (checked_items p) (own_items p) (KeyRead r) (placed_front (map KeyRead (filter (λ (r : Read). not (is_written p.writes r.key)) p.reads)) (map SpanRead p.scans) (KeyRead r) (placed_map KeyRead (filter (λ (r : Read). not (is_written p.writes r.key)) p.reads) r (x (ap not e))))

    both : (rs : List Read) → AllByRecursion (λ r. not (is_written p.writes r.key) ≡ true → IsPlaced (filter (λ (r : Read). not (is_written p.writes r.key)) p.reads) r) rs → AllByRecursion (λ r. is_written p.writes r.key ≡ true → IsPlaced (filter (λ (r : Read). is_written p.writes r.key) p.reads) r) rs → AllByRecursion (λ r. IsPlaced (items_of_work p) (KeyRead r)) rs
    both [] a b = tt
    both (r ∷ rs) a b = (at r (is_written p.writes r.key) refl a.0 b.0, both rs a.1 b.1)

scans_placed : (p : Work) → AllByRecursion (λ x. IsPlaced (items_of_work p) (SpanRead x)) p.scans
scans_placed p = each_any (IsPlaced p.scans) (λ x. IsPlaced (items_of_work p) (SpanRead x)) p.scans (λ x q. placed_front (checked_items p) (own_items p) (SpanRead x) (placed_back (map KeyRead (filter (λ (r : Read). not (is_written p.writes r.key)) p.reads)) (map SpanRead p.scans) (SpanRead x) (placed_map SpanRead p.scans x q))) (placed p.scans)

---- what is noted there

noted_at : (p : Work) (i : ℕ) (n : ReadItem) (k : Key) → slice_get (items_of_work p) i ≡ Some n → version_read_at (plan_of p) i k ≡ option_map number_of (version_read n k)
unfolding version_read_at
noted_at p i n k e = ap (λ o. option_map number_of (option_and_then (λ x. version_read x k) o)) e

read_noted : (r : Read) → option_map number_of (version_read (KeyRead r) r.key) ≡ Some (number_of r.version)
read_noted r = ap (λ b. option_map number_of (if b then Some r.version else None)) (same_key_self r.key)

scan_noted : (x : Scan) (q : Key) → in_span x.span q ≡ true → option_map number_of (version_read (SpanRead x) q) ≡ Some (number_of (version_among x.found q))
scan_noted x q e = ap (λ b. option_map number_of (if b then Some (version_among x.found q) else None)) e

-- where no record was found, there is no version
unfound : (rs : List Read) (q : Key) → list_any (λ (r : Read). same_key q r.key) rs ≡ false → version_among rs q ≡ None
unfound [] q e = refl
unfound (r ∷ rs) q e = by (same_key q r.key) e (λ h. unfound rs q h)
  where
    by : (b : Bool) → (b || list_any (λ (r : Read). same_key q r.key) rs) ≡ false → (list_any (λ (r : Read). same_key q r.key) rs ≡ false → version_among rs q ≡ None) → option_and_then (λ (x : Read). x.version) (if b then Some r else find (λ (x : Read). same_key q x.key) rs) ≡ None
    by true e ih = absurd (cc (e))
    by false e ih = ih e

---- the tables before it agree

found_row : (plan : ℕ → Plan) (s : Seen) (k : Key) (v : Option TxId) → AreLeft plan s → version_of (base_at s.read_set k) ≡ v → row_found (base_at s.read_set k) ≡ row_left plan k (number_of v)
found_row plan s k v left e = by (base_at s.read_set k) refl e
  where
    by : (o : Option Record) → base_at s.read_set k ≡ o → version_of o ≡ v → row_found o ≡ row_left plan k (number_of v)
    by None at e = ap (λ x. row_left plan k (number_of x)) e
    by (Some b) at e = let c = left k b at in c.2 ∙ ap (λ x. row_left plan k (number_of x)) (sym c.1 ∙ e)

serial_at : (plan : ℕ → Plan) (w : History) (front back : List ℕ) (t : ℕ) (p : Work) (d : Tables) (i : ℕ) (k : Key) (n : ReadItem) (found : Option ℕ) → ReadsSerial plan w (front ++ t ∷ back) → plan t ≡ plan_of p → AreAfter plan front d → slice_get (items_of_work p) i ≡ Some n → option_map number_of (version_read n k) ≡ Some found → row_left plan k found ≡ get d k
serial_at plan w front back t p d i k n found serial is after at says = serial front t back refl i k found (ap (λ (x : Plan). version_read_at x i k) is ∙ noted_at p i n k at ∙ says) ∙ sym (after.row k)

pub agrees : (plan : ℕ → Plan) (w : History) (past : List Labelled) (front back : List ℕ) (t : ℕ) (p : Work) (s : Seen) (d : Tables) → ReadsSerial plan w (front ++ t ∷ back) → plan t ≡ plan_of p → p.reads ≡ s.reads → p.scans ≡ s.scans → SeenOk past s → AreLeft plan s → AreAfter plan front d → AgreesAll s d
agrees plan w past front back t p s d serial is reads scans seen left after = record {
  reads = by_reads s.reads seen.reads (subst (λ rs. AllByRecursion (λ r. IsPlaced (items_of_work p) (KeyRead r)) rs) reads (reads_placed p));
  scans = by_scans s.scans seen.found (subst (λ xs. AllByRecursion (λ x. IsPlaced (items_of_work p) (SpanRead x)) xs) scans (scans_placed p));
}
  where
    by_reads : (rs : List Read) → AllByRecursion (IsReadOk s.read_set) rs → AllByRecursion (λ r. IsPlaced (items_of_work p) (KeyRead r)) rs → AllByRecursion (ReadAgrees s d) rs
    by_reads [] v a = tt
    by_reads (r ∷ rs) v a = (found_row plan s r.key r.version left (sym v.0.1) ∙ serial_at plan w front back t p d a.0.0 r.key (KeyRead r) (number_of r.version) serial is after a.0.1 (read_noted r), by_reads rs v.1 a.1)

    by_scans : (xs : List Scan) → AllByRecursion (IsFoundOk s.read_set) xs → AllByRecursion (λ x. IsPlaced (items_of_work p) (SpanRead x)) xs → AllByRecursion (ScanAgrees s d) xs
    by_scans [] v a = tt
    by_scans (x ∷ xs) v a = (
      λ q inside. (
        λ f. found_row plan s q (version_among x.found q) left (v.0 q f).1 ∙ serial_at plan w front back t p d a.0.0 q (SpanRead x) (number_of (version_among x.found q)) serial is after a.0.1 (scan_noted x q inside),
        λ f. sym (ap (λ y. row_left plan q (number_of y)) (sym (unfound x.found q f)) ∙ serial_at plan w front back t p d a.0.0 q (SpanRead x) (number_of (version_among x.found q)) serial is after a.0.1 (scan_noted x q inside)),
      ),
      by_scans xs v.1 a.1,
    )

---- and the tables after it are the next

last_more : (plan : ℕ → Plan) (k : Key) (front : List ℕ) (t : ℕ) → last_writer plan k (front ++ t ∷ []) ≡ or_else (if_written t (written (plan t) k)) (last_writer plan k front)
last_more plan k [] t = sym (or_none (if_written t (written (plan t) k)))
  where
    or_none : (o : Option ℕ) → or_else o None ≡ o
    or_none None = refl
    or_none (Some x) = refl
last_more plan k (u ∷ us) t = ap (λ o. or_else o (if_written u (written (plan u) k))) (last_more plan k us t) ∙ or_or (if_written t (written (plan t) k)) (last_writer plan k us) (if_written u (written (plan u) k))
  where
    or_or : (a b c : Option ℕ) → or_else (or_else a b) c ≡ or_else a (or_else b c)
    or_or None b c = refl
    or_or (Some x) b c = refl

abbrev write_or : Key → Option Write → Write
write_or k o = Rattle.std.specs.Prelude.unwrap_or o (record { key = k; base = None; change = Rattle.sdb_record.specs.declared.write.Change.TheVariants.Delete })

-- the row of the write that is found
abbrev row_there : Key → Option Write → Option (List Pair)
row_there k o = row_of_change (write_or k o).change

pub next : (plan : ℕ → Plan) (front : List ℕ) (t : ℕ) (p : Work) (s : Seen) (d : Tables) → plan t ≡ plan_of p → p.writes ≡ s.writes → AreAfter plan front d → AreAfter plan (front ++ t ∷ []) (with_own d s.writes)
unfolding written write_at
next plan front t p s d is writes after = record { row = row }
  where
    there : (k : Key) → write_among (plan t).writes k ≡ write_among s.writes k
    there k = ap (λ (x : Plan). write_among x.writes k) is ∙ ap (λ ws. write_among ws k) writes

    row : (k : Key) → get (with_own d s.writes) k ≡ row_left plan k (last_writer plan k (front ++ t ∷ []))
    row k = get_own d s.writes k ∙ by (write_among s.writes k) (there k) ∙ ap (row_left plan k) (sym (last_more plan k front t))
      where
        by : (o : Option Write) → write_among (plan t).writes k ≡ o → own_row o (get d k) ≡ row_left plan k (or_else (if_written t (option_map (λ (w : Write). number_of (version_of w.base)) (write_among (plan t).writes k))) (last_writer plan k front))
        by None e = after.row k ∙ ap (λ x. row_left plan k (or_else (if_written t (option_map (λ (w : Write). number_of (version_of w.base)) x)) (last_writer plan k front))) (sym e)
        by (Some w) e = ap (row_there k) (sym e) ∙ ap (λ x. row_left plan k (or_else (if_written t (option_map (λ (w : Write). number_of (version_of w.base)) x)) (last_writer plan k front))) (sym e)
