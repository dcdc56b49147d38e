-- Rows of a catalog once a store was given up.
use Rattle.std.proofs.Common.{◌≡◌, ◌⊎◌, inl, inr, ℕ, ◌+◌, List, [], ◌∷◌, ◌++◌, map, Bool, true, false, not, ◌&&◌, ◌||◌, cond, refl, sym, ap, subst, ◌∙◌}
use Rattle.std.specs.Prelude.{nat_lt, if◌then◌else◌}
use Rattle.std.specs.List.{list_all}
use Rattle.std.specs.Str.{bytes_eq}
use Rattle.std.proofs.lemmas.List.{map-append}
use Rattle.std.proofs.lemmas.List.Sums.{sum_by-cons}
use Rattle.sdb_contents.specs.Types.{Entry}
use Rattle.sdb_types.proofs.Public.{by_test}
use Rattle.sdb_catalog.proofs.Public.{next_fits}
use Rattle.sdb_catalog.specs.Opened.{Follow, IsEntry, agrees, fits, is_attached, is_coordinators, open_count, tables_of}
use Rattle.sdb_contents.specs.Joined.{ArePartly, AreStillAttached, settle}
use Rattle.sdb_contents.specs.Moving.{FollowMoving, agrees_moving, agrees_with_moving, renewed, settled}

pub settle_table : (from to : List ℕ) (e : Entry) → (settle from to e).table ≡ e.table
settle_table from to e = elim (bytes_eq e.store from) as (λ b. (if b then renewed to e else e).table ≡ e.table) [ true ↦ refl | false ↦ refl ]

pub settle_store : (from to : List ℕ) (e : Entry) → (settle from to e).store ≡ settled from to e.store
settle_store from to e = elim (bytes_eq e.store from) as (λ b. (if b then renewed to e else e).store ≡ (if b then to else e.store)) [ true ↦ refl | false ↦ refl ]

agrees_settle : (from to : List ℕ) (e a : Entry) → agrees (settle from to e) (settle from to a) ≡ agrees_moving from to e a
agrees_settle from to e a = rw (settle_table from to a) (rw (settle_table from to e) (rw (settle_store from to a) (rw (settle_store from to e) refl)))

all_settle : (from to : List ℕ) (e : Entry) (es : List Entry) → list_all (agrees (settle from to e)) (map (settle from to) es) ≡ list_all (agrees_moving from to e) es
all_settle from to e [] = refl
all_settle from to e (a ∷ as_) = ap (λ (b : Bool). b && list_all (agrees (settle from to e)) (map (settle from to) as_)) (agrees_settle from to e a) ∙ ap (λ (b : Bool). agrees_moving from to e a && b) (all_settle from to e as_)

coordinators_settle : (from to : List ℕ) (e : Entry) → is_coordinators (settle from to e) ≡ is_coordinators e
coordinators_settle from to e = rw (settle_table from to e) refl

count_settle : (from to : List ℕ) (es : List Entry) → open_count (map (settle from to) es) ≡ open_count es
count_settle from to [] = refl
count_settle from to (e ∷ es) =
    sum_by-cons (λ x. cond (not (is_coordinators x)) 1 0) (settle from to e) (map (settle from to) es)
    ∙ ap (λ (b : Bool). cond (not b) 1 0 + open_count (map (settle from to) es)) (coordinators_settle from to e)
    ∙ ap (λ (n : ℕ). cond (not (is_coordinators e)) 1 0 + n) (count_settle from to es)
    ∙ sym (sum_by-cons (λ x. cond (not (is_coordinators x)) 1 0) e es)

fits_settle : (from to : List ℕ) (passed : List Entry) (e : Entry) → fits (map (settle from to) passed) (settle from to e) ≡ agrees_with_moving from to passed e
fits_settle from to passed e =
    ap (λ (b : Bool). b && (is_coordinators (settle from to e) || nat_lt (open_count (map (settle from to) passed)) 64)) (all_settle from to e passed)
    ∙ ap (λ (b : Bool). list_all (agrees_moving from to e) passed && (b || nat_lt (open_count (map (settle from to) passed)) 64)) (coordinators_settle from to e)
    ∙ ap (λ (n : ℕ). list_all (agrees_moving from to e) passed && (is_coordinators e || nat_lt n 64)) (count_settle from to passed)

entry_settle : (names left : List (List ℕ)) (from to : List ℕ) (e : Entry) → AreStillAttached names left from to → IsEntry names e → IsEntry left (settle from to e)
entry_settle names left from to e still h = by_test (bytes_eq e.store from)
    (λ q. subst (IsEntry left) (sym (ap (λ (b : Bool). if b then renewed to e else e) q)) (record { table = h.table; attached = still.kept; revision = next_fits e.revision }))
    (λ q. subst (IsEntry left) (sym (ap (λ (b : Bool). if b then renewed to e else e) q)) (record { table = h.table; attached = still.others e.store h.attached q; revision = h.revision }))

-- entries that may follow one another where namespaces move may do so once they have moved
pub follow_settled : (names left : List (List ℕ)) (from to : List ℕ) (passed es : List Entry) → AreStillAttached names left from to → FollowMoving names from to passed es → Follow left (map (settle from to) passed) (map (settle from to) es)
follow_settled names left from to passed [] still h = tt
follow_settled names left from to passed (e ∷ es) still h = (
  (entry_settle names left from to e still h.0.0, fits_settle from to passed e ∙ h.0.1),
  subst (λ (l : List Entry). Follow left l (map (settle from to) es)) (map-append (settle from to) passed (e ∷ [])) (follow_settled names left from to (passed ++ e ∷ []) es still h.1),
)

-- and give the same tables
pub tables_settled : (from to : List ℕ) (es : List Entry) → tables_of (map (settle from to) es) ≡ tables_of es
tables_settled from to [] = refl
tables_settled from to (e ∷ es) = by (tables_settled from to es) (is_coordinators e) refl
  where
    by : tables_of (map (settle from to) es) ≡ tables_of es → (b : Bool) → is_coordinators e ≡ b → tables_of (map (settle from to) (e ∷ es)) ≡ tables_of (e ∷ es)
    by rest true q = rw (coordinators_settle from to e ∙ q) (rw q rest)
    by rest false q = rw (coordinators_settle from to e ∙ q) (rw q (rw (settle_table from to e) (rw rest refl)))

---- rows of which some were renewed

abbrev pub Same : List ℕ → List ℕ → Entry → Entry → Type 0
Same from to e f = (f.table ≡ e.table) × (settled from to f.store ≡ settled from to e.store)

settled_twice : (from to store : List ℕ) → settled from to (settled from to store) ≡ settled from to store
settled_twice from to store = by_test (bytes_eq store from) here (λ q. ap (settled from to) (ap (λ (b : Bool). if b then to else store) q))
  where
    stays : (b : Bool) → (if b then to else to) ≡ to
    stays true = refl
    stays false = refl

    here : bytes_eq store from ≡ true → settled from to (settled from to store) ≡ settled from to store
    here q = ap (settled from to) (ap (λ (b : Bool). if b then to else store) q) ∙ stays (bytes_eq to from) ∙ sym (ap (λ (b : Bool). if b then to else store) q)

one_partly : (from to : List ℕ) (e f : Entry) → (f ≡ e) ⊎ (f ≡ settle from to e) → Same from to e f
one_partly from to e f (inl same) = (ap (λ (x : Entry). x.table) same, ap (λ (x : Entry). settled from to x.store) same)
one_partly from to e f (inr done) =
    (ap (λ (x : Entry). x.table) done ∙ settle_table from to e, ap (λ (x : Entry). settled from to x.store) done ∙ ap (settled from to) (settle_store from to e) ∙ settled_twice from to e.store)

agrees_partly : (from to : List ℕ) (e f a b : Entry) → Same from to e f → Same from to a b → agrees_moving from to f b ≡ agrees_moving from to e a
agrees_partly from to e f a b h k = rw h.0 (rw h.1 (rw k.0 (rw k.1 refl)))

all_partly : (from to : List ℕ) (e f : Entry) (as_ bs : List Entry) → Same from to e f → ArePartly from to as_ bs → list_all (agrees_moving from to f) bs ≡ list_all (agrees_moving from to e) as_
all_partly from to e f [] [] h k = refl
all_partly from to e f [] (b ∷ bs) h k = absurd k
all_partly from to e f (a ∷ as_) [] h k = absurd k
all_partly from to e f (a ∷ as_) (b ∷ bs) h k =
    ap (λ (t : Bool). t && list_all (agrees_moving from to f) bs) (agrees_partly from to e f a b h (one_partly from to a b k.0)) ∙ ap (λ (t : Bool). agrees_moving from to e a && t) (all_partly from to e f as_ bs h k.1)

count_partly : (from to : List ℕ) (as_ bs : List Entry) → ArePartly from to as_ bs → open_count bs ≡ open_count as_
count_partly from to [] [] k = refl
count_partly from to [] (b ∷ bs) k = absurd k
count_partly from to (a ∷ as_) [] k = absurd k
count_partly from to (a ∷ as_) (b ∷ bs) k =
    sum_by-cons (λ x. cond (not (is_coordinators x)) 1 0) b bs
    ∙ ap (λ (t : Bool). cond (not t) 1 0 + open_count bs) (rw (one_partly from to a b k.0).0 refl)
    ∙ ap (λ (n : ℕ). cond (not (is_coordinators a)) 1 0 + n) (count_partly from to as_ bs k.1)
    ∙ sym (sum_by-cons (λ x. cond (not (is_coordinators x)) 1 0) a as_)

fits_partly : (from to : List ℕ) (e f : Entry) (as_ bs : List Entry) → Same from to e f → ArePartly from to as_ bs → agrees_with_moving from to bs f ≡ agrees_with_moving from to as_ e
fits_partly from to e f as_ bs h k =
    ap (λ (t : Bool). t && (is_coordinators f || nat_lt (open_count bs) 64)) (all_partly from to e f as_ bs h k)
    ∙ ap (λ (t : Bool). list_all (agrees_moving from to e) as_ && (t || nat_lt (open_count bs) 64)) (rw h.0 refl)
    ∙ ap (λ (n : ℕ). list_all (agrees_moving from to e) as_ && (is_coordinators e || nat_lt n 64)) (count_partly from to as_ bs k)

entry_partly : (names : List (List ℕ)) (from to : List ℕ) (e f : Entry) → is_attached names to ≡ true → IsEntry names e → (f ≡ e) ⊎ (f ≡ settle from to e) → IsEntry names f
entry_partly names from to e f there h (inl same) = subst (IsEntry names) (sym same) h
entry_partly names from to e f there h (inr done) = subst (IsEntry names) (sym done) (entry_settle names names from to e (record { kept = there; others = λ s a b. a }) h)

partly_more : (from to : List ℕ) (as_ bs : List Entry) (e f : Entry) → ArePartly from to as_ bs → (f ≡ e) ⊎ (f ≡ settle from to e) → ArePartly from to (as_ ++ e ∷ []) (bs ++ f ∷ [])
partly_more from to [] [] e f k h = (h, tt)
partly_more from to [] (b ∷ bs) e f k h = absurd k
partly_more from to (a ∷ as_) [] e f k h = absurd k
partly_more from to (a ∷ as_) (b ∷ bs) e f k h = (k.0, partly_more from to as_ bs e f k.1 h)

-- such rows still open where namespaces move
pub follow_partly : (names : List (List ℕ)) (from to : List ℕ) (as_ bs es fs : List Entry) → is_attached names to ≡ true → ArePartly from to as_ bs → ArePartly from to es fs → FollowMoving names from to as_ es → FollowMoving names from to bs fs
follow_partly names from to as_ bs [] [] there k g h = tt
follow_partly names from to as_ bs [] (f ∷ fs) there k g h = absurd g
follow_partly names from to as_ bs (e ∷ es) [] there k g h = absurd g
follow_partly names from to as_ bs (e ∷ es) (f ∷ fs) there k g h = (
  (entry_partly names from to e f there h.0.0 g.0, fits_partly from to e f as_ bs (one_partly from to e f g.0) k ∙ h.0.1),
  follow_partly names from to (as_ ++ e ∷ []) (bs ++ f ∷ []) es fs there (partly_more from to as_ bs e f k g.0) g.1 h.1,
)
