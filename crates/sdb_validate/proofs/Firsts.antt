-- The first key in key order at which rows are not what is wanted.
use Rattle.std.proofs.Common.{◌≡◌, List, [], ◌∷◌, ◌||◌, Option, Some, None, true, false, not, refl, sym, ap, ◌∙◌, cond, subst}
use Rattle.std.specs.Prelude.{Bool, filter, map, is_none}
use Rattle.std.specs.Option.{option_map}
use Rattle.std.specs.List.{list_any}
use Rattle.std.specs.Ordering.{is_eq, is_lt, ordering_reverse}
use Rattle.sdb_validate.specs.Types.{Key, Ordering, Record, Wanted}
use Rattle.std.specs.declared.cmp.Ordering.TheVariants.{Less, Equal, Greater}
use Rattle.sdb_types.specs.Order.{key_cmp, same_key}
use Rattle.sdb_types.proofs.Public.{key_exact, key_total}
use Rattle.sdb_phases.specs.Checks.{expected_at, is_fulfilled, differs, lesser, least, keys_among, first_difference}
use Rattle.std.proofs.lemmas.Bool.{not-true as not_true}
use Rattle.sdb_types.specs.Contents.{record_among}

---- orders

pub turned : (a b : Key) → key_cmp a b ≡ Greater → key_cmp b a ≡ Less
turned a b h = key_total.antisymm b a ∙ ap ordering_reverse h

---- the first difference, by what is so of it

abbrev pub IsFirst : List Wanted → List Record → Option (Key × Option Record) → Type 0
IsFirst ws rows None = (q : Key) → differs ws rows q ≡ false
IsFirst ws rows (Some d) = (d.1 ≡ record_among rows d.0) × (differs ws rows d.0 ≡ true) × ((q : Key) → key_cmp q d.0 ≡ Less → differs ws rows q ≡ false)

---- the least of the keys that pass a test

module _ (D : Key → Bool) where
  none_pass : (cs : List Key) → ((q : Key) → D q ≡ false) → filter D cs ≡ []
  none_pass [] off = refl
  none_pass (c ∷ cs) off = ap (λ b. cond b (c ∷ filter D cs) (filter D cs)) (off c) ∙ none_pass cs off

  module _ (k : Key) (lower : (q : Key) → key_cmp q k ≡ Less → D q ≡ false) where
    NotBelow : Option Key → Type 0
    NotBelow None = Unit {0}
    NotBelow (Some m) = is_lt (key_cmp m k) ≡ false

    passing : (c : Key) (o : Ordering) → key_cmp c k ≡ o → D c ≡ true → is_lt o ≡ false
    passing c Less e h = let never = lower c e in cc
    passing c Equal e h = refl
    passing c Greater e h = refl

    choice : (b : Bool) (m c : Key) → is_lt (key_cmp m k) ≡ false → is_lt (key_cmp c k) ≡ false → is_lt (key_cmp (cond b m c) k) ≡ false
    choice true m c p q = p
    choice false m c p q = q

    lesser_not_below : (c : Key) (o : Option Key) → is_lt (key_cmp c k) ≡ false → NotBelow o → NotBelow (Some (lesser c o))
    unfolding NotBelow
    lesser_not_below c None h n = h
    lesser_not_below c (Some m) h n = choice (is_lt (key_cmp m c)) m c n h

    least_not_below : (cs : List Key) → NotBelow (least (filter D cs))
    unfolding NotBelow
    least_not_below [] = tt
    least_not_below (c ∷ cs) = by_test (D c) refl (least_not_below cs) where
      by_test : (b : Bool) → D c ≡ b → NotBelow (least (filter D cs)) → NotBelow (least (cond b (c ∷ filter D cs) (filter D cs)))
      by_test true e rest = lesser_not_below c (least (filter D cs)) (passing c (key_cmp c k) refl e) rest
      by_test false e rest = rest

    keeps : (o : Option Key) → NotBelow o → lesser k o ≡ k
    unfolding NotBelow
    keeps None n = refl
    keeps (Some m) n = ap (λ b. cond b m k) n

    pub least_is : (cs : List Key) → D k ≡ true → list_any (λ c. same_key k c) cs ≡ true → least (filter D cs) ≡ Some k
    unfolding same_key
    least_is [] h among = cc
    least_is (c ∷ cs) h among = by_test (D c) refl (key_cmp k c) refl (least_is cs h) where
      by_test : (b : Bool) → D c ≡ b → (o : Ordering) → key_cmp k c ≡ o → (list_any (λ x. same_key k x) cs ≡ true → least (filter D cs) ≡ Some k) → least (cond b (c ∷ filter D cs) (filter D cs)) ≡ Some k
      by_test true e Equal p rest = let same = key_exact k c p in ap (λ x. Some (lesser x (least (filter D cs)))) (sym same) ∙ ap Some (keeps (least (filter D cs)) (least_not_below cs))
      by_test true e Less p rest = ap (λ o. Some (lesser c o)) (rest (subst (λ o. (is_eq o || list_any (λ x. same_key k x) cs) ≡ true) p among)) ∙ ap (λ o. Some (cond (is_lt o) k c)) p
      by_test true e Greater p rest = let never = lower c (turned k c p) in cc
      by_test false e Equal p rest = let so = ap D (key_exact k c p) in cc
      by_test false e Less p rest = rest (subst (λ o. (is_eq o || list_any (λ x. same_key k x) cs) ≡ true) p among)
      by_test false e Greater p rest = rest (subst (λ o. (is_eq o || list_any (λ x. same_key k x) cs) ≡ true) p among)

---- a key that differs is among those wanted or found

in_rows : (rows : List Record) (k : Key) → is_none (record_among rows k) ≡ false → list_any (λ c. same_key k c) (map (λ r. r.key) rows) ≡ true
in_rows [] k h = cc
in_rows (r ∷ rs) k h = by_test (same_key k r.key) (in_rows rs k) h where
  by_test : (b : Bool) → (is_none (record_among rs k) ≡ false → list_any (λ c. same_key k c) (map (λ x. x.key) rs) ≡ true) → is_none (cond b (Some r) (record_among rs k)) ≡ false → (b || list_any (λ c. same_key k c) (map (λ x. x.key) rs)) ≡ true
  by_test true rest g = refl
  by_test false rest g = rest g

in_keys : (ws : List Wanted) (rows : List Record) (k : Key) → differs ws rows k ≡ true → list_any (λ c. same_key k c) (keys_among ws rows) ≡ true
in_keys [] rows k h = in_rows rows k (not_true (is_none (record_among rows k)) h)
in_keys (w ∷ ws) rows k h = by_test (same_key k w.key) (in_keys ws rows k) h where
  by_test : (b : Bool) → (differs ws rows k ≡ true → list_any (λ c. same_key k c) (keys_among ws rows) ≡ true) → not (is_fulfilled (cond b (Some w.wish) (expected_at ws k)) (record_among rows k)) ≡ true → (b || list_any (λ c. same_key k c) (keys_among ws rows)) ≡ true
  by_test true rest g = refl
  by_test false rest g = rest g

pub first_is : (ws : List Wanted) (rows : List Record) (o : Option (Key × Option Record)) → IsFirst ws rows o → first_difference ws rows ≡ o
first_is ws rows None first =
    ap (λ ks. option_map (λ key. (key, record_among rows key)) (least ks)) (none_pass (differs ws rows) (keys_among ws rows) first)
first_is ws rows (Some d) (found, differing, lower) =
    ap (option_map (λ key. (key, record_among rows key))) (least_is (differs ws rows) d.0 lower (keys_among ws rows) differing (in_keys ws rows d.0 differing))
    ∙ ap (λ f. Some (d.0, f)) (sym found)
