-- Writes at the places of their keys.
use Rattle.std.proofs.Common.{◌≡◌, ℕ, ◌+◌, ◌<◌, zero, suc, Bool, true, false, cond, List, [], ◌∷◌, ◌++◌, length, take, map, Option, Some, None, refl, sym, ap, ◌∙◌, arith}
use Rattle.std.specs.Prelude.{is_some, slice_get, slice_set, not, nat_lt, find, position}
use Rattle.std.specs.List.{position_or_len}
use Rattle.std.specs.Map.{keys_of}
use Rattle.std.proofs.lemmas.List.{take-map, map-append}
use Rattle.std.proofs.lemmas.List.Folds.{find_at}
use Rattle.std.proofs.lemmas.Option.{slice_get_past}
use Rattle.std.proofs.lemmas.Bool.Decides.{nat_tests}
use Rattle.sdb_snapshot.specs.Types.{Key, Keyed, Write}
use Rattle.sdb_snapshot.specs.Entries.{value_at, with_value}
use Rattle.sdb_record.specs.Among.{write_among, is_written}
use Rattle.sdb_snapshot.specs.Sets.{AreIndexed}
use Rattle.sdb_snapshot.specs.Opened.{with_new, with_laid}
use Rattle.sdb_snapshot.proofs.Fronts.{starts_itself, starts_more, starts_take}
use Rattle.sdb_snapshot.proofs.Keys.{put_new}
use Rattle.sdb_types.proofs.Public.{by_test, one_more}
use Rattle.sdb_types.specs.Order.{same_key}

abbrev pub key_of : Write → Key
key_of w = w.key

count_map : (key : Key) (ws : List Write) → position_or_len (same_key key) (map key_of ws) ≡ position_or_len (λ w. same_key key w.key) ws
count_map key [] = refl
count_map key (w ∷ ws) = ap (λ n. cond (not (same_key key w.key)) (1 + n) 0) (count_map key ws)

length_map : (ws : List Write) → length (map key_of ws) ≡ length ws
length_map [] = refl
length_map (w ∷ ws) = ap suc (length_map ws)

-- where a key is among the writes
abbrev pub place_in : List Write → Key → Option ℕ
place_in ws key = position (λ w. same_key key w.key) ws

pub place_is : (places : List (Key × Unit {0})) (ws : List Write) (key : Key) → AreIndexed places ws → position (same_key key) (keys_of places) ≡ place_in ws key
place_is places ws key h =
    ap (position (same_key key)) h
    ∙ ap (λ n. cond (nat_lt n (length (map key_of ws))) (Some n) None) (count_map key ws)
    ∙ ap (λ m. cond (nat_lt (position_or_len (λ (w : Write). same_key key w.key) ws) m) (Some (position_or_len (λ (w : Write). same_key key w.key) ws)) None) (length_map ws)

-- what is at that place
pub found_at : (ws : List Write) (key : Key) (i : ℕ) → place_in ws key ≡ Some i → slice_get ws i ≡ write_among ws key
found_at ws key i h =
    let n = position_or_len (λ (w : Write). same_key key w.key) ws in
    by_test (nat_lt n (length ws))
    (λ t. let same : Some n ≡ Some i = sym (ap (λ b. cond b (Some n) None) t) ∙ h in
    let at : n ≡ i = cc in
    ap (slice_get ws) (sym at) ∙ sym (find_at (λ (w : Write). same_key key w.key) ws))
    (λ t. let none : ◌≡◌ {A = Option ℕ} None (Some i) = sym (ap (λ b. cond b (Some n) None) t) ∙ h in absurd (cc))

pub found_none : (ws : List Write) (key : Key) → place_in ws key ≡ None → write_among ws key ≡ None
found_none ws key h =
    let n = position_or_len (λ (w : Write). same_key key w.key) ws in
    by_test (nat_lt n (length ws))
    (λ t. let some : ◌≡◌ {A = Option ℕ} (Some n) None = sym (ap (λ b. cond b (Some n) None) t) ∙ h in absurd (cc))
    (λ t. find_at (λ (w : Write). same_key key w.key) ws ∙ slice_get_past ws n (grind (arith, nat_tests, t)))

pub place_within : (ws : List Write) (key : Key) (i : ℕ) → place_in ws key ≡ Some i → i < length ws
place_within ws key i h =
    let n = position_or_len (λ (w : Write). same_key key w.key) ws in
    by_test (nat_lt n (length ws))
    (λ t. let same : Some n ≡ Some i = sym (ap (λ b. cond b (Some n) None) t) ∙ h in
    let at : n ≡ i = cc in
    grind (arith, nat_tests, t, at))
    (λ t. let none : ◌≡◌ {A = Option ℕ} None (Some i) = sym (ap (λ b. cond b (Some n) None) t) ∙ h in absurd (cc))

---- laid at a place

abbrev pub laid_on : Write → Keyed → Write
laid_on x k = record { key = x.key; base = x.base; change = k.change }

-- the write at the first place that a key has
pub laid_here : (ws : List Write) (k : Keyed) (x : Write) (n : ℕ) → n ≡ position_or_len (λ w. same_key k.key w.key) ws → slice_get ws n ≡ Some x → with_laid ws k ≡ slice_set ws n (laid_on x k)
laid_here [] k x n is h = absurd (no_item n x h)
  where
    no_item : (n : ℕ) (x : Write) → slice_get [] n ≡ Some x → ⊥
    no_item n x h = absurd (cc)
laid_here (w ∷ ws) k x n is h =
    by_test (same_key k.key w.key)
    (λ t. ap (λ b. cond b (laid_on w k ∷ ws) (w ∷ with_laid ws k)) t ∙ first n (is ∙ ap (λ b. cond (not b) (1 + position_or_len (λ (v : Write). same_key k.key v.key) ws) 0) t) h)
    (λ t. ap (λ b. cond b (laid_on w k ∷ ws) (w ∷ with_laid ws k)) t ∙ later (laid_here ws k x) n (is ∙ ap (λ b. cond (not b) (1 + position_or_len (λ (v : Write). same_key k.key v.key) ws) 0) t ∙ one_more (position_or_len (λ (v : Write). same_key k.key v.key) ws)) h)
  where
    some_is : (y z : Write) → Some y ≡ Some z → y ≡ z
    some_is y z e = cc

    first : (n : ℕ) → n ≡ 0 → slice_get (w ∷ ws) n ≡ Some x → laid_on w k ∷ ws ≡ slice_set (w ∷ ws) n (laid_on x k)
    first zero e g = ap (λ (y : Write). laid_on y k ∷ ws) (some_is w x g)
    first (suc n) e g = absurd (omega (arith, e))

    less : (n m : ℕ) → suc n ≡ suc m → n ≡ m
    less n m e = omega (arith, e)

    later : ((m : ℕ) → m ≡ position_or_len (λ (v : Write). same_key k.key v.key) ws → slice_get ws m ≡ Some x → with_laid ws k ≡ slice_set ws m (laid_on x k))
        → (n : ℕ) → n ≡ suc (position_or_len (λ (v : Write). same_key k.key v.key) ws) → slice_get (w ∷ ws) n ≡ Some x → w ∷ with_laid ws k ≡ slice_set (w ∷ ws) n (laid_on x k)
    later rest zero e g = absurd (omega (arith, e))
    later rest (suc n) e g = ap (λ (ys : List Write). w ∷ ys) (rest n (less n (position_or_len (λ (v : Write). same_key k.key v.key) ws) e) g)

pub laid_at : (ws : List Write) (k : Keyed) (i : ℕ) (x : Write) → place_in ws k.key ≡ Some i → slice_get ws i ≡ Some x → with_laid ws k ≡ slice_set ws i (laid_on x k)
laid_at ws k i x h at =
    let n = position_or_len (λ (w : Write). same_key k.key w.key) ws in
    by_test (nat_lt n (length ws))
    (λ t. let same : Some n ≡ Some i = sym (ap (λ b. cond b (Some n) None) t) ∙ h in
    let is : n ≡ i = cc in
    laid_here ws k x i (sym is) at)
    (λ t. let none : ◌≡◌ {A = Option ℕ} None (Some i) = sym (ap (λ b. cond b (Some n) None) t) ∙ h in absurd (cc))

pub none_later : {A : Type 0} (b : Bool) (x : A) (o : Option A) → ◌≡◌ {A = Option A} (cond b (Some x) o) None → (b ≡ false) × (o ≡ None)
none_later true x o h = absurd (cc)
none_later false x o h = (refl, h)

pub laid_none : (ws : List Write) (k : Keyed) → write_among ws k.key ≡ None → with_laid ws k ≡ ws
laid_none [] k h = refl
laid_none (w ∷ ws) k h =
    let p = none_later (same_key k.key w.key) w (write_among ws k.key) h in
    ap (λ (b : Bool). cond b (laid_on w k ∷ ws) (w ∷ with_laid ws k)) p.0 ∙ ap (λ (ys : List Write). w ∷ ys) (laid_none ws k p.1)

pub keys_laid : (ws : List Write) (k : Keyed) → map key_of (with_laid ws k) ≡ map key_of ws
keys_laid [] k = refl
keys_laid (w ∷ ws) k =
    let rest : map key_of (with_laid ws k) ≡ map key_of ws = keys_laid ws k in
    elim (same_key k.key w.key) as (λ b. map key_of (cond b (laid_on w k ∷ ws) (w ∷ with_laid ws k)) ≡ w.key ∷ map key_of ws) [ true ↦ refl | false ↦ ap (λ ks. w.key ∷ ks) rest ]

---- a key more

keys_last : (places : List (Key × Unit {0})) (k : Key) (u : Unit {0}) → keys_of (places ++ (k, u) ∷ []) ≡ keys_of places ++ k ∷ []
keys_last [] k u = refl
keys_last (p ∷ places) k u = ap (λ ks. p.0 ∷ ks) (keys_last places k u)

no_place : (p : Key → Bool) (ks : List Key) → position p ks ≡ None → find p ks ≡ None
no_place p ks h =
    let n = position_or_len p ks in
    by_test (nat_lt n (length ks))
    (λ t. absurd (some_none n (sym (ap (λ b. cond b (Some n) None) t) ∙ h)))
    (λ t. find_at p ks ∙ slice_get_past ks n (grind (arith, nat_tests, t)))
  where
    some_none : (n : ℕ) → ◌≡◌ {A = Option ℕ} (Some n) None → ⊥
    some_none n e = cc

found_value : (places : List (Key × Unit {0})) (k : Key) → find (same_key k) (keys_of places) ≡ None → is_some (value_at places k) ≡ false
found_value [] k h = refl
found_value (p ∷ places) k h =
    let parts = none_later (same_key k p.0) p.0 (find (same_key k) (keys_of places)) h in
    ap (λ b. is_some (cond b (Some p.1) (value_at places k))) parts.0 ∙ found_value places k parts.1

position_value : (places : List (Key × Unit {0})) (k : Key) → position (same_key k) (keys_of places) ≡ None → is_some (value_at places k) ≡ false
position_value places k h = found_value places k (no_place (same_key k) (keys_of places) h)

-- a write whose key is new goes last, and so does its place
pub placed_last : (places : List (Key × Unit {0})) (ws : List Write) (k : Key) (w : Write) → AreIndexed places ws → place_in ws k ≡ None → k ≡ w.key → AreIndexed (with_value places k tt) (ws ++ w ∷ [])
placed_last places ws k w h none is =
    ap keys_of (put_new places k tt (position_value places k (place_is places ws k h ∙ none)))
    ∙ keys_last places k tt ∙ ap (λ ks. ks ++ k ∷ []) h ∙ ap (λ (q : Key). map key_of ws ++ q ∷ []) is ∙ sym (map-append key_of ws (w ∷ []))

pub placed_first : (places : List (Key × Unit {0})) (ws : List Write) (n : ℕ) → AreIndexed places ws → AreIndexed (take n places) (take n ws)
placed_first places ws n h = sym (take-map (λ (e : Key × Unit {0}). e.0) n places) ∙ ap (take n) h ∙ take-map key_of n ws

-- and where the write could not be put, its place goes
pub placed_back : (places : List (Key × Unit {0})) (ws : List Write) (k : Key) (n : ℕ) → AreIndexed places ws → place_in ws k ≡ None → n ≡ length ws → AreIndexed (take n (with_value places k tt)) ws
placed_back places ws k n h none is =
    let keys = map key_of ws in
    sym (take-map (λ (e : Key × Unit {0}). e.0) n (with_value places k tt))
    ∙ ap (λ es. take n (keys_of es)) (put_new places k tt (position_value places k (place_is places ws k h ∙ none)))
    ∙ ap (take n) (keys_last places k tt ∙ ap (λ ks. ks ++ k ∷ []) h)
    ∙ ap (λ m. take m (keys ++ k ∷ [])) (is ∙ sym (length_map ws))
    ∙ starts_take keys (keys ++ k ∷ []) (starts_more keys keys (k ∷ []) (starts_itself keys))

none_is : (o : Option ℕ) → is_some o ≡ false → o ≡ None
none_is None h = refl
none_is (Some i) h = absurd (cc)

some_written : (ws : List Write) (k : Key) (o : Option ℕ) → place_in ws k ≡ o → is_some o ≡ true → is_written ws k ≡ true
some_written ws k None h some = absurd (cc)
some_written ws k (Some i) h some = written (slice_get ws i) (write_among ws k) (found_at ws k i h) (place_within ws k i h)
  where
    there : (xs : List Write) (n : ℕ) → n < length xs → is_some (slice_get xs n) ≡ true
    there [] n g = absurd (omega (arith, g))
    there (x ∷ xs) zero g = refl
    there (x ∷ xs) (suc n) g = there xs n (omega (arith, g))

    written : (x y : Option Write) → slice_get ws i ≡ write_among ws k → i < length ws → is_written ws k ≡ true
    written x y e g = sym (ap is_some e) ∙ there ws i g

-- a key that has a place is written
pub present : (places : List (Key × Unit {0})) (ws : List Write) (w : Write) (o : Option ℕ) → AreIndexed places ws → o ≡ position (same_key w.key) (keys_of places) → is_some o ≡ true → with_new ws w ≡ ws
present places ws w o h is some =
    ap (λ b. cond b ws (ws ++ w ∷ [])) (some_written ws w.key o (sym (is ∙ place_is places ws w.key h)) some)

pub no_place_in : (places : List (Key × Unit {0})) (ws : List Write) (k : Key) (o : Option ℕ) → AreIndexed places ws → o ≡ position (same_key k) (keys_of places) → is_some o ≡ false → place_in ws k ≡ None
no_place_in places ws k o h is none = sym (is ∙ place_is places ws k h) ∙ none_is o none

pub absent : (ws : List Write) (w : Write) → place_in ws w.key ≡ None → with_new ws w ≡ ws ++ w ∷ []
absent ws w none = ap (λ (o : Option Write). cond (is_some o) ws (ws ++ w ∷ [])) (found_none ws w.key none)
