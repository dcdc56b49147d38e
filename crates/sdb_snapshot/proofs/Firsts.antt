-- The first items of a list that pass a test.
use Rattle.std.proofs.Common.{◌≡◌, ◌≢◌, inl, inr, ℕ, zero, suc, ◌+◌, Bool, true, false, not, cond, nat_lt, List, [], ◌∷◌, ◌++◌, length, take, slice_set, Option, Some, None, refl, sym, ap, ◌∙◌, arith}
use Rattle.std.specs.Prelude.{is_some, position, slice_get}
use Rattle.std.specs.List.{position_or_len}
use Rattle.std.specs.Option.{option_map, option_map_or}
use Rattle.std.specs.Ordering.{is_eq}
use Rattle.std.specs.Map.{lookup, keys_of}
use Rattle.std.proofs.lemmas.Bool.{cases_lt, lt-ltb, le-ltb}
use Rattle.std.proofs.lemmas.Option.{slice_get-map}
use Rattle.sdb_types.specs.declared.key.Key.{Key}
use Rattle.sdb_types.specs.Order.{key_cmp, same_key}
use Rattle.sdb_types.proofs.Public.{by_option, by_test, clash, none_some, one_more, or_else, same_key_exact, same_key_is, same_key_turned, some_is}
use Rattle.sdb_snapshot.specs.Entries.{value_at, with_value}
use Rattle.sdb_snapshot.specs.Places.{is_key_at, HaveFirstIndexes, HaveIndexes}

one_less : (n m : ℕ) → nat_lt (suc n) (suc m) ≡ nat_lt n m
one_less n m =
    elim (cases_lt n m) [
      | inl less ↦ lt-ltb (suc n) (suc m) (omega arith) ∙ sym (lt-ltb n m less)
      | inr most ↦ le-ltb (suc n) (suc m) (omega arith) ∙ sym (le-ltb n m most)
    ]

later : (n m : ℕ) → cond (nat_lt (1 + n) (suc m)) (Some (1 + n)) None ≡ option_map suc (cond (nat_lt n m) (Some n) None)
later n m =
    ap (λ k. cond (nat_lt k (suc m)) (Some k) None) (one_more n) ∙ ap (λ b. cond b (Some (suc n)) None) (one_less n m)
    ∙ elim (nat_lt n m) as (λ b. cond b (Some (suc n)) None ≡ option_map suc (cond b (Some n) None)) [ true ↦ refl | false ↦ refl ]

one_down : (o : Option ℕ) → option_map suc o ≡ None → o ≡ None
one_down None d = refl
one_down (Some j) d = none_some (suc j) (sym d)

module _ {X : Type 0} (p : X → Bool) where
  pub position-cons : (x : X) (xs : List X) → position p (x ∷ xs) ≡ cond (p x) (Some 0) (option_map suc (position p xs))
  position-cons x xs =
      elim (p x) as (λ b. cond (nat_lt (cond (not b) (1 + position_or_len p xs) 0) (length (x ∷ xs))) (Some (cond (not b) (1 + position_or_len p xs) 0)) None ≡ cond b (Some 0) (option_map suc (position p xs))) [
        | true ↦ ap (λ b. cond b (Some 0) None) (lt-ltb 0 (suc (length xs)) (omega arith))
        | false ↦ later (position_or_len p xs) (length xs)
      ]

  -- a first place in the list after x
  at_head : (x : X) (xs : List X) → p x ≡ true → position p (x ∷ xs) ≡ Some 0
  at_head x xs t = position-cons x xs ∙ ap (λ b. cond b (Some 0) (option_map suc (position p xs))) t

  past_head : (x : X) (xs : List X) → p x ≡ false → position p (x ∷ xs) ≡ option_map suc (position p xs)
  past_head x xs f = position-cons x xs ∙ ap (λ b. cond b (Some 0) (option_map suc (position p xs))) f

  one_up : (o : Option ℕ) (i : ℕ) → option_map suc o ≡ Some i → (j : ℕ) × (o ≡ Some j) × (i ≡ suc j)
  one_up None i e = absurd (none_some i e)
  one_up (Some j) i e = (j, refl, sym (some_is (suc j) i e))

  ---- a prefix, and an item more

  -- an item that is the first to pass in a prefix is so in the whole
  pub first_of_prefix : (xs : List X) (n i : ℕ) → position p (take n xs) ≡ Some i → position p xs ≡ Some i
  first_of_prefix [] zero i e = e
  first_of_prefix [] (suc n) i e = e
  first_of_prefix (x ∷ xs) zero i e = absurd (none_some i e)
  first_of_prefix (x ∷ xs) (suc n) i e =
      by_test (p x)
      (λ t. at_head x xs t ∙ sym (at_head x (take n xs) t) ∙ e)
      (λ f. let up = one_up (position p (take n xs)) i (sym (past_head x (take n xs) f) ∙ e) in
      past_head x xs f ∙ ap (option_map suc) (first_of_prefix xs n up.0 up.1) ∙ ap Some (sym up.2))

  up_else : (a : Option ℕ) (b : Bool) (n : ℕ) → option_map suc (or_else a (cond b (Some n) None)) ≡ or_else (option_map suc a) (cond b (Some (suc n)) None)
  up_else None true n = refl
  up_else None false n = refl
  up_else (Some i) b n = refl

  pub first_of_more : (xs : List X) (y : X) → position p (xs ++ y ∷ []) ≡ or_else (position p xs) (cond (p y) (Some (length xs)) None)
  first_of_more [] y = position-cons y []
  first_of_more (x ∷ xs) y =
      by_test (p x)
      (λ t. at_head x (xs ++ y ∷ []) t ∙ ap (λ o. or_else o (cond (p y) (Some (length (x ∷ xs))) None)) (sym (at_head x xs t)))
      (λ f. past_head x (xs ++ y ∷ []) f ∙ ap (option_map suc) (first_of_more xs y) ∙ up_else (position p xs) (p y) (length xs)
      ∙ ap (λ o. or_else o (cond (p y) (Some (length (x ∷ xs))) None)) (sym (past_head x xs f)))

  ---- an item that passes

  pub passes_there : (xs : List X) (i : ℕ) → position p xs ≡ Some i → option_map_or p (slice_get xs i) false ≡ true
  passes_there [] i e = absurd (none_some i e)
  passes_there (x ∷ xs) i e =
      by_test (p x)
      (λ t. let at : 0 ≡ i = some_is 0 i (sym (at_head x xs t) ∙ e) in ap (λ n. option_map_or p (slice_get (x ∷ xs) n) false) (sym at) ∙ t)
      (λ f. let up = one_up (position p xs) i (sym (past_head x xs f) ∙ e) in
      ap (λ n. option_map_or p (slice_get (x ∷ xs) n) false) up.2 ∙ passes_there xs up.0 up.1)

  pub some_passes : (xs : List X) (i : ℕ) → option_map_or p (slice_get xs i) false ≡ true → position p xs ≢ None
  some_passes [] i e h = clash (sym e)
  some_passes (x ∷ xs) zero e h = by_test (p x) (λ t. none_some 0 (sym h ∙ at_head x xs t)) (λ f. clash (sym e ∙ f))
  some_passes (x ∷ xs) (suc i) e h =
      by_test (p x) (λ t. none_some 0 (sym h ∙ at_head x xs t)) (λ f. some_passes xs i e (one_down (position p xs) (sym (past_head x xs f) ∙ h)))

  -- an item that passes in a prefix is in the whole
  pub passes_in_prefix : (xs : List X) (n i : ℕ) → option_map_or p (slice_get (take n xs) i) false ≡ true → option_map_or p (slice_get xs i) false ≡ true
  passes_in_prefix [] zero i e = e
  passes_in_prefix [] (suc n) i e = e
  passes_in_prefix (x ∷ xs) zero i e = clash (sym e)
  passes_in_prefix (x ∷ xs) (suc n) zero e = e
  passes_in_prefix (x ∷ xs) (suc n) (suc i) e = passes_in_prefix xs n i e

  -- one that passes with an item more is in the list, or is that item
  pub passes_in_more : {C : Type 0} (xs : List X) (y : X) (i : ℕ) → option_map_or p (slice_get (xs ++ y ∷ []) i) false ≡ true
      → (option_map_or p (slice_get xs i) false ≡ true → C) → (i ≡ length xs → p y ≡ true → C) → C
  passes_in_more [] y zero e old last = last refl e
  passes_in_more [] y (suc i) e old last = clash (sym e)
  passes_in_more (x ∷ xs) y zero e old last = old e
  passes_in_more (x ∷ xs) y (suc i) e old last = passes_in_more xs y i e old (λ at t. last (ap suc at) t)

---- entries

module _ {K V : Type 0} (p : K → Bool) where
  pub value_at_first : (es : List (K × V)) (i : ℕ) → position p (keys_of es) ≡ Some i → lookup p es ≡ option_map (λ e. e.1) (slice_get es i)
  value_at_first [] i e = absurd (none_some i e)
  value_at_first (x ∷ xs) i e =
      by_test (p x.0)
      (λ t. let at : 0 ≡ i = some_is 0 i (sym (at_head p x.0 (keys_of xs) t) ∙ e) in
      ap (λ b. cond b (Some x.1) (lookup p xs)) t ∙ ap (λ n. option_map (λ e. e.1) (slice_get (x ∷ xs) n)) at)
      (λ f. let up = one_up p (position p (keys_of xs)) i (sym (past_head p x.0 (keys_of xs) f) ∙ e) in
      ap (λ b. cond b (Some x.1) (lookup p xs)) f ∙ value_at_first xs up.0 up.1 ∙ ap (λ n. option_map (λ e. e.1) (slice_get (x ∷ xs) n)) (sym up.2))

  pub no_value : (es : List (K × V)) → position p (keys_of es) ≡ None → lookup p es ≡ None
  no_value [] h = refl
  no_value (x ∷ xs) h =
      by_test (p x.0)
      (λ t. none_some 0 (sym h ∙ at_head p x.0 (keys_of xs) t))
      (λ f. ap (λ b. cond b (Some x.1) (lookup p xs)) f ∙ no_value xs (one_down (position p (keys_of xs)) (sym (past_head p x.0 (keys_of xs) f) ∙ h)))

module _ {V : Type 0} (k : Key) (v : V) where
  -- a key that is there keeps its place
  pub put_there : (es : List (Key × V)) (i : ℕ) → position (same_key k) (keys_of es) ≡ Some i → (slice_set es i (k, v) ≡ with_value es k v) × (keys_of (slice_set es i (k, v)) ≡ keys_of es)
  put_there [] i e = absurd (none_some i e)
  put_there (x ∷ xs) i e =
      by_test (same_key k x.0)
      (λ t. let at : 0 ≡ i = some_is 0 i (sym (at_head (same_key k) x.0 (keys_of xs) t) ∙ e) in
      let own : k ≡ x.0 = same_key_exact k x.0 t in (
        ap (λ n. slice_set (x ∷ xs) n (k, v)) (sym at) ∙ ap (λ q. (q, v) ∷ xs) own ∙ sym (ap (λ b. cond b ((x.0, v) ∷ xs) (x ∷ with_value xs k v)) t),
        ap (λ n. keys_of (slice_set (x ∷ xs) n (k, v))) (sym at) ∙ ap (λ q. q ∷ keys_of xs) own,
      ))
      (λ f. let up = one_up (same_key k) (position (same_key k) (keys_of xs)) i (sym (past_head (same_key k) x.0 (keys_of xs) f) ∙ e) in
      let rest = put_there xs up.0 up.1 in (
        ap (λ n. slice_set (x ∷ xs) n (k, v)) up.2 ∙ ap (λ ys. x ∷ ys) rest.0 ∙ sym (ap (λ b. cond b ((x.0, v) ∷ xs) (x ∷ with_value xs k v)) f),
        ap (λ n. keys_of (slice_set (x ∷ xs) n (k, v))) up.2 ∙ ap (λ ys. x.0 ∷ ys) rest.1,
      ))

  -- a new key goes last
  pub put_last : (es : List (Key × V)) → position (same_key k) (keys_of es) ≡ None → es ++ (k, v) ∷ [] ≡ with_value es k v
  put_last [] h = refl
  put_last (x ∷ xs) h =
      by_test (same_key k x.0)
      (λ t. none_some 0 (sym h ∙ at_head (same_key k) x.0 (keys_of xs) t))
      (λ f. ap (λ ys. x ∷ ys) (put_last xs (one_down (position (same_key k) (keys_of xs)) (sym (past_head (same_key k) x.0 (keys_of xs) f) ∙ h)))
      ∙ sym (ap (λ b. cond b ((x.0, v) ∷ xs) (x ∷ with_value xs k v)) f))

---- the indexes of keys

-- a key without an index is not among the keys
pub not_among : (keys : List Key) (index : Key → Option ℕ) (q : Key) → HaveFirstIndexes keys index → index q ≡ None → position (same_key q) keys ≡ None
not_among keys index q have none = by_option (position (same_key q) keys) (λ i e. absurd (none_some i (sym none ∙ have q i e))) (λ e. e)

-- a key is among the keys where it is at its index
pub among_at : (keys : List Key) (index : Key → Option ℕ) (q : Key) (i : ℕ) → HaveFirstIndexes keys index → index q ≡ Some i → is_key_at keys i q ≡ true → position (same_key q) keys ≡ Some i
among_at keys index q i have at is =
    by_option (position (same_key q) keys)
    (λ j e. e ∙ ap Some (some_is j i (sym (have q j e) ∙ at)))
    (λ e. absurd (some_passes (same_key q) keys i is e))

pub not_at : (keys : List Key) (index : Key → Option ℕ) (q : Key) (i : ℕ) → HaveFirstIndexes keys index → index q ≡ Some i → is_key_at keys i q ≡ false → position (same_key q) keys ≡ None
not_at keys index q i have at is =
    by_option (position (same_key q) keys)
    (λ j e. let same : j ≡ i = some_is j i (sym (have q j e) ∙ at) in
    clash (sym (passes_there (same_key q) keys j e) ∙ ap (λ n. is_key_at keys n q) same ∙ is))
    (λ e. e)

-- each key has the index of its first use where each has its index
pub first_indexes : (keys : List Key) (index : Key → Option ℕ) → HaveIndexes keys index → HaveFirstIndexes keys index
first_indexes keys index have q i e = have q i (passes_there (same_key q) keys i e)

-- a key at a place has it
pub here : (keys : List Key) (index : Key → Option ℕ) (q : Key) (i : ℕ) → HaveIndexes keys index → is_key_at keys i q ≡ true → position (same_key q) keys ≡ Some i
here keys index q i have is = among_at keys index q i (first_indexes keys index have) (have q i is) is

pub indexes_first : (keys : List Key) (index : Key → Option ℕ) (n : ℕ) → HaveIndexes keys index → HaveIndexes (take n keys) index
indexes_first keys index n have q i e = have q i (passes_in_prefix (same_key q) keys n i e)

module _ (keys : List Key) (k : Key) (index next : Key → Option ℕ) (have : HaveIndexes keys index) (new : position (same_key k) keys ≡ None) (is : (q : Key) → next q ≡ cond (same_key k q) (Some (length keys)) (index q)) where
  -- a key that is not put keeps no other from its index
  pub indexes_kept : HaveIndexes keys next
  indexes_kept q i e =
      by_test (same_key k q)
      (λ t. absurd (some_passes (same_key q) keys i e (sym (ap (λ x. position (same_key x) keys) (same_key_exact k q t)) ∙ new)))
      (λ f. is q ∙ ap (λ b. cond b (Some (length keys)) (index q)) f ∙ have q i e)

  pub indexes_more : HaveIndexes (keys ++ k ∷ []) next
  indexes_more q i e =
      passes_in_more (same_key q) keys k i e (indexes_kept q i)
      (λ at t. is q ∙ ap (λ b. cond b (Some (length keys)) (index q)) (same_key_turned k q ∙ t) ∙ ap Some (sym at))

---- a key at an index

pub key_there : {V : Type 0} (es : List (Key × V)) (i : ℕ) (q k : Key) (v : V) → Some (k, v) ≡ slice_get es i → is_eq (key_cmp q k) ≡ is_key_at (keys_of es) i q
key_there es i q k v at =
    sym (same_key_is q k) ∙ ap (λ o. option_map_or (same_key q) (option_map (λ e. e.0) o) false) at
    ∙ sym (ap (λ o. option_map_or (same_key q) o false) (slice_get-map (λ e. e.0) es i))

pub no_key_there : {V : Type 0} (es : List (Key × V)) (i : ℕ) (q : Key) → None ≡ slice_get es i → false ≡ is_key_at (keys_of es) i q
no_key_there es i q at =
    ap (λ o. option_map_or (same_key q) (option_map (λ e. e.0) o) false) at ∙ sym (ap (λ o. option_map_or (same_key q) o false) (slice_get-map (λ e. e.0) es i))

pub entry_there : {K V : Type 0} (p : K → Bool) (es : List (K × V)) (i : ℕ) → position p (keys_of es) ≡ Some i → (y : K × V) × (slice_get es i ≡ Some y)
entry_there p es i e =
    by_option (slice_get es i)
    (λ y at. (y, at))
    (λ none. clash (sym (passes_there p (keys_of es) i e) ∙ ap (λ o. option_map_or p o false) (slice_get-map (λ x. x.0) es i ∙ ap (option_map (λ x. x.0)) none)))

-- a key without a value is not among the keys
pub unread : {V : Type 0} (es : List (Key × V)) (k : Key) → is_some (value_at es k) ≡ false → position (same_key k) (keys_of es) ≡ None
unread es k h =
    by_option (position (same_key k) (keys_of es))
    (λ i e. let there = entry_there (same_key k) es i e in
    clash (sym (ap is_some (value_at_first (same_key k) es i e ∙ ap (option_map (λ x. x.1)) there.1)) ∙ h))
    (λ e. e)
