-- Puts of one call: what they leave at each key, and which replies they get.
use Rattle.std.proofs.Common.{◌≡◌, ℕ, ◌+◌, ◌-◌, ◌<◌, ◌≤◌, Bool, true, false, cond, suc, List, [], ◌∷◌, ◌++◌, map, drop, get_or, length, take, Option, Some, None, IfSome, refl, sym, ap, subst, ◌∙◌, ◌⊎◌, inl, inr, arith, option_map}
use Rattle.std.specs.Prelude.{◌&&◌, ◌||◌, not, if◌then◌else◌, is_none, slice_get, IsSomeAnd}
use Rattle.std.specs.FinMap.{get, insert, get-insert, same_map, remove, get-remove}
use Rattle.std.specs.List.{list_all, list_any}
use Rattle.std.specs.Ordering.{is_eq, eq_by_cmp}
use Rattle.sdb_types.specs.declared.key.Key.{Key}
use Rattle.sdb_types.specs.declared.pair.Pair.{Pair}
use Rattle.sdb_types.specs.declared.record.Put.{Put}
use Rattle.sdb_types.specs.declared.record.Record.{Record}
use Rattle.sdb_types.specs.declared.record.Reply.{Reply}
use Rattle.sdb_types.specs.declared.record.Reply.TheVariants as reply
use Rattle.sdb_types.specs.declared.record.Request.TheVariants as ask
use Rattle.sdb_types.specs.Order.{key_cmp, same_key, has_key, are_distinct, in_one_partition, same_partition}
use Rattle.sdb_types.specs.Contents.{Contents, record_of, record_at, holds, put_keys, is_met_by, unmet_from, all_put, left_at, batch_reply, put_at, reply_to, CanAnswer, IsUnmet, IsUnmetAt}
use Rattle.sdb_types.proofs.Basics.{clash, some_is, or_neither}
use Rattle.sdb_types.proofs.Keys.{same_key_is, same_key_self, same_key_decides, same_key_turned}
use Rattle.sdb_types.proofs.KeyOrder.{key_exact, key_total}

---- what puts leave at a key

-- the record of a key that was put last is that one
pub record_at-insert : (m : Contents) (r : Record) (q : Key) → record_at (insert m r.key r.columns) q ≡ (if same_key q r.key then Some r else record_at m q)
unfolding same_key
record_at-insert m r q = elim (same_key_decides q r.key) [
  | inl e ↦ rw e.0 (rw (get-insert key_total m r.key r.columns q) (rw e.0 (ap (λ x. Some (record_of (x, r.columns))) e.1)))
  | inr n ↦ rw n.0 (ap (option_map (λ columns. record_of (q, columns))) (get-insert key_total m r.key r.columns q ∙ ap (λ b. cond b (Some r.columns) (get m q)) n.0))
]

-- puts of other keys leave it as it is
pub left_outside : (ps : List Put) (q : Key) (old : Option Record) → has_key (put_keys ps) q ≡ false → left_at ps q old ≡ old
left_outside [] q old h = refl
left_outside (p ∷ ps) q old h =
    let parts = or_neither (has_key (put_keys ps) q) (same_key q p.rec.key) h in
    rw parts.1 (left_outside ps q old parts.0)

pub once_parts : (a b : Bool) → (not a && b) ≡ true → (a ≡ false) × (b ≡ true)
once_parts true b h = clash (sym h)
once_parts false b h = (refl, h)

-- Each key is left with what its put puts, in whatever order they are put.
pub all_put_at : (b : List Put) (m : Contents) (q : Key) → are_distinct (put_keys b) ≡ true → record_at (all_put b m) q ≡ left_at b q (record_at m q)
all_put_at [] m q once = refl
all_put_at (p ∷ ps) m q once =
    let parts = once_parts (has_key (put_keys ps) p.rec.key) (are_distinct (put_keys ps)) once in
    all_put_at ps (insert m p.rec.key p.rec.columns) q parts.1 ∙ ap (left_at ps q) (record_at-insert m p.rec q) ∙ by parts.0 (same_key_decides q p.rec.key)
  where
    by : has_key (put_keys ps) p.rec.key ≡ false → ((same_key q p.rec.key ≡ true) × (q ≡ p.rec.key)) ⊎ ((same_key q p.rec.key ≡ false) × (¬ (q ≡ p.rec.key)))
        → left_at ps q (if same_key q p.rec.key then Some p.rec else record_at m q) ≡ (if same_key q p.rec.key then Some p.rec else left_at ps q (record_at m q))
    by out (inl e) = rw e.0 (left_outside ps q (Some p.rec) (ap (has_key (put_keys ps)) e.1 ∙ out))
    by out (inr n) = rw n.0 refl

pub all_put_outside : (b : List Put) (m : Contents) (q : Key) → has_key (put_keys b) q ≡ false → get (all_put b m) q ≡ get m q
all_put_outside [] m q out = refl
all_put_outside (p ∷ ps) m q out =
    let parts = or_neither (has_key (put_keys ps) q) (same_key q p.rec.key) out in
    all_put_outside ps (insert m p.rec.key p.rec.columns) q parts.0 ∙ get-insert key_total m p.rec.key p.rec.columns q
    ∙ ap (λ (b : Bool). if b then Some p.rec.columns else get m q) (sym (same_key_is q p.rec.key) ∙ parts.1)

---- one put more, and back

pub all_put_more : (b : List Put) (p : Put) (m : Contents) → all_put (b ++ p ∷ []) m ≡ insert (all_put b m) p.rec.key p.rec.columns
all_put_more [] p m = refl
all_put_more (q ∷ qs) p m = all_put_more qs p (insert m q.rec.key q.rec.columns)

-- what was at the key of the last put is put there again
pub insert_back : (m : Contents) (k : Key) (new old : List Pair) → get m k ≡ Some old → insert (insert m k new) k old ≡ m
unfolding same_key
insert_back m k new old is = same_map key_total key_exact (insert (insert m k new) k old) m (λ q.
    get-insert key_total (insert m k new) k old q ∙ elim (same_key_decides q k) [
      | inl e ↦ ap (λ b. cond b (Some old) (get (insert m k new) q)) e.0 ∙ (sym is ∙ ap (get m) (sym e.1))
      | inr n ↦ ap (λ b. cond b (Some old) (get (insert m k new) q)) n.0 ∙ (get-insert key_total m k new q ∙ ap (λ b. cond b (Some new) (get m q)) n.0)
    ])

-- and where nothing was there, the record is taken out again
pub remove_back : (m : Contents) (k : Key) (new : List Pair) → get m k ≡ None → remove (insert m k new) k ≡ m
unfolding same_key
remove_back m k new is = same_map key_total key_exact (remove (insert m k new) k) m (λ q.
    get-remove key_total (insert m k new) k q ∙ elim (same_key_decides q k) [
      | inl e ↦ ap (λ b. cond b None (get (insert m k new) q)) e.0 ∙ (sym is ∙ ap (get m) (sym e.1))
      | inr n ↦ ap (λ b. cond b None (get (insert m k new) q)) n.0 ∙ (get-insert key_total m k new q ∙ ap (λ b. cond b (Some new) (get m q)) n.0)
    ])

---- the reply

-- the first put whose condition fails, with one put more
abbrev pub unmet_then : Option (ℕ × Option Record) → ℕ → Put → Contents → Option (ℕ × Option Record)
unmet_then None n p m = if is_met_by m p then None else Some (n, record_at m p.rec.key)
unmet_then (Some f) n p m = Some f

pub unmet_more : (b : List Put) (p : Put) (n : ℕ) (m : Contents) → unmet_from n (b ++ p ∷ []) m ≡ unmet_then (unmet_from n b m) (n + length b) p m
unmet_more [] p n m = ap (λ i. if is_met_by m p then None else Some (i, record_at m p.rec.key)) (zero_more n)
  where
    zero_more : (n : ℕ) → n ≡ n + 0
    zero_more n = omega arith
unmet_more (q ∷ qs) p n m = by (is_met_by m q) (unmet_more qs p (n + 1) m ∙ ap (λ i. unmet_then (unmet_from (n + 1) qs m) i p m) (next n (length qs)))
  where
    next : (n i : ℕ) → n + 1 + i ≡ n + suc i
    next n i = omega arith

    by : (x : Bool) → unmet_from (n + 1) (qs ++ p ∷ []) m ≡ unmet_then (unmet_from (n + 1) qs m) (n + suc (length qs)) p m
        → (if x then unmet_from (n + 1) (qs ++ p ∷ []) m else Some (n, record_at m q.rec.key)) ≡ unmet_then (if x then unmet_from (n + 1) qs m else Some (n, record_at m q.rec.key)) (n + suc (length qs)) p m
    by true h = h
    by false h = refl

-- a record of another key tells nothing of the conditions
pub unmet_aside : (b : List Put) (n : ℕ) (m : Contents) (r : Record) → has_key (put_keys b) r.key ≡ false → unmet_from n b (insert m r.key r.columns) ≡ unmet_from n b m
unmet_aside [] n m r out = refl
unmet_aside (q ∷ qs) n m r out =
    let parts = or_neither (has_key (put_keys qs) r.key) (same_key r.key q.rec.key) out in
    let there : record_at (insert m r.key r.columns) q.rec.key ≡ record_at m q.rec.key = record_at-insert m r q.rec.key ∙ ap (λ (b : Bool). if b then Some r else record_at m q.rec.key) (same_key_turned q.rec.key r.key ∙ parts.1) in
    (λ i. if holds q.condition (there i) then unmet_aside qs (n + 1) m r parts.0 i else Some (n, there i))

-- the first put whose condition fails, after others
pub unmet_at : (b rest : List Put) (p : Put) (n : ℕ) (m : Contents) → unmet_from n b m ≡ None → is_met_by m p ≡ false → unmet_from n (b ++ p ∷ rest) m ≡ Some (n + length b, record_at m p.rec.key)
unmet_at [] rest p n m met fails = ap (λ (b : Bool). if b then unmet_from (n + 1) rest m else Some (n, record_at m p.rec.key)) fails ∙ ap (λ i. Some (i, record_at m p.rec.key)) (zero_more n)
  where
    zero_more : (n : ℕ) → n ≡ n + 0
    zero_more n = omega arith
unmet_at (q ∷ qs) rest p n m met fails = by (is_met_by m q) met (unmet_at qs rest p (n + 1) m)
  where
    next : (n i : ℕ) → n + 1 + i ≡ n + suc i
    next n i = omega arith

    by : (x : Bool) → (if x then unmet_from (n + 1) qs m else Some (n, record_at m q.rec.key)) ≡ None
        → (unmet_from (n + 1) qs m ≡ None → is_met_by m p ≡ false → unmet_from (n + 1) (qs ++ p ∷ rest) m ≡ Some (n + 1 + length qs, record_at m p.rec.key))
        → (if x then unmet_from (n + 1) (qs ++ p ∷ rest) m else Some (n, record_at m q.rec.key)) ≡ Some (n + suc (length qs), record_at m p.rec.key)
    by true u more = more u fails ∙ ap (λ i. Some (i, record_at m p.rec.key)) (next n (length qs))
    by false u more = absurd cc

pub record_at-key : (m : Contents) (key : Key) → IfSome (record_at m key) (λ r. r.key ≡ key)
record_at-key m key =
    elim (get m key) as (λ (o : Option (List Pair)). IfSome (option_map (λ columns. record_of (key, columns)) o) (λ r. r.key ≡ key)) [
      | None ↦ tt
      | Some columns ↦ refl
    ]

-- what is found at the place of the first put whose condition fails, counted on from n
pub unmet_is : (b : List Put) (n : ℕ) (m : Contents) → IfSome (unmet_from n b m) (λ f. (n ≤ f.0) × IsSomeAnd (slice_get b (f.0 - n)) (λ p. IsUnmet p.condition p.rec.key f.1))
unmet_is [] n m = tt
unmet_is (p ∷ ps) n m = by (is_met_by m p) refl (unmet_is ps (n + 1) m)
  where
    later : (o : Option (ℕ × Option Record)) → IfSome o (λ f. (n + 1 ≤ f.0) × IsSomeAnd (slice_get ps (f.0 - (n + 1))) (λ p. IsUnmet p.condition p.rec.key f.1)) → IfSome o (λ f. (n ≤ f.0) × IsSomeAnd (slice_get (p ∷ ps) (f.0 - n)) (λ p. IsUnmet p.condition p.rec.key f.1))
    later None h = tt
    later (Some f) h = (omega (arith, h.0), subst (λ (i : ℕ). IsSomeAnd (slice_get (p ∷ ps) i) (λ p. IsUnmet p.condition p.rec.key f.1)) (next f.0 h.0) h.1)
      where
        next : (k : ℕ) → n + 1 ≤ k → suc (k - (n + 1)) ≡ k - n
        next k h = omega (arith, h)

    here : n - n ≡ 0
    here = omega arith

    by : (x : Bool) → is_met_by m p ≡ x → IfSome (unmet_from (n + 1) ps m) (λ f. (n + 1 ≤ f.0) × IsSomeAnd (slice_get ps (f.0 - (n + 1))) (λ p. IsUnmet p.condition p.rec.key f.1))
        → IfSome (if x then unmet_from (n + 1) ps m else Some (n, record_at m p.rec.key)) (λ f. (n ≤ f.0) × IsSomeAnd (slice_get (p ∷ ps) (f.0 - n)) (λ p. IsUnmet p.condition p.rec.key f.1))
    by true e h = later (unmet_from (n + 1) ps m) h
    by false e h = (omega arith, subst (λ (i : ℕ). IsSomeAnd (slice_get (p ∷ ps) i) (λ (x : Put). IsUnmet x.condition x.rec.key (record_at m p.rec.key))) (sym here) (record_at-key m p.rec.key, e))

reply_can : (b : List Put) (o : Option (ℕ × Option Record)) → IfSome o (λ f. (1 ≤ f.0) × IsSomeAnd (slice_get b (f.0 - 1)) (λ p. IsUnmet p.condition p.rec.key f.1)) → CanAnswer (ask.PutAll b) (batch_reply o)
reply_can b None h = tt
reply_can b (Some f) h = h

pub batch_can : (b : List Put) (m : Contents) → CanAnswer (ask.PutAll b) (reply_to (ask.PutAll b) m)
batch_can b m = reply_can b (unmet_from 1 b m) (unmet_is b 1 m)

---- tests of a batch

or_turned : (a b : Bool) → (a || b) ≡ (b || a)
or_turned true true = refl
or_turned true false = refl
or_turned false true = refl
or_turned false false = refl

pub any_key : (b : List Put) (q : Key) → list_any (λ p. is_eq (key_cmp q p.rec.key)) b ≡ has_key (put_keys b) q
unfolding same_key
any_key [] q = refl
any_key (p ∷ ps) q = ap (λ x. is_eq (key_cmp q p.rec.key) || x) (any_key ps q) ∙ or_turned (is_eq (key_cmp q p.rec.key)) (has_key (put_keys ps) q)

pub all_beside : (b : List Put) (k : Key) → list_all (λ p. same_partition k p.rec.key) b ≡ list_all (same_partition k) (put_keys b)
all_beside [] k = refl
all_beside (p ∷ ps) k = ap (λ x. same_partition k p.rec.key && x) (all_beside ps k)

-- all but the first
abbrev pub rest_of : {A : Type 0} → List A → List A
rest_of xs = take (length xs - 1) (drop 1 xs)

take_whole : {A : Type 0} (xs : List A) → take (length xs) xs ≡ xs
take_whole [] = refl
take_whole (x ∷ xs) = ap (λ ys. x ∷ ys) (take_whole xs)

less_one : (n : ℕ) → suc n - 1 ≡ n
less_one n = omega arith

rest_is : {A : Type 0} (x : A) (xs : List A) → rest_of (x ∷ xs) ≡ xs
rest_is x xs = ap (λ n. take n xs) (less_one (length xs)) ∙ take_whole xs

pub together_of : (ps : List Put) (f : Put) (b : Bool) → 1 ≤ length ps → f ≡ get_or ps 0 f → b ≡ list_all (λ p. same_partition f.rec.key p.rec.key) (rest_of ps) → b ≡ in_one_partition (put_keys ps)
together_of [] f b some is h = absurd (omega (arith, some))
together_of (p ∷ ps) f b some is h = h ∙ ap (list_all (λ x. same_partition f.rec.key x.rec.key)) (rest_is p ps) ∙ ap (λ (k : Key). list_all (λ (x : Put). same_partition k x.rec.key) ps) (ap (λ (x : Put). x.rec.key) is) ∙ all_beside ps p.rec.key

-- the first of some puts is of another key than the rest, or not
pub once_of : (ps : List Put) (f : Put) (b : Bool) → 1 ≤ length ps → f ≡ get_or ps 0 f → b ≡ list_any (λ p. is_eq (key_cmp f.rec.key p.rec.key)) (rest_of ps) → are_distinct (put_keys ps) ≡ (not b && are_distinct (put_keys (rest_of ps)))
once_of [] f b some is h = absurd (omega (arith, some))
once_of (p ∷ ps) f b some is h =
    ap (λ x. not x && are_distinct (put_keys ps)) (sym (h ∙ ap (list_any (λ x. is_eq (key_cmp f.rec.key x.rec.key))) (rest_is p ps) ∙ any_key ps f.rec.key ∙ ap (λ (x : Put). has_key (put_keys ps) x.rec.key) is))
    ∙ ap (λ qs. not b && are_distinct (put_keys qs)) (sym (rest_is p ps))
