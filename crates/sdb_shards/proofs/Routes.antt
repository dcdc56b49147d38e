-- A call on the box of its keys' home is a call on what the boxes hold together.
use Rattle.std.proofs.Common.{◌≡◌, ℕ, ◌<◌, ◌⊎◌, inl, inr, Bool, true, false, cond, List, [], ◌∷◌, length, map, get_or, slice_set, refl, sym, ap, subst, ◌∙◌, arith}
use Rattle.std.specs.Prelude.{◌==◌, ◌&&◌, Some, IfErr, IfOk, OnErr, Result, Ok, Err}
use Rattle.std.specs.BTreeMap.{BTreeMap}
use Rattle.std.specs.BTreeMap as tree
use Rattle.std.specs.FinMap.{get, empty, same_map, slice_cmp-IsAntisymmetric}
use Rattle.std.specs.List.{AllByRecursion, list_all}
use Rattle.std.specs.Ordering.{is_eq}
use Rattle.std.specs.Cmp.Lexicographic.{slice_cmp}
use Rattle.std.proofs.lemmas.Bool.{and_parts, eq-eqb, eqb-true, eqb-false}
use Rattle.std.proofs.lemmas.List.{get_or-map, get_or-set_other, get_or-set_same, length-map, length-set, map-set, set-get_or}
use Rattle.sdb_types.specs.declared.key.Key.{Key}
use Rattle.sdb_types.specs.declared.key.TableName.{TableName}
use Rattle.sdb_types.specs.declared.value.Value.{Value}
use Rattle.sdb_types.specs.declared.record.Put.{Put}
use Rattle.sdb_types.specs.declared.record.Span.{Span}
use Rattle.sdb_types.specs.declared.record.Record.{Record}
use Rattle.sdb_types.specs.declared.record.Request.{Request}
use Rattle.sdb_types.specs.declared.record.Request.TheVariants as ask
use Rattle.sdb_types.specs.declared.record.Reply.{Reply}
use Rattle.sdb_types.specs.declared.record.Reply.TheVariants as reply
use Rattle.sdb_types.specs.Exact.{equal_of}
use Rattle.sdb_types.specs.Order.{key_cmp, table_cmp, value_cmp, same_partition, in_one_partition}
use Rattle.sdb_types.specs.ValueLaws.{value_exact}
use Rattle.sdb_types.specs.Contents.{CanAnswer, Contents, in_span, put_keys, reply_to, rows_in, after}
use Rattle.sdb_types.specs.Draws.{counted as next_number}
use Rattle.sdb_types.proofs.Public.{by_test, key_exact, key_total, rows_in-are_rows_of, table_exact}
use Rattle.sdb_store.specs.Store.{IsStoreCall, Performs, faults_after}
use Rattle.sdb_shards.specs.declared.part.Part.{Part}
use Rattle.sdb_shards.specs.declared.shards.Shards.{Shards}
use Rattle.sdb_shards.specs.declared.refused.MoveRefused.{MoveRefused}
use Rattle.sdb_shards.specs.declared.refused.MoveRefused.TheVariants as refused
use Rattle.sdb_shards.specs.Boxes.{HaveRisen, IsBoxCall, contents_at, contents_of, held_at, held_in, sharded}
use Rattle.sdb_shards.specs.Homes.{home_of, partition_key, partition_of}
use Rattle.sdb_shards.specs.Moves.{IsStop}
use Rattle.sdb_shards.specs.Whole.{contents_in, home_in, state_of, whole}
use Rattle.sdb_shards.proofs.Concerned.{Agree, Concerns, after_inside, after_outside, reply_same}
use Rattle.sdb_shards.proofs.Gather.{same_whole, sharded_get}
use Rattle.sdb_shards.proofs.Risen.{call_risen}

---- a box before a call and after it

pub box_at : (ps : List Part) (i : ℕ) (p : Part) → i < length ps → p ≡ get_or ps i p → contents_at ps i ≡ contents_of p
box_at ps i p inside is = get_or-map contents_of ps i p empty inside ∙ ap contents_of (sym is)

pub set_here : (ps : List Part) (i : ℕ) (p : Part) → i < length ps → contents_at (slice_set ps i p) i ≡ contents_of p
set_here ps i p inside =
    ap (λ ms. held_at ms i) (map-set contents_of ps i p) ∙ get_or-set_same (held_in ps) i (contents_of p) empty (omega (arith, inside, length-map ps contents_of))

pub set_others : (ps : List Part) (i j : ℕ) (p : Part) → (j == i) ≡ false → contents_at (slice_set ps i p) j ≡ contents_at ps j
set_others ps i j p other = ap (λ ms. held_at ms j) (map-set contents_of ps i p) ∙ get_or-set_other (held_in ps) i j (contents_of p) empty (eqb-false j i other)

module _ (at : ℕ) (q : Request) (r : Reply) (old new : List Part) (call : IsBoxCall at q r old new) (inside : at < length old) where
  pub was_at : contents_at old at ≡ contents_of call.before
  was_at = box_at old at call.before inside call.stood

  pub now_at : contents_at new at ≡ contents_of call.now
  now_at = ap (λ ps. contents_at ps at) call.rest ∙ set_here old at call.now inside

  pub others_at : (i : ℕ) → (i == at) ≡ false → contents_at new i ≡ contents_at old i
  others_at i other = ap (λ ps. contents_at ps i) call.rest ∙ set_others old at i call.now other

  pub as_many : length new ≡ length old
  as_many = ap length call.rest ∙ length-set old at call.now

  ---- a call on the home

  module _ (home : Key → ℕ) (own : Concerns (λ k. home k == at) q) where
    agree : Agree (λ k. home k == at) (sharded home (held_in old)) (contents_of call.before)
    agree k h =
        sharded_get home (held_in old) k ∙ ap (λ i. get (contents_at old i) k) (eqb-true (home k) at h) ∙ ap (λ m. get m k) was_at

    same : contents_of call.now ≡ contents_of call.before → sharded home (held_in new) ≡ sharded home (held_in old)
    same e = same_whole home home (held_in old) (held_in new) (λ k. by_test (home k == at)
        (λ t. ap (λ i. get (contents_at new i) k) (eqb-true (home k) at t) ∙ ap (λ m. get m k) (now_at ∙ e ∙ sym was_at) ∙ ap (λ i. get (contents_at old i) k) (sym (eqb-true (home k) at t)))
        (λ f. ap (λ m. get m k) (others_at (home k) f)))

    done : contents_of call.now ≡ after q (contents_of call.before) → sharded home (held_in new) ≡ after q (sharded home (held_in old))
    done e = same_map key_total key_exact (sharded home (held_in new)) (after q (sharded home (held_in old))) (λ k. by_test (home k == at)
        (λ t. sharded_get home (held_in new) k ∙ ap (λ i. get (contents_at new i) k) (eqb-true (home k) at t) ∙ ap (λ m. get m k) (now_at ∙ e)
        ∙ sym (after_inside (λ x. home x == at) q (sharded home (held_in old)) (contents_of call.before) own agree k t))
        (λ f. sharded_get home (held_in new) k ∙ ap (λ m. get m k) (others_at (home k) f) ∙ sym (sharded_get home (held_in old) k)
        ∙ sym (after_outside (λ x. home x == at) q (sharded home (held_in old)) own k f)))

    replied : reply_to q (contents_of call.before) ≡ reply_to q (sharded home (held_in old))
    replied = sym (reply_same (λ k. home k == at) q (sharded home (held_in old)) (contents_of call.before) own agree)

    along : (s : Reply) → Performs q s (contents_of call.before) (contents_of call.now) → Performs q s (sharded home (held_in old)) (sharded home (held_in new))
    along reply.Fault h = elim h [ inl e ↦ inl (same e) | inr e ↦ inr (done e) ]
    along reply.NoMemory h = same h
    along (reply.Found found) h = (h.0 ∙ replied, done h.1)
    along (reply.Rows rows) h = (h.0 ∙ replied, done h.1)
    along reply.Applied h = (h.0 ∙ replied, done h.1)
    along (reply.NotMet found) h = (h.0 ∙ replied, done h.1)
    along (reply.NotAll k found) h = (h.0 ∙ replied, done h.1)

    pub routed : Performs q r (sharded home (held_in old)) (sharded home (held_in new))
    routed = along r call.performed

  -- a call on the box of its home, which is counted among as many boxes
  pub performed : (moved : BTreeMap Key ℕ) → Concerns (λ k. home_of (tree.get key_cmp moved) (length old) k == at) q → Performs q r (whole moved old) (whole moved new)
  performed moved own =
      subst (λ (n : ℕ). Performs q r (whole moved old) (sharded (home_of (tree.get key_cmp moved) n) (held_in new))) (sym as_many)
      (routed (home_of (tree.get key_cmp moved) (length old)) own)

---- the keys that a call is about

pub own_key : (home : Key → ℕ) (key : Key) (at : ℕ) → at ≡ home key → (home key == at) ≡ true
own_key home key at is = eq-eqb (home key) at (sym is)

exact_values : (a b : List Value) → is_eq (slice_cmp value_cmp a b) ≡ true → a ≡ b
exact_values a b h = slice_cmp-IsAntisymmetric value_exact a b (equal_of (slice_cmp value_cmp a b) h)

exact_tables : (a b : TableName) → is_eq (table_cmp a b) ≡ true → a ≡ b
exact_tables a b h = table_exact a b (equal_of (table_cmp a b) h)

pub one_partition : (a b : Key) → same_partition a b ≡ true → partition_of b ≡ partition_of a
one_partition a b h =
    let p = and_parts (is_eq (table_cmp a.table b.table)) (is_eq (slice_cmp value_cmp a.partition b.partition)) h in
    let table = exact_tables a.table b.table p.0 in
    let partition = exact_values a.partition b.partition p.1 in
    sym (λ i. partition_key (table i) (partition i))

pub own_span : (moved : BTreeMap Key ℕ) (boxes : ℕ) (table : TableName) (values : List Value) (at : ℕ) → at ≡ home_of (tree.get key_cmp moved) boxes (partition_key table values)
    → (k : Key) → in_span (record { table = table; partition = Some values }) k ≡ true → (home_of (tree.get key_cmp moved) boxes k == at) ≡ true
own_span moved boxes table values at is k inside =
    own_key (home_of (tree.get key_cmp moved) boxes) k at (is ∙ ap (home_of (tree.get key_cmp moved) boxes) (sym (one_partition (partition_key table values) k inside)))

own_rest : (moved : BTreeMap Key ℕ) (boxes : ℕ) (key : Key) (at : ℕ) (ps : List Put) → at ≡ home_of (tree.get key_cmp moved) boxes key → list_all (same_partition key) (put_keys ps) ≡ true
    → AllByRecursion (λ x. (home_of (tree.get key_cmp moved) boxes x.rec.key == at) ≡ true) ps
own_rest moved boxes key at [] is one = tt
own_rest moved boxes key at (p ∷ ps) is one =
    let parts = and_parts (same_partition key p.rec.key) (list_all (same_partition key) (put_keys ps)) one in
    (own_key (home_of (tree.get key_cmp moved) boxes) p.rec.key at (is ∙ ap (home_of (tree.get key_cmp moved) boxes) (sym (one_partition key p.rec.key parts.0))), own_rest moved boxes key at ps is parts.1)

pub own_batch : (moved : BTreeMap Key ℕ) (boxes : ℕ) (at : ℕ) (b : List Put) (key : Key) → ((d : Put) → key ≡ (get_or b 0 d).rec.key) → at ≡ home_of (tree.get key_cmp moved) boxes key → in_one_partition (put_keys b) ≡ true
    → AllByRecursion (λ x. (home_of (tree.get key_cmp moved) boxes x.rec.key == at) ≡ true) b
own_batch moved boxes at [] key first home one = tt
own_batch moved boxes at (p ∷ ps) key first home one =
    let here : at ≡ home_of (tree.get key_cmp moved) boxes p.rec.key = home ∙ ap (home_of (tree.get key_cmp moved) boxes) (first p) in
    (own_key (home_of (tree.get key_cmp moved) boxes) p.rec.key at here, own_rest moved boxes p.rec.key at ps here one)

---- a call of the whole

-- a call on the box of its home is one of the store over the boxes
pub called_home : (q : Request) (r s : Reply) (at : ℕ) (old mid new : Shards) (boxes : List Part) → mid.boxes ≡ old.boxes → mid.moved ≡ old.moved → at < length old.boxes → Concerns (λ k. home_in old k == at) q → IsBoxCall at q r mid.boxes boxes
    → contents_in new ≡ whole mid.moved boxes → s ≡ r → new.calls ≡ next_number old.calls → new.faults ≡ faults_after r old.faults → IsStoreCall q s (state_of old) (state_of new)
called_home q r s at old mid new boxes same_boxes same_moved inside own call left is counted cause =
    let here : IsBoxCall at q r old.boxes boxes = subst (λ (ps : List Part). IsBoxCall at q r ps boxes) same_boxes call in
    let after_all : contents_in new ≡ whole old.moved boxes = left ∙ ap (λ m. whole m boxes) same_moved in
    subst (λ (x : Reply). IsStoreCall q x (state_of old) (state_of new)) (sym is) (record {
      where_known = λ h. tt;
      performed = λ h. subst (λ (m : Contents). Performs q r (contents_in old) m) (sym after_all) (performed at q r old.boxes boxes here inside old.moved own);
      lawful = call.lawful;
      counted = counted;
      cause = cause;
    })

lawful_starved : (q : Request) → CanAnswer q reply.NoMemory
lawful_starved (ask.Get key) = tt
lawful_starved (ask.Scan span) = tt
lawful_starved (ask.PutIf r condition) = tt
lawful_starved (ask.DeleteIf key condition) = tt
lawful_starved (ask.PutAll b) = tt

-- a call for which there is no memory
pub starved : (q : Request) (s : Reply) (old new : Shards) → contents_in new ≡ contents_in old → s ≡ reply.NoMemory → new.calls ≡ next_number old.calls → new.faults ≡ old.faults → IsStoreCall q s (state_of old) (state_of new)
starved q s old new left is counted cause =
    subst (λ (x : Reply). IsStoreCall q x (state_of old) (state_of new)) (sym is) (record {
      where_known = λ h. tt;
      performed = λ h. left;
      lawful = lawful_starved q;
      counted = counted;
      cause = cause;
    })

-- a scan that changes no contents
pub scanned : (span : Span) (r s : Reply) (old new : Shards) → contents_in new ≡ contents_in old → (r ≡ reply.Rows (rows_in span (contents_in old))) ⊎ ((r ≡ reply.Fault) ⊎ (r ≡ reply.NoMemory)) → s ≡ r → new.calls ≡ next_number old.calls → new.faults ≡ faults_after r old.faults
    → IsStoreCall (ask.Scan span) s (state_of old) (state_of new)
scanned span r s old new left how is counted cause =
    elim how [
      | inl rows ↦ by (reply.Rows (rows_in span (contents_in old))) (is ∙ rows) (rows_in-are_rows_of span (contents_in old)) (λ h. (refl, left)) (cause ∙ ap (λ x. faults_after x old.faults) rows)
      | inr other ↦ elim other [
        | inl fault ↦ by reply.Fault (is ∙ fault) tt (λ h. inl left) (cause ∙ ap (λ x. faults_after x old.faults) fault)
        | inr none ↦ by reply.NoMemory (is ∙ none) tt (λ h. left) (cause ∙ ap (λ x. faults_after x old.faults) none)
      ]
    ]
  where
    by : (x : Reply) → s ≡ x → CanAnswer (ask.Scan span) x → (Unit {0} → Performs (ask.Scan span) x (contents_in old) (contents_in new)) → new.faults ≡ faults_after x old.faults → IsStoreCall (ask.Scan span) s (state_of old) (state_of new)
    by x same can done count = subst (λ (y : Reply). IsStoreCall (ask.Scan span) y (state_of old) (state_of new)) (sym same) (record {
      where_known = λ h. tt;
      performed = done;
      lawful = can;
      counted = counted;
      cause = count;
    })

-- a scan of a box leaves what each box holds
pub scan_keeps : (at : ℕ) (span : Span) (r : Reply) (old new : List Part) → at < length old → IsBoxCall at (ask.Scan span) r old new → held_in new ≡ held_in old
scan_keeps at span r old new inside call =
    ap held_in call.rest ∙ map-set contents_of old at call.now ∙ ap (slice_set (held_in old) at) (left r call.performed ∙ sym (was_at at (ask.Scan span) r old new call inside)) ∙ set-get_or (held_in old) at empty
  where
    left : (x : Reply) → Performs (ask.Scan span) x (contents_of call.before) (contents_of call.now) → contents_of call.now ≡ contents_of call.before
    left reply.Fault h = elim h [ inl e ↦ e | inr e ↦ e ]
    left reply.NoMemory h = h
    left (reply.Found found) h = h.1
    left (reply.Rows rows) h = h.1
    left reply.Applied h = h.1
    left (reply.NotMet found) h = h.1
    left (reply.NotAll k found) h = h.1

rows_are : (x y : List Record) → reply.Rows x ≡ reply.Rows y → x ≡ y
rows_are x y e = cc

-- and the rows that it answers are those of the box
pub scan_rows : (at : ℕ) (span : Span) (rows : List Record) (r : Reply) (old new : List Part) → at < length old → r ≡ reply.Rows rows → IsBoxCall at (ask.Scan span) r old new → rows ≡ rows_in span (contents_at old at)
scan_rows at span rows r old new inside is call =
    let done : Performs (ask.Scan span) (reply.Rows rows) (contents_of call.before) (contents_of call.now) = subst (λ (x : Reply). Performs (ask.Scan span) x (contents_of call.before) (contents_of call.now)) is call.performed in
    rows_are rows (rows_in span (contents_of call.before)) done.0 ∙ ap (rows_in span) (sym (was_at at (ask.Scan span) r old new call inside))

pub rows_scanned : {E : Type 0} (at : ℕ) (span : Span) (r : Reply) (old new : List Part) (found : Result (List Record) E) → at < length old → IsBoxCall at (ask.Scan span) r old new → IfOk found (λ rows. r ≡ reply.Rows rows) → IfOk found (λ rows. rows ≡ rows_in span (contents_at old at))
rows_scanned at span r old new (Ok rows) inside call is = scan_rows at span rows r old new inside is call
rows_scanned at span r old new (Err e) inside call is = tt

-- the keys of a span that names a partition
pub own_named : (s : Shards) (span : Span) (values : List Value) (at : ℕ) → span.partition ≡ Some values → at ≡ home_in s (partition_key span.table values) → (k : Key) → in_span span k ≡ true → (home_in s k == at) ≡ true
own_named s span values at named is k inside = own_span s.moved (length s.boxes) span.table values at is k (sym (ap (λ o. in_span (record { table = span.table; partition = o }) k) named) ∙ inside)

-- the reply to the rows that were gathered, or to what came in their way
pub listed_how : {E : Type 0} (found : Result (List Record) E) (r : Reply) (x : List Record) → IfOk found (λ rows. r ≡ reply.Rows rows) → OnErr found ((r ≡ reply.Fault) ⊎ (r ≡ reply.NoMemory)) → IfOk found (λ rows. rows ≡ x)
    → (r ≡ reply.Rows x) ⊎ ((r ≡ reply.Fault) ⊎ (r ≡ reply.NoMemory))
listed_how (Ok rows) r x is other e = inl (is ∙ ap reply.Rows e)
listed_how (Err e) r x is other same = inr other

---- failures

pub not_applied : (r : Reply) → r ≡ reply.Fault → r ≡ reply.Applied → ⊥
not_applied r failed done = let same : reply.Fault ≡ reply.Applied = sym failed ∙ done in cc

-- a call that fails as that of its home does
pub failed_home : (at : ℕ) (q : Request) (r s : Reply) (old mid left new : List Part) → mid ≡ old → at < length old → IsBoxCall at q r mid left → s ≡ r → (r ≡ reply.Fault → new ≡ left) → s ≡ reply.Fault → HaveRisen old new
failed_home at q r s old mid left new same inside call is stays fault =
    let failed : r ≡ reply.Fault = sym is ∙ fault in
    subst (HaveRisen old) (sym (stays failed)) (call_risen at q r old left (subst (λ (ps : List Part). IsBoxCall at q r ps left) same call) inside failed)

-- and one that fails as the rows are gathered
pub failed_rows : (found : Result (List Record) MoveRefused) (r s : Reply) (old left new : List Part) → (r ≡ reply.Fault → found ≡ Err refused.Fault) → IfErr found (IsStop old left) → s ≡ r → new ≡ left → s ≡ reply.Fault → HaveRisen old new
failed_rows found r s old left new how why is stays fault =
    let stopped : IsStop old left refused.Fault = subst (λ (f : Result (List Record) MoveRefused). IfErr f (IsStop old left)) (how (sym is ∙ fault)) why in
    subst (HaveRisen old) (sym stays) stopped
