-- A partition that is moved: what the boxes hold together stays.
use Rattle.std.proofs.Common.{◌≡◌, ◌≢◌, ℕ, ◌<◌, ◌%◌, Bool, true, false, cond, List, [], length, Some, refl, sym, ap, subst, ◌∙◌}
use Rattle.std.specs.Prelude.{◌==◌, unwrap_or}
use Rattle.std.specs.Bool.{Decides, one_answer}
use Rattle.std.specs.BTreeMap.{BTreeMap}
use Rattle.std.specs.BTreeMap as tree
use Rattle.std.specs.Cmp.{tied_itself}
use Rattle.std.specs.Cmp.Lexicographic.{lists_total, slice_cmp}
use Rattle.std.specs.FinMap.{get}
use Rattle.std.specs.Ordering.{eq_by_cmp, is_eq}
use Rattle.std.proofs.lemmas.Bool.{and_from, both_ways, eqb-true, ne_eqb}
use Rattle.sdb_types.specs.declared.key.Key.{Key}
use Rattle.sdb_types.specs.declared.record.Record.{Record}
use Rattle.sdb_types.specs.declared.record.Span.{Span}
use Rattle.sdb_types.specs.Exact.{equal_of}
use Rattle.sdb_types.specs.Order.{has_key, key_cmp, table_cmp, value_cmp}
use Rattle.sdb_types.specs.ValueLaws.{value_total}
use Rattle.sdb_types.specs.Contents.{in_span, rows_in}
use Rattle.sdb_types.proofs.Public.{by_test, clash, false_by, key_exact, key_total, some_is, table_total}
use Rattle.sdb_shards.specs.declared.part.Part.{Part}
use Rattle.sdb_shards.specs.Boxes.{contents_at, held_at, held_in, sharded}
use Rattle.sdb_shards.specs.Homes.{AreHomes, home_of, number_of, partition_of, span_of}
use Rattle.sdb_shards.specs.Moves.{ChangesOnly, keys_of}
use Rattle.sdb_shards.specs.Whole.{whole}
use Rattle.sdb_shards.proofs.Gather.{same_whole}
use Rattle.sdb_shards.proofs.Routes.{one_partition}
use Rattle.sdb_shards.proofs.Rows.{rows_outside}

---- changes of a box that is not the home

pub kept : (p : Key → Bool) (at : ℕ) (home : Key → ℕ) (old new : List Part) → ChangesOnly p at old new → ((k : Key) → p k ≡ true → (home k == at) ≡ false) → (k : Key) → get (contents_at new (home k)) k ≡ get (contents_at old (home k)) k
kept p at home old new change away k = by_test (home k == at)
    (λ t. ap (λ i. get (contents_at new i) k) (eqb-true (home k) at t) ∙ change.outside k (false_by (p k) (λ h. both_ways (home k == at) (away k h) t)) ∙ sym (ap (λ i. get (contents_at old i) k) (eqb-true (home k) at t)))
    (λ f. ap (λ m. get m k) (change.others (home k) f))

---- homes after a move

module _ (key : Key) (flat : key.clustering ≡ []) where
  flat_key : partition_of key ≡ key
  flat_key = λ i. record { table = key.table; partition = key.partition; clustering = sym flat i }

  named : (k : Key) → in_span (span_of key) k ≡ true → partition_of k ≡ key
  named k h = one_partition key k h ∙ flat_key

  inside_of : (k : Key) → partition_of k ≡ key → in_span (span_of key) k ≡ true
  inside_of k e = and_from (is_eq (table_cmp key.table k.table)) (is_eq (slice_cmp value_cmp key.partition k.partition))
      (subst (λ (t : Key). is_eq (table_cmp t.table k.table) ≡ true) e (ap is_eq (tied_itself table_total k.table)))
      (subst (λ (t : Key). is_eq (slice_cmp value_cmp t.partition k.partition) ≡ true) e (ap is_eq (tied_itself (lists_total value_total) k.partition)))

  tied : (k : Key) → Decides (eq_by_cmp key_cmp key (partition_of k)) (partition_of k ≡ key)
  tied k = (
    λ h. sym (key_exact key (partition_of k) (equal_of (key_cmp key (partition_of k)) h)),
    λ e. subst (λ (x : Key). eq_by_cmp key_cmp x (partition_of k) ≡ true) e (ap is_eq (tied_itself key_total (partition_of k))),
  )

  one_test : (k : Key) → eq_by_cmp key_cmp key (partition_of k) ≡ in_span (span_of key) k
  one_test k = one_answer (eq_by_cmp key_cmp key (partition_of k)) (in_span (span_of key) k) (tied k) (named k, inside_of k)

  -- the keys of the partition get the new home, and others keep theirs
  pub home_given : (old new : BTreeMap Key ℕ) (v n : ℕ) → ((q : Key) → tree.get key_cmp new q ≡ cond (eq_by_cmp key_cmp key q) (Some v) (tree.get key_cmp old q)) → (k : Key)
      → home_of (tree.get key_cmp new) n k ≡ cond (in_span (span_of key) k) v (home_of (tree.get key_cmp old) n k)
  home_given old new v n is k =
      ap (λ o. unwrap_or o (number_of (partition_of k) % n)) (is (partition_of k) ∙ ap (λ b. cond b (Some v) (tree.get key_cmp old (partition_of k))) (one_test k))
      ∙ elim (in_span (span_of key) k) as (λ b. unwrap_or (cond b (Some v) (tree.get key_cmp old (partition_of k))) (number_of (partition_of k) % n) ≡ cond b v (home_of (tree.get key_cmp old) n k)) [ true ↦ refl | false ↦ refl ]

  -- the keys of the partition have its home
  pub home_inside : (moved : BTreeMap Key ℕ) (n from : ℕ) → from ≡ home_of (tree.get key_cmp moved) n key → (k : Key) → in_span (span_of key) k ≡ true → home_of (tree.get key_cmp moved) n k ≡ from
  home_inside moved n from is k h = ap (home_of (tree.get key_cmp moved) n) (one_partition key k h) ∙ sym is

  -- the present home given once more changes no home
  pub home_again : (old new : BTreeMap Key ℕ) (from n : ℕ) → from ≡ home_of (tree.get key_cmp old) n key → ((q : Key) → tree.get key_cmp new q ≡ cond (eq_by_cmp key_cmp key q) (Some from) (tree.get key_cmp old q)) → (k : Key)
      → home_of (tree.get key_cmp new) n k ≡ home_of (tree.get key_cmp old) n k
  home_again old new from n here is k = home_given old new from n is k ∙ by_test (in_span (span_of key) k)
      (λ t. ap (λ b. cond b from (home_of (tree.get key_cmp old) n k)) t ∙ sym (home_inside old n from here k t))
      (λ f. ap (λ b. cond b from (home_of (tree.get key_cmp old) n k)) f)

  ---- the steps of a move

  module _ (old new : BTreeMap Key ℕ) (from to : ℕ) (boxes later : List Part) (here : from ≡ home_of (tree.get key_cmp old) (length boxes) key) (other : from ≢ to)
      (same : (k : Key) → home_of (tree.get key_cmp new) (length boxes) k ≡ home_of (tree.get key_cmp old) (length boxes) k) (change : ChangesOnly (in_span (span_of key)) to boxes later) where
    away : (k : Key) → in_span (span_of key) k ≡ true → (home_of (tree.get key_cmp old) (length boxes) k == to) ≡ false
    away k h = ne_eqb (home_of (tree.get key_cmp old) (length boxes) k) to (λ e. other (sym (home_inside old (length boxes) from here k h) ∙ e))

    steady : (k : Key) → get (contents_at later (home_of (tree.get key_cmp old) (length boxes) k)) k ≡ get (contents_at boxes (home_of (tree.get key_cmp old) (length boxes) k)) k
    steady = kept (in_span (span_of key)) to (home_of (tree.get key_cmp old) (length boxes)) boxes later change away

    -- copies in another box change nothing
    pub copies_hidden : whole new later ≡ whole old boxes
    copies_hidden =
        ap (λ n. sharded (home_of (tree.get key_cmp new) n) (held_in later)) change.size
        ∙ same_whole (home_of (tree.get key_cmp old) (length boxes)) (home_of (tree.get key_cmp new) (length boxes)) (held_in boxes) (held_in later)
        (λ k. ap (λ i. get (contents_at later i) k) (same k) ∙ steady k)

    -- nor does the new home, where all records are copied, nor what is then taken out of the old one
    pub home_turned : (last : BTreeMap Key ℕ) (cleared : List Part) (p : Key → Bool) → ((q : Key) → tree.get key_cmp last q ≡ cond (eq_by_cmp key_cmp key q) (Some to) (tree.get key_cmp new q))
        → ((k : Key) → in_span (span_of key) k ≡ true → get (contents_at later to) k ≡ get (contents_at boxes from) k)
        → ChangesOnly p from later cleared → ((k : Key) → p k ≡ true → in_span (span_of key) k ≡ true) → whole last cleared ≡ whole old boxes
    home_turned last cleared p given copied swept within =
        ap (λ n. sharded (home_of (tree.get key_cmp last) n) (held_in cleared)) (swept.size ∙ change.size)
        ∙ same_whole (home_of (tree.get key_cmp old) (length boxes)) (home_of (tree.get key_cmp last) (length boxes)) (held_in boxes) (held_in cleared)
        (λ k. kept p from (home_of (tree.get key_cmp last) (length boxes)) later cleared swept (λ q h. turned q (within q h)) k ∙ at_new k)
      where
        now : (k : Key) → home_of (tree.get key_cmp last) (length boxes) k ≡ cond (in_span (span_of key) k) to (home_of (tree.get key_cmp old) (length boxes) k)
        now k = home_given new last to (length boxes) given k ∙ ap (cond (in_span (span_of key) k) to) (same k)

        now_in : (k : Key) → in_span (span_of key) k ≡ true → home_of (tree.get key_cmp last) (length boxes) k ≡ to
        now_in k h = now k ∙ ap (λ b. cond b to (home_of (tree.get key_cmp old) (length boxes) k)) h

        turned : (k : Key) → in_span (span_of key) k ≡ true → (home_of (tree.get key_cmp last) (length boxes) k == from) ≡ false
        turned k h = ne_eqb (home_of (tree.get key_cmp last) (length boxes) k) from (λ e. other (sym e ∙ now_in k h))

        at_new : (k : Key) → get (contents_at later (home_of (tree.get key_cmp last) (length boxes) k)) k ≡ get (contents_at boxes (home_of (tree.get key_cmp old) (length boxes) k)) k
        at_new k = by_test (in_span (span_of key) k)
            (λ t. ap (λ i. get (contents_at later i) k) (now_in k t) ∙ copied k t ∙ ap (λ i. get (contents_at boxes i) k) (sym (home_inside old (length boxes) from here k t)))
            (λ f. ap (λ i. get (contents_at later i) k) (now k ∙ ap (λ b. cond b to (home_of (tree.get key_cmp old) (length boxes) k)) f) ∙ steady k)

---- each home is the number of a box

pub given_homes : (key : Key) (old new : BTreeMap Key ℕ) (v n : ℕ) → AreHomes n old → v < n → ((q : Key) → tree.get key_cmp new q ≡ cond (eq_by_cmp key_cmp key q) (Some v) (tree.get key_cmp old q)) → AreHomes n new
given_homes key old new v n are less is = record {
  some = are.some;
  few = are.few;
  inside = λ p at e. by_test (eq_by_cmp key_cmp key p)
      (λ t. subst (λ (x : ℕ). x < n) (some_is v at (sym (is p ∙ ap (λ b. cond b (Some v) (tree.get key_cmp old p)) t) ∙ e)) less)
      (λ f. are.inside p at (sym (is p ∙ ap (λ b. cond b (Some v) (tree.get key_cmp old p)) f) ∙ e));
}

pub same_homes : (old new : BTreeMap Key ℕ) (n : ℕ) → AreHomes n old → ((q : Key) → tree.get key_cmp new q ≡ tree.get key_cmp old q) → AreHomes n new
same_homes old new n are is = record { some = are.some; few = are.few; inside = λ p at e. are.inside p at (sym (is p) ∙ e) }

pub home_unmoved : (old new : BTreeMap Key ℕ) (n : ℕ) → ((q : Key) → tree.get key_cmp new q ≡ tree.get key_cmp old q) → (k : Key) → home_of (tree.get key_cmp new) n k ≡ home_of (tree.get key_cmp old) n k
home_unmoved old new n is k = ap (λ o. unwrap_or o (number_of (partition_of k) % n)) (is (partition_of k))

pub whole_unmoved : (old new : BTreeMap Key ℕ) (boxes : List Part) → ((q : Key) → tree.get key_cmp new q ≡ tree.get key_cmp old q) → whole new boxes ≡ whole old boxes
whole_unmoved old new boxes is =
    same_whole (home_of (tree.get key_cmp old) (length boxes)) (home_of (tree.get key_cmp new) (length boxes)) (held_in boxes) (held_in boxes) (λ q. ap (λ i. get (held_at (held_in boxes) i) q) (home_unmoved old new (length boxes) is q))

---- the move as it is made: with a copy of the key, and a span

given_along : (key copied : Key) → copied ≡ key → (old new : BTreeMap Key ℕ) (v : ℕ) → ((q : Key) → tree.get key_cmp new q ≡ cond (eq_by_cmp key_cmp copied q) (Some v) (tree.get key_cmp old q)) → (q : Key)
    → tree.get key_cmp new q ≡ cond (eq_by_cmp key_cmp key q) (Some v) (tree.get key_cmp old q)
given_along key copied e old new v is q = is q ∙ ap (λ x. cond (eq_by_cmp key_cmp x q) (Some v) (tree.get key_cmp old q)) e

module _ (key copied : Key) (span : Span) (flat : key.clustering ≡ []) (copied_is : copied ≡ key) (span_is : span ≡ span_of key) (old new : BTreeMap Key ℕ) (from to : ℕ) (boxes later : List Part)
    (here : from ≡ home_of (tree.get key_cmp old) (length boxes) key) (other : from ≢ to) (given : (q : Key) → tree.get key_cmp new q ≡ cond (eq_by_cmp key_cmp copied q) (Some from) (tree.get key_cmp old q))
    (change : ChangesOnly (in_span span) to boxes later) where
  again : (k : Key) → home_of (tree.get key_cmp new) (length boxes) k ≡ home_of (tree.get key_cmp old) (length boxes) k
  again = home_again key flat old new from (length boxes) here (given_along key copied copied_is old new from given)

  inside_change : ChangesOnly (in_span (span_of key)) to boxes later
  inside_change = subst (λ (s : Span). ChangesOnly (in_span s) to boxes later) span_is change

  -- and no home
  pub homes_stay : (k : Key) → home_of (tree.get key_cmp new) (length later) k ≡ home_of (tree.get key_cmp old) (length boxes) k
  homes_stay k = ap (λ n. home_of (tree.get key_cmp new) n k) change.size ∙ again k

  pub homes_stopped : (last : BTreeMap Key ℕ) → ((q : Key) → tree.get key_cmp last q ≡ tree.get key_cmp new q) → (k : Key) → home_of (tree.get key_cmp last) (length later) k ≡ home_of (tree.get key_cmp old) (length boxes) k
  homes_stopped last is k = home_unmoved new last (length later) is k ∙ homes_stay k

  pub homes_turned : (last : BTreeMap Key ℕ) (cleared : List Part) → length cleared ≡ length later → ((q : Key) → tree.get key_cmp last q ≡ cond (eq_by_cmp key_cmp key q) (Some to) (tree.get key_cmp new q)) → (k : Key)
      → home_of (tree.get key_cmp last) (length cleared) k ≡ cond (in_span (span_of key) k) to (home_of (tree.get key_cmp old) (length boxes) k)
  homes_turned last cleared size turned k =
      ap (λ n. home_of (tree.get key_cmp last) n k) size ∙ home_given key flat new last to (length later) turned k ∙ ap (cond (in_span (span_of key) k) to) (homes_stay k)

  -- the copies change nothing
  pub carry_hidden : whole new later ≡ whole old boxes
  carry_hidden = copies_hidden key flat old new from to boxes later here other again inside_change

  -- nor does a home that could not be given
  pub carry_stopped : (last : BTreeMap Key ℕ) → ((q : Key) → tree.get key_cmp last q ≡ tree.get key_cmp new q) → whole last later ≡ whole old boxes
  carry_stopped last is = whole_unmoved new last later is ∙ carry_hidden

  -- nor the whole move
  pub carry_turned : (last : BTreeMap Key ℕ) (cleared : List Part) (rows : List Record) → rows ≡ rows_in span (contents_at boxes from) → ((q : Key) → tree.get key_cmp last q ≡ cond (eq_by_cmp key_cmp key q) (Some to) (tree.get key_cmp new q))
      → ((k : Key) → in_span span k ≡ true → get (contents_at later to) k ≡ get (contents_at boxes from) k)
      → ChangesOnly (has_key (keys_of rows)) from later cleared → whole last cleared ≡ whole old boxes
  carry_turned last cleared rows are turned copies swept =
      home_turned key flat old new from to boxes later here other again inside_change last cleared (has_key (keys_of rows)) turned
      (subst (λ (s : Span). (k : Key) → in_span s k ≡ true → get (contents_at later to) k ≡ get (contents_at boxes from) k) span_is copies) swept
      (λ k h. subst (λ (s : Span). in_span s k ≡ true) span_is
      (by_test (in_span span k) (λ t. t) (λ f. clash (sym h ∙ ap (λ x. has_key (keys_of x) k) are ∙ rows_outside span (contents_at boxes from) k f))))
