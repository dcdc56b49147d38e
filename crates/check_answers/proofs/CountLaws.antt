-- The tests of counts hold exactly where the calls are counted.
use Rattle.std.proofs.Common.{◌≡◌, ℕ, zero, suc, ◌+◌, ◌-◌, ◌*◌, ◌≤◌, ◌<◌, Bool, true, false, List, [], ◌∷◌, length, Option, Some, None, refl, sym, ap, ◌∙◌, arith, subst, inl, inr}
use Rattle.std.specs.Prelude.{◌↔◌, ◌&&◌, ◌||◌, not, All, IsTrue, count_by, filter, flat_map, sum_by, cond, if◌then◌else◌}
use Rattle.std.proofs.lemmas.List.{length-append, length-map}
use Rattle.std.proofs.lemmas.List.Elements.{filter-append}
use Rattle.std.proofs.lemmas.List.Sums.{sum_by-cons}
use Rattle.check_answers.specs.Types.{Answer, Event, Made, Table, TxId}
use Rattle.sdb_record.specs.Meta.{is_unresolved}
use Rattle.sdb_model.specs.declared.answer.Answer.TheVariants as answer
use Rattle.sdb_model.specs.Calls as calls
use Rattle.sdb_model.specs.Calls.{calls_of, is_removal, records_read}
use Rattle.sdb_model.specs.Causes.{IsCommitOf}
use Rattle.sdb_model.specs.Counted.{IsCommitCounted, IsReadCounted, IsVacuumCounted, checks_wanted, is_checked_get, is_key_of, is_scan, is_seen, prepares_in, puts_prepared, unresolved_in}
use Rattle.sdb_model.specs.Requests.{records_put}
use Rattle.sdb_model.specs.ReadSet.{ReadItem, KeyRead, SpanRead, read_set_of, reads_rows}
use Rattle.sdb_model.specs.Sql.{reads_commit, reads_vacuum}
use Rattle.sdb_model.specs.Transactions.{Executed, id_of, prepares, statements_by, is_committed_answer}
use Rattle.check_protocol.proofs.Public.{all_each, each_all, In, is_number, not_both, not_true, number_is, or_left, right, true_not}
use Rattle.check_tables.specs.Values.{all_made, made_of}
use Rattle.check_answers.specs.Tests.{any_id, any_upto, is_commit_of}
use Rattle.check_answers.proofs.Finds.{in_made, made_in, in_contains}
use Rattle.check_answers.proofs.IdLaws.{commit_found, commit_is, is_commit, id_some, upto_step}
use Rattle.check_answers.specs.Counts.{IsExecutedCounted, all_seen, as_many, at_most, checks_by, commit_counted, covered, is_check, is_put_for, miscounted, others_counted, prepares_by, puts_by, read_counted, unresolved_by, vacuum_counted}
use Rattle.check_answers.proofs.Maps.{any_kept, count_both, count_mapped, filter_count, kept_count}
use Rattle.sdb_types.proofs.Public.{and_both as both, and_first as left, clash, decides as decide, either, or_second as or_right}

all_of : {X : Type 0} (P : X → Type 0) (xs : List X) → ((x : X) → In xs x → P x) → All P xs
all_of P [] h k d lt = absurd (omega (arith, lt))
all_of P (x ∷ xs) h zero d lt = h x (inl refl)
all_of P (x ∷ xs) h (suc k) d lt = all_of P xs (λ y i. h y (inr i)) k d (omega (arith, lt))

---- the calls of a COMMIT

prepares_are : (id : TxId) (ms : List Made) → length (prepares_in id (all_made ms)) ≡ prepares_by ms id
prepares_are id ms = kept_count (λ m. prepares id m.request) made_of ms

checks_are : (events : List Event) (id : TxId) (ms : List Made) → checks_wanted events id (all_made ms) ≡ checks_by ms (read_set_of events id) id
checks_are events id ms = count_both (is_checked_get (prepares_in id (all_made ms))) is_scan (is_check ms id) item (read_set_of events id)
  where
    either_is : (b : Bool) → cond b 1 0 + 0 ≡ cond b 1 0
    either_is true = refl
    either_is false = refl

    item : (n : ReadItem) → cond (is_checked_get (prepares_in id (all_made ms)) n) 1 0 + cond (is_scan n) 1 0 ≡ cond (is_check ms id n) 1 0
    item (KeyRead read) = either_is (is_checked_get (prepares_in id (all_made ms)) (KeyRead read)) ∙ ap (λ b. cond (not b) 1 0) (any_kept (is_key_of read.key) (λ m. prepares id m.request) made_of ms)
    item (SpanRead scan) = refl

abbrev all_put : TxId → List Made → ℕ
all_put id [] = 0
all_put id (m ∷ ms) = puts_by id m + all_put id ms

puts_are : (id : TxId) (ms : List Made) → puts_prepared id (all_made ms) ≡ all_put id ms
puts_are id [] = refl
puts_are id (m ∷ ms) = by (prepares id m.request) (puts_are id ms)
  where
    rest : List calls.StoreCall
    rest = prepares_in id (all_made ms)

    by : (b : Bool) → sum_by (λ c. length (records_put c.request)) rest ≡ all_put id ms → sum_by (λ c. length (records_put c.request)) (cond b (made_of m ∷ rest) rest) ≡ (if b then length (records_put m.request) else 0) + all_put id ms
    by true e = sum_by-cons (λ (c : calls.StoreCall). length (records_put c.request)) (made_of m) rest ∙ ap (λ n. length (records_put m.request) + n) e
    by false e = omega (arith, e)

put_for_is : (id : TxId) (n : ℕ) (ms : List Made) → is_put_for id n ms ≡ true → n ≤ all_put id ms
put_for_is id n [] h = let z : n ≡ 0 = number_is n 0 h in omega (arith, z)
put_for_is id n (m ∷ ms) h = by (puts_by id m) (put_for_is id (n - puts_by id m) ms h)
  where
    by : (k : ℕ) → n - k ≤ all_put id ms → n ≤ k + all_put id ms
    by k l = omega (arith, l)

is_put_for_of : (id : TxId) (n : ℕ) (ms : List Made) → n ≤ all_put id ms → is_put_for id n ms ≡ true
is_put_for_of id n [] l = is_number n 0 (omega (arith, l))
is_put_for_of id n (m ∷ ms) l = is_put_for_of id (n - puts_by id m) ms (by (puts_by id m) l)
  where
    by : (k : ℕ) → n ≤ k + all_put id ms → n - k ≤ all_put id ms
    by k l = omega (arith, l)

seen_is : (ms : List Made) → All (λ m. is_seen m.how ≡ true) (all_made ms) → all_seen ms ≡ true
seen_is ms all = each_all (λ m. is_seen m.how) ms (λ m i. let k = in_contains (all_made ms) (made_of m) (made_in ms m i) in subst (λ x. is_seen x.how ≡ true) k.2 (all k.0 (made_of m) k.1))

is_seen_of : (ms : List Made) → all_seen ms ≡ true → All (λ m. is_seen m.how ≡ true) (all_made ms)
is_seen_of ms h = all_of (λ m. is_seen m.how ≡ true) (all_made ms) (λ c i. let r = in_made ms c i in ap (λ x. is_seen x.how) r.2 ∙ all_each (λ m. is_seen m.how) ms h r.0 r.1)

told_is : (o : Option Answer) → is_committed_answer o ≡ true → o ≡ Some answer.Committed
told_is None h = clash (sym h)
told_is (Some answer.Committed) h = refl
told_is (Some (answer.Rows rows)) h = clash (sym h)
told_is (Some (answer.Count n)) h = clash (sym h)
told_is (Some answer.Done) h = clash (sym h)
told_is (Some (answer.Duplicate key)) h = clash (sym h)
told_is (Some (answer.Busy key id at)) h = clash (sym h)
told_is (Some (answer.Conflict key found)) h = clash (sym h)
told_is (Some (answer.Expired id)) h = clash (sym h)
told_is (Some answer.Faulted) h = clash (sym h)
told_is (Some (answer.Unknown id)) h = clash (sym h)
told_is (Some (answer.BadRecord key)) h = clash (sym h)
told_is (Some (answer.Refused r)) h = clash (sym h)
told_is (Some answer.Vacuuming) h = clash (sym h)
told_is (Some answer.OpenTransactions) h = clash (sym h)
told_is (Some answer.NoMemory) h = clash (sym h)

module _ (events : List Event) (id : TxId) (s : Executed) (ms : List Made) where
  abbrev most : Bool
  most = at_most ms (read_set_of events id) id

  abbrev answered : Bool
  answered = is_committed_answer s.answer && all_seen ms

  abbrev exact : Bool
  exact = as_many ms (read_set_of events id) id

  counts : (length (all_made ms) ≡ length ms) × (length (prepares_in id (all_made ms)) ≡ prepares_by ms id) × (checks_wanted events id (all_made ms) ≡ checks_by ms (read_set_of events id) id) × (puts_prepared id (all_made ms) ≡ all_put id ms)
  counts = (length-map ms made_of, prepares_are id ms, checks_are events id ms, puts_are id ms)

  exact_is : exact ≡ true → length (all_made ms) ≡ 2 * length (prepares_in id (all_made ms)) + checks_wanted events id (all_made ms) + 1
  exact_is h = by (length (all_made ms)) (length (prepares_in id (all_made ms))) (checks_wanted events id (all_made ms)) (prepares_by ms id) (checks_by ms (read_set_of events id) id) counts.0 counts.1 counts.2 (number_is (length ms) (2 * prepares_by ms id + checks_by ms (read_set_of events id) id + 1) h)
    where
      by : (n g c p k : ℕ) → n ≡ length ms → g ≡ p → c ≡ k → length ms ≡ 2 * p + k + 1 → n ≡ 2 * g + c + 1
      by n g c p k a e f h = omega (arith, a, e, f, h)

  is_exact_of : length (all_made ms) ≡ 2 * length (prepares_in id (all_made ms)) + checks_wanted events id (all_made ms) + 1 → exact ≡ true
  is_exact_of h = is_number (length ms) (2 * prepares_by ms id + checks_by ms (read_set_of events id) id + 1) (by (length (all_made ms)) (length (prepares_in id (all_made ms))) (checks_wanted events id (all_made ms)) (prepares_by ms id) (checks_by ms (read_set_of events id) id) counts.0 counts.1 counts.2 h)
    where
      by : (n g c p k : ℕ) → n ≡ length ms → g ≡ p → c ≡ k → n ≡ 2 * g + c + 1 → length ms ≡ 2 * p + k + 1
      by n g c p k a e f h = omega (arith, a, e, f, h)

  most_is : most ≡ true → length (all_made ms) ≤ length (prepares_in id (all_made ms)) + (puts_prepared id (all_made ms) + checks_wanted events id (all_made ms)) + 4
  most_is h = by (length (all_made ms)) (length (prepares_in id (all_made ms))) (checks_wanted events id (all_made ms)) (puts_prepared id (all_made ms)) (prepares_by ms id) (checks_by ms (read_set_of events id) id) (all_put id ms) counts.0 counts.1 counts.2 counts.3 (put_for_is id (length ms - (prepares_by ms id + checks_by ms (read_set_of events id) id + 4)) ms h)
    where
      by : (n g c w p k a : ℕ) → n ≡ length ms → g ≡ p → c ≡ k → w ≡ a → length ms - (p + k + 4) ≤ a → n ≤ g + (w + c) + 4
      by n g c w p k a e f i j h = omega (arith, e, f, i, j, h)

  is_most_of : length (all_made ms) ≤ length (prepares_in id (all_made ms)) + (puts_prepared id (all_made ms) + checks_wanted events id (all_made ms)) + 4 → most ≡ true
  is_most_of h =
      is_put_for_of id (length ms - (prepares_by ms id + checks_by ms (read_set_of events id) id + 4)) ms
      (by (length (all_made ms)) (length (prepares_in id (all_made ms))) (checks_wanted events id (all_made ms)) (puts_prepared id (all_made ms)) (prepares_by ms id) (checks_by ms (read_set_of events id) id) (all_put id ms) counts.0 counts.1 counts.2 counts.3 h)
    where
      by : (n g c w p k a : ℕ) → n ≡ length ms → g ≡ p → c ≡ k → w ≡ a → n ≤ g + (w + c) + 4 → length ms - (p + k + 4) ≤ a
      by n g c w p k a e f i j h = omega (arith, e, f, i, j, h)

  counted_is : commit_counted ms (read_set_of events id) id s ≡ true → IsCommitCounted events id s (all_made ms)
  counted_is h = record {
    exact = λ a all. exact_is (elim (either (not answered) exact (right most (not answered || exact) h)) [
      | inl n ↦ not_both answered (both (is_committed_answer s.answer) (all_seen ms) (ap is_committed_answer a) (seen_is ms all)) (not_true answered n)
      | inr e ↦ e
    ]);
    most = most_is (left most (not answered || exact) h);
  }

  is_counted_of : IsCommitCounted events id s (all_made ms) → commit_counted ms (read_set_of events id) id s ≡ true
  is_counted_of c = both most (not answered || exact) (is_most_of c.most) (elim (decide answered) [
    | inl t ↦ or_right (not answered) exact (is_exact_of (c.exact (told_is s.answer (left (is_committed_answer s.answer) (all_seen ms) t)) (is_seen_of ms (right (is_committed_answer s.answer) (all_seen ms) t))))
    | inr f ↦ or_left (not answered) exact (true_not answered f)
  ])

---- the calls of other statements

abbrev all_unresolved : List Made → ℕ
all_unresolved [] = 0
all_unresolved (m ∷ ms) = unresolved_by m + all_unresolved ms

unresolved_is : (ms : List Made) → length (unresolved_in (all_made ms)) ≡ all_unresolved ms
unresolved_is [] = refl
unresolved_is (m ∷ ms) = by (reads_rows (made_of m)) (unresolved_is ms)
  where
    rest : List calls.StoreCall
    rest = filter reads_rows (all_made ms)

    by : (b : Bool) → length (filter is_unresolved (flat_map (λ c. records_read c.reply) rest)) ≡ all_unresolved ms
        → length (filter is_unresolved (flat_map (λ c. records_read c.reply) (cond b (made_of m ∷ rest) rest))) ≡ (if b then count_by is_unresolved (records_read m.reply) else 0) + all_unresolved ms
    by true e = ap length (filter-append is_unresolved (records_read m.reply) (flat_map (λ c. records_read c.reply) rest)) ∙ length-append (filter is_unresolved (records_read m.reply)) (filter is_unresolved (flat_map (λ c. records_read c.reply) rest)) ∙ ap (λ n. n + length (filter is_unresolved (flat_map (λ c. records_read c.reply) rest))) (filter_count is_unresolved (records_read m.reply)) ∙ ap (λ n. count_by is_unresolved (records_read m.reply) + n) e
    by false e = omega (arith, e)

abbrev most_of : ℕ → List Made → ℕ
most_of each [] = 0
most_of each (m ∷ ms) = each * unresolved_by m + most_of each ms

four : (ms : List Made) → most_of 4 ms ≡ 4 * all_unresolved ms
four [] = refl
four (m ∷ ms) = let e = four ms in omega (arith, e)

five : (ms : List Made) → most_of 5 ms ≡ 5 * all_unresolved ms
five [] = refl
five (m ∷ ms) = let e = five ms in omega (arith, e)

covered_is : (each n : ℕ) (ms : List Made) → covered each n ms ≡ true → n ≤ most_of each ms
covered_is each n [] h = let z : n ≡ 0 = number_is n 0 h in omega (arith, z)
covered_is each n (m ∷ ms) h = by (each * unresolved_by m) (covered_is each (n - each * unresolved_by m) ms h)
  where
    by : (k : ℕ) → n - k ≤ most_of each ms → n ≤ k + most_of each ms
    by k l = omega (arith, l)

is_covered : (each n : ℕ) (ms : List Made) → n ≤ most_of each ms → covered each n ms ≡ true
is_covered each n [] l = is_number n 0 (omega (arith, l))
is_covered each n (m ∷ ms) l = is_covered each (n - each * unresolved_by m) ms (by (each * unresolved_by m) l)
  where
    by : (k : ℕ) → n ≤ k + most_of each ms → n - k ≤ most_of each ms
    by k l = omega (arith, l)

read_is : (ms : List Made) → read_counted ms ≡ true → IsReadCounted (all_made ms)
read_is ms h =
    let c : length ms - 1 ≤ most_of 4 ms = covered_is 4 (length ms - 1) ms h in
    let a : length (all_made ms) ≡ length ms = length-map ms made_of in
    let f : most_of 4 ms ≡ 4 * all_unresolved ms = four ms in
    let u : length (unresolved_in (all_made ms)) ≡ all_unresolved ms = unresolved_is ms in
    omega (arith, c, a, f, u)

is_read_of : (ms : List Made) → IsReadCounted (all_made ms) → read_counted ms ≡ true
is_read_of ms c =
    let l : length (all_made ms) ≤ 1 + 4 * length (unresolved_in (all_made ms)) = c in
    let a : length (all_made ms) ≡ length ms = length-map ms made_of in
    let f : most_of 4 ms ≡ 4 * all_unresolved ms = four ms in
    let u : length (unresolved_in (all_made ms)) ≡ all_unresolved ms = unresolved_is ms in
    is_covered 4 (length ms - 1) ms (omega (arith, l, a, f, u))

removals_are : (ms : List Made) → count_by (λ m. is_removal m.request) (all_made ms) ≡ length (filter (λ m. is_removal m.request) ms)
removals_are ms = count_mapped (λ m. is_removal m.request) made_of ms ∙ sym (filter_count (λ m. is_removal m.request) ms)

vacuum_is : (catalog : List Table) (ms : List Made) → vacuum_counted catalog ms ≡ true → IsVacuumCounted catalog (all_made ms)
vacuum_is catalog ms h =
    let c : length ms - (length catalog + length (filter (λ m. is_removal m.request) ms)) ≤ most_of 5 ms = covered_is 5 (length ms - (length catalog + length (filter (λ m. is_removal m.request) ms))) ms h in
    let a : length (all_made ms) ≡ length ms = length-map ms made_of in
    let f : most_of 5 ms ≡ 5 * all_unresolved ms = five ms in
    let u : length (unresolved_in (all_made ms)) ≡ all_unresolved ms = unresolved_is ms in
    let r : count_by (λ m. is_removal m.request) (all_made ms) ≡ length (filter (λ m. is_removal m.request) ms) = removals_are ms in
    omega (arith, c, a, f, u, r)

is_vacuum_of : (catalog : List Table) (ms : List Made) → IsVacuumCounted catalog (all_made ms) → vacuum_counted catalog ms ≡ true
is_vacuum_of catalog ms c =
    let l : length (all_made ms) ≤ length catalog + (count_by (λ m. is_removal m.request) (all_made ms) + 5 * length (unresolved_in (all_made ms))) = c in
    let a : length (all_made ms) ≡ length ms = length-map ms made_of in
    let f : most_of 5 ms ≡ 5 * all_unresolved ms = five ms in
    let u : length (unresolved_in (all_made ms)) ≡ all_unresolved ms = unresolved_is ms in
    let r : count_by (λ m. is_removal m.request) (all_made ms) ≡ length (filter (λ m. is_removal m.request) ms) = removals_are ms in
    is_covered 5 (length ms - (length catalog + length (filter (λ m. is_removal m.request) ms))) ms (omega (arith, l, a, f, u, r))

---- the transactions of a client

module _ (f : TxId → Bool) (client n : ℕ) (i : TxId) (b : Bool) (some : n ≡ 0 → ⊥) (here : i ≡ id_of client n) (g : b ≡ f i) where
  pub found_wrong : b ≡ true → true ≡ any_upto (λ k. f (id_of client k)) n
  found_wrong t = by n some here
    where
      by : (m : ℕ) → (m ≡ 0 → ⊥) → i ≡ id_of client m → true ≡ any_upto (λ k. f (id_of client k)) m
      by zero z e = absurd (z refl)
      by (suc m) z e = sym (or_left (f (id_of client (suc m))) (any_upto (λ k. f (id_of client k)) m) (ap f (sym e) ∙ sym g ∙ t))

  pub none_here : b ≡ false → any_upto (λ k. f (id_of client k)) (n - 1) ≡ any_upto (λ k. f (id_of client k)) n
  none_here t = sym (upto_step (λ k. f (id_of client k)) n (by n some) ∙ ap (λ x. x || any_upto (λ k. f (id_of client k)) (n - 1)) (ap f (sym here) ∙ sym g ∙ t))
    where
      by : (m : ℕ) → (m ≡ 0 → ⊥) → 0 < m
      by zero z = absurd (z refl)
      by (suc m) z = omega arith

---- a statement

module _ (catalog : List Table) (events : List Event) (client : ℕ) (s : Executed) (ms : List Made) (e : all_made ms ≡ calls_of events client s) where
  abbrev wrong : TxId → Bool
  wrong id = miscounted events client s ms id

  commits_are : any_id events client wrong ≡ false → (id : TxId) → IsCommitOf events client s id → IsCommitCounted events id s (calls_of events client s)
  commits_are n id c = elim (decide (commit_counted ms (read_set_of events id) id s)) [
    | inl h ↦ subst (IsCommitCounted events id s) e (counted_is events id s ms h)
    | inr f ↦ not_both (any_id events client wrong) (commit_found events client s wrong id c (both (is_commit_of events client s id) (not (commit_counted ms (read_set_of events id) id s)) (is_commit events client s id c) (true_not (commit_counted ms (read_set_of events id) id s) f))) n
  ]

  none_wrong : ((id : TxId) → IsCommitOf events client s id → IsCommitCounted events id s (calls_of events client s)) → any_id events client wrong ≡ true → false ≡ true
  none_wrong all h =
      let r = id_some events client wrong h in
      let c = commit_is events client s r.0 (left (is_commit_of events client s r.0) (not (commit_counted ms (read_set_of events r.0) r.0 s)) r.1) in
      not_both (commit_counted ms (read_set_of events r.0) r.0 s) (is_counted_of events r.0 s ms (subst (IsCommitCounted events r.0 s) (sym e) (all r.0 c))) (not_true (commit_counted ms (read_set_of events r.0) r.0 s) (right (is_commit_of events client s r.0) (not (commit_counted ms (read_set_of events r.0) r.0 s)) r.1))

  others_are : others_counted catalog s ms ≡ true → (reads_commit s.text ≡ false → reads_vacuum s.text ≡ false → IsReadCounted (calls_of events client s)) × (reads_vacuum s.text ≡ true → IsVacuumCounted catalog (calls_of events client s))
  others_are h = by (reads_vacuum s.text) (reads_commit s.text) refl refl h
    where
      by : (v c : Bool) → reads_vacuum s.text ≡ v → reads_commit s.text ≡ c → (if v then vacuum_counted catalog ms else (c || read_counted ms)) ≡ true → (reads_commit s.text ≡ false → reads_vacuum s.text ≡ false → IsReadCounted (calls_of events client s)) × (reads_vacuum s.text ≡ true → IsVacuumCounted catalog (calls_of events client s))
      by true c x y h = (λ k n. clash (sym x ∙ n), λ t. subst (IsVacuumCounted catalog) e (vacuum_is catalog ms h))
      by false true x y h = (λ k n. clash (sym y ∙ k), λ t. clash (sym t ∙ x))
      by false false x y h = (λ k n. subst IsReadCounted e (read_is ms h), λ t. clash (sym t ∙ x))

  are_others : IsExecutedCounted catalog events client s → others_counted catalog s ms ≡ true
  are_others c = by (reads_vacuum s.text) (reads_commit s.text) refl refl
    where
      by : (v k : Bool) → reads_vacuum s.text ≡ v → reads_commit s.text ≡ k → (if v then vacuum_counted catalog ms else (k || read_counted ms)) ≡ true
      by true k x y = is_vacuum_of catalog ms (subst (IsVacuumCounted catalog) (sym e) (c.vacuums x))
      by false true x y = refl
      by false false x y = is_read_of ms (subst IsReadCounted (sym e) (c.reads y x))

  pub said_counted : (b o : Bool) (n : ℕ) → n ≡ length (statements_by client events) → o ≡ any_upto (λ k. miscounted events client s ms (id_of client k)) n → o ≡ false → b ≡ others_counted catalog s ms → IsTrue b ↔ IsExecutedCounted catalog events client s
  said_counted b o n l f z g =
      let none : any_id events client wrong ≡ false = ap (any_upto (λ k. miscounted events client s ms (id_of client k))) (sym l) ∙ sym f ∙ z in
      (λ h. let r = others_are (sym g ∙ h) in record { commits = commits_are none; reads = r.0; vacuums = r.1 }, λ c. g ∙ are_others c)

  pub said_miscounted : (o : Bool) (n : ℕ) → n ≡ length (statements_by client events) → o ≡ any_upto (λ k. miscounted events client s ms (id_of client k)) n → o ≡ true → IsTrue false ↔ IsExecutedCounted catalog events client s
  said_miscounted o n l f t =
      (λ h. clash (sym h), λ c. none_wrong c.commits (ap (any_upto (λ k. miscounted events client s ms (id_of client k))) (sym l) ∙ sym f ∙ t))
