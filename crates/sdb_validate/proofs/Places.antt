-- Steps of the loops: through the writes, and through rows and what is wanted.
use Rattle.std.proofs.Common.{◌≡◌, ℕ, ◌+◌, ◌<◌, ◌≤◌, zero, suc, List, [], ◌∷◌, ◌++◌, map, take, append_assoc, Option, Some, None, true, false, not, refl, sym, ap, ◌∙◌, cond, drop, length, get_or, add-one, arith}
use Rattle.std.specs.Prelude.{Bool, slice_get, is_none, is_some, filter}
use Rattle.std.proofs.lemmas.List.{map-append}
use Rattle.std.proofs.lemmas.List.Elements.{filter_more}
use Rattle.std.specs.Option.{option_or}
use Rattle.std.specs.BTreeMap.{BTreeMap, get, is_at}
use Rattle.std.specs.Cmp.{eq_by_cmp_equiv}
use Rattle.std.proofs.lemmas.Option.{slice_get_within}
use Rattle.sdb_validate.specs.Types.{Check, Key, Read, Record, TxId, Wanted, Write}
use Rattle.sdb_types.specs.Order.{key_cmp, same_key}
use Rattle.sdb_types.proofs.Public.{key_total, same_key_exact}
use Rattle.sdb_record.specs.Moved.{version_of}
use Rattle.sdb_record.specs.Among.{is_written, write_among}
use Rattle.sdb_phases.specs.Checks.{base_of, is_granted, check_of_read}
use Rattle.sdb_validate.specs.declared.rescan.Verdict.{Verdict}
use Rattle.sdb_validate.specs.declared.rescan.Verdict.TheVariants as verdict
use Rattle.sdb_validate.specs.Merge.{merge, missing_place, row_place, verdict_on}

head-drop : (rows : List Record) (n : ℕ) → slice_get (drop n rows) 0 ≡ slice_get rows n
head-drop [] zero = refl
head-drop [] (suc n) = refl
head-drop (r ∷ rs) zero = refl
head-drop (r ∷ rs) (suc n) = head-drop rs n

get-at : (ws : List Wanted) (i : ℕ) (w : Wanted) → i < length ws → w ≡ get_or ws i w → slice_get ws i ≡ Some w
get-at [] i w h e = absurd (omega arith)
get-at (x ∷ xs) zero w h e = ap Some (sym e)
get-at (x ∷ xs) (suc i) w h e = get-at xs i w (omega arith) e

from-at : (ws : List Wanted) (i : ℕ) (w : Wanted) → i < length ws → w ≡ get_or ws i w → drop i ws ≡ w ∷ drop (suc i) ws
from-at [] i w h e = absurd (omega arith)
from-at (x ∷ xs) zero w h e = ap (λ y. y ∷ xs) (sym e)
from-at (x ∷ xs) (suc i) w h e = from-at xs i w (omega arith) e

at_verdict : (w : Wanted) (ws : List Wanted) (rows : List Record) (n : ℕ) (v : Verdict) → verdict_on w (slice_get rows n) ≡ v → merge (w ∷ ws) (drop n rows) ≡ elim v [ verdict.Absent ↦ merge ws (drop n rows) | verdict.Here ↦ merge ws (drop 1 (drop n rows)) | verdict.Missing ↦ Some (w.key, None) | verdict.Differs ↦ row_place (slice_get (drop n rows) 0) ]
at_verdict w ws rows n v e =
    ap (λ x. elim x as (λ _. Option (Key × Option Record)) [ verdict.Absent ↦ merge ws (drop n rows) | verdict.Here ↦ merge ws (drop 1 (drop n rows)) | verdict.Missing ↦ Some (w.key, None) | verdict.Differs ↦ row_place (slice_get (drop n rows) 0) ]) (ap (verdict_on w) (head-drop rows n) ∙ e)

pub missing_found : (ws : List Wanted) (rows : List Record) (i n : ℕ) (w : Wanted) → i < length ws → w ≡ get_or ws i w → verdict_on w (slice_get rows n) ≡ verdict.Missing → missing_place (slice_get ws i) ≡ merge (drop i ws) (drop n rows)
missing_found ws rows i n w h at e =
    ap missing_place (get-at ws i w h at) ∙ sym (ap (λ xs. merge xs (drop n rows)) (from-at ws i w h at) ∙ at_verdict w (drop (suc i) ws) rows n verdict.Missing e)

pub row_differs : (ws : List Wanted) (rows : List Record) (i n : ℕ) (w : Wanted) → i < length ws → w ≡ get_or ws i w → verdict_on w (slice_get rows n) ≡ verdict.Differs → row_place (slice_get rows n) ≡ merge (drop i ws) (drop n rows)
row_differs ws rows i n w h at e =
    ap row_place (sym (head-drop rows n)) ∙ sym (ap (λ xs. merge xs (drop n rows)) (from-at ws i w h at) ∙ at_verdict w (drop (suc i) ws) rows n verdict.Differs e)

drop-end : (ws : List Wanted) (i : ℕ) → length ws ≤ i → drop i ws ≡ []
drop-end [] zero h = refl
drop-end [] (suc i) h = refl
drop-end (x ∷ xs) zero h = absurd (omega arith)
drop-end (x ∷ xs) (suc i) h = drop-end xs i (omega arith)

pub row_left : (ws : List Wanted) (rows : List Record) (i n : ℕ) → length ws ≤ i → row_place (slice_get rows n) ≡ merge (drop i ws) (drop n rows)
row_left ws rows i n h = ap row_place (sym (head-drop rows n)) ∙ sym (ap (λ xs. merge xs (drop n rows)) (drop-end ws i h))

---- the written keys

from-write : (ws : List Write) (i : ℕ) (w : Write) → i < length ws → w ≡ get_or ws i w → drop i ws ≡ w ∷ drop (suc i) ws
from-write [] i w h e = absurd (omega arith)
from-write (x ∷ xs) zero w h e = ap (λ y. y ∷ xs) (sym e)
from-write (x ∷ xs) (suc i) w h e = from-write xs i w (omega arith) e

pub at_key : (m n : BTreeMap Key (Option TxId)) (ws : List Write) (i : ℕ) (q : Key) → m ≡ n → option_or (get key_cmp n q) (base_of (drop i ws) q) ≡ base_of ws q → option_or (get key_cmp m q) (base_of (drop i ws) q) ≡ base_of ws q
at_key m n ws i q same h = ap (λ x. option_or (get key_cmp x q) (base_of (drop i ws) q)) same ∙ h

-- a write of a key that is not there yet
pub new_base : (ws : List Write) (i : ℕ) (w : Write) (m n : BTreeMap Key (Option TxId)) (k : Key) (v : Option TxId) (q : Key) → i < length ws → w ≡ get_or ws i w → k ≡ w.key → v ≡ version_of w.base → get key_cmp m w.key ≡ None → ((p : Key) → get key_cmp n p ≡ cond (is_at (key_cmp k) p) (Some v) (get key_cmp m p)) → option_or (get key_cmp m q) (base_of (drop i ws) q) ≡ base_of ws q → option_or (get key_cmp n q) (base_of (drop (i + 1) ws) q) ≡ base_of ws q
unfolding same_key
new_base ws i w m n k v q h at same copied free put e =
    ap (λ o. option_or o (base_of (drop (i + 1) ws) q)) (put q ∙ ap (λ b. cond b (Some v) (get key_cmp m q)) ((eq_by_cmp_equiv key_total).symm k q) ∙ ap (λ x. cond (same_key q x) (Some v) (get key_cmp m q)) same ∙ ap (λ x. cond (same_key q w.key) (Some x) (get key_cmp m q)) copied)
    ∙ ap (λ j. option_or (cond (same_key q w.key) (Some (version_of w.base)) (get key_cmp m q)) (base_of (drop j ws) q)) (add-one i) ∙ by_test (same_key q w.key) refl ∙ ap (λ xs. option_or (get key_cmp m q) (base_of xs q)) (sym (from-write ws i w h at)) ∙ e
  where
    by_test : (b : Bool) → same_key q w.key ≡ b → option_or (cond b (Some (version_of w.base)) (get key_cmp m q)) (base_of (drop (suc i) ws) q) ≡ option_or (get key_cmp m q) (cond b (Some (version_of w.base)) (base_of (drop (suc i) ws) q))
    by_test false t = refl
    by_test true t = sym (ap (λ o. option_or o (Some (version_of w.base))) (ap (get key_cmp m) (same_key_exact q w.key t) ∙ free))

-- a later write of a key that is there
pub old_base : (ws : List Write) (i : ℕ) (w : Write) (m : BTreeMap Key (Option TxId)) (q : Key) → i < length ws → w ≡ get_or ws i w → is_none (get key_cmp m w.key) ≡ false → option_or (get key_cmp m q) (base_of (drop i ws) q) ≡ base_of ws q → option_or (get key_cmp m q) (base_of (drop (i + 1) ws) q) ≡ base_of ws q
old_base ws i w m q h at there e =
    ap (λ j. option_or (get key_cmp m q) (base_of (drop j ws) q)) (add-one i) ∙ by_test (same_key q w.key) refl ∙ ap (λ xs. option_or (get key_cmp m q) (base_of xs q)) (sym (from-write ws i w h at)) ∙ e
  where
    kept : (o a b : Option (Option TxId)) → is_none o ≡ false → option_or o a ≡ option_or o b
    kept None a b t = cc
    kept (Some x) a b t = refl

    by_test : (b : Bool) → same_key q w.key ≡ b → option_or (get key_cmp m q) (base_of (drop (suc i) ws) q) ≡ option_or (get key_cmp m q) (cond b (Some (version_of w.base)) (base_of (drop (suc i) ws) q))
    by_test false t = refl
    by_test true t = kept (get key_cmp m q) (base_of (drop (suc i) ws) q) (Some (version_of w.base)) (ap (λ p. is_none (get key_cmp m p)) (same_key_exact q w.key t) ∙ there)

pub none_free : (o : Option (Option TxId)) → is_none o ≡ true → o ≡ None
none_free None h = refl
none_free (Some x) h = cc

pub unwritten : (ws : List Write) (key : Key) → is_none (base_of ws key) ≡ not (is_written ws key)
unwritten [] key = refl
unwritten (w ∷ ws) key = by_test (same_key key w.key) (unwritten ws key) where
  by_test : (b : Bool) → is_none (base_of ws key) ≡ not (is_written ws key) → is_none (cond b (Some (version_of w.base)) (base_of ws key)) ≡ not (is_some (cond b (Some w) (write_among ws key)))
  by_test true rest = refl
  by_test false rest = rest

-- one read more, which is read again where its key isn't written
pub one_reread : (own : List Write) (reads : List Read) (i : ℕ) (r : Read) (checks before after : List Check) (b : Bool) → i < length reads → r ≡ get_or reads i r → not (is_written own r.key) ≡ b → before ≡ checks ++ map check_of_read (filter (λ x. not (is_written own x.key)) (take i reads)) → after ≡ before ++ cond b (check_of_read r ∷ []) [] → after ≡ checks ++ map check_of_read (filter (λ x. not (is_written own x.key)) (take (i + 1) reads))
one_reread own reads i r checks before after b h at test answered new =
    let kept : List Read = filter (λ x. not (is_written own x.key)) (take i reads) in
    new ∙ ap (λ cs. cs ++ cond b (check_of_read r ∷ []) []) answered ∙ append_assoc checks (map check_of_read kept) (cond b (check_of_read r ∷ []) [])
    ∙ ap (λ cs. checks ++ (map check_of_read kept ++ cs)) (sym (inside b)) ∙ ap (λ cs. checks ++ cs) (sym (map-append check_of_read kept (cond b (r ∷ []) [])))
    ∙ ap (λ rs. checks ++ map check_of_read rs)
    (sym (filter_more (λ (x : Read). not (is_written own x.key)) reads i r h ∙ ap (λ x. kept ++ cond (not (is_written own x.key)) (x ∷ []) []) (sym at) ∙ ap (λ t. kept ++ cond t (r ∷ []) []) test))
  where
    inside : (t : Bool) → map check_of_read (cond t (r ∷ []) []) ≡ cond t (check_of_read r ∷ []) []
    inside true = refl
    inside false = refl

---- going on

pub absent_goes_on : (ws : List Wanted) (rows : List Record) (i n : ℕ) (w : Wanted) → i < length ws → w ≡ get_or ws i w → verdict_on w (slice_get rows n) ≡ verdict.Absent → merge (drop (i + 1) ws) (drop n rows) ≡ merge (drop i ws) (drop n rows)
absent_goes_on ws rows i n w h at e =
    ap (λ k. merge (drop k ws) (drop n rows)) (add-one i) ∙ sym (ap (λ xs. merge xs (drop n rows)) (from-at ws i w h at) ∙ at_verdict w (drop (suc i) ws) rows n verdict.Absent e)

next-drop : (rows : List Record) (n : ℕ) → drop (n + 1) rows ≡ drop 1 (drop n rows)
next-drop rows n = ap (λ k. drop k rows) (add-one n) ∙ one-more rows n where
  one-more : (xs : List Record) (k : ℕ) → drop (suc k) xs ≡ drop 1 (drop k xs)
  one-more [] zero = refl
  one-more [] (suc k) = refl
  one-more (x ∷ xs) zero = refl
  one-more (x ∷ xs) (suc k) = one-more xs k

pub here_goes_on : (ws : List Wanted) (rows : List Record) (i n : ℕ) (w : Wanted) → i < length ws → w ≡ get_or ws i w → verdict_on w (slice_get rows n) ≡ verdict.Here → merge (drop (i + 1) ws) (drop (n + 1) rows) ≡ merge (drop i ws) (drop n rows)
here_goes_on ws rows i n w h at e =
    ap (λ k. merge (drop k ws) (drop (n + 1) rows)) (add-one i) ∙ ap (merge (drop (suc i) ws)) (next-drop rows n)
    ∙ sym (ap (λ xs. merge xs (drop n rows)) (from-at ws i w h at) ∙ at_verdict w (drop (suc i) ws) rows n verdict.Here e)

here_has_row : (w : Wanted) (o : Option Record) (rows : List Record) (n : ℕ) → slice_get rows n ≡ o → verdict_on w o ≡ verdict.Here → n < length rows
here_has_row w (Some r) rows n at e = slice_get_within rows n r at
here_has_row w None rows n at e = none (is_granted w.wish None) e where
  none : (b : Bool) → cond b verdict.Absent verdict.Missing ≡ verdict.Here → n < length rows
  none true e = cc
  none false e = cc

pub here_within : (w : Wanted) (rows : List Record) (n : ℕ) → verdict_on w (slice_get rows n) ≡ verdict.Here → n + 1 ≤ length rows
here_within w rows n e = let h = here_has_row w (slice_get rows n) rows n refl e in omega arith
