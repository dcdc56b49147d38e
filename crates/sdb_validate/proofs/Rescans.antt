-- What a rescan is to find, by key.
use Rattle.std.proofs.Common.{◌≡◌, List, [], ◌∷◌, Option, Some, None, true, false, not, refl, sym, ap, ◌∙◌, cond, subst}
use Rattle.std.specs.Prelude.{Bool, is_none, map, find as first}
use Rattle.std.specs.Option.{option_and_then}
use Rattle.std.specs.Ordering.{is_eq, is_lt}
use Rattle.std.specs.FinMap.{get, insert, empty, entries, find, get-entries, get-insert, get-empty}
use Rattle.std.specs.declared.cmp.Ordering.TheVariants.{Less}
use Rattle.sdb_validate.specs.Types.{Expected, Key, Read, Record, Scan, Span, TxId, Write}
use Rattle.sdb_types.specs.Order.{key_cmp, same_key}
use Rattle.sdb_types.specs.Contents.{in_span, rise, record_among}
use Rattle.sdb_types.proofs.Public.{and_first, and_second, key_total, less_of, same_key_exact, same_key_self as same_itself}
use Rattle.sdb_record.specs.Moved.{version_of, same_version, is_unchanged}
use Rattle.sdb_record.specs.Among.{version_among}
use Rattle.sdb_phases.specs.declared.check.Expected.TheVariants as wish
use Rattle.sdb_phases.specs.Checks.{Wishes, with_reads, with_write, with_writes, wishes, wanted, wanted_of, expected_at, wished_version, is_fulfilled, differs, base_of, first_difference}
use Rattle.sdb_validate.specs.Merge.{merge}
use Rattle.sdb_validate.specs.Rescan.{expected_of_written, is_unchanged_by, is_unchanged_at, starts_behind, reads_rise, IsFirstLost}
use Rattle.sdb_validate.proofs.Firsts.{IsFirst, first_is}
use Rattle.sdb_validate.proofs.Merges.{merge_is}
use Rattle.sdb_validate.proofs.Ordered.{wanted_in_order}
use Rattle.std.proofs.lemmas.Bool.{not-false as not_false, not-true as not_true}

wish-find : (es : List (Key × Expected)) (q : Key) → expected_at (map wanted_of es) q ≡ find key_cmp q es
unfolding same_key
wish-find [] q = refl
wish-find (e ∷ es) q = ap (cond (same_key q e.0) (Some e.1)) (wish-find es q)

wanted-get : (own : List Write) (scan : Scan) (q : Key) → expected_at (wanted own scan) q ≡ get (wishes own scan) q
wanted-get own scan q = wish-find (entries (wishes own scan)) q ∙ sym (get-entries (wishes own scan) q)

---- the keys that the scan found

-- what the scan's own keys are to have
unfoldable pub read_wish : List Read → Key → Option Expected → Option Expected
read_wish [] q o = o
read_wish (r ∷ rs) q o = cond (same_key q r.key) (Some (wish.Unchanged r.version)) (read_wish rs q o)

pub behind_trans : (q k : Key) (rs : List Read) → key_cmp q k ≡ Less → starts_behind k rs ≡ true → starts_behind q rs ≡ true
behind_trans q k [] h s = refl
behind_trans q k (r ∷ rs) h s = ap is_lt (key_total.trans q k r.key h (less_of (key_cmp k r.key) s))

not_behind : (q : Key) (rs : List Read) (o : Option Expected) → reads_rise rs ≡ true → starts_behind q rs ≡ true → read_wish rs q o ≡ o
unfolding read_wish same_key
not_behind q [] o h s = refl
not_behind q (r ∷ rs) o h s =
    let less : key_cmp q r.key ≡ Less = less_of (key_cmp q r.key) s in
    ap (λ x. cond (is_eq x) (Some (wish.Unchanged r.version)) (read_wish rs q o)) less
    ∙ not_behind q rs o (and_second (starts_behind r.key rs) (reads_rise rs) h) (behind_trans q r.key rs less (and_first (starts_behind r.key rs) (reads_rise rs) h))

pub reads-get : (rs : List Read) (m : Wishes) (q : Key) → reads_rise rs ≡ true → get (with_reads rs m) q ≡ read_wish rs q (get m q)
unfolding read_wish same_key
reads-get [] m q h = refl
reads-get (r ∷ rs) m q h =
    reads-get rs (insert m r.key (wish.Unchanged r.version)) q (and_second (starts_behind r.key rs) (reads_rise rs) h)
    ∙ ap (read_wish rs q) (get-insert key_total m r.key (wish.Unchanged r.version) q)
    ∙ by_test (same_key q r.key) refl where
      by_test : (b : Bool) → same_key q r.key ≡ b → read_wish rs q (cond b (Some (wish.Unchanged r.version)) (get m q)) ≡ cond b (Some (wish.Unchanged r.version)) (read_wish rs q (get m q))
      by_test false e = refl
      by_test true e =
          let here : starts_behind q rs ≡ true = ap (λ k. starts_behind k rs) (same_key_exact q r.key e) ∙ and_first (starts_behind r.key rs) (reads_rise rs) h in
          not_behind q rs (Some (wish.Unchanged r.version)) (and_second (starts_behind r.key rs) (reads_rise rs) h) here

---- the keys that are written

pub again : (base : Option (Option TxId)) (o : Option Expected) (version : Option TxId) → expected_of_written true base (Some (wish.Based (wished_version o version))) ≡ Some (wish.Based (wished_version o version))
again None o version = refl
again (Some other) o version = refl

write-get-other : (span : Span) (w : Write) (m : Wishes) (q : Key) (b : Bool) → same_key q w.key ≡ false → get (cond b (insert m w.key (wish.Based (wished_version (get m w.key) (version_of w.base)))) m) q ≡ get m q
unfolding same_key
write-get-other span w m q true e = get-insert key_total m w.key (wish.Based (wished_version (get m w.key) (version_of w.base))) q ∙ ap (λ b. cond b (Some (wish.Based (wished_version (get m w.key) (version_of w.base)))) (get m q)) e
write-get-other span w m q false e = refl

write-get-own : (span : Span) (w : Write) (ws : List Write) (m : Wishes) (q : Key) (b : Bool) → q ≡ w.key → expected_of_written b (base_of ws q) (get (cond b (insert m w.key (wish.Based (wished_version (get m w.key) (version_of w.base)))) m) q) ≡ expected_of_written b (Some (version_of w.base)) (get m q)
unfolding same_key
write-get-own span w ws m q false here = refl
write-get-own span w ws m q true here =
    let wished : Expected = wish.Based (wished_version (get m w.key) (version_of w.base)) in
    ap (expected_of_written true (base_of ws q)) (get-insert key_total m w.key wished q ∙ ap (λ k. cond (same_key q k) (Some wished) (get m q)) (sym here) ∙ ap (λ b. cond b (Some wished) (get m q)) (same_itself q))
    ∙ again (base_of ws q) (get m w.key) (version_of w.base) ∙ ap (λ k. Some (wish.Based (wished_version (get m k) (version_of w.base)))) (sym here)

pub writes-get : (span : Span) (ws : List Write) (m : Wishes) (q : Key) → get (with_writes span ws m) q ≡ expected_of_written (in_span span q) (base_of ws q) (get m q)
writes-get span [] m q = none (in_span span q) where
  none : (b : Bool) → get m q ≡ expected_of_written b None (get m q)
  none true = refl
  none false = refl
writes-get span (w ∷ ws) m q = writes-get span ws (with_write span w m) q ∙ by_test (same_key q w.key) refl where
  by_test : (b : Bool) → same_key q w.key ≡ b → expected_of_written (in_span span q) (base_of ws q) (get (with_write span w m) q) ≡ expected_of_written (in_span span q) (cond b (Some (version_of w.base)) (base_of ws q)) (get m q)
  by_test true e =
      let here : q ≡ w.key = same_key_exact q w.key e in
      ap (λ b. expected_of_written (in_span span q) (base_of ws q) (get (cond b (insert m w.key (wish.Based (wished_version (get m w.key) (version_of w.base)))) m) q)) (ap (in_span span) (sym here))
      ∙ write-get-own span w ws m q (in_span span q) here
  by_test false e = ap (expected_of_written (in_span span q) (base_of ws q)) (write-get-other span w m q (in_span span w.key) e)

---- both

none_read : (key : Key) → get {X = Expected} {R = key_cmp} empty key ≡ None
none_read key = get-empty key_cmp key

wanted-is : (own : List Write) (scan : Scan) (q : Key) → reads_rise scan.found ≡ true → expected_at (wanted own scan) q ≡ expected_of_written (in_span scan.span q) (base_of own q) (read_wish scan.found q None)
wanted-is own scan q up =
    wanted-get own scan q ∙ writes-get scan.span own (with_reads scan.found empty) q
    ∙ ap (expected_of_written (in_span scan.span q) (base_of own q)) (reads-get scan.found empty q up ∙ ap (read_wish scan.found q) (none_read q))

same_none : (base : Option TxId) → is_none base ≡ same_version base None
same_none None = refl
same_none (Some id) = refl

unchanged_none : (found : Option Record) → is_none found ≡ is_unchanged found None
unchanged_none None = refl
unchanged_none (Some r) = refl

abbrev first_at : List Read → Key → Option Read
first_at rs q = first (λ r. same_key q r.key) rs

-- what was read at a key is as it is wished
read-based : (rs : List Read) (q : Key) (base : Option TxId) → wished_version (read_wish rs q None) base ≡ same_version base (version_among rs q)
unfolding read_wish
read-based [] q base = same_none base
read-based (r ∷ rs) q base = by_test (same_key q r.key) (read-based rs q base) where
  by_test : (b : Bool) → wished_version (read_wish rs q None) base ≡ same_version base (version_among rs q) → wished_version (cond b (Some (wish.Unchanged r.version)) (read_wish rs q None)) base ≡ same_version base (option_and_then (λ x. x.version) (cond b (Some r) (first_at rs q)))
  by_test true rest = refl
  by_test false rest = rest

read-kept : (rs : List Read) (q : Key) (found : Option Record) → is_fulfilled (read_wish rs q None) found ≡ is_unchanged found (version_among rs q)
unfolding read_wish
read-kept [] q found = unchanged_none found
read-kept (r ∷ rs) q found = by_test (same_key q r.key) (read-kept rs q found) where
  by_test : (b : Bool) → is_fulfilled (read_wish rs q None) found ≡ is_unchanged found (version_among rs q) → is_fulfilled (cond b (Some (wish.Unchanged r.version)) (read_wish rs q None)) found ≡ is_unchanged found (option_and_then (λ x. x.version) (cond b (Some r) (first_at rs q)))
  by_test true rest = refl
  by_test false rest = rest

kept_at : (inside : Bool) (base : Option (Option TxId)) (rs : List Read) (q : Key) (found : Option Record) → is_fulfilled (expected_of_written inside base (read_wish rs q None)) found ≡ is_unchanged_by (cond inside base None) (version_among rs q) found
kept_at false base rs q found = read-kept rs q found
kept_at true None rs q found = read-kept rs q found
kept_at true (Some base) rs q found = read-based rs q base

pub differs-lost : (own : List Write) (scan : Scan) (rows : List Record) (q : Key) → reads_rise scan.found ≡ true → differs (wanted own scan) rows q ≡ not (is_unchanged_at own scan rows q)
differs-lost own scan rows q up =
    ap (λ o. not (is_fulfilled o (record_among rows q))) (wanted-is own scan q up)
    ∙ ap not (kept_at (in_span scan.span q) (base_of own q) scan.found q (record_among rows q))

as_lost : (own : List Write) (scan : Scan) (rows : List Record) (o : Option (Key × Option Record)) → reads_rise scan.found ≡ true → IsFirst (wanted own scan) rows o → IsFirstLost own scan rows o
as_lost own scan rows None up first = λ q. not_false (is_unchanged_at own scan rows q) (sym (differs-lost own scan rows q up) ∙ first q)
as_lost own scan rows (Some d) up (found, differing, lower) = (
  found,
  not_true (is_unchanged_at own scan rows d.0) (sym (differs-lost own scan rows d.0 up) ∙ differing),
  λ q h. not_false (is_unchanged_at own scan rows q) (sym (differs-lost own scan rows q up) ∙ lower q h),
)

pub first_lost : (own : List Write) (scan : Scan) (rows : List Record) → reads_rise scan.found ≡ true → rise rows ≡ true → IsFirstLost own scan rows (first_difference (wanted own scan) rows)
first_lost own scan rows up rows_up =
    let first = merge_is (wanted own scan) rows (wanted_in_order own scan) rows_up in
    subst (IsFirstLost own scan rows) (sym (first_is (wanted own scan) rows (merge (wanted own scan) rows) first)) (as_lost own scan rows (merge (wanted own scan) rows) up first)
