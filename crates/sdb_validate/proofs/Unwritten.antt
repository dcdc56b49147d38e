-- What a scan is to find where nothing was written: what it found.
use Rattle.std.proofs.Common.{◌≡◌, ℕ, ◌+◌, ◌-◌, ◌<◌, ◌≤◌, zero, suc, List, [], ◌∷◌, map, drop, length, get_or, Option, Some, None, true, refl, sym, ap, ◌∙◌, cond, arith}
use Rattle.std.specs.Prelude.{Bool, ◌&&◌}
use Rattle.std.specs.BTreeMap.{BTreeMap, btree_map_len, is_at}
use Rattle.std.specs.FinMap.{get, empty, entries, from_entries, get-empty, same_map}
use Rattle.std.specs.List.{AllByRecursion}
use Rattle.std.specs.List.Sorted.{IsStrictlySortedBy}
use Rattle.std.specs.Map.{keys_of, lookup}
use Rattle.std.specs.Ordering.{is_lt}
use Rattle.std.specs.declared.cmp.Ordering.TheVariants.{Less}
use Rattle.sdb_validate.specs.Types.{Expected, Key, Read, Scan, Span, TxId, Write}
use Rattle.sdb_types.specs.Contents.{in_span}
use Rattle.sdb_types.specs.Order.{key_cmp, same_key}
use Rattle.sdb_types.proofs.Public.{and_first, and_second, key_exact, key_total, less_of}
use Rattle.sdb_ordered.proofs.Public.{get_entries, in_order}
use Rattle.sdb_phases.specs.declared.check.Expected.TheVariants as wish
use Rattle.sdb_phases.specs.Checks.{Wishes, with_reads, with_writes, wanted, wanted_of, base_of}
use Rattle.sdb_validate.specs.Rescan.{starts_behind, reads_rise, wanted_of_read}
use Rattle.sdb_validate.proofs.Ranges.{none_based, wished_same}
use Rattle.sdb_validate.proofs.Rescans.{behind_trans, read_wish, reads-get}

entry_of : Read → Key × Expected
entry_of r = (r.key, wish.Unchanged r.version)

listed : (rs : List Read) → map wanted_of (map entry_of rs) ≡ map wanted_of_read rs
unfolding entry_of
listed [] = refl
listed (r ∷ rs) = ap (λ ws. wanted_of_read r ∷ ws) (listed rs)

---- in order

all_behind : (k : Key) (rs : List Read) → starts_behind k rs ≡ true → reads_rise rs ≡ true → AllByRecursion (λ y. key_cmp k y ≡ Less) (keys_of (map entry_of rs))
unfolding entry_of
all_behind k [] h up = tt
all_behind k (r ∷ rs) h up =
    let less : key_cmp k r.key ≡ Less = less_of (key_cmp k r.key) h in
    (less, all_behind k rs (behind_trans k r.key rs less (and_first (starts_behind r.key rs) (reads_rise rs) up)) (and_second (starts_behind r.key rs) (reads_rise rs) up))

ascend : (rs : List Read) → reads_rise rs ≡ true → IsStrictlySortedBy key_cmp (keys_of (map entry_of rs))
unfolding IsStrictlySortedBy entry_of
ascend [] up = tt
ascend (r ∷ rs) up =
    let behind = and_first (starts_behind r.key rs) (reads_rise rs) up in
    let rest = and_second (starts_behind r.key rs) (reads_rise rs) up in
    (all_behind r.key rs behind rest, ascend rs rest)

---- the same map

read_entry : (rs : List Read) (q : Key) → lookup (is_at (key_cmp q)) (map entry_of rs) ≡ read_wish rs q None
unfolding entry_of read_wish same_key
read_entry [] q = refl
read_entry (r ∷ rs) q = ap (cond (same_key q r.key) (Some (wish.Unchanged r.version))) (read_entry rs q)

reads_map : (rs : List Read) → reads_rise rs ≡ true → with_reads rs empty ≡ from_entries {R = key_cmp} (map entry_of rs)
reads_map rs up =
    same_map key_total key_exact (with_reads rs empty) (from_entries (map entry_of rs)) (λ q.
    reads-get rs empty q up ∙ ap (read_wish rs q) (get-empty key_cmp q) ∙ sym (get_entries key_total (map entry_of rs) q ∙ read_entry rs q))

none_written : (span : Span) (own : List Write) (m : Wishes) → ((q : Key) → base_of own q ≡ None) → m ≡ with_writes span own m
none_written span own m none =
    wished_same span own m m (λ q. None) (λ q. sym (none q)) (λ q. sym (none_based (in_span span q) (get m q)))

pub unwritten_wanted : (own : List Write) (scan : Scan) → ((q : Key) → base_of own q ≡ None) → reads_rise scan.found ≡ true → map wanted_of_read scan.found ≡ wanted own scan
unwritten_wanted own scan none up =
    sym (listed scan.found) ∙ ap (map wanted_of) (sym (in_order key_total (map entry_of scan.found) (ascend scan.found up)))
    ∙ ap (λ m. map wanted_of (entries m)) (sym (reads_map scan.found up) ∙ none_written scan.span own (with_reads scan.found empty) none)

---- no writes

none_of : (es : List (Key × Option TxId)) (q : Key) → length es ≡ 0 → lookup (is_at (key_cmp q)) es ≡ None
none_of [] q h = refl
none_of (e ∷ es) q h = absurd (omega arith)

pub none_at : (bases : BTreeMap Key (Option TxId)) (q : Key) → btree_map_len bases ≡ 0 → lookup (is_at (key_cmp q)) bases.entries ≡ None
none_at bases q h = none_of bases.entries q h

---- the loop that looks whether reads rise

from_read : (rs : List Read) (i : ℕ) (r : Read) → i < length rs → r ≡ get_or rs i r → drop i rs ≡ r ∷ drop (suc i) rs
from_read [] i r h e = absurd (omega arith)
from_read (x ∷ xs) zero r h e = ap (λ y. y ∷ xs) (sym e)
from_read (x ∷ xs) (suc i) r h e = from_read xs i r (omega arith) e

-- two that stand beside each other
beside : (rs : List Read) (i : ℕ) (r s : Read) (b : Bool) → suc i < length rs → r ≡ get_or rs i r → s ≡ get_or rs (suc i) s → is_lt (key_cmp r.key s.key) ≡ b → reads_rise (drop i rs) ≡ (b && reads_rise (drop (suc i) rs))
beside rs i r s b h first second test =
    let next : drop (suc i) rs ≡ s ∷ drop (suc (suc i)) rs = from_read rs (suc i) s h second in
    ap reads_rise (from_read rs i r (omega arith) first)
    ∙ ap (λ xs. starts_behind r.key xs && reads_rise (drop (suc i) rs)) next
    ∙ ap (λ c. c && reads_rise (drop (suc i) rs)) test

pub next_rises : (rs : List Read) (j : ℕ) (r s : Read) (b : Bool) → 1 ≤ j → j < length rs → r ≡ get_or rs (j - 1) r → s ≡ get_or rs j s → is_lt (key_cmp r.key s.key) ≡ b → reads_rise (drop (j - 1) rs) ≡ (b && reads_rise (drop (j + 1 - 1) rs))
next_rises rs zero r s b pos h first second test = absurd (omega arith)
next_rises rs (suc i) r s b pos h first second test =
    let e : suc i - 1 ≡ i = omega arith in
    let f : suc i + 1 - 1 ≡ suc i = omega arith in
    ap (λ n. reads_rise (drop n rs)) e ∙ beside rs i r s b h (first ∙ ap (λ n. get_or rs n r) e) second test ∙ ap (λ n. b && reads_rise (drop n rs)) (sym f)

pub last_rises : (rs : List Read) (i : ℕ) → length rs ≤ i + 1 → reads_rise (drop i rs) ≡ true
last_rises [] zero h = refl
last_rises [] (suc i) h = refl
last_rises (r ∷ []) zero h = refl
last_rises (r ∷ s ∷ rs) zero h = absurd (omega arith)
last_rises (r ∷ rs) (suc i) h = last_rises rs i (omega arith)
