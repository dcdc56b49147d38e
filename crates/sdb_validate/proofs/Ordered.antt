-- What each rescan is to find is in key order.
use Rattle.std.proofs.Common.{◌≡◌, ℕ, List, [], ◌∷◌, ◌++◌, Some, true, not, refl, ap, sym, ◌∙◌, zero, suc}
use Rattle.std.specs.Prelude.{filter, map, slice_get}
use Rattle.std.specs.List.{list_all}
use Rattle.std.specs.Ordering.{is_lt}
use Rattle.std.specs.FinMap.{entries, entries_sorted}
use Rattle.std.specs.FinMap.Entries.{is_sorted, below_all}
use Rattle.sdb_validate.specs.Types.{Check, Expected, Key, Read, Scan, Write}
use Rattle.sdb_types.specs.Order.{key_cmp}
use Rattle.sdb_types.proofs.Public.{and_both, and_first, and_second, truth as is_true}
use Rattle.sdb_record.specs.Among.{is_written}
use Rattle.sdb_phases.specs.Checks.{wanted, wanted_of, wishes, check_of_read, check_of_scan, checks_of}
use Rattle.sdb_validate.specs.Merge.{below_wanted, wanted_rise, target_rises}
use Rattle.sdb_validate.specs.Inside.{AreOrdered}

below_entries : (key : Key) (es : List (Key × Expected)) → below_all key_cmp key es ≡ true → below_wanted key (map wanted_of es) ≡ true
below_entries key [] h = refl
below_entries key (e ∷ es) h =
    and_both (is_lt (key_cmp key e.0)) (below_wanted key (map wanted_of es)) (and_first (is_lt (key_cmp key e.0)) (below_all key_cmp key es) h) (below_entries key es (and_second (is_lt (key_cmp key e.0)) (below_all key_cmp key es) h))

entries_rise : (es : List (Key × Expected)) → is_sorted key_cmp es ≡ true → wanted_rise (map wanted_of es) ≡ true
entries_rise [] h = refl
entries_rise (e ∷ es) h =
    and_both (below_wanted e.0 (map wanted_of es)) (wanted_rise (map wanted_of es)) (below_entries e.0 es (and_first (below_all key_cmp e.0 es) (is_sorted key_cmp es) h)) (entries_rise es (and_second (below_all key_cmp e.0 es) (is_sorted key_cmp es) h))

pub wanted_in_order : (own : List Write) (scan : Scan) → wanted_rise (wanted own scan) ≡ true
wanted_in_order own scan = entries_rise (entries (wishes own scan)) (is_true _ (entries_sorted (wishes own scan)))

scans_ordered : (own : List Write) (scans : List Scan) → AreOrdered (map (check_of_scan own) scans)
scans_ordered own [] = refl
scans_ordered own (s ∷ ss) =
    and_both (wanted_rise (wanted own s)) (list_all (λ c. target_rises c.target) (map (check_of_scan own) ss)) (wanted_in_order own s) (scans_ordered own ss)

reads_ordered : (rs : List Read) (cs : List Check) → AreOrdered cs → AreOrdered (map check_of_read rs ++ cs)
reads_ordered [] cs h = h
reads_ordered (r ∷ rs) cs h = reads_ordered rs cs h

pub checks_ordered : (own : List Write) (reads : List Read) (scans : List Scan) → AreOrdered (checks_of own reads scans)
checks_ordered own reads scans =
    reads_ordered (filter (λ r. not (is_written own r.key)) reads) (map (check_of_scan own) scans) (scans_ordered own scans)

pub ordered_at : (cs : List Check) (i : ℕ) (c : Check) → AreOrdered cs → slice_get cs i ≡ Some c → target_rises c.target ≡ true
ordered_at [] i c h e = cc
ordered_at (d ∷ cs) zero c h e =
    let same : d ≡ c = cc in
    sym (ap (λ (x : Check). target_rises x.target) same) ∙ and_first (target_rises d.target) (list_all (λ x. target_rises x.target) cs) h
ordered_at (d ∷ cs) (suc i) c h e = ordered_at cs i c (and_second (target_rises d.target) (list_all (λ x. target_rises x.target) cs) h) e
