-- What is at each key once tables were copied.
use Rattle.std.proofs.Common.{◌≡◌, ◌≢◌, ◌⊎◌, ◌<◌, inl, inr, ℕ, zero, suc, length, get_or, arith, List, [], ◌∷◌, ◌++◌, map, Bool, true, false, ◌&&◌, ◌||◌, cond, Option, Some, None, refl, sym, ap, subst, ◌∙◌}
use Rattle.std.specs.Prelude.{flat_map, Any, is_some, if◌then◌else◌}
use Rattle.std.specs.List.{AllByRecursion, list_all}
use Rattle.std.specs.Ordering.{is_eq, is_lt}
use Rattle.std.specs.Cmp.{tied_itself}
use Rattle.sdb_contents.specs.Types.{Condition, Key, Record, Request, TableName}
use Rattle.sdb_types.specs.declared.record.Condition.TheVariants.{Absent}
use Rattle.sdb_types.specs.declared.record.Request.TheVariants as ask
use Rattle.sdb_types.specs.Contents.{Contents, after, holds, in_span, record_among, record_at, rise, rows_in, starts_after}
use Rattle.sdb_types.specs.Order.{key_cmp, same_key, table_cmp}
use Rattle.sdb_types.specs.Exact.{equal_of}
use Rattle.sdb_types.proofs.Public.{and_first, and_second, by_test, false_true, key_total, less_of, none_some, rows_in-are_rows_of, same_key_exact, same_key_self, same_key_decides, starts_trans, table_exact}
use Rattle.law_protocol.proofs.Public.{after_delete, after_put, row_there}
use Rattle.sdb_contents.specs.declared.seen.Seen.{Seen}
use Rattle.sdb_contents.specs.Copying.{IsFree, delete_of, delete_on, put_of, requests_for, requests_of, version_in}
use Rattle.sdb_contents.specs.Joined.{AreApart, IsWhole, after_all, is_among}
use Rattle.sdb_contents.specs.Writes.{span_of}
use Rattle.sdb_contents.proofs.Versions.{version_is}

---- the rows of a span are what is at their keys

abbrev pub Agree : Contents → List Record → Type 0
Agree m rows = AllByRecursion (λ r. record_at m r.key ≡ Some r) rows

pub after_each : (k : Key) (rs : List Record) → rise rs ≡ true → starts_after k rs ≡ true → AllByRecursion (λ r. is_lt (key_cmp k r.key) ≡ true) rs
after_each k [] up h = tt
after_each k (r ∷ rs) up h =
    (h, after_each k rs (and_second (starts_after r.key rs) (rise rs) up) (starts_trans k r.key rs (less_of (key_cmp k r.key) h) (and_first (starts_after r.key rs) (rise rs) up)))

pub apart_key : (a b : Key) → is_lt (key_cmp a b) ≡ true → same_key b a ≡ false
apart_key a b h = elim (same_key_decides b a) [
  | inl e ↦ false_true (sym (ap is_lt (tied_itself key_total a)) ∙ ap (λ (k : Key). is_lt (key_cmp a k)) (sym e.1) ∙ h)
  | inr n ↦ n.0
]

later_own : (r : Record) (full xs : List Record) → AllByRecursion (λ x. is_lt (key_cmp r.key x.key) ≡ true) xs → AllByRecursion (λ x. record_among full x.key ≡ Some x) xs → AllByRecursion (λ x. record_among (r ∷ full) x.key ≡ Some x) xs
later_own r full [] h g = tt
later_own r full (x ∷ xs) h g = (ap (λ (b : Bool). cond b (Some r) (record_among full x.key)) (apart_key r.key x.key h.0) ∙ g.0, later_own r full xs h.1 g.1)

own_rows : (rs : List Record) → rise rs ≡ true → AllByRecursion (λ x. record_among rs x.key ≡ Some x) rs
own_rows [] up = tt
own_rows (r ∷ rs) up = (
  ap (λ (b : Bool). cond b (Some r) (record_among rs r.key)) (same_key_self r.key),
  later_own r rs rs (after_each r.key rs (and_second (starts_after r.key rs) (rise rs) up) (and_first (starts_after r.key rs) (rise rs) up)) (own_rows rs (and_second (starts_after r.key rs) (rise rs) up)),
)

agree_each : (t : TableName) (m : Contents) (xs : List Record) → list_all (λ r. in_span (span_of t) r.key) xs ≡ true → AllByRecursion (λ x. record_among (rows_in (span_of t) m) x.key ≡ Some x) xs → Agree m xs
agree_each t m [] inside h = tt
agree_each t m (x ∷ xs) inside h = (
  sym (row_there (span_of t) x.key m (and_first (in_span (span_of t) x.key) (list_all (λ r. in_span (span_of t) r.key) xs) inside)) ∙ h.0,
  agree_each t m xs (and_second (in_span (span_of t) x.key) (list_all (λ r. in_span (span_of t) r.key) xs) inside) h.1,
)

pub rows_inside : (t : TableName) (m : Contents) → list_all (λ r. in_span (span_of t) r.key) (rows_in (span_of t) m) ≡ true
rows_inside t m = and_second (rise (rows_in (span_of t) m)) (list_all (λ r. in_span (span_of t) r.key) (rows_in (span_of t) m)) (rows_in-are_rows_of (span_of t) m)

rows_agree : (t : TableName) (m : Contents) → Agree m (rows_in (span_of t) m)
rows_agree t m =
    agree_each t m (rows_in (span_of t) m) (rows_inside t m)
    (own_rows (rows_in (span_of t) m) (and_first (rise (rows_in (span_of t) m)) (list_all (λ r. in_span (span_of t) r.key) (rows_in (span_of t) m)) (rows_in-are_rows_of (span_of t) m)))

-- a claim of all rows, at the one with a key
pub among_all : (P : Record → Type 0) (rows : List Record) (k : Key) (r : Record) → AllByRecursion P rows → record_among rows k ≡ Some r → P r × (k ≡ r.key)
among_all P [] k r h e = absurd (none_some r e)
among_all P (x ∷ xs) k r h e = by_test (same_key k x.key) here (λ q. among_all P xs k r h.1 (sym (ap (λ (b : Bool). cond b (Some x) (record_among xs k)) q) ∙ e))
  where
    here : same_key k x.key ≡ true → P r × (k ≡ r.key)
    here q =
        let f : Some x ≡ Some r = sym (ap (λ (b : Bool). cond b (Some x) (record_among xs k)) q) ∙ e in
        let same : x ≡ r = cc in
        (subst P same h.0, same_key_exact k x.key q ∙ ap (λ (y : Record). y.key) same)

---- requests one after the other

all_more : (a b : List Request) (m : Contents) → after_all (a ++ b) m ≡ after_all b (after_all a m)
all_more [] b m = refl
all_more (q ∷ qs) b m = all_more qs b (after q m)

---- a table is cleared, at one key

abbrev pub Cleared : List Record → Contents → Key → Type 0
Cleared rows cur k = (record_at (after_all (flat_map delete_of rows) cur) k ≡ None) ⊎ ((record_at (after_all (flat_map delete_of rows) cur) k ≡ record_at cur k) × AllByRecursion (λ x. x.key ≡ k → version_in x ≡ None) rows)

abbrev pub IsKept : Contents → Contents → Key → Type 0
IsKept m cur k = (record_at cur k ≡ record_at m k) ⊎ (record_at cur k ≡ None)

delete_at : (c : Condition) (key k : Key) (cur : Contents) → (record_at (after (ask.DeleteIf key c) cur) k ≡ None) ⊎ (record_at (after (ask.DeleteIf key c) cur) k ≡ record_at cur k)
delete_at c key k cur = by (holds c (record_at cur key) && same_key k key) (after_delete key c cur k)
  where
    by : (b : Bool) → record_at (after (ask.DeleteIf key c) cur) k ≡ cond b None (record_at cur k) → (record_at (after (ask.DeleteIf key c) cur) k ≡ None) ⊎ (record_at (after (ask.DeleteIf key c) cur) k ≡ record_at cur k)
    by true e = inl e
    by false e = inr e

delete_apart : (c : Condition) (key k : Key) (cur : Contents) → same_key k key ≡ false → record_at (after (ask.DeleteIf key c) cur) k ≡ record_at cur k
delete_apart c key k cur apart = after_delete key c cur k ∙ ap (λ (b : Bool). cond b None (record_at cur k)) (ap (λ (b : Bool). holds c (record_at cur key) && b) apart ∙ none_both (holds c (record_at cur key)))
  where
    none_both : (b : Bool) → (b && false) ≡ false
    none_both true = refl
    none_both false = refl

delete_own : (c : Condition) (x : Record) (cur : Contents) → holds c (Some x) ≡ true → (record_at cur x.key ≡ Some x) ⊎ (record_at cur x.key ≡ None) → record_at (after (ask.DeleteIf x.key c) cur) x.key ≡ None
delete_own c x cur h (inl e) = after_delete x.key c cur x.key ∙ ap (λ (b : Bool). cond b None (record_at cur x.key)) (ap (λ (b : Bool). b && same_key x.key x.key) (ap (holds c) e ∙ h) ∙ same_key_self x.key)
delete_own c x cur h (inr e) = elim (delete_at c x.key x.key cur) [
  | inl gone ↦ gone
  | inr same ↦ same ∙ e
]

gone_stays : (rows : List Record) (k : Key) (cur : Contents) → record_at cur k ≡ None → record_at (after_all (flat_map delete_of rows) cur) k ≡ None
gone_stays [] k cur e = e
gone_stays (x ∷ xs) k cur e = by (λ m g. gone_stays xs k m g) (version_in x) refl
  where
    by : ((m : Contents) → record_at m k ≡ None → record_at (after_all (flat_map delete_of xs) m) k ≡ None) → (o : Option Condition) → version_in x ≡ o → record_at (after_all (delete_on x.key (version_in x) ++ flat_map delete_of xs) cur) k ≡ None
    by rest None q = ap (λ (v : Option Condition). record_at (after_all (delete_on x.key v ++ flat_map delete_of xs) cur) k) q ∙ rest cur e
    by rest (Some c) q =
        ap (λ (v : Option Condition). record_at (after_all (delete_on x.key v ++ flat_map delete_of xs) cur) k) q
        ∙ rest (after (ask.DeleteIf x.key c) cur) (elim (delete_at c x.key k cur) [ inl gone ↦ gone | inr same ↦ same ∙ e ])

clears : (m : Contents) (k : Key) (rows : List Record) (cur : Contents) → Agree m rows → IsKept m cur k → Cleared rows cur k
clears m k [] cur agree kept = inr (refl, tt)
clears m k (x ∷ xs) cur agree kept = by (λ at h. clears m k xs at agree.1 h) (version_in x) refl
  where
    at_own : k ≡ x.key → (record_at cur x.key ≡ Some x) ⊎ (record_at cur x.key ≡ None)
    at_own e = elim (subst (IsKept m cur) e kept) [
      | inl same ↦ inl (same ∙ agree.0)
      | inr none ↦ inr none
    ]

    own : (c : Condition) → version_in x ≡ Some c → k ≡ x.key → record_at (after (ask.DeleteIf x.key c) cur) k ≡ None
    own c q e = ap (record_at (after (ask.DeleteIf x.key c) cur)) e ∙ delete_own c x cur (version_is x c q) (at_own e)

    still : (c : Condition) → same_key k x.key ≡ false → IsKept m (after (ask.DeleteIf x.key c) cur) k
    still c n = elim kept [
      | inl e ↦ inl (delete_apart c x.key k cur n ∙ e)
      | inr e ↦ inr (delete_apart c x.key k cur n ∙ e)
    ]

    apart : ((at : Contents) → IsKept m at k → Cleared xs at k) → (c : Condition) → version_in x ≡ Some c → same_key k x.key ≡ false → k ≢ x.key → Cleared (x ∷ xs) cur k
    apart rest c q n far =
        elim (rest (after (ask.DeleteIf x.key c) cur) (still c n)) [
          | inl gone ↦ inl (ap (λ (v : Option Condition). record_at (after_all (delete_on x.key v ++ flat_map delete_of xs) cur) k) q ∙ gone)
          | inr left ↦ inr (ap (λ (v : Option Condition). record_at (after_all (delete_on x.key v ++ flat_map delete_of xs) cur) k) q ∙ left.0 ∙ delete_apart c x.key k cur n, ((λ e. absurd (far (sym e))), left.1))
        ]

    by : ((at : Contents) → IsKept m at k → Cleared xs at k) → (o : Option Condition) → version_in x ≡ o → Cleared (x ∷ xs) cur k
    by rest None q = elim (rest cur kept) [
      | inl gone ↦ inl (ap (λ (v : Option Condition). record_at (after_all (delete_on x.key v ++ flat_map delete_of xs) cur) k) q ∙ gone)
      | inr same ↦ inr (ap (λ (v : Option Condition). record_at (after_all (delete_on x.key v ++ flat_map delete_of xs) cur) k) q ∙ same.0, ((λ _. q), same.1))
    ]
    by rest (Some c) q = elim (same_key_decides k x.key) [
      | inl e ↦ inl (ap (λ (v : Option Condition). record_at (after_all (delete_on x.key v ++ flat_map delete_of xs) cur) k) q ∙ gone_stays xs k (after (ask.DeleteIf x.key c) cur) (own c q e.1))
      | inr n ↦ apart rest c q n.0 n.1
    ]

---- records are put, at one key

abbrev pub IsFilled : Contents → Contents → Key → Type 0
IsFilled f cur k = (record_at cur k ≡ None) ⊎ (record_at cur k ≡ record_at f k)

put_where : (r : Record) (cur : Contents) (k : Key) (b : Bool) → (holds Absent (record_at cur r.key) && same_key k r.key) ≡ b → record_at (after (put_of r) cur) k ≡ cond b (Some r) (record_at cur k)
put_where r cur k b e = after_put r Absent cur k ∙ ap (λ (t : Bool). cond t (Some r) (record_at cur k)) e

pub put_fills : (f : Contents) (r : Record) (cur : Contents) (k : Key) → record_at f r.key ≡ Some r → IsFilled f cur k → IsFilled f (after (put_of r) cur) k
put_fills f r cur k own h = by_test (holds Absent (record_at cur r.key) && same_key k r.key) here there
  where
    here : (holds Absent (record_at cur r.key) && same_key k r.key) ≡ true → IsFilled f (after (put_of r) cur) k
    here e = inr (put_where r cur k true e ∙ sym own ∙ ap (record_at f) (sym (same_key_exact k r.key (and_second (holds Absent (record_at cur r.key)) (same_key k r.key) e))))

    there : (holds Absent (record_at cur r.key) && same_key k r.key) ≡ false → IsFilled f (after (put_of r) cur) k
    there e = elim h [
      | inl none ↦ inl (put_where r cur k false e ∙ none)
      | inr same ↦ inr (put_where r cur k false e ∙ same)
    ]

-- a record that is there stays
put_stays : (r x : Record) (cur : Contents) (k : Key) → record_at cur k ≡ Some x → record_at (after (put_of r) cur) k ≡ Some x
put_stays r x cur k h = by_test (holds Absent (record_at cur r.key) && same_key k r.key) here (λ e. put_where r cur k false e ∙ h)
  where
    here : (holds Absent (record_at cur r.key) && same_key k r.key) ≡ true → record_at (after (put_of r) cur) k ≡ Some x
    here e =
        let same : k ≡ r.key = same_key_exact k r.key (and_second (holds Absent (record_at cur r.key)) (same_key k r.key) e) in
        false_true (sym (ap (holds Absent) (ap (record_at cur) (sym same) ∙ h)) ∙ and_first (holds Absent (record_at cur r.key)) (same_key k r.key) e)

puts_stay : (rows : List Record) (x : Record) (cur : Contents) (k : Key) → record_at cur k ≡ Some x → record_at (after_all (map put_of rows) cur) k ≡ Some x
puts_stay [] x cur k h = h
puts_stay (r ∷ rs) x cur k h = puts_stay rs x (after (put_of r) cur) k (put_stays r x cur k h)

-- a record that is put is there
put_there : (f : Contents) (r : Record) (cur : Contents) → record_at f r.key ≡ Some r → IsFilled f cur r.key → record_at (after (put_of r) cur) r.key ≡ Some r
put_there f r cur own (inl none) = put_where r cur r.key true (ap (λ (b : Bool). b && same_key r.key r.key) (ap (holds Absent) none) ∙ same_key_self r.key)
put_there f r cur own (inr same) = put_stays r r cur r.key (same ∙ own)

pub fills : (f : Contents) (k : Key) (rows : List Record) (cur : Contents) → Agree f rows → IsFilled f cur k → IsFilled f (after_all (map put_of rows) cur) k × ((x : Record) → record_among rows k ≡ Some x → record_at (after_all (map put_of rows) cur) k ≡ Some x)
fills f k [] cur agree h = (h, λ x e. absurd (none_some x e))
fills f k (r ∷ rs) cur agree h =
    let rest = fills f k rs (after (put_of r) cur) agree.1 (put_fills f r cur k agree.0 h) in
    (rest.0, λ x e. by_test (same_key k r.key) (here x e) (λ q. rest.1 x (sym (ap (λ (b : Bool). cond b (Some r) (record_among rs k)) q) ∙ e)))
  where
    here : (x : Record) → record_among (r ∷ rs) k ≡ Some x → same_key k r.key ≡ true → record_at (after_all (map put_of rs) (after (put_of r) cur)) k ≡ Some x
    here x e q =
        let g : Some r ≡ Some x = sym (ap (λ (b : Bool). cond b (Some r) (record_among rs k)) q) ∙ e in
        let own : k ≡ r.key = same_key_exact k r.key q in
        puts_stay rs x (after (put_of r) cur) k (ap (record_at (after (put_of r) cur)) own ∙ put_there f r cur agree.0 (subst (IsFilled f cur) own h) ∙ g)

---- keys of other tables

deletes_apart : (k : Key) (rows : List Record) (cur : Contents) → AllByRecursion (λ x. same_key k x.key ≡ false) rows → record_at (after_all (flat_map delete_of rows) cur) k ≡ record_at cur k
deletes_apart k [] cur h = refl
deletes_apart k (x ∷ xs) cur h = by (λ m. deletes_apart k xs m h.1) (version_in x) refl
  where
    by : ((m : Contents) → record_at (after_all (flat_map delete_of xs) m) k ≡ record_at m k) → (o : Option Condition) → version_in x ≡ o → record_at (after_all (delete_on x.key (version_in x) ++ flat_map delete_of xs) cur) k ≡ record_at cur k
    by rest None q = ap (λ (v : Option Condition). record_at (after_all (delete_on x.key v ++ flat_map delete_of xs) cur) k) q ∙ rest cur
    by rest (Some c) q =
        ap (λ (v : Option Condition). record_at (after_all (delete_on x.key v ++ flat_map delete_of xs) cur) k) q
        ∙ rest (after (ask.DeleteIf x.key c) cur) ∙ delete_apart c x.key k cur h.0

puts_apart : (k : Key) (rows : List Record) (cur : Contents) → AllByRecursion (λ x. same_key k x.key ≡ false) rows → record_at (after_all (map put_of rows) cur) k ≡ record_at cur k
puts_apart k [] cur h = refl
puts_apart k (r ∷ rs) cur h = puts_apart k rs (after (put_of r) cur) h.1 ∙ put_where r cur k false (ap (λ (b : Bool). holds Absent (record_at cur r.key) && b) h.0 ∙ none_both (holds Absent (record_at cur r.key)))
  where
    none_both : (b : Bool) → (b && false) ≡ false
    none_both true = refl
    none_both false = refl

outside : (t : TableName) (k : Key) (xs : List Record) → list_all (λ r. in_span (span_of t) r.key) xs ≡ true → in_span (span_of t) k ≡ false → AllByRecursion (λ x. same_key k x.key ≡ false) xs
outside t k [] h out = tt
outside t k (x ∷ xs) h out = (
  elim (same_key_decides k x.key) [
    | inl e ↦ false_true (sym out ∙ ap (in_span (span_of t)) e.1 ∙ and_first (in_span (span_of t) x.key) (list_all (λ r. in_span (span_of t) r.key) xs) h)
    | inr n ↦ n.0
  ],
  outside t k xs (and_second (in_span (span_of t) x.key) (list_all (λ r. in_span (span_of t) r.key) xs) h) out,
)

---- one table

pub within : (m : Contents) (s : List Record) (t : TableName) → s ≡ rows_in (span_of t) m → list_all (λ r. in_span (span_of t) r.key) s ≡ true
within m s t e = ap (list_all (λ r. in_span (span_of t) r.key)) e ∙ rows_inside t m

pub agreed : (m : Contents) (s : List Record) (t : TableName) → s ≡ rows_in (span_of t) m → Agree m s
agreed m s t e = subst (Agree m) (sym e) (rows_agree t m)

pub table_apart : (to from : Contents) (s : Seen) (cur : Contents) (k : Key) → IsWhole to from s → in_span (span_of s.table) k ≡ false → record_at (after_all (requests_for s) cur) k ≡ record_at cur k
table_apart to from s cur k w out =
    ap (λ (m : Contents). record_at m k) (all_more (flat_map delete_of s.in_to) (map put_of s.in_from) cur)
    ∙ puts_apart k s.in_from (after_all (flat_map delete_of s.in_to) cur) (outside s.table k s.in_from (within from s.in_from s.table w.in_from) out)
    ∙ deletes_apart k s.in_to cur (outside s.table k s.in_to (within to s.in_to s.table w.in_to) out)

any_agrees : (f : Contents) (rows : List Record) (r : Record) → Agree f rows → Any (λ x. x ≡ r) rows → record_at f r.key ≡ Some r
any_agrees f rows r agree h = found rows agree h.0 h.1 h.2 h.3 h.4
  where
    found : (xs : List Record) → Agree f xs → (i : ℕ) (x : Record) → i < length xs → get_or xs i x ≡ x → x ≡ r → record_at f r.key ≡ Some r
    found [] a i x inside at same = absurd (omega arith)
    found (y ∷ ys) a zero x inside at same = subst (λ (z : Record). record_at f z.key ≡ Some z) (at ∙ same) a.0
    found (y ∷ ys) a (suc i) x inside at same = found ys a.1 i x (omega arith) at same

-- once the table is cleared, what is left at a key is what comes there
pub cleared_filled : (to from : Contents) (s : Seen) (cur : Contents) (k : Key) → IsWhole to from s → in_span (span_of s.table) k ≡ true → record_at cur k ≡ record_at to k → IsFilled from (after_all (flat_map delete_of s.in_to) cur) k
cleared_filled to from s cur k w ins same =
    elim (clears to k s.in_to cur (agreed to s.in_to s.table w.in_to) (inl same)) [
      | inl gone ↦ inl gone
      | inr left ↦ by (record_at to k) refl left.0 left.1
    ]
  where
    by : (o : Option Record) → record_at to k ≡ o → record_at (after_all (flat_map delete_of s.in_to) cur) k ≡ record_at cur k → AllByRecursion (λ x. x.key ≡ k → version_in x ≡ None) s.in_to → IsFilled from (after_all (flat_map delete_of s.in_to) cur) k
    by None e kept lack = inl (kept ∙ same ∙ e)
    by (Some r) e kept lack =
        let there : record_among s.in_to k ≡ Some r = ap (λ (l : List Record). record_among l k) w.in_to ∙ row_there (span_of s.table) k to ins ∙ e in
        let one = among_all (λ x. x.key ≡ k → version_in x ≡ None) s.in_to k r lack there in
        let free = (among_all (IsFree s.in_from) s.in_to k r w.free there).0 in
        elim free [
          | inl some ↦ absurd (false_true (sym (ap is_some (one.0 (sym one.1))) ∙ some))
          | inr any ↦ inr (kept ∙ same ∙ e ∙ sym (any_agrees from s.in_from r (agreed from s.in_from s.table w.in_from) any) ∙ ap (record_at from) (sym one.1))
        ]

pub table_copied : (to from : Contents) (s : Seen) (cur : Contents) (k : Key) → IsWhole to from s → in_span (span_of s.table) k ≡ true → record_at cur k ≡ record_at to k → record_at (after_all (requests_for s) cur) k ≡ record_at from k
table_copied to from s cur k w ins same =
    ap (λ (m : Contents). record_at m k) (all_more (flat_map delete_of s.in_to) (map put_of s.in_from) cur) ∙ by (record_at from k) refl
  where
    by : (o : Option Record) → record_at from k ≡ o → record_at (after_all (map put_of s.in_from) (after_all (flat_map delete_of s.in_to) cur)) k ≡ record_at from k
    by o e = all (fills from k s.in_from (after_all (flat_map delete_of s.in_to) cur) (agreed from s.in_from s.table w.in_from) (cleared_filled to from s cur k w ins same)) o e
      where
        all : IsFilled from (after_all (map put_of s.in_from) (after_all (flat_map delete_of s.in_to) cur)) k × ((x : Record) → record_among s.in_from k ≡ Some x → record_at (after_all (map put_of s.in_from) (after_all (flat_map delete_of s.in_to) cur)) k ≡ Some x) → (o : Option Record) → record_at from k ≡ o
            → record_at (after_all (map put_of s.in_from) (after_all (flat_map delete_of s.in_to) cur)) k ≡ record_at from k
        all h None e = elim h.0 [ inl none ↦ none ∙ sym e | inr same ↦ same ]
        all h (Some x) e = h.1 x (ap (λ (l : List Record). record_among l k) w.in_from ∙ row_there (span_of s.table) k from ins ∙ e) ∙ sym e

---- tables one after the other

pub tables_apart : (to from : Contents) (seen : List Seen) (cur : Contents) (k : Key) → AllByRecursion (IsWhole to from) seen → AllByRecursion (λ s. in_span (span_of s.table) k ≡ false) seen → record_at (after_all (requests_of seen) cur) k ≡ record_at cur k
tables_apart to from [] cur k w out = refl
tables_apart to from (s ∷ ss) cur k w out =
    ap (λ (m : Contents). record_at m k) (all_more (requests_for s) (requests_of ss) cur) ∙ tables_apart to from ss (after_all (requests_for s) cur) k w.1 out.1 ∙ table_apart to from s cur k w.0 out.0

pub table_of_key : (t : TableName) (k : Key) → in_span (span_of t) k ≡ true → t ≡ k.table
table_of_key t k h = table_exact t k.table (equal_of (table_cmp t k.table) (and_first (is_eq (table_cmp t k.table)) true h))

none_else : (t : TableName) (k : Key) (ss : List Seen) → in_span (span_of t) k ≡ true → AllByRecursion (λ u. u ≢ t) (map (λ (x : Seen). x.table) ss) → AllByRecursion (λ (s : Seen). in_span (span_of s.table) k ≡ false) ss
none_else t k [] h far = tt
none_else t k (s ∷ ss) h far =
    (by_test (in_span (span_of s.table) k) (λ e. absurd (far.0 (table_of_key s.table k e ∙ sym (table_of_key t k h)))) (λ e. e), none_else t k ss h far.1)

pub joined : (to from : Contents) (seen : List Seen) (cur : Contents) (k : Key) → AllByRecursion (IsWhole to from) seen → AreApart (map (λ (x : Seen). x.table) seen) → record_at cur k ≡ record_at to k
    → record_at (after_all (requests_of seen) cur) k ≡ (if is_among (map (λ (x : Seen). x.table) seen) k then record_at from k else record_at to k)
joined to from [] cur k w far same = same
joined to from (s ∷ ss) cur k w far same = ap (λ (m : Contents). record_at m k) (all_more (requests_for s) (requests_of ss) cur) ∙ by_test (in_span (span_of s.table) k) here (λ e. there e (joined to from ss (after_all (requests_for s) cur) k w.1 far.1 (table_apart to from s cur k w.0 e ∙ same)))
  where
    here : in_span (span_of s.table) k ≡ true → record_at (after_all (requests_of ss) (after_all (requests_for s) cur)) k ≡ (if is_among (map (λ (x : Seen). x.table) (s ∷ ss)) k then record_at from k else record_at to k)
    here e =
        tables_apart to from ss (after_all (requests_for s) cur) k w.1 (none_else s.table k ss e far.0) ∙ table_copied to from s cur k w.0 e same
        ∙ sym (ap (λ (b : Bool). if b || is_among (map (λ (x : Seen). x.table) ss) k then record_at from k else record_at to k) e)

    there : in_span (span_of s.table) k ≡ false → record_at (after_all (requests_of ss) (after_all (requests_for s) cur)) k ≡ (if is_among (map (λ (x : Seen). x.table) ss) k then record_at from k else record_at to k)
        → record_at (after_all (requests_of ss) (after_all (requests_for s) cur)) k ≡ (if is_among (map (λ (x : Seen). x.table) (s ∷ ss)) k then record_at from k else record_at to k)
    there e rest = rest ∙ sym (ap (λ (b : Bool). if b || is_among (map (λ (x : Seen). x.table) ss) k then record_at from k else record_at to k) e)
