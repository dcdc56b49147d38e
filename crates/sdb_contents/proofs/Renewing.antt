-- The rows of the catalog once those that name the store given up were renewed.
use Rattle.std.proofs.Common.{◌≡◌, ℕ, List, [], ◌∷◌, map, Bool, true, false, ◌&&◌, cond, Some, None, refl, sym, ap, ◌∙◌}
use Rattle.std.specs.Prelude.{filter, if◌then◌else◌}
use Rattle.std.specs.Cmp.{tied_itself}
use Rattle.std.specs.List.{AllByRecursion, list_all}
use Rattle.std.specs.Ordering.{is_lt}
use Rattle.std.specs.Str.{bytes_eq}
use Rattle.sdb_contents.specs.Types.{Entry, Key, Record}
use Rattle.sdb_types.specs.declared.record.Condition.TheVariants.{Version}
use Rattle.sdb_types.specs.declared.record.State.TheVariants.{Committed}
use Rattle.sdb_types.specs.Contents.{Contents, after, holds, in_span, record_among, record_at, rise, rows_in, starts_after}
use Rattle.sdb_types.specs.Order.{key_cmp, same_key}
use Rattle.sdb_types.proofs.Public.{and_first, and_second, by_test, false_true, key_total, less_of, none_some, rows_in-are_rows_of, same_key_exact, same_key_self, same_key_turned, some_is, starts_trans}
use Rattle.sdb_stores.specs.Views.{Attached, index_at}
use Rattle.sdb_catalog.specs.Rows.{metadata_key_of, metadata_table, row_of}
use Rattle.law_protocol.proofs.Public.{after_put, row_there}
use Rattle.sdb_contents.specs.declared.survey.Survey.{Survey}
use Rattle.sdb_contents.specs.Copying.{requests_of}
use Rattle.sdb_contents.specs.Joined.{after_all, settle}
use Rattle.sdb_contents.specs.Moving.{renewal, renewals, renewed}
use Rattle.sdb_contents.specs.Retired.{AreKnown, IsSurvey, Sides, writes_of}
use Rattle.sdb_contents.specs.Writes.{Hold, after_writes, contents_at, span_of, writes_at}
use Rattle.sdb_contents.proofs.RetireCalls.{after_more}
use Rattle.sdb_contents.proofs.Joins.{after_each, among_all, apart_key, rows_inside, table_of_key}
use Rattle.sdb_contents.proofs.Known.{own_writes}
use Rattle.sdb_contents.proofs.Passing.{AreThere, KeysApart, first_rise, first_rows, first_there, keys_apart, renewed_key, renewed_other, rows_kept, rows_stay}
use Rattle.sdb_catalog.proofs.Public.{version_there}

---- rows that rise are what is at their keys

own_first : (r : Record) (rs : List Record) → record_among (r ∷ rs) r.key ≡ Some r
own_first r rs = ap (λ (b : Bool). cond b (Some r) (record_among rs r.key)) (same_key_self r.key)

not_first : (k : Key) (r : Record) (rs : List Record) → same_key k r.key ≡ false → record_among (r ∷ rs) k ≡ record_among rs k
not_first k r rs n = ap (λ (b : Bool). cond b (Some r) (record_among rs k)) n

none_after : (k : Key) (rs : List Record) → AllByRecursion (λ r. is_lt (key_cmp k r.key) ≡ true) rs → record_among rs k ≡ None
none_after k [] h = refl
none_after k (r ∷ rs) h = not_first k r rs (same_key_turned k r.key ∙ apart_key k r.key h.0) ∙ none_after k rs h.1

later : (r : Record) (rs : List Record) → rise (r ∷ rs) ≡ true → AllByRecursion (λ x. is_lt (key_cmp r.key x.key) ≡ true) rs
later r rs up = after_each r.key rs (and_second (starts_after r.key rs) (rise rs) up) (and_first (starts_after r.key rs) (rise rs) up)

-- no two keys each come before the other
never_both : {X : Type 0} (a b : Record) → is_lt (key_cmp a.key b.key) ≡ true → is_lt (key_cmp b.key a.key) ≡ true → X
never_both a b h k = false_true (sym (ap is_lt (tied_itself key_total a.key)) ∙ starts_trans a.key b.key (a ∷ []) (less_of (key_cmp a.key b.key) h) k)

-- the first rows of both
same_first : (a b : Record) (as_ bs : List Record) → rise (a ∷ as_) ≡ true → rise (b ∷ bs) ≡ true → ((k : Key) → record_among (a ∷ as_) k ≡ record_among (b ∷ bs) k) → a ≡ b
same_first a b as_ bs up also same = by_test (same_key a.key b.key) here there
  where
    here : same_key a.key b.key ≡ true → a ≡ b
    here e = sym (some_is b a (sym (ap (λ (t : Bool). cond t (Some b) (record_among bs a.key)) e) ∙ sym (same a.key) ∙ own_first a as_))

    there : same_key a.key b.key ≡ false → a ≡ b
    there n =
        never_both a b (among_all (λ x. is_lt (key_cmp a.key x.key) ≡ true) as_ b.key b (later a as_ up) (sym (not_first b.key a as_ (same_key_turned b.key a.key ∙ n)) ∙ same b.key ∙ own_first b bs)).0
        (among_all (λ x. is_lt (key_cmp b.key x.key) ≡ true) bs a.key a (later b bs also) (sym (not_first a.key b bs n) ∙ sym (same a.key) ∙ own_first a as_)).0

rows_same : (as_ bs : List Record) → rise as_ ≡ true → rise bs ≡ true → ((k : Key) → record_among as_ k ≡ record_among bs k) → as_ ≡ bs
rows_same [] [] up also same = refl
rows_same [] (b ∷ bs) up also same = none_some b (same b.key ∙ own_first b bs)
rows_same (a ∷ as_) [] up also same = none_some a (sym (same a.key) ∙ own_first a as_)
rows_same (a ∷ as_) (b ∷ bs) up also same =
    let first = same_first a b as_ bs up also same in
    let rest : (k : Key) → record_among as_ k ≡ record_among bs k = λ k. by_test (same_key k a.key)
    (λ e. ap (record_among as_) (same_key_exact k a.key e) ∙ none_after a.key as_ (later a as_ up) ∙ sym (ap (record_among bs) (same_key_exact k a.key e ∙ ap (λ (r : Record). r.key) first) ∙ none_after b.key bs (later b bs also)))
    (λ n. sym (not_first k a as_ n) ∙ same k ∙ not_first k b bs (ap (λ (r : Record). same_key k r.key) (sym first) ∙ n)) in
    ap (λ (r : Record). r ∷ as_) first ∙ ap (λ (l : List Record). b ∷ l) (rows_same as_ bs (and_second (starts_after a.key as_) (rise as_) up) (and_second (starts_after b.key bs) (rise bs) also) rest)

none_outside : (t : Key → Bool) (k : Key) (rs : List Record) → list_all (λ r. t r.key) rs ≡ true → t k ≡ false → record_among rs k ≡ None
none_outside t k [] h out = refl
none_outside t k (r ∷ rs) h out =
    not_first k r rs (by_test (same_key k r.key) (λ e. false_true (sym out ∙ ap t (same_key_exact k r.key e) ∙ and_first (t r.key) (list_all (λ x. t x.key) rs) h)) (λ e. e))
    ∙ none_outside t k rs (and_second (t r.key) (list_all (λ x. t x.key) rs) h) out

---- rows renewed

settled_key : (from to : List ℕ) (e : Entry) → (row_of (settle from to e)).key ≡ (row_of e).key
settled_key from to e = elim (bytes_eq e.store from) as (λ b. (row_of (if b then renewed to e else e)).key ≡ (row_of e).key) [ true ↦ renewed_key to e | false ↦ refl ]

own_span : (e : Entry) → in_span (span_of metadata_table) (row_of e).key ≡ true
unfolding row_of metadata_key_of
own_span e = refl

all_inside : (es : List Entry) → list_all (λ r. in_span (span_of metadata_table) r.key) (map row_of es) ≡ true
all_inside [] = refl
all_inside (e ∷ es) = ap (λ (b : Bool). b && list_all (λ r. in_span (span_of metadata_table) r.key) (map row_of es)) (own_span e) ∙ all_inside es

starts_settled : (from to : List ℕ) (k : Key) (es : List Entry) → starts_after k (map row_of (map (settle from to) es)) ≡ starts_after k (map row_of es)
starts_settled from to k [] = refl
starts_settled from to k (e ∷ es) = ap (λ (x : Key). is_lt (key_cmp k x)) (settled_key from to e)

rise_settled : (from to : List ℕ) (es : List Entry) → rise (map row_of (map (settle from to) es)) ≡ rise (map row_of es)
rise_settled from to [] = refl
rise_settled from to (e ∷ es) =
    ap (λ (b : Bool). starts_after (row_of (settle from to e)).key (map row_of (map (settle from to) es)) && b) (rise_settled from to es)
    ∙ ap (λ (b : Bool). b && rise (map row_of es)) (starts_settled from to (row_of (settle from to e)).key es ∙ ap (λ (k : Key). starts_after k (map row_of es)) (settled_key from to e))

-- renewals at other keys
kept_at : (from to : List ℕ) (k : Key) (es : List Entry) (m : Contents) → AllByRecursion (λ a. same_key k (row_of a).key ≡ false) es → record_at (after_all (renewals from to es) m) k ≡ record_at m k
kept_at from to k [] m far = refl
kept_at from to k (e ∷ es) m far = elim (bytes_eq e.store from) as (λ b. record_at (after_all (map (renewal to) (cond b (e ∷ filter (λ x. bytes_eq x.store from) es) (filter (λ x. bytes_eq x.store from) es))) m) k ≡ record_at m k) [
  | true ↦ kept_at from to k es (after (renewal to e) m) far.1 ∙ renewed_other to e m k far.0
  | false ↦ kept_at from to k es m far.1
]

turned : (k : Key) (e : Entry) (es : List Entry) → k ≡ (row_of e).key → AllByRecursion (λ a. same_key (row_of a).key (row_of e).key ≡ false) es → AllByRecursion (λ a. same_key k (row_of a).key ≡ false) es
turned k e [] own h = tt
turned k e (a ∷ as_) own h = (same_key_turned k (row_of a).key ∙ ap (same_key (row_of a).key) own ∙ h.0, turned k e as_ own h.1)

-- a renewed row is there
renewed_there : (to : List ℕ) (e : Entry) (m : Contents) (k : Key) → k ≡ (row_of e).key → record_at m (row_of e).key ≡ Some (row_of e) → record_at (after (renewal to e) m) k ≡ Some (row_of (renewed to e))
renewed_there to e m k own there =
    after_put (row_of (renewed to e)) (Version e.revision Committed) m k
    ∙ ap (λ (b : Bool). cond (b && same_key k (row_of (renewed to e)).key) (Some (row_of (renewed to e))) (record_at m k)) (ap (holds (Version e.revision Committed)) (ap (record_at m) (renewed_key to e) ∙ there) ∙ version_there e)
    ∙ ap (λ (b : Bool). cond b (Some (row_of (renewed to e))) (record_at m k)) (ap (same_key k) (renewed_key to e ∙ sym own) ∙ same_key_self k)

among_own : (from to : List ℕ) (e : Entry) (es : List Entry) (k : Key) (x : Entry) → k ≡ (row_of e).key → settle from to e ≡ x → record_among (map row_of (map (settle from to) (e ∷ es))) k ≡ Some (row_of x)
among_own from to e es k x own is =
    ap (λ (b : Bool). cond b (Some (row_of (settle from to e))) (record_among (map row_of (map (settle from to) es)) k)) (ap (same_key k) (settled_key from to e ∙ sym own) ∙ same_key_self k) ∙ ap (λ (y : Entry). Some (row_of y)) is

among_other : (from to : List ℕ) (e : Entry) (es : List Entry) (k : Key) → same_key k (row_of e).key ≡ false → record_among (map row_of (map (settle from to) (e ∷ es))) k ≡ record_among (map row_of (map (settle from to) es)) k
among_other from to e es k n = not_first k (row_of (settle from to e)) (map row_of (map (settle from to) es)) (ap (same_key k) (settled_key from to e) ∙ n)

-- what is at each key once the rows were renewed
at_each : (from to : List ℕ) (es : List Entry) (m : Contents) (k : Key) → KeysApart es → AreThere m es → record_at m k ≡ record_among (map row_of es) k → record_at (after_all (renewals from to es) m) k ≡ record_among (map row_of (map (settle from to) es)) k
at_each from to [] m k far there same = same
at_each from to (e ∷ es) m k far there same = by (λ n h t. at_each from to es n k far.1 h t) (bytes_eq e.store from) refl
  where
    by : ((n : Contents) → AreThere n es → record_at n k ≡ record_among (map row_of es) k → record_at (after_all (renewals from to es) n) k ≡ record_among (map row_of (map (settle from to) es)) k) → (b : Bool) → bytes_eq e.store from ≡ b
        → record_at (after_all (map (renewal to) (cond b (e ∷ filter (λ x. bytes_eq x.store from) es) (filter (λ x. bytes_eq x.store from) es))) m) k ≡ record_among (map row_of (map (settle from to) (e ∷ es))) k
    by rest true q = by_test (same_key k (row_of e).key)
        (λ s. let own = same_key_exact k (row_of e).key s in
        kept_at from to k es (after (renewal to e) m) (turned k e es own far.0) ∙ renewed_there to e m k own there.0 ∙ sym (among_own from to e es k (renewed to e) own (ap (λ (t : Bool). if t then renewed to e else e) q)))
        (λ n. rest (after (renewal to e) m) (rows_stay to e m es far.0 there.1) (renewed_other to e m k n ∙ same ∙ not_first k (row_of e) (map row_of es) n) ∙ sym (among_other from to e es k n))
    by rest false q = by_test (same_key k (row_of e).key)
        (λ s. let own = same_key_exact k (row_of e).key s in
        kept_at from to k es m (turned k e es own far.0) ∙ ap (record_at m) own ∙ there.0 ∙ sym (among_own from to e es k e own (ap (λ (t : Bool). if t then renewed to e else e) q)))
        (λ n. rest m there.1 (same ∙ not_first k (row_of e) (map row_of es) n) ∙ sym (among_other from to e es k n))

---- the rows once everything was moved

in_metadata : (k : Key) → in_span (span_of metadata_table) k ≡ true → k.table ≡ metadata_table
in_metadata k h = sym (table_of_key metadata_table k h)

pub rows_renewed : (s : Sides) (old new : Attached) (v : Survey) → AreKnown s old → IsSurvey s old v → Hold (writes_of (index_at old s.to) s v) old new → rows_in (span_of metadata_table) (contents_at new.views 0) ≡ map row_of (map (settle s.from s.to) v.entries)
rows_renewed s old new v known h held =
    let span = span_of metadata_table in
    let c = contents_at old.views 0 in
    let copied = after_writes 0 (writes_at (index_at old s.to) (requests_of v.seen)) c in
    let is : contents_at new.views 0 ≡ after_all (renewals s.from s.to v.entries) copied =
    held 0 known.first ∙ after_more 0 (writes_at (index_at old s.to) (requests_of v.seen)) (writes_at 0 (renewals s.from s.to v.entries)) c ∙ own_writes 0 (renewals s.from s.to v.entries) copied in
    let m = after_all (renewals s.from s.to v.entries) copied in
    let settled = map row_of (map (settle s.from s.to) v.entries) in
    let here : (k : Key) → in_span span k ≡ true → record_among (rows_in span m) k ≡ record_among settled k = λ k inside.
    row_there span k m inside
    ∙ at_each s.from s.to v.entries copied k (keys_apart v.entries (first_rise s old v h)) (first_there s old v known h)
    (rows_kept s old v k known h (in_metadata k inside) ∙ sym (row_there span k c inside) ∙ ap (λ (l : List Record). record_among l k) (first_rows s old v known.first h)) in
    let there : (k : Key) → in_span span k ≡ false → record_among (rows_in span m) k ≡ record_among settled k = λ k out.
    none_outside (in_span span) k (rows_in span m) (rows_inside metadata_table m) out ∙ sym (none_outside (in_span span) k settled (all_inside (map (settle s.from s.to) v.entries)) out) in
    ap (rows_in span) is
    ∙ rows_same (rows_in span m) settled (and_first (rise (rows_in span m)) (list_all (λ r. in_span span r.key) (rows_in span m)) (rows_in-are_rows_of span m)) (rise_settled s.from s.to v.entries ∙ first_rise s old v h)
    (λ k. by_test (in_span span k) (here k) (there k))
