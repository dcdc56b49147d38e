-- Going through rows and what is wanted at once finds the first difference.
use Rattle.std.proofs.Common.{◌≡◌, List, [], ◌∷◌, Option, Some, None, true, false, not, refl, sym, ap, ◌∙◌, cond, drop}
use Rattle.std.specs.Prelude.{Bool, slice_get}
use Rattle.std.specs.FinMap.Entries.{by_order}
use Rattle.std.specs.Ordering.{is_eq, is_lt}
use Rattle.sdb_validate.specs.Types.{Expected, Key, Ordering, Record, Wanted}
use Rattle.std.specs.declared.cmp.Ordering.TheVariants.{Less, Equal, Greater}
use Rattle.sdb_types.specs.Order.{key_cmp, same_key}
use Rattle.sdb_types.specs.Contents.{rise, starts_after, record_among}
use Rattle.sdb_types.proofs.Public.{and_both, and_first, and_second, key_exact, key_total, less_of, same_key_exact, same_key_self as same_itself}
use Rattle.sdb_phases.specs.Checks.{expected_at, is_fulfilled, is_granted, differs, first_difference}
use Rattle.sdb_validate.specs.declared.rescan.Verdict.{Verdict}
use Rattle.sdb_validate.specs.declared.rescan.Verdict.TheVariants as verdict
use Rattle.sdb_validate.specs.Merge.{merge, row_place, below_wanted, wanted_rise}
use Rattle.sdb_validate.proofs.Firsts.{IsFirst, first_is, turned}

---- below all

is_less : (a b : Key) → key_cmp a b ≡ Less → is_lt (key_cmp a b) ≡ true
is_less a b h = ap is_lt h

after_trans : (q k : Key) (rows : List Record) → key_cmp q k ≡ Less → starts_after k rows ≡ true → starts_after q rows ≡ true
after_trans q k [] h s = refl
after_trans q k (r ∷ rs) h s = is_less q r.key (key_total.trans q k r.key h (less_of (key_cmp k r.key) s))

none_below : (q : Key) (rows : List Record) → rise rows ≡ true → starts_after q rows ≡ true → record_among rows q ≡ None
unfolding same_key
none_below q [] h s = refl
none_below q (r ∷ rs) h s =
    let less : key_cmp q r.key ≡ Less = less_of (key_cmp q r.key) s in
    let rest : starts_after r.key rs ≡ true = and_first (starts_after r.key rs) (rise rs) h in
    ap (λ o. cond (is_eq o) (Some r) (record_among rs q)) less ∙ none_below q rs (and_second (starts_after r.key rs) (rise rs) h) (after_trans q r.key rs less rest)

below_trans : (q k : Key) (ws : List Wanted) → key_cmp q k ≡ Less → below_wanted k ws ≡ true → below_wanted q ws ≡ true
below_trans q k [] h b = refl
below_trans q k (w ∷ ws) h b =
    let first = and_first (is_lt (key_cmp k w.key)) (below_wanted k ws) b in
    let rest = and_second (is_lt (key_cmp k w.key)) (below_wanted k ws) b in
    and_both (is_lt (key_cmp q w.key)) (below_wanted q ws) (is_less q w.key (key_total.trans q k w.key h (less_of (key_cmp k w.key) first))) (below_trans q k ws h rest)

no_wish_below : (q : Key) (ws : List Wanted) → below_wanted q ws ≡ true → expected_at ws q ≡ None
unfolding same_key
no_wish_below q [] b = refl
no_wish_below q (w ∷ ws) b =
    let less : key_cmp q w.key ≡ Less = less_of (key_cmp q w.key) (and_first (is_lt (key_cmp q w.key)) (below_wanted q ws) b) in
    ap (λ o. cond (is_eq o) (Some w.wish) (expected_at ws q)) less ∙ no_wish_below q ws (and_second (is_lt (key_cmp q w.key)) (below_wanted q ws) b)

-- a key below the first that is wanted
wish_above : (q : Key) (w : Wanted) (ws : List Wanted) → key_cmp q w.key ≡ Less → wanted_rise (w ∷ ws) ≡ true → expected_at (w ∷ ws) q ≡ None
wish_above q w ws h up =
    no_wish_below q (w ∷ ws) (and_both (is_lt (key_cmp q w.key)) (below_wanted q ws) (is_less q w.key h) (below_trans q w.key ws h (and_first (below_wanted w.key ws) (wanted_rise ws) up)))

---- differences

differs_as : (ws : List Wanted) (rows : List Record) (q : Key) (o : Option Expected) (f : Option Record) → expected_at ws q ≡ o → record_among rows q ≡ f → differs ws rows q ≡ not (is_fulfilled o f)
differs_as ws rows q o f e g = λ i. not (is_fulfilled (e i) (g i))

wish_here : (w : Wanted) (ws : List Wanted) → expected_at (w ∷ ws) w.key ≡ Some w.wish
wish_here w ws = ap (λ b. cond b (Some w.wish) (expected_at ws w.key)) (same_itself w.key)

row_here : (r : Record) (rs : List Record) → record_among (r ∷ rs) r.key ≡ Some r
row_here r rs = ap (λ b. cond b (Some r) (record_among rs r.key)) (same_itself r.key)

row_is_first : (ws : List Wanted) (r : Record) (rs : List Record) → rise (r ∷ rs) ≡ true → differs ws (r ∷ rs) r.key ≡ true → ((q : Key) → key_cmp q r.key ≡ Less → expected_at ws q ≡ None) → IsFirst ws (r ∷ rs) (Some (r.key, Some r))
row_is_first ws r rs up differing none =
    (sym (row_here r rs), differing, λ q h. differs_as ws (r ∷ rs) q None None (none q h) (none_below q (r ∷ rs) up (is_less q r.key h)))

missing_is_first : (w : Wanted) (ws : List Wanted) (rows : List Record) → wanted_rise (w ∷ ws) ≡ true → rise rows ≡ true → starts_after w.key rows ≡ true → is_granted w.wish None ≡ false → IsFirst (w ∷ ws) rows (Some (w.key, None))
missing_is_first w ws rows up rows_up later refused = (
  sym (none_below w.key rows rows_up later),
  differs_as (w ∷ ws) rows w.key (Some w.wish) None (wish_here w ws) (none_below w.key rows rows_up later) ∙ ap not refused,
  λ q h. differs_as (w ∷ ws) rows q None None (wish_above q w ws h up) (none_below q rows rows_up (after_trans q w.key rows h later)),
)

-- lists that differ at the same keys, from the same rows, have the same first difference
as_first : (ws vs : List Wanted) (rows others : List Record) (o : Option (Key × Option Record)) → ((q : Key) → differs ws rows q ≡ differs vs others q) → ((q : Key) → differs vs others q ≡ true → record_among rows q ≡ record_among others q) → IsFirst vs others o → IsFirst ws rows o
as_first ws vs rows others None alike same first = λ q. alike q ∙ first q
as_first ws vs rows others (Some d) alike same (found, differing, lower) =
    (found ∙ sym (same d.0 differing), alike d.0 ∙ differing, λ q h. alike q ∙ lower q h)

passed_absent : (w : Wanted) (ws : List Wanted) (rows : List Record) → wanted_rise (w ∷ ws) ≡ true → rise rows ≡ true → starts_after w.key rows ≡ true → is_granted w.wish None ≡ true → (q : Key) → differs (w ∷ ws) rows q ≡ differs ws rows q
passed_absent w ws rows up rows_up later granted q = by_test (same_key q w.key) refl where
  by_test : (b : Bool) → same_key q w.key ≡ b → not (is_fulfilled (cond b (Some w.wish) (expected_at ws q)) (record_among rows q)) ≡ differs ws rows q
  by_test false e = refl
  by_test true e =
      let here : q ≡ w.key = same_key_exact q w.key e in
      let none : record_among rows q ≡ None = ap (record_among rows) here ∙ none_below w.key rows rows_up later in
      let no_wish : expected_at ws q ≡ None = ap (expected_at ws) here ∙ no_wish_below w.key ws (and_first (below_wanted w.key ws) (wanted_rise ws) up) in
      ap (λ f. not (is_granted w.wish f)) none ∙ ap not granted ∙ sym (differs_as ws rows q None None no_wish none)

-- after a wanted key that has its row neither list has the key
gone : (w : Wanted) (ws : List Wanted) (r : Record) (rs : List Record) (q : Key) → wanted_rise (w ∷ ws) ≡ true → rise (r ∷ rs) ≡ true → w.key ≡ r.key → q ≡ w.key → differs ws rs q ≡ false
gone w ws r rs q up rows_up same here =
    differs_as ws rs q None None (ap (expected_at ws) here ∙ no_wish_below w.key ws (and_first (below_wanted w.key ws) (wanted_rise ws) up))
    (ap (record_among rs) (here ∙ same) ∙ none_below r.key rs (and_second (starts_after r.key rs) (rise rs) rows_up) (and_first (starts_after r.key rs) (rise rs) rows_up))

passed_here : (w : Wanted) (ws : List Wanted) (r : Record) (rs : List Record) → wanted_rise (w ∷ ws) ≡ true → rise (r ∷ rs) ≡ true → w.key ≡ r.key → is_granted w.wish (Some r) ≡ true → (q : Key) → differs (w ∷ ws) (r ∷ rs) q ≡ differs ws rs q
passed_here w ws r rs up rows_up same granted q = by_test (same_key q w.key) refl where
  by_test : (b : Bool) → same_key q w.key ≡ b → not (is_fulfilled (cond b (Some w.wish) (expected_at ws q)) (record_among (r ∷ rs) q)) ≡ differs ws rs q
  by_test false e = ap (λ b. not (is_fulfilled (expected_at ws q) (cond b (Some r) (record_among rs q)))) (sym (ap (same_key q) same) ∙ e)
  by_test true e =
      ap (λ b. not (is_granted w.wish (cond b (Some r) (record_among rs q)))) (sym (ap (same_key q) same) ∙ e) ∙ ap not granted
      ∙ sym (gone w ws r rs q up rows_up same (same_key_exact q w.key e))

rest_rows : (w : Wanted) (ws : List Wanted) (r : Record) (rs : List Record) → wanted_rise (w ∷ ws) ≡ true → rise (r ∷ rs) ≡ true → w.key ≡ r.key → (q : Key) → differs ws rs q ≡ true → record_among (r ∷ rs) q ≡ record_among rs q
rest_rows w ws r rs up rows_up same q differing = by_test (same_key q r.key) refl where
  by_test : (b : Bool) → same_key q r.key ≡ b → cond b (Some r) (record_among rs q) ≡ record_among rs q
  by_test false e = refl
  by_test true e = let no = gone w ws r rs q up rows_up same (same_key_exact q r.key e ∙ sym same) in cc

---- the merge

-- what a verdict leads to
after : Verdict → Wanted → List Wanted → List Record → Option (Key × Option Record)
after v w ws rows =
    elim v [ verdict.Absent ↦ merge ws rows | verdict.Here ↦ merge ws (drop 1 rows) | verdict.Missing ↦ Some (w.key, None) | verdict.Differs ↦ row_place (slice_get rows 0) ]

absent_first : (w : Wanted) (ws : List Wanted) (rows : List Record) (b : Bool) → is_granted w.wish None ≡ b → wanted_rise (w ∷ ws) ≡ true → rise rows ≡ true → starts_after w.key rows ≡ true → IsFirst ws rows (merge ws rows) → IsFirst (w ∷ ws) rows (after (cond b verdict.Absent verdict.Missing) w ws rows)
unfolding after
absent_first w ws rows true e up rows_up later rest = as_first (w ∷ ws) ws rows rows (merge ws rows) (passed_absent w ws rows up rows_up later e) (λ q h. refl) rest
absent_first w ws rows false e up rows_up later rest = missing_is_first w ws rows up rows_up later e

here_first : (w : Wanted) (ws : List Wanted) (r : Record) (rs : List Record) (b : Bool) → is_granted w.wish (Some r) ≡ b → wanted_rise (w ∷ ws) ≡ true → rise (r ∷ rs) ≡ true → w.key ≡ r.key → IsFirst ws rs (merge ws rs) → IsFirst (w ∷ ws) (r ∷ rs) (after (cond b verdict.Here verdict.Differs) w ws (r ∷ rs))
unfolding after
here_first w ws r rs true e up rows_up same rest = as_first (w ∷ ws) ws (r ∷ rs) rs (merge ws rs) (passed_here w ws r rs up rows_up same e) (rest_rows w ws r rs up rows_up same) rest
here_first w ws r rs false e up rows_up same rest =
    row_is_first (w ∷ ws) r rs rows_up (differs_as (w ∷ ws) (r ∷ rs) r.key (Some w.wish) (Some r) (ap (expected_at (w ∷ ws)) (sym same) ∙ wish_here w ws) (row_here r rs) ∙ ap not e) (λ q h. wish_above q w ws (ap (key_cmp q) same ∙ h) up)

row_first : (w : Wanted) (ws : List Wanted) (r : Record) (rs : List Record) → wanted_rise (w ∷ ws) ≡ true → rise (r ∷ rs) ≡ true → key_cmp w.key r.key ≡ Greater → IsFirst (w ∷ ws) (r ∷ rs) (Some (r.key, Some r))
row_first w ws r rs up rows_up above =
    let less : key_cmp r.key w.key ≡ Less = turned w.key r.key above in
    row_is_first (w ∷ ws) r rs rows_up (differs_as (w ∷ ws) (r ∷ rs) r.key None (Some r) (wish_above r.key w ws less up) (row_here r rs)) (λ q h. wish_above q w ws (key_total.trans q r.key w.key h less) up)

by_key : (w : Wanted) (ws : List Wanted) (r : Record) (rs : List Record) (o : Ordering) → key_cmp w.key r.key ≡ o → wanted_rise (w ∷ ws) ≡ true → rise (r ∷ rs) ≡ true → IsFirst ws (r ∷ rs) (merge ws (r ∷ rs)) → IsFirst ws rs (merge ws rs)
    → IsFirst (w ∷ ws) (r ∷ rs) (after (by_order o (cond (is_granted w.wish None) verdict.Absent verdict.Missing) (cond (is_granted w.wish (Some r)) verdict.Here verdict.Differs) verdict.Differs) w ws (r ∷ rs))
unfolding after
by_key w ws r rs Less e up rows_up rest behind = absent_first w ws (r ∷ rs) (is_granted w.wish None) refl up rows_up (is_less w.key r.key e) rest
by_key w ws r rs Equal e up rows_up rest behind = here_first w ws r rs (is_granted w.wish (Some r)) refl up rows_up (key_exact w.key r.key e) behind
by_key w ws r rs Greater e up rows_up rest behind = row_first w ws r rs up rows_up e

pub merge_is : (ws : List Wanted) (rows : List Record) → wanted_rise ws ≡ true → rise rows ≡ true → IsFirst ws rows (merge ws rows)
unfolding after
merge_is [] [] up rows_up = λ q. refl
merge_is [] (r ∷ rs) up rows_up = row_is_first [] r rs rows_up (differs_as [] (r ∷ rs) r.key None (Some r) refl (row_here r rs)) (λ q h. refl)
merge_is (w ∷ ws) [] up rows_up =
    absent_first w ws [] (is_granted w.wish None) refl up rows_up refl (merge_is ws [] (and_second (below_wanted w.key ws) (wanted_rise ws) up) refl)
merge_is (w ∷ ws) (r ∷ rs) up rows_up =
    let later = and_second (below_wanted w.key ws) (wanted_rise ws) up in
    by_key w ws r rs (key_cmp w.key r.key) refl up rows_up (merge_is ws (r ∷ rs) later rows_up) (merge_is ws rs later (and_second (starts_after r.key rs) (rise rs) rows_up))

pub merge_first : (ws : List Wanted) (rows : List Record) → wanted_rise ws ≡ true → rise rows ≡ true → merge ws rows ≡ first_difference ws rows
merge_first ws rows up rows_up = sym (first_is ws rows (merge ws rows) (merge_is ws rows up rows_up))
