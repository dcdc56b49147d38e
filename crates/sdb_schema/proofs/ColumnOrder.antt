-- Columns put in order.
use Rattle.std.proofs.Common.{◌≡◌, ℕ, List, [], ◌∷◌, ◌++◌, length, Bool, true, false, not, ◌&&◌, cond, refl, sym, ap, ◌∙◌, subst, append_assoc, Some, None}
use Rattle.std.specs.Prelude.{take_while, insert, nat_le}
use Rattle.std.specs.List.{list_all}
use Rattle.std.specs.declared.cmp.Ordering.{Ordering}
use Rattle.std.specs.declared.cmp.Ordering.TheVariants.{Less, Equal, Greater}
use Rattle.std.specs.Ordering.{is_lt, is_eq, ordering_reverse}
use Rattle.std.proofs.lemmas.List.{append-nil}
use Rattle.sdb_types.specs.Order.{name_cmp}
use Rattle.sdb_types.specs.Identifier.{is_name, is_identifier}
use Rattle.sdb_types.proofs.Public.{and_both, and_first, and_second, less_of, name_total, one_more}
use Rattle.sdb_record.specs.Parts.{is_column_name}
use Rattle.sdb_schema.specs.declared.table.Column.{Column}
use Rattle.sdb_schema.specs.Table.{put_column, put_columns, in_order, rises, is_above_column, next_repeats, first_listed_twice, are_short}

abbrev pub below : Column → Column → Bool
below c d = is_lt (name_cmp d.name c.name)

pub put_column-is : (c : Column) (ds : List Column) → insert ds (length (take_while (below c) ds)) c ≡ put_column c ds
put_column-is c [] = refl
put_column-is c (d ∷ ds) =
    elim (below c d) as (λ b. below c d ≡ b → insert (d ∷ ds) (length (take_while (below c) (d ∷ ds))) c ≡ put_column c (d ∷ ds)) [
      | true ↦ λ q. simp (q, one_more) (ap (λ l. d ∷ l) (put_column-is c ds))
      | false ↦ λ q. simp q refl
    ] refl

---- columns that rise are in order

lower : (c d e : Column) → is_lt (name_cmp c.name d.name) ≡ true → is_lt (name_cmp d.name e.name) ≡ true → is_lt (name_cmp c.name e.name) ≡ true
lower c d e h k = ap is_lt (name_total.trans c.name d.name e.name (less_of _ h) (less_of _ k))

last_above : (d : Column) (ds : List Column) (c : Column) → rises (ds ++ c ∷ []) ≡ true → is_above_column d.name (ds ++ c ∷ []) ≡ true → is_lt (name_cmp d.name c.name) ≡ true
last_above d [] c r h = h
last_above d (e ∷ es) c r h =
    lower d e c h (last_above e es c (and_second (is_above_column e.name (es ++ c ∷ [])) (rises (es ++ c ∷ [])) r) (and_first (is_above_column e.name (es ++ c ∷ [])) (rises (es ++ c ∷ [])) r))

put_column-end : (ds : List Column) (c : Column) → rises (ds ++ c ∷ []) ≡ true → put_column c ds ≡ ds ++ c ∷ []
put_column-end [] c r = refl
put_column-end (d ∷ ds) c r =
    let above = and_first (is_above_column d.name (ds ++ c ∷ [])) (rises (ds ++ c ∷ [])) r in
    let tail = and_second (is_above_column d.name (ds ++ c ∷ [])) (rises (ds ++ c ∷ [])) r in
    simp (last_above d ds c tail above) (ap (λ l. d ∷ l) (put_column-end ds c tail))

starts_front : (name : List ℕ) (xs ys : List Column) → is_above_column name (xs ++ ys) ≡ true → is_above_column name xs ≡ true
starts_front name [] ys h = refl
starts_front name (x ∷ xs) ys h = h

rises-front : (xs ys : List Column) → rises (xs ++ ys) ≡ true → rises xs ≡ true
rises-front [] ys h = refl
rises-front (x ∷ xs) ys h =
    and_both (is_above_column x.name xs) (rises xs) (starts_front x.name xs ys (and_first (is_above_column x.name (xs ++ ys)) (rises (xs ++ ys)) h)) (rises-front xs ys (and_second (is_above_column x.name (xs ++ ys)) (rises (xs ++ ys)) h))

put_columns-rising : (ds cs : List Column) → rises (ds ++ cs) ≡ true → put_columns cs ds ≡ ds ++ cs
put_columns-rising ds [] r = sym (append-nil ds)
put_columns-rising ds (c ∷ cs) r =
    let r2 : rises ((ds ++ c ∷ []) ++ cs) ≡ true = subst (λ (l : List Column). rises l ≡ true) (sym (append_assoc ds (c ∷ []) cs)) r in
    ap (put_columns cs) (put_column-end ds c (rises-front (ds ++ c ∷ []) cs r2)) ∙ put_columns-rising (ds ++ c ∷ []) cs r2 ∙ append_assoc ds (c ∷ []) cs

pub in_order-rising : (cs : List Column) → rises cs ≡ true → in_order cs ≡ cs
in_order-rising cs r = put_columns-rising [] cs r

---- columns in order rise where none is listed twice

abbrev not_below : List ℕ → List Column → Bool
not_below name [] = true
not_below name (c ∷ cs) = not (is_lt (name_cmp c.name name))

abbrev weak : List Column → Bool
weak [] = true
weak (c ∷ cs) = not_below c.name cs && weak cs

not_back : (a b : List ℕ) → is_lt (name_cmp a b) ≡ true → not (is_lt (name_cmp b a)) ≡ true
not_back a b h = ap (λ r. not (is_lt r)) (name_total.antisymm b a ∙ ap ordering_reverse (less_of _ h))

not_below-put : (d c : Column) (ds : List Column) → is_lt (name_cmp d.name c.name) ≡ true → not_below d.name ds ≡ true → not_below d.name (put_column c ds) ≡ true
not_below-put d c [] h k = not_back d.name c.name h
not_below-put d c (e ∷ es) h k =
    elim (below c e) as (λ b. not_below d.name (cond b (e ∷ put_column c es) (c ∷ e ∷ es)) ≡ true) [
      | true ↦ k
      | false ↦ not_back d.name c.name h
    ]

weak-put : (c : Column) (ds : List Column) → weak ds ≡ true → weak (put_column c ds) ≡ true
weak-put c [] h = refl
weak-put c (d ∷ ds) h =
    elim (below c d) as (λ b. below c d ≡ b → weak (cond b (d ∷ put_column c ds) (c ∷ d ∷ ds)) ≡ true) [
      | true ↦ λ q. and_both (not_below d.name (put_column c ds)) _ (not_below-put d c ds q (and_first (not_below d.name ds) (weak ds) h)) (weak-put c ds (and_second (not_below d.name ds) (weak ds) h))
      | false ↦ λ q. and_both (not_below c.name (d ∷ ds)) _ (ap not q) h
    ] refl

weak-put_columns : (cs ds : List Column) → weak ds ≡ true → weak (put_columns cs ds) ≡ true
weak-put_columns [] ds h = h
weak-put_columns (c ∷ cs) ds h = weak-put_columns cs (put_column c ds) (weak-put c ds h)

above-of : (r s : Ordering) → s ≡ ordering_reverse r → not (is_lt s) ≡ true → is_eq r ≡ false → is_lt r ≡ true
above-of Less s e h k = refl
above-of Equal s e h k = absurd (cc)
above-of Greater s e h k = let f : not (is_lt Less) ≡ true = ap (λ x. not (is_lt x)) (sym e) ∙ h in absurd (cc)

not_next : (c : Column) (cs : List Column) → first_listed_twice (c ∷ cs) ≡ None → (next_repeats c.name cs ≡ false) × (first_listed_twice cs ≡ None)
not_next c cs h =
    elim (next_repeats c.name cs) as (λ b. cond b (Some c.name) (first_listed_twice cs) ≡ None → (b ≡ false) × (first_listed_twice cs ≡ None)) [
      | true ↦ λ k. absurd (cc)
      | false ↦ λ k. (refl, k)
    ] h

above-next : (c : Column) (cs : List Column) → not_below c.name cs ≡ true → next_repeats c.name cs ≡ false → is_above_column c.name cs ≡ true
above-next c [] h k = refl
above-next c (d ∷ ds) h k = above-of (name_cmp c.name d.name) (name_cmp d.name c.name) (name_total.antisymm d.name c.name) h k

weak-rises : (cs : List Column) → weak cs ≡ true → first_listed_twice cs ≡ None → rises cs ≡ true
weak-rises [] h k = refl
weak-rises (c ∷ cs) h k =
    let n = not_next c cs k in
    and_both (is_above_column c.name cs) _ (above-next c cs (and_first (not_below c.name cs) (weak cs) h) n.0) (weak-rises cs (and_second (not_below c.name cs) (weak cs) h) n.1)

pub in_order-rises : (cs : List Column) → first_listed_twice (in_order cs) ≡ None → rises (in_order cs) ≡ true
in_order-rises cs h = weak-rises (in_order cs) (weak-put_columns cs [] refl) h

---- names

pub all-put : (t : Column → Bool) (c : Column) (ds : List Column) → t c ≡ true → list_all t ds ≡ true → list_all t (put_column c ds) ≡ true
all-put t c [] h k = and_both (t c) true h refl
all-put t c (d ∷ ds) h k =
    elim (below c d) as (λ b. list_all t (cond b (d ∷ put_column c ds) (c ∷ d ∷ ds)) ≡ true) [
      | true ↦ and_both (t d) _ (and_first (t d) (list_all t ds) k) (all-put t c ds h (and_second (t d) (list_all t ds) k))
      | false ↦ and_both (t c) _ h k
    ]

pub all-put_columns : (t : Column → Bool) (cs ds : List Column) → list_all t cs ≡ true → list_all t ds ≡ true → list_all t (put_columns cs ds) ≡ true
all-put_columns t [] ds h k = k
all-put_columns t (c ∷ cs) ds h k = all-put_columns t cs (put_column c ds) (and_second (t c) (list_all t cs) h) (all-put t c ds (and_first (t c) (list_all t cs) h) k)

pub column-names : (cs : List Column) → are_short cs ≡ true → list_all (λ c. is_name c.name) cs ≡ true → list_all (λ c. is_column_name c.name) cs ≡ true
column-names [] h k = refl
column-names (c ∷ cs) h k =
    let named = and_second (nat_le (length c.name) 71) (is_identifier c.name) (and_first (is_name c.name) (list_all (λ (d : Column). is_name d.name) cs) k) in
    and_both (is_column_name c.name) _ (and_both (nat_le (length c.name) 64) (is_identifier c.name) (and_first (nat_le (length c.name) 64) (are_short cs) h) named)
    (column-names cs (and_second (nat_le (length c.name) 64) (are_short cs) h) (and_second (is_name c.name) (list_all (λ (d : Column). is_name d.name) cs) k))
