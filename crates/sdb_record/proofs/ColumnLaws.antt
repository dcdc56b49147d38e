-- Columns set one after another.
use Rattle.std.proofs.Common.{◌≡◌, ℕ, List, [], ◌∷◌, ◌++◌, Bool, true, false, not, ◌&&◌, cond, refl, sym, ap, ◌∙◌, subst, append_assoc, Some, None}
use Rattle.std.specs.Prelude.{filter}
use Rattle.std.specs.List.{list_all}
use Rattle.std.specs.declared.cmp.Ordering.TheVariants.{Less, Greater}
use Rattle.std.specs.Ordering.{is_lt}
use Rattle.std.specs.Cmp.{tied_itself}
use Rattle.sdb_types.specs.declared.value.Value.{Value}
use Rattle.sdb_types.specs.declared.pair.Pair.{Pair}
use Rattle.sdb_types.specs.Order.{name_cmp}
use Rattle.sdb_types.specs.Columns.{is_null, starts_above, are_columns, put_pair, with_column}
use Rattle.sdb_types.proofs.Public.{and_both, and_first, and_second, by_order, less_of, name_exact, name_total, turned as swapped}
use Rattle.std.proofs.lemmas.List.{append-nil}
use Rattle.std.specs.Prelude.{is_some, map}
use Rattle.sdb_record.specs.Names.{before_name, base_name, is_before, is_meta}
use Rattle.sdb_record.specs.Parts.{with_columns, before_pair, before_part, are_user_columns, is_user_pair, is_column_name}
use Rattle.sdb_record.proofs.NameLemmas.{base_name-before_name, base_name-is}
use Rattle.std.proofs.lemmas.Bool.{not-true}

less_less : (a b c : List ℕ) → name_cmp a b ≡ Less → name_cmp b c ≡ Less → name_cmp a c ≡ Less
less_less a b c = name_total.trans a b c

-- two columns of different names, in either order
pub put-less : (p q : Pair) (es : List Pair) → name_cmp p.name q.name ≡ Less → put_pair p (put_pair q es) ≡ put_pair q (put_pair p es)
put-less p q [] h = simp (h, swapped p.name q.name Less h) refl
put-less p q (e ∷ es) h =
    let above = swapped p.name q.name Less h in
    by_order (name_cmp e.name p.name)
    (λ k. let l = less_less e.name p.name q.name k h in simp (k, l) (ap (λ xs. e ∷ xs) (put-less p q es h)))
    (λ k.
    let same : e.name ≡ p.name = name_exact e.name p.name k in
    let l : name_cmp e.name q.name ≡ Less = subst (λ (x : List ℕ). name_cmp x q.name ≡ Less) (sym same) h in
    simp (l, k, h) refl)
    (λ k.
    by_order (name_cmp e.name q.name)
    (λ l. simp (l, k, h) refl)
    (λ l. simp (l, k, h, above) refl)
    (λ l. simp (l, k, h, above) refl))

pub put-apart : (p q : Pair) (es : List Pair) → (p.name ≡ q.name → ⊥) → put_pair p (put_pair q es) ≡ put_pair q (put_pair p es)
put-apart p q es apart =
    by_order (name_cmp p.name q.name)
    (λ h. put-less p q es h)
    (λ h. absurd (apart (name_exact p.name q.name h)))
    (λ h. sym (put-less q p es (swapped p.name q.name Greater h)))

-- a column that is put over itself
pub put-again : (name : List ℕ) (v w : Value) (es : List Pair) → put_pair (record { name = name; value = v }) (put_pair (record { name = name; value = w }) es) ≡ put_pair (record { name = name; value = v }) es
put-again name v w [] = simp (tied_itself name_total name) refl
put-again name v w (e ∷ es) =
    by_order (name_cmp e.name name)
    (λ k. simp k (ap (λ xs. e ∷ xs) (put-again name v w es)))
    (λ k. simp (k, tied_itself name_total name) refl)
    (λ k. simp (k, tied_itself name_total name) refl)

pub with_column-put : (p : Pair) (es : List Pair) → is_null p.value ≡ false → with_column p es ≡ put_pair p es
with_column-put p es h = simp h refl

---- two lists of columns in either order, whose names a test keeps apart

-- a column with a value, whose name passes a test
abbrev pub stays : (List ℕ → Bool) → Pair → Bool
stays keep p = not (is_null p.value) && keep p.name

abbrev pub leaves : (List ℕ → Bool) → Pair → Bool
leaves keep p = not (is_null p.value) && not (keep p.name)

differ : (keep : List ℕ → Bool) (x y : Pair) → stays keep x ≡ true → leaves keep y ≡ true → x.name ≡ y.name → ⊥
differ keep x y h k e =
    let a : keep x.name ≡ true = and_second (not (is_null x.value)) (keep x.name) h in
    let b : keep y.name ≡ false = not-true (keep y.name) (and_second (not (is_null y.value)) (not (keep y.name)) k) in
    let f : keep x.name ≡ keep y.name = ap keep e in
    cc

either_order : (keep : List ℕ → Bool) (x y : Pair) (es : List Pair) → stays keep x ≡ true → leaves keep y ≡ true → with_column x (with_column y es) ≡ with_column y (with_column x es)
either_order keep x y es h k =
    let a : is_null x.value ≡ false = not-true (is_null x.value) (and_first (not (is_null x.value)) (keep x.name) h) in
    let b : is_null y.value ≡ false = not-true (is_null y.value) (and_first (not (is_null y.value)) (not (keep y.name)) k) in
    simp (a, b) (put-apart x y es (differ keep x y h k))

past_all : (keep : List ℕ → Bool) (x : Pair) (ys es : List Pair) → stays keep x ≡ true → list_all (leaves keep) ys ≡ true → with_column x (with_columns ys es) ≡ with_columns ys (with_column x es)
past_all keep x [] es h k = refl
past_all keep x (y ∷ ys) es h k =
    past_all keep x ys (with_column y es) h (and_second (leaves keep y) (list_all (leaves keep) ys) k) ∙ ap (with_columns ys) (either_order keep x y es h (and_first (leaves keep y) (list_all (leaves keep) ys) k))

pub with_columns-apart : (keep : List ℕ → Bool) (xs ys es : List Pair) → list_all (stays keep) xs ≡ true → list_all (leaves keep) ys ≡ true → with_columns xs (with_columns ys es) ≡ with_columns ys (with_columns xs es)
with_columns-apart keep [] ys es h k = refl
with_columns-apart keep (x ∷ xs) ys es h k =
    ap (with_columns xs) (past_all keep x ys es (and_first (stays keep x) (list_all (stays keep) xs) h) k) ∙ with_columns-apart keep xs ys (with_column x es) (and_second (stays keep x) (list_all (stays keep) xs) h) k

---- columns in order, set one after another

-- what is above the prefix of columns is above each, the last too
last_above : (name : List ℕ) (es : List Pair) (p : Pair) → are_columns (es ++ p ∷ []) ≡ true → starts_above name (es ++ p ∷ []) ≡ true → is_lt (name_cmp name p.name) ≡ true
last_above name [] p c h = h
last_above name (e ∷ es) p c h =
    let rest = and_second (not (is_null e.value)) (starts_above e.name (es ++ p ∷ []) && are_columns (es ++ p ∷ [])) c in
    let above = and_first (starts_above e.name (es ++ p ∷ [])) (are_columns (es ++ p ∷ [])) rest in
    let tail = and_second (starts_above e.name (es ++ p ∷ [])) (are_columns (es ++ p ∷ [])) rest in
    ap is_lt (less_less name e.name p.name (less_of _ h) (less_of _ (last_above e.name es p tail above)))

pub put_pair-end : (es : List Pair) (p : Pair) → are_columns (es ++ p ∷ []) ≡ true → put_pair p es ≡ es ++ p ∷ []
put_pair-end [] p c = refl
put_pair-end (e ∷ es) p c =
    let rest = and_second (not (is_null e.value)) (starts_above e.name (es ++ p ∷ []) && are_columns (es ++ p ∷ [])) c in
    let above = and_first (starts_above e.name (es ++ p ∷ [])) (are_columns (es ++ p ∷ [])) rest in
    let tail = and_second (starts_above e.name (es ++ p ∷ [])) (are_columns (es ++ p ∷ [])) rest in
    let l = less_of _ (last_above e.name es p tail above) in
    simp l (ap (λ xs. e ∷ xs) (put_pair-end es p tail))

starts_front : (name : List ℕ) (xs ys : List Pair) → starts_above name (xs ++ ys) ≡ true → starts_above name xs ≡ true
starts_front name [] ys h = refl
starts_front name (x ∷ xs) ys h = h

pub are_columns-front : (xs ys : List Pair) → are_columns (xs ++ ys) ≡ true → are_columns xs ≡ true
are_columns-front [] ys h = refl
are_columns-front (x ∷ xs) ys h =
    let full = and_first (not (is_null x.value)) (starts_above x.name (xs ++ ys) && are_columns (xs ++ ys)) h in
    let rest = and_second (not (is_null x.value)) (starts_above x.name (xs ++ ys) && are_columns (xs ++ ys)) h in
    let above = starts_front x.name xs ys (and_first (starts_above x.name (xs ++ ys)) (are_columns (xs ++ ys)) rest) in
    let tail = are_columns-front xs ys (and_second (starts_above x.name (xs ++ ys)) (are_columns (xs ++ ys)) rest) in
    and_both (not (is_null x.value)) _ full (and_both (starts_above x.name xs) (are_columns xs) above tail)

pub are_columns-tail : (xs ys : List Pair) → are_columns (xs ++ ys) ≡ true → are_columns ys ≡ true
are_columns-tail [] ys h = h
are_columns-tail (x ∷ xs) ys h =
    are_columns-tail xs ys (and_second (starts_above x.name (xs ++ ys)) (are_columns (xs ++ ys)) (and_second (not (is_null x.value)) (starts_above x.name (xs ++ ys) && are_columns (xs ++ ys)) h))

pub with_columns-rising : (xs ps : List Pair) → are_columns (xs ++ ps) ≡ true → with_columns ps xs ≡ xs ++ ps
with_columns-rising xs [] c = sym (append-nil xs)
with_columns-rising xs (p ∷ ps) c =
    let c2 : are_columns ((xs ++ p ∷ []) ++ ps) ≡ true = subst (λ (l : List Pair). are_columns l ≡ true) (sym (append_assoc xs (p ∷ []) ps)) c in
    let full : is_null p.value ≡ false = not-true (is_null p.value) (and_first (not (is_null p.value)) _ (are_columns-tail xs (p ∷ ps) c)) in
    let here = with_column-put p xs full ∙ put_pair-end xs p (are_columns-front (xs ++ p ∷ []) ps c2) in
    ap (with_columns ps) here ∙ with_columns-rising (xs ++ p ∷ []) ps c2 ∙ append_assoc xs (p ∷ []) ps

-- columns set one after another, from none, are those columns
pub with_columns-none : (ps : List Pair) → are_columns ps ≡ true → with_columns ps [] ≡ ps
with_columns-none ps c = with_columns-rising [] ps c

---- parts of columns in order are in order

above_more : (name : List ℕ) (e : Pair) (es : List Pair) → is_lt (name_cmp name e.name) ≡ true → starts_above e.name es ≡ true → starts_above name es ≡ true
above_more name e [] h k = refl
above_more name e (f ∷ es) h k = ap is_lt (less_less name e.name f.name (less_of _ h) (less_of _ k))

-- the three facts of columns with a first
pub columns-full : (p : Pair) (ps : List Pair) → are_columns (p ∷ ps) ≡ true → not (is_null p.value) ≡ true
columns-full p ps h = and_first (not (is_null p.value)) (starts_above p.name ps && are_columns ps) h

pub columns-above : (p : Pair) (ps : List Pair) → are_columns (p ∷ ps) ≡ true → starts_above p.name ps ≡ true
columns-above p ps h = and_first (starts_above p.name ps) (are_columns ps) (and_second (not (is_null p.value)) (starts_above p.name ps && are_columns ps) h)

pub columns-rest : (p : Pair) (ps : List Pair) → are_columns (p ∷ ps) ≡ true → are_columns ps ≡ true
columns-rest p ps h = and_second (starts_above p.name ps) (are_columns ps) (and_second (not (is_null p.value)) (starts_above p.name ps && are_columns ps) h)

pub columns-make : (p : Pair) (ps : List Pair) → not (is_null p.value) ≡ true → starts_above p.name ps ≡ true → are_columns ps ≡ true → are_columns (p ∷ ps) ≡ true
columns-make p ps f a r = and_both (not (is_null p.value)) _ f (and_both (starts_above p.name ps) (are_columns ps) a r)

above-filter : (keep : Pair → Bool) (name : List ℕ) (ps : List Pair) → are_columns ps ≡ true → starts_above name ps ≡ true → starts_above name (filter keep ps) ≡ true
above-filter keep name [] c h = refl
above-filter keep name (p ∷ ps) c h =
    elim (keep p) as (λ b. starts_above name (cond b (p ∷ filter keep ps) (filter keep ps)) ≡ true) [
      | true ↦ h
      | false ↦ above-filter keep name ps (columns-rest p ps c) (above_more name p ps h (columns-above p ps c))
    ]

pub are_columns-filter : (keep : Pair → Bool) (ps : List Pair) → are_columns ps ≡ true → are_columns (filter keep ps) ≡ true
are_columns-filter keep [] c = refl
are_columns-filter keep (p ∷ ps) c =
    let rest = are_columns-filter keep ps (columns-rest p ps c) in
    elim (keep p) as (λ b. are_columns (cond b (p ∷ filter keep ps) (filter keep ps)) ≡ true) [
      | true ↦ columns-make p (filter keep ps) (columns-full p ps c) (above-filter keep p.name ps (columns-rest p ps c) (columns-above p ps c)) rest
      | false ↦ rest
    ]

above-before_part : (name : List ℕ) (ps : List Pair) → are_columns ps ≡ true → starts_above (before_name name) ps ≡ true → starts_above name (before_part ps) ≡ true
above-before_part name [] c h = refl
above-before_part name (p ∷ ps) c h =
    elim (base_name p.name) as (λ o. base_name p.name ≡ o → starts_above name (before_part (p ∷ ps)) ≡ true) [
      | None ↦ λ q. simp q (above-before_part name ps (columns-rest p ps c) (above_more (before_name name) p ps h (columns-above p ps c)))
      | Some m ↦ λ q. simp q (subst (λ (x : List ℕ). is_lt (name_cmp (before_name name) x) ≡ true) (base_name-is p.name m q) h)
    ] refl

pub are_columns-before_part : (ps : List Pair) → are_columns ps ≡ true → are_columns (before_part ps) ≡ true
are_columns-before_part [] c = refl
are_columns-before_part (p ∷ ps) c =
    let rest = are_columns-before_part ps (columns-rest p ps c) in
    elim (base_name p.name) as (λ o. base_name p.name ≡ o → are_columns (before_part (p ∷ ps)) ≡ true) [
      | None ↦ λ q. simp q rest
      | Some m ↦ λ q. simp q (columns-make (record { name = m; value = p.value }) (before_part ps) (columns-full p ps c) (above-before_part m ps (columns-rest p ps c) (subst (λ (x : List ℕ). starts_above x ps ≡ true) (base_name-is p.name m q) (columns-above p ps c))) rest)
    ] refl

above-kept : (name : List ℕ) (ps : List Pair) → starts_above name ps ≡ true → starts_above (before_name name) (map before_pair ps) ≡ true
above-kept name [] h = refl
above-kept name (p ∷ ps) h = h

pub are_columns-kept : (ps : List Pair) → are_columns ps ≡ true → are_columns (map before_pair ps) ≡ true
are_columns-kept [] c = refl
are_columns-kept (p ∷ ps) c =
    columns-make (before_pair p) (map before_pair ps) (columns-full p ps c) (above-kept p.name ps (columns-above p ps c)) (are_columns-kept ps (columns-rest p ps c))

---- a row with a base

abbrev pub not_before : List ℕ → Bool
not_before name = not (is_before name)

pub is_before-kept : (name : List ℕ) → is_before (before_name name) ≡ true
is_before-kept name = ap is_some (base_name-before_name name)

pub leaves-kept : (ps : List Pair) → are_columns ps ≡ true → list_all (leaves not_before) (map before_pair ps) ≡ true
leaves-kept [] c = refl
leaves-kept (p ∷ ps) c =
    and_both (leaves not_before (before_pair p)) _ (and_both (not (is_null p.value)) _ (columns-full p ps c) (ap (λ b. not (not b)) (is_before-kept p.name))) (leaves-kept ps (columns-rest p ps c))

pub stays-user : (ps : List Pair) → are_columns ps ≡ true → are_user_columns ps ≡ true → list_all (stays not_before) ps ≡ true
stays-user [] c u = refl
stays-user (p ∷ ps) c u =
    let here = and_first (is_user_pair p && is_column_name p.name) (are_user_columns ps) u in
    let user = and_first (is_user_pair p) (is_column_name p.name) here in
    and_both (stays not_before p) _ (and_both (not (is_null p.value)) _ (columns-full p ps c) (and_second (not (is_meta p.name)) (not (is_before p.name)) user)) (stays-user ps (columns-rest p ps c) (and_second (is_user_pair p && is_column_name p.name) (are_user_columns ps) u))

list_all-tail : {X : Type 0} (t : X → Bool) (xs ys : List X) → list_all t (xs ++ ys) ≡ true → list_all t ys ≡ true
list_all-tail t [] ys h = h
list_all-tail t (x ∷ xs) ys h = list_all-tail t xs ys (and_second (t x) (list_all t (xs ++ ys)) h)

-- the columns below, then those of the base, then the columns above
pub in_three : (below above base : List Pair) → are_columns (below ++ above) ≡ true → are_user_columns (below ++ above) ≡ true → are_columns base ≡ true
    → with_columns above (with_columns (map before_pair base) below) ≡ with_columns (map before_pair base) (below ++ above)
in_three below above base c u b =
    with_columns-apart not_before above (map before_pair base) below (list_all-tail (stays not_before) below above (stays-user (below ++ above) c u)) (leaves-kept base b)
    ∙ ap (with_columns (map before_pair base)) (with_columns-rising below above c)

pub laid_in_three : (row below above base a b d : List Pair) → row ≡ below ++ above → are_columns row ≡ true → are_user_columns row ≡ true → are_columns base ≡ true
    → a ≡ below → b ≡ with_columns (map before_pair base) a → d ≡ with_columns above b → d ≡ with_columns (map before_pair base) row
laid_in_three row below above base a b d e c u k p q r =
    r ∙ ap (with_columns above) (q ∙ ap (with_columns (map before_pair base)) p) ∙ in_three below above base (subst (λ (x : List Pair). are_columns x ≡ true) e c) (subst (λ (x : List Pair). are_user_columns x ≡ true) e u) k ∙ ap (with_columns (map before_pair base)) (sym e)
