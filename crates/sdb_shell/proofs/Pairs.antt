-- Columns with the values of a row, one after the other.
use Rattle.std.proofs.Common.{◌≡◌, ◌<◌, ◌≤◌, ℕ, ◌+◌, true, false, cond, List, [], ◌∷◌, ◌++◌, length, get_or, drop, refl, sym, ap, ◌∙◌, append_assoc, arith}
use Rattle.std.specs.List.{list_any}
use Rattle.std.proofs.lemmas.List.{drop_all}
use Rattle.sdb_shell.specs.Types.{Column, Pair, Value}
use Rattle.sdb_types.proofs.Public.{drop_next}
use Rattle.sdb_shell.specs.Statements.{is_text, names_listed, pair_of, pairs_of}

no_values : (names : List (List ℕ)) → pairs_of names [] ≡ []
no_values [] = refl
no_values (n ∷ ns) = refl

pub pair_more : (names : List (List ℕ)) (row : List Value) (pairs all : List Pair) (i : ℕ) (n : List ℕ) (v : Value) → i < length names → n ≡ get_or names i n → i < length row → v ≡ get_or row i v → pairs ++ pairs_of (drop i names) (drop i row) ≡ all → (pairs ++ pair_of n v ∷ []) ++ pairs_of (drop (i + 1) names) (drop (i + 1) row) ≡ all
pair_more names row pairs all i n v in_names n_is in_row v_is h =
    append_assoc pairs (pair_of n v ∷ []) (pairs_of (drop (i + 1) names) (drop (i + 1) row))
    ∙ ap (λ xs. pairs ++ xs) (sym (ap (λ xs. pairs_of xs (drop i row)) (drop_next names i n in_names n_is) ∙ ap (λ xs. pairs_of (n ∷ drop (i + 1) names) xs) (drop_next row i v in_row v_is)))
    ∙ h

pub pair_none : (names : List (List ℕ)) (row : List Value) (pairs all : List Pair) (i : ℕ) → length row ≤ i → pairs ++ pairs_of (drop i names) (drop i row) ≡ all → pairs ++ pairs_of (drop (i + 1) names) (drop (i + 1) row) ≡ all
pair_none names row pairs all i past h =
    ap (λ xs. pairs ++ pairs_of (drop (i + 1) names) xs) (drop_all (i + 1) row (omega arith))
    ∙ ap (λ xs. pairs ++ xs) (no_values (drop (i + 1) names) ∙ sym (no_values (drop i names)))
    ∙ sym (ap (λ xs. pairs ++ pairs_of (drop i names) xs) (drop_all i row past)) ∙ h

---- names that a row lists

pub name_more : (first : List Value) (columns : List Column) (names all : List (List ℕ)) (i : ℕ) (c : Column) → i < length columns → c ≡ get_or columns i c → list_any (is_text c.name) first ≡ true → names ++ names_listed first (drop i columns) ≡ all → (names ++ c.name ∷ []) ++ names_listed first (drop (i + 1) columns) ≡ all
name_more first columns names all i c low is listed h =
    append_assoc names (c.name ∷ []) (names_listed first (drop (i + 1) columns))
    ∙ ap (λ ns. names ++ ns) (sym (ap (names_listed first) (drop_next columns i c low is) ∙ ap (λ b. cond b (c.name ∷ names_listed first (drop (i + 1) columns)) (names_listed first (drop (i + 1) columns))) listed))
    ∙ h

pub name_none : (first : List Value) (columns : List Column) (names all : List (List ℕ)) (i : ℕ) (c : Column) → i < length columns → c ≡ get_or columns i c → list_any (is_text c.name) first ≡ false → names ++ names_listed first (drop i columns) ≡ all → names ++ names_listed first (drop (i + 1) columns) ≡ all
name_none first columns names all i c low is listed h =
    ap (λ ns. names ++ ns) (sym (ap (names_listed first) (drop_next columns i c low is) ∙ ap (λ b. cond b (c.name ∷ names_listed first (drop (i + 1) columns)) (names_listed first (drop (i + 1) columns))) listed))
    ∙ h
