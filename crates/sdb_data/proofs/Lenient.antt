-- Records of any lengths are written as the library's defaults write each.
use Rattle.std.proofs.Common.{◌≡◌, List, [], ◌∷◌, ◌++◌, ℕ, refl, ap, ◌∙◌, map}
use Rattle.std.specs.List.{flat_map}
use Rattle.csv.specs.Writing.{default_writer, escaped, fields_text, is_blank, row_text}
use Rattle.sdb_types.specs.declared.value.Value.{Value}
use Rattle.sdb_schema.specs.declared.table.Table.{Table}
use Rattle.sdb_schema.specs.Table.{column_names}
use Rattle.sdb_data.specs.Lenient.{lenient}
use Rattle.sdb_data.specs.Printed.{fields_of_row, printed}

escaped-same : (xs : List ℕ) → escaped lenient xs ≡ escaped default_writer xs
unfolding escaped
escaped-same [] = refl
escaped-same (b ∷ bs) = rw (escaped-same bs) refl

fields-same : (fs : List (List ℕ)) → fields_text lenient fs ≡ fields_text default_writer fs
unfolding fields_text
fields-same [] = refl
fields-same (f ∷ fs) = rw (escaped-same f, fields-same fs) refl

pub row-same : (fs : List (List ℕ)) → row_text lenient fs ≡ row_text default_writer fs
unfolding is_blank
row-same [] = refl
row-same (f ∷ []) = rw (escaped-same f, fields-same []) refl
row-same (f ∷ g ∷ gs) = rw (escaped-same f, fields-same (g ∷ gs)) refl

pub rows-same : {A : Type 0} (h : A → List (List ℕ)) (rows : List A) → flat_map (λ row. row_text lenient (h row)) rows ≡ flat_map (row_text default_writer) (map h rows)
rows-same h [] = refl
rows-same h (r ∷ rs) = ap (λ t. t ++ flat_map (λ row. row_text lenient (h row)) rs) (row-same (h r)) ∙ ap (λ t. row_text default_writer (h r) ++ t) (rows-same h rs)

pub printed-is : (t : Table) (names : List (List ℕ)) (rows : List (List Value)) → names ≡ column_names t.columns
    → row_text lenient names ++ flat_map (λ row. row_text lenient (fields_of_row row)) rows ≡ printed t rows
printed-is t names rows e =
    ap (λ (ns : List (List ℕ)). row_text lenient ns ++ flat_map (λ row. row_text lenient (fields_of_row row)) rows) e
    ∙ ap (λ (x : List ℕ). x ++ flat_map (λ row. row_text lenient (fields_of_row row)) rows) (row-same (column_names t.columns))
    ∙ ap (λ (x : List ℕ). row_text default_writer (column_names t.columns) ++ x) (rows-same fields_of_row rows)
