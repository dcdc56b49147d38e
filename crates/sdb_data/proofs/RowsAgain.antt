-- Rows of a table that are written are read again.
use Rattle.std.proofs.Common.{◌≡◌, ◌+◌, ℕ, suc, List, [], ◌∷◌, ◌++◌, true, refl, sym, ap, subst, ◌∙◌, arith, None, length, map, append_assoc, get_or}
use Rattle.std.specs.Option.{option_map_or}
use Rattle.std.specs.List.{list_all, filter_map}
use Rattle.std.specs.Str.{is_utf8}
use Rattle.std.proofs.lemmas.Bool.{eq-eqb}
use Rattle.sdb_types.specs.declared.value.Value.{Value}
use Rattle.sdb_types.proofs.Public.{and_first, and_second}
use Rattle.sdb_schema.specs.declared.table.Kind.TheVariants as kind
use Rattle.sdb_schema.specs.declared.table.Column.{Column}
use Rattle.sdb_schema.specs.declared.table.Table.{Table}
use Rattle.sdb_schema.specs.Table.{column_names, is_key_column, is_table, kind_in, rises}
use Rattle.sdb_data.specs.declared.field.Head.{Head}
use Rattle.sdb_data.specs.declared.fault.Mode.{Mode}
use Rattle.sdb_data.specs.Fields.{field_of, suits, value_at}
use Rattle.sdb_data.specs.Tables.{bad_place, cell_of, fault_from, first_fault, head_of, heads_of, record_fault, row_of, rows_in, column_found, columns_found}
use Rattle.sdb_data.specs.Printed.{are_cells, can_load, fields_of_row, header_row, is_cell, is_row, records_of}
use Rattle.sdb_data.proofs.FieldsAgain.{cell-again}
use Rattle.sdb_data.proofs.NamesAgain.{at-place, header-valid, kinds, names-row}

shift : {A : Type 0} (front : List A) (c : A) (back : List A) → (front ++ c ∷ []) ++ back ≡ front ++ c ∷ back
shift front c back = append_assoc front (c ∷ []) back

plain-head : Table → Column → Head
plain-head t c = record { kind = c.kind; in_key = is_key_column t c.name }

---- a record of cells

texts-valid : (t : Table) (cs : List Column) (row : List Value) → are_cells t cs row ≡ true → list_all is_utf8 (fields_of_row row) ≡ true
texts-valid t [] [] h = refl
texts-valid t [] (v ∷ vs) h = cc h
texts-valid t (c ∷ cs) [] h = cc h
texts-valid t (c ∷ cs) (v ∷ vs) h =
    let a = cell-again t c v (and_first (is_cell t c v) _ h) in
    rw a.utf8 (texts-valid t cs vs (and_second (is_cell t c v) (are_cells t cs vs) h))

same-length : (t : Table) (cs : List Column) (row : List Value) → are_cells t cs row ≡ true → length (fields_of_row row) ≡ length cs
same-length t [] [] h = refl
same-length t [] (v ∷ vs) h = cc h
same-length t (c ∷ cs) [] h = cc h
same-length t (c ∷ cs) (v ∷ vs) h = ap suc (same-length t cs vs (and_second (is_cell t c v) (are_cells t cs vs) h))

names-length : (t : Table) (cs : List Column) → length (map (head_of t) (column_names cs)) ≡ length cs
names-length t [] = refl
names-length t (c ∷ cs) = ap suc (names-length t cs)

none-bad : (t : Table) (front back : List Column) (row : List Value) → t.columns ≡ front ++ back → rises (front ++ back) ≡ true → are_cells t back row ≡ true → bad_place (heads_of t (column_names back)) (fields_of_row row) ≡ None
none-bad t front [] [] e r h = refl
none-bad t front [] (v ∷ vs) e r h = cc h
none-bad t front (c ∷ cs) [] e r h = cc h
none-bad t front (c ∷ cs) (v ∷ vs) e r h =
    let a = cell-again t c v (and_first (is_cell t c v) (are_cells t cs vs) h) in
    let k : option_map_or (λ k. k) (kind_in t.columns c.name) kind.Text ≡ c.kind = ap (λ (ds : List Column). option_map_or (λ k. k) (kind_in ds c.name) kind.Text) e ∙ kinds front c cs r in
    let s : suits (head_of t c.name) (field_of v) ≡ true = ap (λ x. suits (record { kind = x; in_key = is_key_column t c.name }) (field_of v)) k ∙ a.takes in
    let rest = none-bad t (front ++ c ∷ []) cs vs (e ∙ sym (shift front c cs)) (ap rises (shift front c cs) ∙ r) (and_second (is_cell t c v) (are_cells t cs vs) h) in
    rw (s, rest) refl

record-valid : (t : Table) (row : List Value) → rises t.columns ≡ true → is_row t row ≡ true → record_fault (heads_of t (column_names t.columns)) (fields_of_row row) ≡ None
unfolding record_fault
record-valid t row r h =
    let n : length (fields_of_row row) ≡ length (heads_of t (column_names t.columns)) = same-length t t.columns row h ∙ sym (names-length t t.columns) in
    rw (texts-valid t t.columns row h, eq-eqb _ _ n, none-bad t [] t.columns row refl r h) refl

all-valid : (t : Table) (n : ℕ) (rows : List (List Value)) → rises t.columns ≡ true → list_all (is_row t) rows ≡ true → fault_from (heads_of t (column_names t.columns)) n (map fields_of_row rows) ≡ None
all-valid t n [] r h = refl
all-valid t n (row ∷ rows) r h = rw (record-valid t row r (and_first (is_row t row) _ h)) (all-valid t (n + 1) rows r (and_second (is_row t row) _ h))

---- their values

value-here : (rf : List Value) (v : Value) (rb : List Value) → get_or (fields_of_row (rf ++ v ∷ rb)) (length rf) [] ≡ field_of v
value-here [] v rb = refl
value-here (w ∷ ws) v rb = value-here ws v rb

one-longer : (front : List Column) (c : Column) (rf : List Value) (v : Value) → length rf ≡ length front → length (rf ++ v ∷ []) ≡ length (front ++ c ∷ [])
one-longer [] c [] v e = refl
one-longer [] c (w ∷ ws) v e = cc e
one-longer (d ∷ ds) c [] v e = cc e
one-longer (d ∷ ds) c (w ∷ ws) v e = let k : length ws ≡ length ds = omega arith in ap suc (one-longer ds c ws v k)

values-again : (t : Table) (front back : List Column) (rf rb : List Value) → rises (front ++ back) ≡ true → length rf ≡ length front → are_cells t back rb ≡ true
    → map (cell_of (fields_of_row (rf ++ rb))) (filter_map (column_found (column_names (front ++ back))) back) ≡ rb
values-again t front [] rf [] r e h = refl
values-again t front [] rf (v ∷ vs) r e h = cc h
values-again t front (c ∷ cs) rf [] r e h = cc h
values-again t front (c ∷ cs) rf (v ∷ vs) r e h =
    let a = cell-again t c v (and_first (is_cell t c v) (are_cells t cs vs) h) in
    let here : value_at c.kind (get_or (fields_of_row (rf ++ v ∷ vs)) (length front) []) ≡ v = ap (λ n. value_at c.kind (get_or (fields_of_row (rf ++ v ∷ vs)) n [])) (sym e) ∙ ap (value_at c.kind) (value-here rf v vs) ∙ a.value in
    let rest = values-again t (front ++ c ∷ []) cs (rf ++ v ∷ []) vs (ap rises (shift front c cs) ∙ r) (one-longer front c rf v e) (and_second (is_cell t c v) (are_cells t cs vs) h) in
    let moved : map (cell_of (fields_of_row (rf ++ v ∷ vs))) (filter_map (column_found (column_names (front ++ c ∷ cs))) cs) ≡ vs =
    subst (λ (w : List Value). map (cell_of (fields_of_row w)) (filter_map (column_found (column_names (front ++ c ∷ cs))) cs) ≡ vs) (shift rf v vs)
    (subst (λ (ds : List Column). map (cell_of (fields_of_row ((rf ++ v ∷ []) ++ vs))) (filter_map (column_found (column_names ds)) cs) ≡ vs) (shift front c cs) rest) in
    rw (at-place front c cs r, here, moved) refl

row-again : (t : Table) (row : List Value) → rises t.columns ≡ true → is_row t row ≡ true → row_of (columns_found t.columns (column_names t.columns)) (fields_of_row row) ≡ row
row-again t row r h = values-again t [] t.columns [] row r refl h

rows-again : (t : Table) (rows : List (List Value)) → rises t.columns ≡ true → list_all (is_row t) rows ≡ true → map (row_of (columns_found t.columns (column_names t.columns))) (map fields_of_row rows) ≡ rows
rows-again t [] r h = refl
rows-again t (row ∷ rows) r h = rw (row-again t row r (and_first (is_row t row) _ h), rows-again t rows r (and_second (is_row t row) _ h)) refl

---- the whole

pub no-fault : (t : Table) (m : Mode) (rows : List (List Value)) → is_table t ≡ true → can_load t m ≡ true → list_all (is_row t) rows ≡ true → first_fault t m (records_of t rows) ≡ None
no-fault t m rows h l a = rw (header-valid t m h l) (all-valid t 2 rows (and_first (rises t.columns) _ h) a)

pub all-again : (t : Table) (rows : List (List Value)) → is_table t ≡ true → list_all (is_row t) rows ≡ true → rows_in t (records_of t rows) ≡ header_row t ∷ rows
all-again t rows h a = rw (names-row [] t.columns, rows-again t rows (and_first (rises t.columns) _ h) a) refl
