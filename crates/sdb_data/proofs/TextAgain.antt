-- The records of a text that was written are those that were written.
use Rattle.std.proofs.Common.{◌≡◌, ◌==◌, ℕ, List, [], ◌∷◌, ◌++◌, Bool, true, false, refl, sym, ap, subst, ◌∙◌, None, Ok, length, map}
use Rattle.std.specs.Prelude.{is_ok, nat_le}
use Rattle.std.specs.List.{list_all, list_any}
use Rattle.std.proofs.lemmas.Bool.{false_from_ne_true, eqb-true}
use Rattle.csv.specs.Machine.{next_record}
use Rattle.csv.specs.Reading.{Reached, default_config, records, strip_bom}
use Rattle.csv.specs.Writing.{default_writer, needs_byte, row_text}
use Rattle.csv.specs.declared.parser.State.TheVariants as st
use Rattle.csv.proofs.RoundTrip.{read-write}
use Rattle.sdb_types.specs.Identifier.{is_identifier, is_part, is_start}
use Rattle.sdb_types.specs.declared.value.Value.{Value}
use Rattle.sdb_types.proofs.Public.{and_both, and_first, and_second}
use Rattle.sdb_record.specs.Parts.{is_column_name}
use Rattle.sdb_schema.specs.declared.table.Column.{Column}
use Rattle.sdb_schema.specs.declared.table.Table.{Table}
use Rattle.sdb_schema.specs.Table.{checked_table, column_names, first_unknown, is_table, key_names, none_of, rises}
use Rattle.sdb_data.specs.declared.fault.Mode.{Mode}
use Rattle.sdb_data.specs.Records.{csv_records}
use Rattle.sdb_data.specs.Tables.{table_in}
use Rattle.sdb_data.specs.Printed.{are_cells, can_load, fields_of_row, header_row, is_row, printed, records_of, text_of}
use Rattle.sdb_data.proofs.AllRead.{all-read}
use Rattle.sdb_data.proofs.NamesAgain.{has-partition, keys-known}
use Rattle.sdb_data.proofs.RowsAgain.{all-again, no-fault}

-- a record that has a field
abbrev is_filled : List (List ℕ) → Bool
is_filled [] = false
is_filled (f ∷ fs) = true

reached : (rows : List (List (List ℕ))) → list_all is_filled rows ≡ true → Reached default_config st.StartRecord (text_of rows) rows st.StartRecord []
unfolding Reached
reached [] h = (refl, refl)
reached ([] ∷ rows) h = absurd (cc h)
reached ((f ∷ fs) ∷ rows) h = ((f ∷ fs, st.StartRecord, text_of rows), read-write (f ∷ fs) (text_of rows), refl, reached rows h)

written-read : (rows : List (List (List ℕ))) → list_all is_filled rows ≡ true → records default_config (text_of rows) ≡ rows
unfolding next_record
written-read rows h = all-read (text_of rows) rows (st.StartRecord, [], reached rows h, refl)

---- no byte order mark

no-mark : (b : ℕ) (bs : List ℕ) → (b == 239) ≡ false → strip_bom (b ∷ bs) ≡ b ∷ bs
unfolding strip_bom
no-mark b [] h = refl
no-mark b (c ∷ []) h = refl
no-mark b (c ∷ d ∷ ds) h = rw h refl

start-small : (b : ℕ) → is_start b ≡ true → (b == 239) ≡ false
start-small b h = false_from_ne_true (b == 239) (λ q. let e = eqb-true b 239 q in cc (subst (λ (c : ℕ). is_start c ≡ true) e h))

-- a text that begins with a name, in quotes or not
name-first : (b : ℕ) (bs : List ℕ) (fs : List (List ℕ)) (rest : List ℕ) → (b == 239) ≡ false → strip_bom (row_text default_writer ((b ∷ bs) ∷ fs) ++ rest) ≡ row_text default_writer ((b ∷ bs) ∷ fs) ++ rest
name-first b bs fs rest h =
    elim (list_any (needs_byte default_writer) (b ∷ bs)) as (λ q. list_any (needs_byte default_writer) (b ∷ bs) ≡ q → strip_bom (row_text default_writer ((b ∷ bs) ∷ fs) ++ rest) ≡ row_text default_writer ((b ∷ bs) ∷ fs) ++ rest) [
      | true ↦ λ q. rw q (no-mark 34 _ refl)
      | false ↦ λ q. rw q (no-mark b _ h)
    ] refl

---- a table

first-start : (b : ℕ) (bs : List ℕ) → is_column_name (b ∷ bs) ≡ true → (b == 239) ≡ false
first-start b bs h = start-small b (and_first (is_start b) (list_all is_part bs) (and_second (nat_le (length (b ∷ bs)) 64) (is_identifier (b ∷ bs)) h))

stripped : (name : List ℕ) (fs : List (List ℕ)) (rest : List ℕ) → is_column_name name ≡ true → strip_bom (row_text default_writer (name ∷ fs) ++ rest) ≡ row_text default_writer (name ∷ fs) ++ rest
stripped [] fs rest h = absurd (cc (and_second (nat_le 0 64) (is_identifier []) h))
stripped (b ∷ bs) fs rest h = name-first b bs fs rest (first-start b bs h)

-- a table has a column, one of its key
unknown-of-none : (keys rest : List (List ℕ)) → none_of keys ≡ None → first_unknown [] (keys ++ rest) ≡ None → ⊥
unknown-of-none [] rest p u = cc p
unknown-of-none (k ∷ ks) rest p u = cc u

row-filled : (t : Table) (cs : List Column) (row : List Value) → is_filled (column_names cs) ≡ true → are_cells t cs row ≡ true → is_filled (fields_of_row row) ≡ true
row-filled t [] row c h = cc c
row-filled t (d ∷ ds) [] c h = cc h
row-filled t (d ∷ ds) (v ∷ vs) c h = refl

all-filled : (t : Table) (rows : List (List Value)) → is_filled (column_names t.columns) ≡ true → list_all (is_row t) rows ≡ true → list_all is_filled (map fields_of_row rows) ≡ true
all-filled t [] c h = refl
all-filled t (row ∷ rows) c h = and_both (is_filled (fields_of_row row)) _ (row-filled t t.columns row c (and_first (is_row t row) _ h)) (all-filled t rows c (and_second (is_row t row) _ h))

-- what is written of a table's rows has these records
text-again : (t : Table) (cs : List Column) (rows : List (List Value)) → t.columns ≡ cs → is_table t ≡ true → list_all (is_row t) rows ≡ true → csv_records (printed t rows) ≡ records_of t rows
text-again t [] rows e h a =
    absurd (unknown-of-none t.partition _ (has-partition t h) (subst (λ (ds : List Column). first_unknown ds (key_names t) ≡ None) e (keys-known t h)))
text-again t (c ∷ cs) rows e h a =
    let f : is_filled (column_names t.columns) ≡ true = ap (λ (ds : List Column). is_filled (column_names ds)) e in
    let named : list_all (λ (d : Column). is_column_name d.name) t.columns ≡ true = and_first (list_all (λ (d : Column). is_column_name d.name) t.columns) (is_ok (checked_table t)) (and_second (rises t.columns) _ h) in
    let first : is_column_name c.name ≡ true = and_first (is_column_name c.name) _ (subst (λ (ds : List Column). list_all (λ (d : Column). is_column_name d.name) ds ≡ true) e named) in
    let s : strip_bom (printed t rows) ≡ printed t rows =
    subst (λ (ds : List Column). strip_bom (text_of (column_names ds ∷ map fields_of_row rows)) ≡ text_of (column_names ds ∷ map fields_of_row rows)) (sym e) (stripped c.name (column_names cs) (text_of (map fields_of_row rows)) first) in
    ap (records default_config) s ∙ written-read (records_of t rows) (and_both (is_filled (column_names t.columns)) _ f (all-filled t rows f a))

pub rows-are-read : (t : Table) (m : Mode) (rows : List (List Value)) → is_table t ≡ true → can_load t m ≡ true → list_all (is_row t) rows ≡ true → table_in t m (printed t rows) ≡ Ok (header_row t ∷ rows)
rows-are-read t m rows h l a = rw (text-again t t.columns rows refl h a, no-fault t m rows h l a) (ap Ok (all-again t rows h a))
