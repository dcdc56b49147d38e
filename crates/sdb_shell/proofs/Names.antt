-- The columns that the first row of rows lists.
use Rattle.std.proofs.Common.{◌≡◌, Bool, true, false, cond, List, [], ◌∷◌, ◌++◌, ℕ, Some, None, refl, sym, ap, subst, ◌∙◌, append_assoc, ◌||◌, filter}
use Rattle.std.specs.Prelude.{◌&&◌}
use Rattle.std.specs.List.{cons_option, list_all, list_any}
use Rattle.sdb_shell.specs.Types.{Column, Value}
use Rattle.sdb_types.specs.declared.value.Value.TheVariants as value
use Rattle.sdb_types.proofs.Public.{and_false, and_parts, or_second}
use Rattle.sdb_record.specs.Names.{same_name}
use Rattle.sdb_record.proofs.Public.{same_name-itself, same_name-true}
use Rattle.sdb_schema.specs.Table.{column_names, has_column}
use Rattle.sdb_data.specs.Tables.{is_named, named_row}
use Rattle.sdb_shell.specs.Statements.{is_text}

-- a row of names lists a name where a column has it and the header names it
row_lists : (header : List (List ℕ)) (cs : List Column) (name : List ℕ) → list_any (is_text name) (named_row cs header) ≡ (has_column cs name && is_named header name)
row_lists header [] name = refl
row_lists header (c ∷ cs) name = by (row_lists header cs name) (same_name c.name name) (is_named header c.name) refl refl
  where
    rest : List Value
    rest = named_row cs header

    turned : same_name c.name name ≡ true → (n : Bool) → is_named header c.name ≡ n → is_named header name ≡ n
    turned e n f = ap (is_named header) (sym (same_name-true c.name name e)) ∙ f

    by : list_any (is_text name) rest ≡ (has_column cs name && is_named header name) → (s n : Bool) → same_name c.name name ≡ s → is_named header c.name ≡ n → list_any (is_text name) (cons_option (cond n (Some (value.Text c.name)) None) rest) ≡ ((s || has_column cs name) && is_named header name)
    by r true true e f = ap (λ b. b || list_any (is_text name) rest) e ∙ sym (turned e true f)
    by r true false e f = r ∙ ap (λ b. has_column cs name && b) (turned e false f) ∙ and_false (has_column cs name) ∙ sym (turned e false f)
    by r false true e f = ap (λ b. b || list_any (is_text name) rest) e ∙ r
    by r false false e f = r

names_of : (header : List (List ℕ)) (all cs : List Column) → list_all (λ c. has_column all c.name) cs ≡ true → filter (λ name. list_any (is_text name) (named_row all header)) (column_names cs) ≡ filter (is_named header) (column_names cs)
names_of header all [] h = refl
names_of header all (c ∷ cs) h =
    let p = and_parts (has_column all c.name) (list_all (λ (x : Column). has_column all x.name) cs) h in
    let listed : list_any (is_text c.name) (named_row all header) ≡ is_named header c.name = row_lists header all c.name ∙ ap (λ b. b && is_named header c.name) p.0 in
    ap (λ b. cond b (c.name ∷ filter (λ name. list_any (is_text name) (named_row all header)) (column_names cs)) (filter (λ name. list_any (is_text name) (named_row all header)) (column_names cs))) listed
    ∙ ap (λ xs. cond (is_named header c.name) (c.name ∷ xs) xs) (names_of header all cs p.1)

had : (front : List Column) (c : Column) (back : List Column) → has_column (front ++ c ∷ back) c.name ≡ true
had [] c back = ap (λ b. b || has_column back c.name) (same_name-itself c.name)
had (d ∷ ds) c back = or_second (same_name d.name c.name) (has_column (ds ++ c ∷ back) c.name) (had ds c back)

all_had : (front back : List Column) → list_all (λ c. has_column (front ++ back) c.name) back ≡ true
all_had front [] = refl
all_had front (c ∷ back) =
    ap (λ b. b && list_all (λ (x : Column). has_column (front ++ c ∷ back) x.name) back) (had front c back)
    ∙ subst (λ (cs : List Column). list_all (λ (x : Column). has_column cs x.name) back ≡ true) (append_assoc front (c ∷ []) back) (all_had (front ++ c ∷ []) back)

-- the names in the first row of rows that are read
pub names_named : (header : List (List ℕ)) (cs : List Column) → filter (λ name. list_any (is_text name) (named_row cs header)) (column_names cs) ≡ filter (is_named header) (column_names cs)
names_named header cs = names_of header cs cs (all_had [] cs)
