-- The statement of each row that is read, as a text spells it.
use Rattle.std.proofs.Common.{◌≡◌, ◌≢◌, ◌<◌, ◌+◌, ℕ, zero, suc, Bool, true, false, not, cond, List, [], ◌∷◌, ◌++◌, length, map, filter, get_or, Option, Some, None, refl, sym, ap, subst, ◌∙◌, append_assoc, arith, ◌||◌}
use Rattle.std.specs.Prelude.{◌&&◌, is_some, position, nat_le}
use Rattle.sdb_types.specs.Identifier.{is_identifier}
use Rattle.std.specs.Option.{option_map, option_map_or}
use Rattle.std.specs.List.{AllByRecursion, cons_option, list_all, list_any}
use Rattle.std.proofs.lemmas.List.Quantifiers.{position-Some}
use Rattle.sdb_shell.specs.Types.{Column, ColumnFound, Head, Pair, Table, Value}
use Rattle.sdb_types.specs.declared.value.Value.TheVariants as value
use Rattle.sdb_types.proofs.Public.{and_parts, none_before, or_second}
use Rattle.sdb_record.specs.Names.{same_name}
use Rattle.sdb_record.specs.Parts.{is_column_name}
use Rattle.sdb_record.proofs.Public.{same_name-true}
use Rattle.sdb_schema.specs.declared.table.Kind.TheVariants as kind
use Rattle.sdb_schema.specs.Table.{column_names, is_key_column, kind_in, rises}
use Rattle.sdb_data.specs.Fields.{is_null_field, or_null, suits, value_at, value_in}
use Rattle.sdb_data.specs.Tables.{bad_place, cell_of, head_of, heads_of, is_named, row_of, columns_found}
use Rattle.sdb_data.proofs.Public.{kinds}
use Rattle.sdb_model.specs.declared.token.Token.TheVariants.{Name}
use Rattle.sdb_model.specs.Sql.{CanSpell, HasItems, IsLiteral, IsValue, literal_token}
use Rattle.sdb_shell.specs.Statements.{literal_of, pair_of, pairs_of, sets_of}
use Rattle.sdb_shell.proofs.Spelled.{value_some, value_spelled}

---- where a name is

any_at : (p : List ℕ → Bool) (xs : List (List ℕ)) (i : ℕ) → i < length xs → p (get_or xs i []) ≡ true → list_any p xs ≡ true
any_at p [] i low h = absurd (omega arith)
any_at p (x ∷ xs) zero low h = ap (λ b. b || list_any p xs) h
any_at p (x ∷ xs) (suc i) low h = or_second (p x) (list_any p xs) (any_at p xs i (omega arith) h)

any_none : (p : List ℕ → Bool) (xs : List (List ℕ)) → ((k : ℕ) → k < length xs → p (get_or xs k []) ≡ false) → list_any p xs ≡ false
any_none p [] h = refl
any_none p (x ∷ xs) h = ap (λ b. b || list_any p xs) (h 0 (omega arith)) ∙ any_none p xs (λ k low. h (suc k) (omega arith))

named_is : (header : List (List ℕ)) (name : List ℕ) → is_named header name ≡ is_some (position (λ n. same_name n name) header)
named_is header name = by (position (λ n. same_name n name) header) refl
  where
    by : (o : Option ℕ) → position (λ n. same_name n name) header ≡ o → is_named header name ≡ is_some o
    by None e = any_none (λ n. same_name n name) header (none_before (λ n. same_name n name) header [] e)
    by (Some i) e = let q = position-Some (λ n. same_name n name) header i [] e in any_at (λ n. same_name n name) header i q.0 q.1

-- a record's field suits the column that the header names there
suits_at : (t : Table) (header fields : List (List ℕ)) (i : ℕ) → bad_place (heads_of t header) fields ≡ None → length fields ≡ length header → i < length header → suits (head_of t (get_or header i [])) (get_or fields i []) ≡ true
suits_at t [] fields i h same low = absurd (omega arith)
suits_at t (n ∷ ns) [] i h same low = absurd (omega arith)
suits_at t (n ∷ ns) (f ∷ fs) i h same low = by (suits (head_of t n) f) refl h (λ j k. suits_at t ns fs j k (omega arith)) i low
  where
    tail_none : (o : Option ℕ) → option_map (λ j. j + 1) o ≡ None → o ≡ None
    tail_none None k = refl
    tail_none (Some j) k = absurd (cc)

    by : (b : Bool) → suits (head_of t n) f ≡ b → cond b (option_map (λ j. j + 1) (bad_place (heads_of t ns) fs)) (Some 0) ≡ None → ((j : ℕ) → bad_place (heads_of t ns) fs ≡ None → j < length ns → suits (head_of t (get_or ns j [])) (get_or fs j []) ≡ true) → (j : ℕ) → j < length (n ∷ ns) → suits (head_of t (get_or (n ∷ ns) j [])) (get_or (f ∷ fs) j []) ≡ true
    by true e k rest zero l = e
    by true e k rest (suc j) l = rest j (tail_none (bad_place (heads_of t ns) fs) k) (omega arith)
    by false e k rest j l = absurd (cc)

---- a literal

literal_is : (v : Value) → IsLiteral (literal_of v)
literal_is value.Null = tt
literal_is (value.Bool b) = tt
literal_is (value.Int n) = tt
literal_is (value.BigInt n) = tt
literal_is (value.Text text) = tt
literal_is (value.Blob bytes) = tt

value_is : (v : Value) → v ≢ value.Null → IsValue (literal_of v)
value_is value.Null n = absurd (n refl)
value_is (value.Bool b) n = tt
value_is (value.Int x) n = tt
value_is (value.BigInt x) n = tt
value_is (value.Text text) n = tt
value_is (value.Blob bytes) n = tt

-- a field of the key says a value
key_some : (k : Head) (field : List ℕ) → k.in_key ≡ true → suits k field ≡ true → value_at k.kind field ≢ value.Null
key_some k field key h = by (value_in k.kind field) refl (subst (λ b. (is_some (value_in k.kind field) || (not b && is_null_field field)) ≡ true) key h)
  where
    by : (o : Option Value) → value_in k.kind field ≡ o → (is_some o || false) ≡ true → or_null o ≢ value.Null
    by None e g = absurd (cc)
    by (Some v) e g = value_some k.kind field v e

---- the columns of a row

-- a named column with its literal, as a text spells it
pub record IsGood (t : Table) (p : Pair) : Type 0 where
  pub name : CanSpell (Name p.name)
  pub literal : CanSpell (literal_token p.value)
  pub is : IsLiteral p.value
  pub key : is_key_column t p.name ≡ true → IsValue p.value

-- the named ones of some columns, and their values in a record
abbrev pub named_of : List (List ℕ) → List Column → List (List ℕ)
named_of header cs = filter (is_named header) (column_names cs)

abbrev pub values_of : List (List ℕ) → List (List ℕ) → List Column → List Value
values_of header fields cs = row_of (columns_found cs header) fields

-- one column before others: named at a place, or not
abbrev found_here : Column → Option ℕ → Option ColumnFound
found_here c o = option_map (λ i. record { kind = c.kind; place = i }) o

abbrev names_here : Column → Option ℕ → List (List ℕ) → List (List ℕ)
names_here c o ns = cond (is_some o) (c.name ∷ ns) ns

abbrev values_here : List (List ℕ) → Column → Option ℕ → List ColumnFound → List Value
values_here fields c o ts = map (cell_of fields) (cons_option (found_here c o) ts)

abbrev at_place : List (List ℕ) → Column → Option ℕ
at_place header c = position (λ n. same_name n c.name) header

-- a row's values, where these are the fields of a record that suits its columns
module _ (t : Table) (header fields : List (List ℕ)) (rising : rises t.columns ≡ true) (fits : bad_place (heads_of t header) fields ≡ None) (same : length fields ≡ length header) where
  -- a column with its value, where it is named
  pair_good : (front : List Column) (c : Column) (back : List Column) → t.columns ≡ front ++ c ∷ back → is_column_name c.name ≡ true → (i : ℕ) → at_place header c ≡ Some i → IsGood t (pair_of c.name (value_at c.kind (get_or fields i [])))
  pair_good front c back split name i e =
      let q = position-Some (λ n. same_name n c.name) header i [] e in
      let here : get_or header i [] ≡ c.name = same_name-true (get_or header i []) c.name q.1 in
      let of_kind : option_map_or (λ k. k) (kind_in t.columns c.name) kind.Text ≡ c.kind = ap (λ (ds : List Column). option_map_or (λ k. k) (kind_in ds c.name) kind.Text) split ∙ kinds front c back (subst (λ (ds : List Column). rises ds ≡ true) split rising) in
      let suited : suits (head_of t c.name) (get_or fields i []) ≡ true = subst (λ n. suits (head_of t n) (get_or fields i []) ≡ true) here (suits_at t header fields i fits same q.0) in
      record {
        name = (let p = and_parts (nat_le (length c.name) 64) (is_identifier c.name) name in (p.1, p.0));
        literal = value_spelled c.kind (get_or fields i []);
        is = literal_is (value_at c.kind (get_or fields i []));
        key = λ k. value_is (value_at c.kind (get_or fields i [])) (subst (λ x. value_at x (get_or fields i []) ≢ value.Null) of_kind (key_some (head_of t c.name) (get_or fields i []) k suited));
      }

  pub pairs_good : (front back : List Column) → t.columns ≡ front ++ back → list_all (λ c. is_column_name c.name) back ≡ true → AllByRecursion (IsGood t) (pairs_of (named_of header back) (values_of header fields back))
  pairs_good front [] split names = tt
  pairs_good front (c ∷ back) split names =
      let p = and_parts (is_column_name c.name) (list_all (λ (x : Column). is_column_name x.name) back) names in
      let rest = pairs_good (front ++ c ∷ []) back (split ∙ sym (append_assoc front (c ∷ []) back)) p.1 in
      subst (λ b. AllByRecursion (IsGood t) (pairs_of (cond b (c.name ∷ named_of header back) (named_of header back)) (values_of header fields (c ∷ back)))) (sym (named_is header c.name))
      (by (at_place header c) rest (pair_good front c back split p.0))
    where
      by : (o : Option ℕ) → AllByRecursion (IsGood t) (pairs_of (named_of header back) (values_of header fields back)) → ((i : ℕ) → o ≡ Some i → IsGood t (pair_of c.name (value_at c.kind (get_or fields i [])))) → AllByRecursion (IsGood t) (pairs_of (names_here c o (named_of header back)) (values_here fields c o (columns_found back header)))
      by None rest good = rest
      by (Some i) rest good = (good i refl, rest)

-- as many values as names
pub as_many : (header fields : List (List ℕ)) (cs : List Column) → length (named_of header cs) ≡ length (values_of header fields cs)
as_many header fields [] = refl
as_many header fields (c ∷ cs) =
    subst (λ b. length (cond b (c.name ∷ named_of header cs) (named_of header cs)) ≡ length (values_of header fields (c ∷ cs))) (sym (named_is header c.name)) (by (at_place header c) (as_many header fields cs))
  where
    by : (o : Option ℕ) → length (named_of header cs) ≡ length (values_of header fields cs) → length (names_here c o (named_of header cs)) ≡ length (values_here fields c o (columns_found cs header))
    by None e = e
    by (Some i) e = let n : length (c.name ∷ named_of header cs) ≡ length (value_at c.kind (get_or fields i []) ∷ values_of header fields cs) = omega (arith, e) in n

-- one is named
pub has_name : (header : List (List ℕ)) (cs : List Column) → list_any (λ c. is_named header c.name) cs ≡ true → HasItems (named_of header cs)
has_name header [] h = absurd (cc)
has_name header (c ∷ cs) h = by (is_named header c.name) h (has_name header cs)
  where
    by : (b : Bool) → (b || list_any (λ (x : Column). is_named header x.name) cs) ≡ true → (list_any (λ (x : Column). is_named header x.name) cs ≡ true → HasItems (named_of header cs)) → HasItems (cond b (c.name ∷ named_of header cs) (named_of header cs))
    by true g rest = tt
    by false g rest = rest g

-- one outside the key is named
pub has_set : (t : Table) (header fields : List (List ℕ)) (cs : List Column) → list_any (λ c. is_named header c.name && not (is_key_column t c.name)) cs ≡ true → HasItems (sets_of t (pairs_of (named_of header cs) (values_of header fields cs)))
has_set t header fields [] h = absurd (cc)
has_set t header fields (c ∷ cs) h =
    subst (λ b. HasItems (sets_of t (pairs_of (cond b (c.name ∷ named_of header cs) (named_of header cs)) (values_of header fields (c ∷ cs))))) (sym (named_is header c.name))
    (by (at_place header c) (is_key_column t c.name) refl (subst (λ b. ((b && not (is_key_column t c.name)) || list_any (λ (x : Column). is_named header x.name && not (is_key_column t x.name)) cs) ≡ true) (named_is header c.name) h) (has_set t header fields cs))
  where
    rest : List Pair
    rest = pairs_of (named_of header cs) (values_of header fields cs)

    by : (o : Option ℕ) (k : Bool) → is_key_column t c.name ≡ k → ((is_some o && not (is_key_column t c.name)) || list_any (λ (x : Column). is_named header x.name && not (is_key_column t x.name)) cs) ≡ true → (list_any (λ (x : Column). is_named header x.name && not (is_key_column t x.name)) cs ≡ true → HasItems (sets_of t rest)) → HasItems (sets_of t (pairs_of (names_here c o (named_of header cs)) (values_here fields c o (columns_found cs header))))
    by None k e g more = more g
    by (Some i) false e g more = subst (λ b. HasItems (cond (not b) (pair_of c.name (value_at c.kind (get_or fields i [])) ∷ sets_of t rest) (sets_of t rest))) (sym e) tt
    by (Some i) true e g more =
        subst (λ b. HasItems (cond (not b) (pair_of c.name (value_at c.kind (get_or fields i [])) ∷ sets_of t rest) (sets_of t rest))) (sym e)
        (more (subst (λ b. ((true && not b) || list_any (λ (x : Column). is_named header x.name && not (is_key_column t x.name)) cs) ≡ true) e g))
