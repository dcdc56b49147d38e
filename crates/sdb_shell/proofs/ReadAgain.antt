-- The statement of each row that is read is read again from its text.
use Rattle.std.proofs.Common.{◌≡◌, ◌<◌, ◌+◌, ℕ, zero, suc, Bool, true, false, not, cond, List, [], ◌∷◌, ◌++◌, length, map, filter, get_or, Option, Some, None, Ok, refl, sym, ap, subst, ◌∙◌, arith, ◌||◌}
use Rattle.std.specs.Prelude.{◌&&◌, ◌==◌, is_ok, position, find, nat_le}
use Rattle.std.specs.Option.{option_map, option_or}
use Rattle.std.specs.List.{AllByRecursion, flat_map, list_all, list_any}
use Rattle.std.proofs.lemmas.Bool.{eqb-true}
use Rattle.std.proofs.lemmas.List.{length-map}
use Rattle.sdb_types.specs.Identifier.{is_identifier}
use Rattle.sdb_shell.specs.Types.{Column, CsvFault, Head, Keyword, Mode, Pair, Table, Test, Token, Value}
use Rattle.sdb_types.proofs.Public.{and_parts, append_all, none_before, or_second}
use Rattle.sdb_record.specs.Names.{same_name}
use Rattle.sdb_record.specs.Parts.{is_column_name}
use Rattle.sdb_record.proofs.Public.{same_name-itself, same_name-true}
use Rattle.sdb_schema.specs.Table.{checked_table, first_unknown, has_column, is_key_column, is_table, none_of, order_names, rises}
use Rattle.sdb_data.specs.declared.fault.CsvFault.TheVariants as fault
use Rattle.sdb_data.specs.declared.fault.Mode.TheVariants as mode
use Rattle.sdb_data.specs.Records.{csv_records}
use Rattle.sdb_data.specs.Tables.{at_place, bad_place, fault_from, first_fault, header_fault, heads_of, in_record, is_named, missing_place, names_fault, not_text, nothing_to_set, other_length, read_rows, record_fault, repeat_place, row_of, rows_in, columns_found, unknown_place}
use Rattle.sdb_data.proofs.Public.{has-partition, keys-known}
use Rattle.sdb_model.specs.declared.statement.Statement.TheVariants as statement
use Rattle.sdb_model.specs.declared.token.Keyword.TheVariants as word
use Rattle.sdb_model.specs.declared.token.Sign.TheVariants as sign
use Rattle.sdb_model.specs.declared.token.Token.TheVariants.{Word, Sign as Mark}
use Rattle.sdb_model.specs.Sql.{CanSpell, IsLiteral, IsSet, IsTest, Reads, Tokens, insert_tokens, literal_tokens, name_tokens, separated, set_tokens, statement_text_of, table_tokens, test_tokens, where_tokens}
use Rattle.sdb_sqltext.proofs.Public.{statement_read}
use Rattle.sdb_shell.specs.declared.load.Load.{Load}
use Rattle.sdb_shell.specs.Statements.{AreRead, has_short_name, literal_of, load_of, pairs_of, row_statement, rows_after, select_all, sets_of, test_of, tests_of}
use Rattle.sdb_shell.proofs.Names.{names_named}
use Rattle.sdb_shell.proofs.RowColumns.{IsGood, as_many, has_name, has_set, named_of, pairs_good, values_of}

---- no fault

or_none : {A : Type 0} (a b : Option A) → option_or a b ≡ None → (a ≡ None) × (b ≡ None)
or_none None b h = (refl, h)
or_none (Some x) b h = absurd (cc)

map_none : {A B : Type 0} (f : A → B) (o : Option A) → option_map f o ≡ None → o ≡ None
map_none f None h = refl
map_none f (Some x) h = absurd (cc)

read_none : (f : Option (ℕ × CsvFault)) (xs ys : List (List Value)) → read_rows f xs ≡ Ok ys → (f ≡ None) × (xs ≡ ys)
read_none None xs ys h = (refl, cc)
read_none (Some f) xs ys h = absurd (cc)

-- what is known of the names of a header
pub record IsHeader (t : Table) (m : Mode) (header : List (List ℕ)) : Type 0 where
  pub known : unknown_place t header ≡ None
  pub keys : missing_place t header ≡ None
  pub settable : nothing_to_set t m header ≡ None

header_is : (t : Table) (m : Mode) (header : List (List ℕ)) → header_fault t m header ≡ None → IsHeader t m header
unfolding names_fault
header_is t m header h =
    let a = (or_none (not_text header) (names_fault t m header) h).1 in
    let b = or_none (at_place fault.NoColumn (unknown_place t header)) _ a in
    let c = or_none (at_place fault.RepeatedColumn (repeat_place [] header)) _ b.1 in
    let d = or_none (at_place fault.MissingKey (missing_place t header)) (nothing_to_set t m header) c.1 in
    record { known = map_none _ (unknown_place t header) b.0; keys = map_none _ (missing_place t header) d.0; settable = d.1 }

-- what is known of the fields of a record
pub record IsRecord (t : Table) (header fields : List (List ℕ)) : Type 0 where
  pub fits : bad_place (heads_of t header) fields ≡ None
  pub same : length fields ≡ length header

heads_length : (t : Table) (header : List (List ℕ)) → length (heads_of t header) ≡ length header
heads_length t [] = refl
heads_length t (n ∷ ns) = ap suc (heads_length t ns)

length_is : (heads : List Head) (fields : List (List ℕ)) → other_length heads fields ≡ None → length fields ≡ length heads
length_is heads fields h = by (length fields == length heads) refl h
  where
    by : (b : Bool) → (length fields == length heads) ≡ b → cond b None (Some fault.Fields) ≡ None → length fields ≡ length heads
    by true e k = eqb-true (length fields) (length heads) e
    by false e k = absurd (cc)

record_is : (t : Table) (header fields : List (List ℕ)) → record_fault (heads_of t header) fields ≡ None → IsRecord t header fields
unfolding record_fault
record_is t header fields h =
    let a = (or_none (not_text fields) _ h).1 in
    let b = or_none (other_length (heads_of t header) fields) _ a in
    record { fits = map_none _ (bad_place (heads_of t header) fields) b.1; same = length_is (heads_of t header) fields b.0 ∙ heads_length t header }

records_are : (t : Table) (header : List (List ℕ)) (n : ℕ) (records : List (List (List ℕ))) → fault_from (heads_of t header) n records ≡ None → AllByRecursion (IsRecord t header) records
records_are t header n [] h = tt
records_are t header n (r ∷ rs) h =
    let p = or_none (in_record n (record_fault (heads_of t header) r)) (fault_from (heads_of t header) (n + 1) rs) h in
    (record_is t header r (map_none _ (record_fault (heads_of t header) r) p.0), records_are t header (n + 1) rs p.1)

---- names that are there

any_column : (q : List ℕ → Bool) (cs : List Column) (name : List ℕ) → has_column cs name ≡ true → q name ≡ true → list_any (λ c. q c.name) cs ≡ true
any_column q [] name h k = absurd (cc)
any_column q (c ∷ cs) name h k = by (same_name c.name name) refl h (any_column q cs name)
  where
    by : (b : Bool) → same_name c.name name ≡ b → (b || has_column cs name) ≡ true → (has_column cs name ≡ true → q name ≡ true → list_any (λ (x : Column). q x.name) cs ≡ true) → (q c.name || list_any (λ (x : Column). q x.name) cs) ≡ true
    by true e g rest = ap (λ n. q n || list_any (λ (x : Column). q x.name) cs) (same_name-true c.name name e) ∙ ap (λ b. b || list_any (λ (x : Column). q x.name) cs) k
    by false e g rest = or_second (q c.name) (list_any (λ (x : Column). q x.name) cs) (rest g k)

not_false : (b : Bool) → not b ≡ false → b ≡ true
not_false true h = refl
not_false false h = absurd (cc)

found_none : (p : List ℕ → Bool) (x : List ℕ) (xs : List (List ℕ)) → find p (x ∷ xs) ≡ None → p x ≡ false
found_none p x xs h = by (p x) refl h
  where
    by : (b : Bool) → p x ≡ b → cond b (Some x) (find p xs) ≡ None → p x ≡ false
    by true e k = absurd (cc)
    by false e k = e

-- a column of the key is named
key_named : (t : Table) (m : Mode) (header : List (List ℕ)) → is_table t ≡ true → IsHeader t m header → list_any (λ c. is_named header c.name) t.columns ≡ true
key_named t m header is h = by t.partition (order_names t.clustering) (has-partition t is) (keys-known t is) h.keys
  where
    by : (ks os : List (List ℕ)) → none_of ks ≡ None → first_unknown t.columns (ks ++ os) ≡ None → position (λ name. not (is_named header name)) (ks ++ os) ≡ None → list_any (λ (c : Column). is_named header c.name) t.columns ≡ true
    by [] os none unknown missing = absurd (cc)
    by (k ∷ ks) os none unknown missing =
        any_column (is_named header) t.columns k (not_false (has_column t.columns k) (found_none (λ name. not (has_column t.columns name)) k (ks ++ os) unknown))
        (not_false (is_named header k) (none_before (λ name. not (is_named header name)) (k ∷ (ks ++ os)) [] missing 0 (omega arith)))

-- a header that lists a column outside the key, where rows are to be updated
record IsOutside (t : Table) (header : List (List ℕ)) : Type 0 where
  i : ℕ
  low : i < length header
  out : is_key_column t (get_or header i []) ≡ false

not_all : (t : Table) (header : List (List ℕ)) → list_all (is_key_column t) header ≡ false → IsOutside t header
not_all t [] h = absurd (cc)
not_all t (n ∷ ns) h = by (is_key_column t n) refl h (not_all t ns)
  where
    by : (b : Bool) → is_key_column t n ≡ b → (b && list_all (is_key_column t) ns) ≡ false → (list_all (is_key_column t) ns ≡ false → IsOutside t ns) → IsOutside t (n ∷ ns)
    by false e g rest = record { i = 0; low = omega arith; out = e }
    by true e g rest = let r = rest g in record { i = suc r.i; low = (let l = r.low in omega arith); out = r.out }

all_false : (b : Bool) → cond b (Some (fault.MissingKey 0)) None ≡ None → b ≡ false
all_false true h = absurd (cc)
all_false false h = refl

itself_at : (header : List (List ℕ)) (i : ℕ) → i < length header → is_named header (get_or header i []) ≡ true
itself_at [] i low = absurd (omega arith)
itself_at (n ∷ ns) zero low = ap (λ b. b || is_named ns n) (same_name-itself n)
itself_at (n ∷ ns) (suc i) low = or_second (same_name n (get_or ns i [])) (is_named ns (get_or ns i [])) (itself_at ns i (omega arith))

set_named : (t : Table) (header : List (List ℕ)) → IsHeader t mode.Update header → list_any (λ c. is_named header c.name && not (is_key_column t c.name)) t.columns ≡ true
set_named t header h =
    let o = not_all t header (all_false (list_all (is_key_column t) header) h.settable) in
    let known : has_column t.columns (get_or header o.i []) ≡ true = not_false (has_column t.columns (get_or header o.i [])) (none_before (λ name. not (has_column t.columns name)) header [] h.known o.i o.low) in
    any_column (λ n. is_named header n && not (is_key_column t n)) t.columns (get_or header o.i []) known
    (ap (λ b. b && not (is_key_column t (get_or header o.i []))) (itself_at header o.i o.low) ∙ ap not o.out)

---- tokens

separated_all : {X : Type 0} (between : Token) (f : X → Tokens) (xs : List X) → CanSpell between → AllByRecursion (λ x. AllByRecursion CanSpell (f x)) xs → AllByRecursion CanSpell (separated between f xs)
separated_all between f [] b h = tt
separated_all between f (x ∷ xs) b h = append_all CanSpell (f x) (flat_map (λ y. between ∷ f y) xs) h.0 (rest xs h.1)
  where
    rest : (ys : List _) → AllByRecursion (λ y. AllByRecursion CanSpell (f y)) ys → AllByRecursion CanSpell (flat_map (λ y. between ∷ f y) ys)
    rest [] k = tt
    rest (y ∷ ys) k = (b, append_all CanSpell (f y) (flat_map (λ z. between ∷ f z) ys) k.0 (rest ys k.1))

table_all : (t : Table) → has_short_name t ≡ true → AllByRecursion CanSpell (table_tokens t.name)
table_all t h =
    let p = and_parts (is_column_name t.name.ns) (is_column_name t.name.table) h in
    let ns = and_parts (nat_le (length t.name.ns) 64) (is_identifier t.name.ns) p.0 in
    let table = and_parts (nat_le (length t.name.table) 64) (is_identifier t.name.table) p.1 in
    ((ns.1, ns.0), (tt, ((table.1, table.0), tt)))

-- the names and the literals of good pairs
names_all : (t : Table) (names : List (List ℕ)) (row : List Value) → length names ≡ length row → AllByRecursion (IsGood t) (pairs_of names row) → AllByRecursion (λ n. AllByRecursion CanSpell (name_tokens n)) names
names_all t [] row e h = tt
names_all t (n ∷ ns) [] e h = absurd (omega (arith, e))
names_all t (n ∷ ns) (v ∷ vs) e h = ((h.0.name, tt), names_all t ns vs (omega (arith, e)) h.1)

literals_all : (t : Table) (names : List (List ℕ)) (row : List Value) → length names ≡ length row → AllByRecursion (IsGood t) (pairs_of names row) → AllByRecursion (λ v. AllByRecursion CanSpell (literal_tokens v)) (map literal_of row) × AllByRecursion IsLiteral (map literal_of row)
literals_all t [] [] e h = (tt, tt)
literals_all t [] (v ∷ vs) e h = absurd (omega (arith, e))
literals_all t (n ∷ ns) [] e h = absurd (omega (arith, e))
literals_all t (n ∷ ns) (v ∷ vs) e h = let r = literals_all t ns vs (omega (arith, e)) h.1 in (((h.0.literal, tt), r.0), (h.0.is, r.1))

sets_all : (t : Table) (ps : List Pair) → AllByRecursion (IsGood t) ps → AllByRecursion (λ p. AllByRecursion CanSpell (set_tokens p)) (sets_of t ps) × AllByRecursion IsSet (sets_of t ps)
sets_all t [] h = (tt, tt)
sets_all t (p ∷ ps) h = by (is_key_column t p.name) (sets_all t ps h.1)
  where
    by : (k : Bool) → AllByRecursion (λ x. AllByRecursion CanSpell (set_tokens x)) (sets_of t ps) × AllByRecursion IsSet (sets_of t ps) → AllByRecursion (λ x. AllByRecursion CanSpell (set_tokens x)) (cond (not k) (p ∷ sets_of t ps) (sets_of t ps)) × AllByRecursion IsSet (cond (not k) (p ∷ sets_of t ps) (sets_of t ps))
    by true r = r
    by false r = (((h.0.name, (tt, (h.0.literal, tt))), r.0), (h.0.is, r.1))

tests_all : (t : Table) (ps : List Pair) → AllByRecursion (IsGood t) ps → AllByRecursion (λ x. AllByRecursion CanSpell (test_tokens x)) (tests_of t ps) × AllByRecursion IsTest (tests_of t ps)
tests_all t [] h = (tt, tt)
tests_all t (p ∷ ps) h = by (is_key_column t p.name) refl (tests_all t ps h.1)
  where
    by : (k : Bool) → is_key_column t p.name ≡ k → AllByRecursion (λ x. AllByRecursion CanSpell (test_tokens x)) (tests_of t ps) × AllByRecursion IsTest (tests_of t ps) → AllByRecursion (λ x. AllByRecursion CanSpell (test_tokens x)) (map test_of (cond k (p ∷ filter (λ y. is_key_column t y.name) ps) (filter (λ y. is_key_column t y.name) ps))) × AllByRecursion IsTest (map test_of (cond k (p ∷ filter (λ y. is_key_column t y.name) ps) (filter (λ y. is_key_column t y.name) ps)))
    by true e r = (((h.0.name, (tt, (h.0.literal, tt))), r.0), (h.0.key e, r.1))
    by false e r = r

where_all : (ts : List Test) → AllByRecursion (λ x. AllByRecursion CanSpell (test_tokens x)) ts → AllByRecursion CanSpell (where_tokens ts)
where_all [] h = tt
where_all (t ∷ ts) h = (tt, separated_all (Word word.And) test_tokens (t ∷ ts) tt h)

---- statements

-- the statement of the row of a record
row_read : (t : Table) (m : Mode) (header fields : List (List ℕ)) → is_table t ≡ true → has_short_name t ≡ true → IsHeader t m header → IsRecord t header fields
    → Reads (statement_text_of (row_statement (record { mode = m; table = t; names = named_of header t.columns }) (values_of header fields t.columns))) (row_statement (record { mode = m; table = t; names = named_of header t.columns }) (values_of header fields t.columns))
row_read t m header fields is short h r = by m h
  where
    names : List (List ℕ)
    names = named_of header t.columns

    row : List Value
    row = values_of header fields t.columns

    rest : (list_all (λ (c : Column). is_column_name c.name) t.columns && is_ok (checked_table t)) ≡ true
    rest = (and_parts (rises t.columns) _ is).1

    good : AllByRecursion (IsGood t) (pairs_of names row)
    good = pairs_good t header fields (and_parts (rises t.columns) _ is).0 r.fits r.same [] t.columns refl (and_parts (list_all (λ (c : Column). is_column_name c.name) t.columns) (is_ok (checked_table t)) rest).0

    many : length names ≡ length row
    many = as_many header fields t.columns

    longer : length names ≡ length (map literal_of row)
    longer = many ∙ sym (length-map row literal_of)

    listed : Tokens
    listed = separated (Mark sign.Comma) name_tokens names

    values : Tokens
    values = separated (Mark sign.Comma) literal_tokens (map literal_of row)

    inserts : (verb : Keyword) → AllByRecursion CanSpell (insert_tokens verb (record { table = t.name; columns = names; values = map literal_of row }))
    inserts verb = (
      tt,
      (
        tt,
        append_all CanSpell ((table_tokens t.name ++ (Mark sign.Open ∷ listed)) ++ (Mark sign.Close ∷ Word word.Values ∷ Mark sign.Open ∷ values)) (Mark sign.Close ∷ [])
            (append_all CanSpell (table_tokens t.name ++ (Mark sign.Open ∷ listed)) (Mark sign.Close ∷ Word word.Values ∷ Mark sign.Open ∷ values)
            (append_all CanSpell (table_tokens t.name) (Mark sign.Open ∷ listed) (table_all t short) (tt, separated_all (Mark sign.Comma) name_tokens names tt (names_all t names row many good)))
            (tt, (tt, (tt, separated_all (Mark sign.Comma) literal_tokens (map literal_of row) tt (literals_all t names row many good).0))))
            (tt, tt),
      ),
    )

    setting : Tokens
    setting = separated (Mark sign.Comma) set_tokens (sets_of t (pairs_of names row))

    by : (m : Mode) → IsHeader t m header → Reads (statement_text_of (row_statement (record { mode = m; table = t; names = names }) row)) (row_statement (record { mode = m; table = t; names = names }) row)
    by mode.Insert k = statement_read (statement.Insert (record { table = t.name; columns = names; values = map literal_of row })) (has_name header t.columns (key_named t mode.Insert header is k), longer, (literals_all t names row many good).1) (inserts word.Insert)
    by mode.Upsert k = statement_read (statement.Upsert (record { table = t.name; columns = names; values = map literal_of row })) (has_name header t.columns (key_named t mode.Upsert header is k), longer, (literals_all t names row many good).1) (inserts word.Upsert)
    by mode.Update k =
        let sets = sets_all t (pairs_of names row) good in
        let tests = tests_all t (pairs_of names row) good in
        statement_read (statement.Update (record { table = t.name; sets = sets_of t (pairs_of names row); tests = tests_of t (pairs_of names row) })) (has_set t header fields t.columns (set_named t header k), sets.1, tests.1) (
          tt,
          append_all CanSpell (table_tokens t.name ++ (Word word.Set ∷ setting)) (where_tokens (tests_of t (pairs_of names row)))
              (append_all CanSpell (table_tokens t.name) (Word word.Set ∷ setting) (table_all t short) (tt, separated_all (Mark sign.Comma) set_tokens (sets_of t (pairs_of names row)) tt sets.0))
              (where_all (tests_of t (pairs_of names row)) tests.0),
        )

abbrev pub IsReadAgain : Load → List Value → Type 0
IsReadAgain load row = Reads (statement_text_of (row_statement load row)) (row_statement load row)

records_read : (t : Table) (m : Mode) (header : List (List ℕ)) (records : List (List (List ℕ))) → is_table t ≡ true → has_short_name t ≡ true → IsHeader t m header → AllByRecursion (IsRecord t header) records
    → AllByRecursion (IsReadAgain (record { mode = m; table = t; names = named_of header t.columns })) (map (row_of (columns_found t.columns header)) records)
records_read t m header [] is short h rs = tt
records_read t m header (r ∷ records) is short h rs = (row_read t m header r is short h rs.0, records_read t m header records is short h rs.1)

-- the statement of each row that is read is read again
pub rows_read : (t : Table) (m : Mode) (rows : List (List Value)) → is_table t ≡ true → has_short_name t ≡ true → AreRead t m rows → AllByRecursion (IsReadAgain (load_of t m rows)) (rows_after rows)
rows_read t m rows is short (text, read) =
    let p = read_none (first_fault t m (csv_records text)) (rows_in t (csv_records text)) rows read in
    subst (λ rs. AllByRecursion (IsReadAgain (load_of t m rs)) (rows_after rs)) p.1 (by (csv_records text) p.0)
  where
    by : (records : List (List (List ℕ))) → first_fault t m records ≡ None → AllByRecursion (IsReadAgain (load_of t m (rows_in t records))) (rows_after (rows_in t records))
    by [] h = absurd (cc)
    by (header ∷ records) h =
        let p = or_none (in_record 1 (header_fault t m header)) (fault_from (heads_of t header) 2 records) h in
        subst (λ ns. AllByRecursion (IsReadAgain (record { mode = m; table = t; names = ns })) (map (row_of (columns_found t.columns header)) records)) (sym (names_named header t.columns))
        (records_read t m header records is short (header_is t m header (map_none _ (header_fault t m header) p.0)) (records_are t header 2 records p.1))

---- all of a table

pub select_read : (t : Table) → has_short_name t ≡ true → Reads (statement_text_of (select_all t)) (select_all t)
select_read t short = statement_read (select_all t) (tt, tt, tt) (tt, (tt, (tt, append_all CanSpell (table_tokens t.name) [] (table_all t short) tt)))
