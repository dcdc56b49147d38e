-- A script that is printed is read again.
use Rattle.std.proofs.Common.{◌≡◌, ℕ, ◌≤◌, ◌==◌, Bool, true, false, ◌&&◌, List, [], ◌∷◌, ◌++◌, length, refl, sym, ap, subst, ◌∙◌, append_assoc, append-nil, map, flat_map, codes, Result, Ok, Err, arith}
use Rattle.std.specs.Prelude.{nat_le, IfOk}
use Rattle.std.specs.List.{list_all}
use Rattle.std.specs.Str.{is_utf8, IsUtf8, chars}
use Rattle.std.proofs.lemmas.Bool.Decides.{nat_tests}
use Rattle.std.proofs.lemmas.Str.{IsUtf8-from_is_utf8, is_utf8-from_IsUtf8, IsUtf8-append}
use Rattle.sdb_loader.specs.Described.{catalog_in}
use Rattle.sdb_loader.specs.declared.fault.SchemaFault.TheVariants as schema
use Rattle.std.proofs.lemmas.List.Concat.{flat_map-append}
use Rattle.std.proofs.lemmas.List.Folds.{list_all-append}
use Rattle.sdb_types.proofs.Public.{and_both, and_first, and_second, at_most_nat, by_test}
use Rattle.sdb_script.specs.Types.{Script, ScriptClient, Table}
use Rattle.sdb_schema.specs.Catalog.{is_catalog}
use Rattle.sdb_model.specs.Form.{lines_of, onto_first, client_line}
use Rattle.sdb_script.specs.Lines.{most_bytes, most_line, place_line, schema_line, text_line, client_lines, move_line, is_line}
use Rattle.sdb_script.specs.Begun.{IsBegun, IsSchema, run_lines}
use Rattle.sdb_script.specs.Whole.{whole, IsScript}
use Rattle.sdb_script.specs.Printed.{catalog_text, schema_text, place_text, client_text, script_text_of, schema_lines, fits_line}
use Rattle.sdb_script.proofs.AlterLines.{alter_fits, alter_single}
use Rattle.sdb_script.proofs.CatalogBack.{catalog_again}
use Rattle.sdb_script.proofs.MoveLines.{PassesAlters, moves_kept, text_moves}
use Rattle.sdb_script.proofs.OneLine.{is_single, json_single, json_may, may_name}
use Rattle.sdb_model.specs.Texts.{with_lf}

abbrev Lines : Type 0
Lines = List (List ℕ)

-- The JSON of a catalog describes the catalog, and its line keeps the limit; without tables there is none.
abbrev IsReadBack : List Table → Type 0
IsReadBack [] = Unit {0}
IsReadBack (t ∷ ts) = (length (schema_line (catalog_text (t ∷ ts))) ≤ most_line) × (catalog_in (catalog_text (t ∷ ts)) ≡ Ok (t ∷ ts))

---- lines and their LFs

first_back : (l rest : List ℕ) → is_single l ≡ true → lines_of (l ++ 10 ∷ rest) ≡ l ∷ lines_of rest
first_back [] rest h = refl
first_back (b ∷ bs) rest h =
    by_test (b == 10)
    (λ t. absurd (let k : (false && is_single bs) ≡ true = rw t at h in cc))
    (λ t. let k : is_single bs ≡ true = rw t at h in rw (t, first_back bs rest k) refl)

lines_back : (ls : Lines) → list_all is_single ls ≡ true → lines_of (flat_map with_lf ls) ≡ ls
lines_back [] h = refl
lines_back (l ∷ ls) h =
    ap lines_of (append_assoc l (codes "\n") (flat_map with_lf ls)) ∙ first_back l (flat_map with_lf ls) (and_first (is_single l) _ h)
    ∙ ap (λ (x : Lines). l ∷ x) (lines_back ls (and_second (is_single l) _ h))

single_more : (b : ℕ) (ls : Lines) → (b == 10) ≡ false → list_all is_single ls ≡ true → list_all is_single (onto_first b ls) ≡ true
single_more b [] t h = rw t refl
single_more b (l ∷ ls) t h = rw t h

-- no line of a text has an LF
lines_single : (text : List ℕ) → list_all is_single (lines_of text) ≡ true
lines_single [] = refl
lines_single (b ∷ bs) = by_test (b == 10) (λ t. rw t (lines_single bs)) (λ t. rw t (single_more b (lines_of bs) t (lines_single bs)))

---- the lines of a script that is printed

abbrev printed_lines : Script → Lines
printed_lines s = map place_line s.places ++ (schema_lines s.catalog ++ (flat_map client_lines s.clients ++ (run_lines true ++ map move_line s.moves)))

flat_of_map : {X : Type 0} (f : X → List ℕ) (xs : List X) → flat_map with_lf (map f xs) ≡ flat_map (λ x. with_lf (f x)) xs
flat_of_map f [] = refl
flat_of_map f (x ∷ xs) = ap (λ (y : List ℕ). with_lf (f x) ++ y) (flat_of_map f xs)

flat_of_clients : (cs : List ScriptClient) → flat_map with_lf (flat_map client_lines cs) ≡ flat_map client_text cs
flat_of_clients [] = refl
flat_of_clients (c ∷ cs) =
    flat_map-append with_lf (client_lines c) (flat_map client_lines cs)
    ∙ ap (λ (y : List ℕ). (with_lf (client_line c.name) ++ y) ++ flat_map with_lf (flat_map client_lines cs)) (flat_of_map text_line c.statements)
    ∙ ap (λ (y : List ℕ). client_text c ++ y) (flat_of_clients cs)

flat_of_schema : (ts : List Table) → flat_map with_lf (schema_lines ts) ≡ schema_text ts
flat_of_schema [] = refl
flat_of_schema (t ∷ ts) = append-nil (with_lf (schema_line (catalog_text (t ∷ ts))))

text_of_lines : (s : Script) → flat_map with_lf (printed_lines s) ≡ script_text_of s
text_of_lines s =
    let last = run_lines true ++ map move_line s.moves in
    let middle = flat_map client_lines s.clients ++ last in
    let behind = schema_lines s.catalog ++ middle in
    flat_map-append with_lf (map place_line s.places) behind ∙ ap (λ (x : List ℕ). x ++ flat_map with_lf behind) (flat_of_map place_line s.places)
    ∙ ap (λ (x : List ℕ). flat_map place_text s.places ++ x)
    (flat_map-append with_lf (schema_lines s.catalog) middle ∙ ap (λ (x : List ℕ). x ++ flat_map with_lf middle) (flat_of_schema s.catalog)
    ∙ ap (λ (x : List ℕ). schema_text s.catalog ++ x)
    (flat_map-append with_lf (flat_map client_lines s.clients) last ∙ ap (λ (x : List ℕ). x ++ flat_map with_lf last) (flat_of_clients s.clients)
    ∙ ap (λ (x : List ℕ). flat_map client_text s.clients ++ (codes "run\n" ++ x)) (flat_of_map move_line s.moves)))

---- each line is one of the text that was read, but for the schema's

swapped : (p : List ℕ → Bool) (a s t r : Lines) → list_all p (a ++ (s ++ r)) ≡ true → list_all p t ≡ true → list_all p (a ++ (t ++ r)) ≡ true
swapped p a s t r h k =
    let whole = sym (list_all-append p a (s ++ r)) ∙ h in
    let front = and_first (list_all p a) (list_all p (s ++ r)) whole in
    let behind = sym (list_all-append p s r) ∙ and_second (list_all p a) (list_all p (s ++ r)) whole in
    let rest = and_second (list_all p s) (list_all p r) behind in
    list_all-append p a (t ++ r) ∙ and_both (list_all p a) (list_all p (t ++ r)) front (list_all-append p t r ∙ and_both (list_all p t) (list_all p r) k rest)

abbrev has_tables : List Table → Bool
has_tables [] = false
has_tables (t ∷ ts) = true

schema_again : (ts : List Table) → IsReadBack ts → IsSchema (has_tables ts) ts (schema_lines ts)
schema_again [] h = (refl, refl)
schema_again (t ∷ ts) h = (catalog_text (t ∷ ts), refl, h.1)

-- JSON that describes a catalog is UTF-8
text_described : (json : List ℕ) (ts : List Table) → catalog_in json ≡ Ok ts → is_utf8 json ≡ true
text_described json ts h = by_test (is_utf8 json) (λ t. t) (λ t. absurd (let k : Err schema.NotJson ≡ Ok ts = rw t at h in cc))

word_utf8 : is_utf8 (codes "schema ") ≡ true
unfolding is_utf8 chars lib.Utf8.encode
word_utf8 = refl

schema_utf8 : (json : List ℕ) → is_utf8 json ≡ true → is_utf8 (schema_line json) ≡ true
schema_utf8 json h =
    let front : IsUtf8 (codes "schema ") = IsUtf8-from_is_utf8 (codes "schema ") word_utf8 in
    is_utf8-from_IsUtf8 (schema_line json) (IsUtf8-append (codes "schema ") json front (IsUtf8-from_is_utf8 json h))

schema_fits : (ts : List Table) → IsReadBack ts → list_all is_line (schema_lines ts) ≡ true
schema_fits [] h = refl
schema_fits (t ∷ ts) h =
    let json = catalog_text (t ∷ ts) in
    let short : nat_le (length (schema_line json)) most_line ≡ true = at_most_nat (length (schema_line json)) most_line h.0 in
    rw (short, schema_utf8 json (text_described json (t ∷ ts) h.1)) refl

schema_single : (ts : List Table) → IsReadBack ts → list_all is_single (schema_lines ts) ≡ true
schema_single [] h = refl
schema_single (t ∷ ts) h = rw (json_single (t ∷ ts) (json_may (catalog_text (t ∷ ts)) (t ∷ ts) h.1)) refl

-- the last of five parts in place of another
behind : (p : List ℕ → Bool) (a x y : Lines) → (list_all p x ≡ true → list_all p y ≡ true) → list_all p (a ++ x) ≡ true → list_all p (a ++ y) ≡ true
behind p a x y f h =
    let whole = sym (list_all-append p a x) ∙ h in
    list_all-append p a y ∙ and_both (list_all p a) (list_all p y) (and_first (list_all p a) (list_all p x) whole) (f (and_second (list_all p a) (list_all p x) whole))

-- the lines of the moves in place of others
respelled : (p : List ℕ → Bool) (a s c : Lines) (lines new : Lines) → (list_all p lines ≡ true → list_all p new ≡ true) → list_all p (a ++ (s ++ (c ++ (run_lines true ++ lines)))) ≡ true → list_all p (a ++ (s ++ (c ++ (run_lines true ++ new)))) ≡ true
respelled p a s c lines new f h =
    behind p a (s ++ (c ++ (run_lines true ++ lines))) (s ++ (c ++ (run_lines true ++ new)))
    (λ k. behind p s (c ++ (run_lines true ++ lines)) (c ++ (run_lines true ++ new))
    (λ l. behind p c (run_lines true ++ lines) (run_lines true ++ new) (λ m. behind p (run_lines true) lines new f m) l) k) h

-- A test that all lines pass, the new ones among them, the printed lines pass.
printed_pass : (p : List ℕ → Bool) (stores lines : Lines) (described : Bool) (s : Script) → (st : IsBegun stores lines (whole described s)) → PassesAlters p → list_all p (schema_lines s.catalog) ≡ true → list_all p lines ≡ true → list_all p (printed_lines s) ≡ true
printed_pass p stores lines described s st alters new h =
    let rest = flat_map client_lines s.clients ++ (run_lines true ++ st.move_lines) in
    let all : list_all p (map place_line s.places ++ (st.schema ++ rest)) ≡ true = subst (λ (x : Lines). list_all p x ≡ true) st.order h in
    respelled p (map place_line s.places) (schema_lines s.catalog) (flat_map client_lines s.clients) st.move_lines (map move_line s.moves)
    (moves_kept p (length s.clients) st.move_lines s.moves alters st.clients.few st.moves.0 st.moves.1 st.spelled)
    (swapped p (map place_line s.places) st.schema (schema_lines s.catalog) rest all new)

begun_again : (stores lines : Lines) (described : Bool) (s : Script) → IsBegun stores lines (whole described s) → IsReadBack s.catalog → IsBegun stores (printed_lines s) (whole (has_tables s.catalog) s)
begun_again stores lines described s st back = record {
  schema = schema_lines s.catalog;
  move_lines = map move_line s.moves;
  order = refl;
  fit = printed_pass is_line stores lines described s st alter_fits (schema_fits s.catalog back) st.fit;
  placed = st.placed;
  described = schema_again s.catalog back;
  clients = st.clients;
  moves = st.moves;
  spelled = text_moves (length s.clients) s.moves st.clients.few st.moves.0 st.moves.1;
}

single_again : (stores : Lines) (text : List ℕ) (described : Bool) (s : Script) → IsBegun stores (lines_of text) (whole described s) → IsReadBack s.catalog → list_all is_single (printed_lines s) ≡ true
single_again stores text described s st back = printed_pass is_single stores (lines_of text) described s st alter_single (schema_single s.catalog back) (lines_single text)

printed_again : (stores : Lines) (text : List ℕ) (s : Script) → IsScript stores text s → IsReadBack s.catalog → length (script_text_of s) ≤ most_bytes → IsScript stores (script_text_of s) s
printed_again stores text s is back small =
    let single = single_again stores text is.described s is.lines back in
    let lines : lines_of (script_text_of s) ≡ printed_lines s = ap lines_of (sym (text_of_lines s)) ∙ lines_back (printed_lines s) single in
    record {
      small = small;
      described = has_tables s.catalog;
      lines = subst (λ (x : Lines). IsBegun stores x (whole (has_tables s.catalog) s)) (sym lines) (begun_again stores (lines_of text) is.described s is.lines back);
    }

---- of a catalog that a text described

read_back : (ts : List Table) → list_all may_name ts ≡ true → is_catalog ts ≡ true → fits_line ts ≡ true → IsReadBack ts
read_back [] h c k = tt
read_back (t ∷ ts) h c k =
    let n = length (schema_line (catalog_text (t ∷ ts))) in
    (within n most_line (and_first (nat_le n most_line) true k), catalog_again (t ∷ ts) h c)
  where
    within : (n m : ℕ) → nat_le n m ≡ true → n ≤ m
    within n m h = grind (arith, nat_tests)

names_may : (described : Bool) (ts : List Table) (lines : Lines) → IsSchema described ts lines → list_all may_name ts ≡ true
names_may false ts lines h = ap (list_all may_name) h.1
names_may true ts lines h = json_may h.0 ts h.2

-- what is printed of a script that some text is
pub printed_back : (stores : Lines) (text : List ℕ) (s : Script) → IsScript stores text s → is_catalog s.catalog ≡ true → fits_line s.catalog ≡ true → length (script_text_of s) ≤ most_bytes → IsScript stores (script_text_of s) s
printed_back stores text s is c k small = printed_again stores text s is (read_back s.catalog (names_may is.described s.catalog is.lines.schema is.lines.described) c k) small

pub again_of : {E : Type 0} (result : Result (List ℕ) E) (s : Script) → is_catalog s.catalog ≡ true → IfOk result (λ t. t ≡ script_text_of s) → (stores : Lines) (text : List ℕ) → IsScript stores text s → fits_line s.catalog ≡ true → length (script_text_of s) ≤ most_bytes → IfOk result (λ t. IsScript stores t s)
again_of (Ok t) s c e stores text is k small = subst (λ (x : List ℕ). IsScript stores x s) (sym e) (printed_back stores text s is c k small)
again_of (Err x) s c e stores text is k small = tt
