-- The parser takes the words of each command, and reads them.
use Rattle.std.proofs.Common.{◌≡◌, ◌∙◌, ℕ, ◌<◌, ◌≤◌, ◌^◌, List, [], ◌∷◌, ◌++◌, Bool, true, false, ◌==◌, refl, sym, subst, ap, arith, append-nil, codes, decimal, drop, length, map, take, ◌-◌, Option, Some, None}
use Rattle.std.specs.Prelude.{if◌then◌else◌, nat_le, All}
use Rattle.std.specs.Char.{digit_value, to_ascii_lowercase}
use Rattle.std.specs.List.{list_all}
use Rattle.std.specs.Str.Parse.{AllDigits}
use Rattle.std.proofs.lemmas.Bool.Decides.{nat_tests}
use Rattle.std.proofs.lemmas.Fmt.{decimal_is_IsNumeral}
use Rattle.std.proofs.lemmas.List.Elements.{All-head, All-tail}
use Rattle.std.proofs.lemmas.Slice.Eq.{bytes_eq-Decides}
use Rattle.sdb_types.specs.Identifier.{is_identifier, is_name, is_part, is_start}
use Rattle.sdb_types.specs.declared.key.TableName.{TableName}
use Rattle.sdb_types.proofs.Public.{and_both, and_first, and_second, by_test, false_true, none_some, take_all}
use Rattle.sdb_record.specs.Parts.{is_column_name}
use Rattle.sdb_schema.specs.declared.table.Kind.{Kind}
use Rattle.sdb_schema.specs.declared.table.Kind.TheVariants as kinds
use Rattle.sdb_loader.specs.Words.{is_spelled, kind_named}
use Rattle.sdb_types.specs.declared.place.Place.{Place}
use Rattle.clap.specs.Lexer.{usize_max}
use Rattle.clap.specs.Simple.{subcommand_of}
use Rattle.clap.specs.Walk.{Row, Text}
use Rattle.clap.specs.Faults.{fault_of}
use Rattle.sdb_words.specs.declared.command.Command.{Command}
use Rattle.sdb_words.specs.declared.command.Command.TheVariants as command
use Rattle.sdb_data.specs.declared.fault.Mode.{Mode}
use Rattle.sdb_data.specs.declared.fault.Mode.TheVariants as mode
use Rattle.sdb_words.specs.Commands.{AreWordsOf, mode_text}
use Rattle.sdb_words.specs.Names.{IsTable}
use Rattle.sdb_types.specs.Order.{table_text}
use Rattle.sdb_words.specs.Places.{place_text, IsPlace}
use Rattle.sdb_words.specs.Parser.{are_undashed, is_undashed, leaves, program}
use Rattle.sdb_words.proofs.ParsedWords.{replay_sub, sql_sub, audit_sub, bench_sub, export_sub, retire_sub, load_sub, alter_sub, schema_sub, any_taken}
use Rattle.sdb_words.proofs.Reading.{fits_sub, none_fits, one_fits, two_fits, three_fits}
use Rattle.sdb_words.proofs.Forms.{name_of, named}

---- no word of a command begins with `-`

not_minus : (x : ℕ) → is_start x ≡ true → (x == 45) ≡ false
not_minus x h = grind (arith, nat_tests)

digit_small : (x : ℕ) → x ≡ 45 → digit_value x < 10 → ⊥
digit_small x e h = let bad : digit_value 45 < 10 = rw e at h in omega arith

not_minus_digit : (x : ℕ) → digit_value x < 10 → (x == 45) ≡ false
not_minus_digit x h =
    by_test (x == 45)
    (λ e. let same : x ≡ 45 = grind (arith, nat_tests) in absurd (digit_small x same h))
    (λ e. e)

first_undashed : (x : ℕ) (xs : Text) → (x == 45) ≡ false → is_undashed (x ∷ xs) ≡ true
first_undashed x xs h = rw h refl

identifier_undashed : (ns more : Text) → is_identifier ns ≡ true → is_undashed (ns ++ more) ≡ true
identifier_undashed [] more h = false_true h
identifier_undashed (x ∷ xs) more h = first_undashed x (xs ++ more) (not_minus x (and_first (is_start x) (list_all is_part xs) h))

column_undashed : (ns more : Text) → is_column_name ns ≡ true → is_undashed (ns ++ more) ≡ true
column_undashed ns more h = identifier_undashed ns more (and_second (nat_le (length ns) 64) (is_identifier ns) h)

alone_undashed : (ns : Text) → is_identifier ns ≡ true → is_undashed ns ≡ true
alone_undashed ns h = subst (λ (x : Text). is_undashed x ≡ true) (append-nil ns) (identifier_undashed ns [] h)

name_undashed : (ns : Text) → is_name ns ≡ true → is_undashed ns ≡ true
name_undashed ns h = alone_undashed ns (and_second (nat_le (length ns) 71) (is_identifier ns) h)

digits_undashed : (ds : Text) → AllDigits 10 ds → is_undashed ds ≡ true
digits_undashed [] h = refl
digits_undashed (x ∷ xs) h = first_undashed x xs (not_minus_digit x h.0)

number_undashed : (n : ℕ) → n < 2 ^ 64 → is_undashed (decimal n) ≡ true
number_undashed n h = digits_undashed (decimal n) (decimal_is_IsNumeral n h).0.1

mode_undashed : (m : Mode) → is_undashed (mode_text m) ≡ true
mode_undashed mode.Insert = refl
mode_undashed mode.Update = refl
mode_undashed mode.Upsert = refl

table_undashed : (t : TableName) → IsTable t → is_undashed (table_text t) ≡ true
table_undashed t h = column_undashed t.ns (46 ∷ t.table) h.0

lower_dashed : (x : ℕ) (xs : Text) → (x == 45) ≡ true → is_undashed (map to_ascii_lowercase (x ∷ xs)) ≡ true → is_undashed (x ∷ xs) ≡ true
lower_dashed x xs e h =
    let same : x ≡ 45 = grind (arith, nat_tests) in
    let bad : false ≡ true = subst (λ (y : ℕ). is_undashed (map to_ascii_lowercase (y ∷ xs)) ≡ true) same h in false_true bad

lower_undashed : (text : Text) → is_undashed (map to_ascii_lowercase text) ≡ true → is_undashed text ≡ true
lower_undashed [] h = refl
lower_undashed (x ∷ xs) h = by_test (x == 45) (λ e. lower_dashed x xs e h) (λ e. first_undashed x xs e)

-- a word that is this one in any case
spelled_undashed : (word text : Text) → is_undashed (map to_ascii_lowercase word) ≡ true → is_spelled word text ≡ true → is_undashed text ≡ true
spelled_undashed word text u h =
    lower_undashed text (subst (λ (x : Text). is_undashed x ≡ true) (sym ((bytes_eq-Decides (map to_ascii_lowercase text) (map to_ascii_lowercase word)).0 h)) u)

pick : {X G : Type 0} (b : Bool) (x : X) (o : Option X) (y : X) → (if b then Some x else o) ≡ Some y → (b ≡ true → G) → (o ≡ Some y → G) → G
pick true x o y h first later = first refl
pick false x o y h first later = later h

kind_undashed : (text : Text) (k : Kind) → kind_named text ≡ Some k → is_undashed text ≡ true
unfolding kind_named
kind_undashed text k h =
    pick (is_spelled (codes "BOOLEAN") text) kinds.Boolean _ k h (spelled_undashed (codes "BOOLEAN") text refl) (λ h1.
    pick (is_spelled (codes "INT") text) kinds.Int _ k h1 (spelled_undashed (codes "INT") text refl) (λ h2.
    pick (is_spelled (codes "BIGINT") text) kinds.BigInt _ k h2 (spelled_undashed (codes "BIGINT") text refl) (λ h3.
    pick (is_spelled (codes "TEXT") text) kinds.Text _ k h3 (spelled_undashed (codes "TEXT") text refl) (λ h4.
    pick (is_spelled (codes "BLOB") text) kinds.Blob _ k h4 (spelled_undashed (codes "BLOB") text refl) (λ h5. none_some k h5)))))

places_undashed : (stores : List Text) (ps : List Place) → All (IsPlace stores) ps → are_undashed (map place_text ps) ≡ true
places_undashed stores [] h = refl
places_undashed stores (p ∷ ps) h =
    and_both (is_undashed (place_text p)) (are_undashed (map place_text ps))
    (column_undashed p.ns (61 ∷ p.store) (All-head (IsPlace stores) p ps h).named)
    (places_undashed stores ps (All-tail (IsPlace stores) p ps h))

---- they are accepted

-- what the parser makes of the words of a command
pub record IsFitting (words : List Text) : Type 0 where
  pub undashed : are_undashed words ≡ true
  pub accepted : fault_of program words ≡ []

one_undashed : (a : Text) → is_undashed a ≡ true → are_undashed (a ∷ []) ≡ true
one_undashed a u = and_both (is_undashed a) true u refl

two_undashed : (a b : Text) → is_undashed a ≡ true → is_undashed b ≡ true → are_undashed (a ∷ b ∷ []) ≡ true
two_undashed a b u v = and_both (is_undashed a) (are_undashed (b ∷ [])) u (one_undashed b v)

three_undashed : (a b c : Text) → is_undashed a ≡ true → is_undashed b ≡ true → is_undashed c ≡ true → are_undashed (a ∷ b ∷ c ∷ []) ≡ true
three_undashed a b c u v w = and_both (is_undashed a) (are_undashed (b ∷ c ∷ [])) u (two_undashed b c v w)

places_fit : (stores : List Text) (ps : List Place) → All (IsPlace stores) ps → length (map place_text ps) ≤ usize_max → IsFitting (codes "schema" ∷ map place_text ps)
places_fit stores ps h small =
    let u = places_undashed stores ps h in
    record { undashed = u; accepted = fits_sub (codes "schema") (leaves (codes "schema")) schema_sub (map place_text ps) (any_taken (map place_text ps) u small) }

shorter : (w : Text) (ws words : List Text) → words ≡ w ∷ ws → length words ≤ usize_max → length ws ≤ usize_max
shorter w ws words e h = let k : length words ≡ length (w ∷ ws) = ap length e in omega (arith, k, h)

-- the parser takes the words of each command, as many as there can be
pub fits : (stores : List Text) (c : Command) (words : List Text) → length words ≤ usize_max → AreWordsOf stores c words → IsFitting words
fits stores command.Replay words small h = subst IsFitting (sym h) (record { undashed = refl; accepted = none_fits (codes "replay") replay_sub })
fits stores command.Sql words small h = subst IsFitting (sym h) (record { undashed = refl; accepted = none_fits (codes "sql") sql_sub })
fits stores command.Audit words small h = subst IsFitting (sym h) (record { undashed = refl; accepted = none_fits (codes "audit") audit_sub })
fits stores (command.Bench n) words small h =
    let u = number_undashed n (omega (arith, h.1.1)) in
    subst IsFitting (sym h.0) (record { undashed = one_undashed (decimal n) u; accepted = one_fits (codes "bench") bench_sub (decimal n) u })
fits stores (command.Export t) words small h =
    let u = table_undashed t h.1 in
    subst IsFitting (sym h.0) (record { undashed = one_undashed (table_text t) u; accepted = one_fits (codes "export") export_sub (table_text t) u })
fits stores (command.Retire from to) words small h =
    let u = name_undashed from h.1.from_named in
    let v = name_undashed to h.1.to_named in
    subst IsFitting (sym h.0) (record { undashed = two_undashed from to u v; accepted = two_fits (codes "retire") retire_sub from to u v })
fits stores (command.Load t m n) words small h =
    let u = table_undashed t h.1 in
    let v = mode_undashed m in
    let w = number_undashed n (omega (arith, h.2.1)) in
    subst IsFitting (sym h.0) (record {
      undashed = three_undashed (table_text t) (mode_text m) (decimal n) u v w;
      accepted = three_fits (codes "load") load_sub (table_text t) (mode_text m) (decimal n) u v w;
    })
fits stores (command.Alter t column kind) words small h =
    let u = table_undashed t h.2 in
    let v = alone_undashed column (and_second (nat_le (length column) 64) (is_identifier column) h.3) in
    let w = kind_undashed h.0 kind h.4 in
    subst IsFitting (sym h.1) (record {
      undashed = three_undashed (table_text t) column h.0 u v w;
      accepted = three_fits (codes "alter") alter_sub (table_text t) column h.0 u v w;
    })
fits stores (command.Schema ps) words small h =
    subst IsFitting (sym h.0) (places_fit stores ps h.1.each (shorter (codes "schema") (map place_text ps) words h.0 small))

---- they are read

reads : (c : Command) (rest : List Text) → (rows : List Row) × (subcommand_of program (name_of c ∷ rest) ≡ Some (name_of c, rows))
reads command.Replay rest = (_, replay_sub.read rest)
reads (command.Bench n) rest = (_, bench_sub.read rest)
reads (command.Schema ps) rest = (_, schema_sub.read rest)
reads command.Sql rest = (_, sql_sub.read rest)
reads (command.Load t m n) rest = (_, load_sub.read rest)
reads (command.Export t) rest = (_, export_sub.read rest)
reads (command.Retire from to) rest = (_, retire_sub.read rest)
reads (command.Alter t column kind) rest = (_, alter_sub.read rest)
reads command.Audit rest = (_, audit_sub.read rest)

-- the words of a command name a subcommand
pub is_read : (stores : List Text) (c : Command) (words : List Text) → AreWordsOf stores c words → subcommand_of program words ≡ None → ⊥
is_read stores c words h none =
    let n = named stores c words h in
    let r = reads c n.0 in
    none_some (name_of c, r.0) (sym none ∙ ap (subcommand_of program) n.1 ∙ r.1)

-- all words but the first
pub first_and_rest : {A B : Type 0} (f : A → B) (xs : List A) (y : B) (ys : List B) → map f xs ≡ y ∷ ys → map f xs ≡ y ∷ map f (take (length xs - 1) (drop 1 xs))
first_and_rest f [] y ys h = absurd cc
first_and_rest f (x ∷ xs) y ys h =
    let e : f x ≡ y = cc in
    let all : take (length (x ∷ xs) - 1) xs ≡ xs = take_all xs (length (x ∷ xs) - 1) (omega arith) in
    ap (λ z. z ∷ map f xs) e ∙ ap (λ zs. y ∷ map f zs) (sym all)
