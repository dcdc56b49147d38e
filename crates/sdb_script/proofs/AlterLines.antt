-- A line that adds a column is read as that; in its one spelling it is a line, and has no LF.
use Rattle.std.proofs.Common.{◌≡◌, ℕ, ◌≤◌, zero, suc, Bool, true, not, ◌&&◌, ◌==◌, List, [], ◌∷◌, ◌++◌, length, Some, None, refl, ap, subst, ◌∙◌, arith, cond, codes, IsUtf8}
use Rattle.std.specs.Prelude.{nat_le, nat_lt}
use Rattle.std.specs.List.{list_all, position_or_len}
use Rattle.std.specs.Option.{option_and_then, option_map}
use Rattle.std.specs.Str.{is_utf8, IsAscii}
use Rattle.std.proofs.lemmas.Bool.Decides.{nat_tests}
use Rattle.std.proofs.lemmas.List.{length-append}
use Rattle.std.proofs.lemmas.List.Folds.{list_all-append}
use Rattle.std.proofs.lemmas.Str.{IsUtf8-append, IsUtf8-from_ascii, is_utf8-from_IsUtf8}
use Rattle.json.proofs.Printed.Utf8.{IsUtf8-are_ascii}
use Rattle.sdb_types.specs.Identifier.{is_part}
use Rattle.sdb_types.specs.NameText.{around}
use Rattle.sdb_types.specs.Order.{table_text}
use Rattle.sdb_codec.proofs.Public.{name_utf8}
use Rattle.sdb_types.proofs.Public.{all_lack, and_both, and_first, and_second, around_behind, at_byte, at_most_nat, by_test, lacks, no_dot, part_small, parts, some_is}
use Rattle.sdb_record.proofs.Public.{name_of_column}
use Rattle.sdb_schema.specs.Kinds.{kind_text}
use Rattle.sdb_schema.specs.declared.table.Kind.TheVariants as kind
use Rattle.sdb_loader.specs.Words.{kind_named}
use Rattle.sdb_model.specs.Form.{is_client_name}
use Rattle.sdb_model.specs.declared.script.Act.TheVariants as act
use Rattle.sdb_model.specs.declared.script.Move.TheVariants as move
use Rattle.sdb_script.specs.Types.{Kind, Move, TableName}
use Rattle.sdb_script.specs.Lines.{IsMoveText, alter_line, are_names, is_line, is_move, most_line}
use Rattle.sdb_script.specs.Reading.{alter_in, alter_of, column_of}
use Rattle.sdb_script.proofs.CatalogBack.{kind_utf8}
use Rattle.sdb_script.proofs.Numerals.{around_is, part_no_space}
use Rattle.sdb_script.proofs.OneLine.{column_single, is_single}
use Rattle.sdb_script.proofs.Pieces.{bind_is, map_is, no_some}

---- what is read is there

dot_is : (text : List ℕ) (w : List ℕ × List ℕ) → around 46 text ≡ Some w → text ≡ w.0 ++ 46 ∷ w.1
dot_is text w h =
    by_test (nat_lt (position_or_len (λ b. b == 46) text) (length text))
    (λ t. subst (λ (x : List ℕ × List ℕ). text ≡ x.0 ++ 46 ∷ x.1) (some_is _ w (rw t at h)) (at_byte 46 text t))
    (λ t. no_some w (rw t at h))

pub alter_is : (n : ℕ) (line words : List ℕ) (m : Move) → line ≡ codes "alter " ++ words → alter_in words ≡ Some m → IsMoveText line m × (is_move n m ≡ true)
alter_is n line words m e h =
    let a = bind_is (λ (w : List ℕ × List ℕ). option_and_then (column_of w.0) (around 32 w.1)) (around 32 words) m h in
    let b = bind_is (column_of a.0.0) (around 32 a.0.1) m a.2 in
    let c = bind_is (λ (t : List ℕ × List ℕ). alter_of t b.0.0 b.0.1) (around 46 a.0.0) m b.2 in
    let table : TableName = record { ns = c.0.0; table = c.0.1 } in
    let made : Kind → Move = λ k. move.Act (act.Alter table b.0.0 k) in
    let whole : line ≡ alter_line table b.0.0 b.0.1 =
    e ∙ ap (λ (x : List ℕ). codes "alter " ++ x) (around_is words a.0 a.1) ∙ ap (λ (x : List ℕ). codes "alter " ++ (a.0.0 ++ 32 ∷ x)) (around_is a.0.1 b.0 b.1)
    ∙ ap (λ (x : List ℕ). codes "alter " ++ (x ++ 32 ∷ (b.0.0 ++ 32 ∷ b.0.1))) (dot_is a.0.0 c.0 c.1) in
    by_test (are_names c.0.0 c.0.1 b.0.0)
    (λ t.
    let d = map_is made (kind_named b.0.1) m (rw t at c.2) in
    subst (λ (x : Move). IsMoveText line x × (is_move n x ≡ true)) {x = made d.0} d.2 ((b.0.1, whole, d.1), t))
    (λ t. no_some m (rw t at c.2))

---- what is there is read

parts_of : (name : List ℕ) → is_client_name name ≡ true → list_all is_part name ≡ true
parts_of name h = parts name (name_of_column name h)

spaceless : (name : List ℕ) → is_client_name name ≡ true → lacks 32 name ≡ true
spaceless name h = all_lack 32 (λ b k. ap not (part_no_space b k)) name (parts_of name h)

ns_of : (t : TableName) (c : List ℕ) → are_names t.ns t.table c ≡ true → is_client_name t.ns ≡ true
ns_of t c h = and_first (is_client_name t.ns) (is_client_name t.table && is_client_name c) h

table_of : (t : TableName) (c : List ℕ) → are_names t.ns t.table c ≡ true → is_client_name t.table ≡ true
table_of t c h = and_first (is_client_name t.table) (is_client_name c) (and_second (is_client_name t.ns) (is_client_name t.table && is_client_name c) h)

column_name : (t : TableName) (c : List ℕ) → are_names t.ns t.table c ≡ true → is_client_name c ≡ true
column_name t c h = and_second (is_client_name t.table) (is_client_name c) (and_second (is_client_name t.ns) (is_client_name t.table && is_client_name c) h)

-- each byte of two texts with a byte between them
between : (p : ℕ → Bool) (xs ys : List ℕ) (b : ℕ) → list_all p xs ≡ true → p b ≡ true → list_all p ys ≡ true → list_all p (xs ++ b ∷ ys) ≡ true
between p xs ys b h m k = list_all-append p xs (b ∷ ys) ∙ and_both (list_all p xs) (p b && list_all p ys) h (and_both (p b) (list_all p ys) m k)

table_spaceless : (t : TableName) (c : List ℕ) → are_names t.ns t.table c ≡ true → lacks 32 (table_text t) ≡ true
table_spaceless t c h = between (λ b. not (b == 32)) t.ns t.table 46 (spaceless t.ns (ns_of t c h)) refl (spaceless t.table (table_of t c h))

pub alter_again : (t : TableName) (c word : List ℕ) (k : Kind) → are_names t.ns t.table c ≡ true → kind_named word ≡ Some k → alter_in (table_text t ++ 32 ∷ (c ++ 32 ∷ word)) ≡ Some (move.Act (act.Alter t c k))
alter_again t c word k h e =
    let first = around_behind 32 (table_text t) (c ++ 32 ∷ word) refl (table_spaceless t c h) in
    let second = around_behind 32 c word refl (spaceless c (column_name t c h)) in
    let dot = around_behind 46 t.ns t.table refl (all_lack 46 no_dot t.ns (parts_of t.ns (ns_of t c h))) in
    ap (option_and_then (λ (w : List ℕ × List ℕ). option_and_then (column_of w.0) (around 32 w.1))) first
    ∙ ap (option_and_then (column_of (table_text t))) second
    ∙ ap (option_and_then (λ (x : List ℕ × List ℕ). alter_of x c word)) dot
    ∙ ap (λ (b : Bool). cond b (option_map (λ (x : Kind). move.Act (act.Alter t c x)) (kind_named word)) None) h
    ∙ ap (option_map (λ (x : Kind). move.Act (act.Alter t c x))) e

---- the one spelling

kind_single : (k : Kind) → is_single (kind_text k) ≡ true
kind_single kind.Boolean = refl
kind_single kind.Int = refl
kind_single kind.BigInt = refl
kind_single kind.Text = refl
kind_single kind.Blob = refl

pub alter_single : (t : TableName) (c : List ℕ) (k : Kind) → are_names t.ns t.table c ≡ true → is_single (alter_line t c (kind_text k)) ≡ true
alter_single t c k h =
    let last = between (λ b. not (b == 10)) c (kind_text k) 32 (column_single c (column_name t c h)) refl (kind_single k) in
    between (λ b. not (b == 10)) (table_text t) (c ++ 32 ∷ kind_text k) 32
    (between (λ b. not (b == 10)) t.ns t.table 46 (column_single t.ns (ns_of t c h)) refl (column_single t.table (table_of t c h))) refl last

-- two texts with a byte of ASCII between them
joined_utf8 : (xs ys : List ℕ) (b : ℕ) → IsUtf8 xs → IsUtf8 (b ∷ []) → IsUtf8 ys → IsUtf8 (xs ++ b ∷ ys)
joined_utf8 xs ys b h m k = IsUtf8-append xs (b ∷ ys) h (IsUtf8-append (b ∷ []) ys m k)

alter_utf8 : (t : TableName) (c : List ℕ) (k : Kind) → are_names t.ns t.table c ≡ true → is_utf8 (alter_line t c (kind_text k)) ≡ true
alter_utf8 t c k h =
    let space = IsUtf8-are_ascii (32 ∷ []) refl in
    let table = joined_utf8 t.ns t.table 46 (name_utf8 t.ns (name_of_column t.ns (ns_of t c h))) (IsUtf8-are_ascii (46 ∷ []) refl) (name_utf8 t.table (name_of_column t.table (table_of t c h))) in
    let last = joined_utf8 c (kind_text k) 32 (name_utf8 c (name_of_column c (column_name t c h))) space (kind_utf8 k) in
    is_utf8-from_IsUtf8 (alter_line t c (kind_text k)) (IsUtf8-append (codes "alter ") _ (IsUtf8-are_ascii (codes "alter ") refl) (joined_utf8 (table_text t) (c ++ 32 ∷ kind_text k) 32 table space last))

kind_short : (k : Kind) → length (kind_text k) ≤ 7
kind_short kind.Boolean = omega arith
kind_short kind.Int = omega arith
kind_short kind.BigInt = omega arith
kind_short kind.Text = omega arith
kind_short kind.Blob = omega arith

name_short : (name : List ℕ) → is_client_name name ≡ true → length name ≤ 64
name_short name h = let k = and_first (nat_le (length name) 64) _ h in grind (arith, nat_tests)

alter_short : (t : TableName) (c : List ℕ) (k : Kind) → are_names t.ns t.table c ≡ true → length (alter_line t c (kind_text k)) ≤ most_line
alter_short t c k h =
    let ns = name_short t.ns (ns_of t c h) in
    let table = name_short t.table (table_of t c h) in
    let column = name_short c (column_name t c h) in
    let word = kind_short k in
    omega (arith, ns, table, column, word, length-append t.ns (46 ∷ t.table), length-append c (32 ∷ kind_text k), length-append (table_text t) (32 ∷ (c ++ 32 ∷ kind_text k)))

pub alter_fits : (t : TableName) (c : List ℕ) (k : Kind) → are_names t.ns t.table c ≡ true → is_line (alter_line t c (kind_text k)) ≡ true
alter_fits t c k h =
    let line = alter_line t c (kind_text k) in
    and_both (nat_le (length line) most_line) (is_utf8 line) (at_most_nat (length line) most_line (alter_short t c k h)) (alter_utf8 t c k h)
