-- Two texts with one byte between them.
use Rattle.std.proofs.Common.{◌≡◌, ℕ, List, ◌∷◌, ◌++◌, length, true, false, not, ◌&&◌, ◌==◌, cond, refl, sym, ap, ◌∙◌, Some, None, arith}
use Rattle.std.specs.Prelude.{nat_lt}
use Rattle.std.specs.List.{before_first, after_first, position_or_len}
use Rattle.std.proofs.lemmas.Bool.Decides.{nat_tests}
use Rattle.sdb_types.proofs.Public.{all_lack, and_both, around_behind, at_byte, no_dot, none_some, parts, some_is}
use Rattle.sdb_types.specs.Identifier.{is_part}
use Rattle.sdb_types.specs.declared.key.TableName.{TableName}
use Rattle.sdb_record.specs.Parts.{is_column_name}
use Rattle.sdb_words.specs.Names.{IsTable}
use Rattle.sdb_types.specs.Order.{table_text}
use Rattle.sdb_types.specs.NameText.{around}
use Rattle.sdb_record.proofs.Public.{name_of_column}

abbrev pub Halves : Type 0
Halves = List ℕ × List ℕ

pub no_equals : (b : ℕ) → is_part b ≡ true → not (b == 61) ≡ true
no_equals b h = grind (arith, nat_tests)

-- a text that has the byte is what comes before it, the byte, and what comes after it
pub joined : (c : ℕ) (text : List ℕ) (p : Halves) → around c text ≡ Some p → text ≡ p.0 ++ c ∷ p.1
joined c text p h =
    let found : Halves = (before_first (λ b. b == c) text, after_first (λ b. b == c) text) in
    elim (nat_lt (position_or_len (λ b. b == c) text) (length text)) as (λ b. nat_lt (position_or_len (λ b. b == c) text) (length text) ≡ b → cond b (Some found) None ≡ Some p → text ≡ p.0 ++ c ∷ p.1) [
      | true ↦ λ q k. at_byte c text q ∙ ap (λ (r : Halves). r.0 ++ c ∷ r.1) (some_is found p k)
      | false ↦ λ q k. none_some p k
    ] refl h

-- a name, a byte that no name has, and a text come apart into the name and the text
pub parted : (c : ℕ) → (c == c) ≡ true → ((b : ℕ) → is_part b ≡ true → not (b == c) ≡ true) → (name rest text : List ℕ) → is_column_name name ≡ true → text ≡ name ++ c ∷ rest → around c text ≡ Some (name, rest)
parted c same apart name rest text h e =
    ap (around c) e ∙ around_behind c name rest same (all_lack c apart name (parts name (name_of_column name h)))

---- tables

pub table_parted : (t : TableName) (text : List ℕ) → IsTable t → text ≡ table_text t → around 46 text ≡ Some (t.ns, t.table)
table_parted t text h e = parted 46 refl no_dot t.ns t.table text h.0 e

-- a word without a dot is no table's
pub undotted : (word : List ℕ) → around 46 word ≡ None → (t : TableName) → IsTable t → word ≡ table_text t → ⊥
undotted word h t both e = none_some (t.ns, t.table) (sym h ∙ table_parted t word both e)

-- nor is one whose halves aren't names
pub unnamed : (word : List ℕ) (p : Halves) → around 46 word ≡ Some p → (is_column_name p.0 && is_column_name p.1) ≡ false → (t : TableName) → IsTable t → word ≡ table_text t → ⊥
unnamed word p h n t both e =
    let same : p ≡ (t.ns, t.table) = some_is p (t.ns, t.table) (sym h ∙ table_parted t word both e) in
    let named : (is_column_name p.0 && is_column_name p.1) ≡ true = ap (λ (r : Halves). is_column_name r.0 && is_column_name r.1) same ∙ and_both (is_column_name t.ns) (is_column_name t.table) both.0 both.1 in
    let bad : false ≡ true = sym n ∙ named in
    cc
