-- Columns of a before image, as the record has them.
use Rattle.std.proofs.Common.{◌≡◌, ℕ, List, [], ◌∷◌, Bool, true, false, cond, refl, sym, ap, ◌∙◌, ◌||◌, Option, Some, None, Result, Ok, Err}
use Rattle.std.specs.Prelude.{find}
use Rattle.std.specs.Option.{option_map}
use Rattle.sdb_types.specs.declared.pair.Pair.{Pair}
use Rattle.sdb_types.specs.Columns.{column}
use Rattle.sdb_record.specs.declared.part.Part.{Part}
use Rattle.sdb_record.specs.declared.part.Part.TheVariants.{Own, Before}
use Rattle.sdb_record.specs.Names.{before_name, base_name, same_name}
use Rattle.sdb_record.specs.declared.meta.Meta.{Meta}
use Rattle.sdb_record.specs.Meta.{refuse, then_check, checked_columns, is_deleted, is_stray, is_early}
use Rattle.sdb_record.specs.Parts.{before_part}
use Rattle.sdb_record.specs.Inside.{columns_of, name_from, passes_name, first_within, first_of_part, named_from, meta_within, checked_within, is_stray_name, is_early_name}
use Rattle.sdb_record.proofs.NameLemmas.{base_name-before_name, base_name-is, same_name-true}

-- a column that keeps none of the base isn't one of its columns
not_kept : (text name : List ℕ) → base_name text ≡ None → same_name text (before_name name) ≡ false
not_kept text name h =
    elim (same_name text (before_name name)) as (λ b. same_name text (before_name name) ≡ b → b ≡ false) [
      | true ↦ λ q. let e = sym h ∙ ap base_name (same_name-true text (before_name name) q) ∙ base_name-before_name name in absurd (cc)
      | false ↦ λ q. refl
    ] refl

-- the values of two choices
pub chosen : (b : Bool) (x y : Pair) (o u : Option Pair) → x.value ≡ y.value → option_map (λ (p : Pair). p.value) o ≡ option_map (λ (p : Pair). p.value) u
    → option_map (λ (p : Pair). p.value) (cond b (Some x) o) ≡ option_map (λ (p : Pair). p.value) (cond b (Some y) u)
chosen true x y o u e f = ap Some e
chosen false x y o u e f = f

pub column-before_part : (ps : List Pair) (name : List ℕ) → column (before_part ps) name ≡ column ps (before_name name)
column-before_part [] name = refl
column-before_part (p ∷ ps) name =
    elim (base_name p.name) as (λ o. base_name p.name ≡ o → column (before_part (p ∷ ps)) name ≡ column (p ∷ ps) (before_name name)) [
      | None ↦ λ q. let n = not_kept p.name name q in simp (q, n) (column-before_part ps name)
      | Some n ↦ λ q. let e = base_name-is p.name n q in simp (e, base_name-before_name n) (chosen (same_name n name) _ p _ _ refl (column-before_part ps name))
    ] refl

pub column-columns_of : (part : Part) (ps : List Pair) (name : List ℕ) → column (columns_of part ps) name ≡ column ps (name_from part name)
column-columns_of Own ps name = refl
column-columns_of Before ps name = column-before_part ps name

---- the first column whose name passes a test

abbrev found_name : Option Pair → Option (List ℕ)
found_name o = option_map (λ p. p.name) o

abbrev kept_test : (List ℕ → Bool) → Pair → Bool
kept_test test p = passes_name test (base_name p.name)

named : (b : Bool) (x y : Pair) (o u : Option Pair) → before_name x.name ≡ y.name → option_map (λ (p : Pair). before_name p.name) o ≡ found_name u
    → option_map (λ (p : Pair). before_name p.name) (cond b (Some x) o) ≡ found_name (cond b (Some y) u)
named true x y o u e f = ap Some e
named false x y o u e f = f

find-before_part : (test : List ℕ → Bool) (ps : List Pair) → option_map (λ (p : Pair). before_name p.name) (find (λ p. test p.name) (before_part ps)) ≡ found_name (find (kept_test test) ps)
find-before_part test [] = refl
find-before_part test (p ∷ ps) =
    elim (base_name p.name) as (λ o. base_name p.name ≡ o → option_map (λ (x : Pair). before_name x.name) (find (λ x. test x.name) (before_part (p ∷ ps))) ≡ found_name (find (kept_test test) (p ∷ ps))) [
      | None ↦ λ q. simp q (find-before_part test ps)
      | Some n ↦ λ q. simp q (named (test n) _ p _ _ (sym (base_name-is p.name n q)) (find-before_part test ps))
    ] refl

pub first_within-is : (test : List ℕ → Bool) (part : Part) (ps : List Pair) → first_within test part ps ≡ first_of_part test part ps
first_within-is test Own ps = refl
first_within-is test Before ps = find-before_part test ps

---- the first eight checks of a part

refused_within : (part : Part) (o : Option Pair) (r : Result Meta (List ℕ)) (text : List ℕ) → option_map (λ (p : Pair). name_from part p.name) o ≡ Some text → named_from part (refuse o r) ≡ Err text
refused_within part None r text h = absurd (cc)
refused_within part (Some p) r text h = let e : name_from part p.name ≡ text = cc in ap Err e

goes_on_within : (part : Part) (o : Option Pair) (r : Result Meta (List ℕ)) → option_map (λ (p : Pair). name_from part p.name) o ≡ None → named_from part (refuse o r) ≡ named_from part r
goes_on_within part None r h = refl
goes_on_within part (Some p) r h = absurd (cc)

after_meta : (part : Part) (r : Result Meta (List ℕ)) (meta : Meta) (next : Meta → Result Meta (List ℕ)) → named_from part r ≡ Ok meta → named_from part (then_check r next) ≡ named_from part (next meta)
after_meta part (Ok x) meta next h = let e : x ≡ meta = cc in ap (λ m. named_from part (next m)) e
after_meta part (Err name) meta next h = absurd (cc)

pub bad_meta : (part : Part) (r : Result Meta (List ℕ)) (text : List ℕ) (next : Meta → Result Meta (List ℕ)) → named_from part r ≡ Err text → named_from part (then_check r next) ≡ Err text
bad_meta part (Ok x) text next h = absurd (cc)
bad_meta part (Err name) text next h = h

abbrev stray_test : Meta → List ℕ → Bool
stray_test meta = is_stray_name (is_deleted meta.state || meta.tombstone)

module _ (part : Part) (ps : List Pair) (meta : Meta) (read : meta_within part ps ≡ Ok meta) where
  pub stray_column : (text : List ℕ) → first_of_part (stray_test meta) part ps ≡ Some text → checked_within part ps ≡ Err text
  stray_column text h =
      after_meta part _ meta (checked_columns (columns_of part ps)) read ∙ refused_within part (find (is_stray meta.state meta.tombstone) (columns_of part ps)) _ text (first_within-is (stray_test meta) part ps ∙ h)

  pub early_column : (text : List ℕ) → first_of_part (stray_test meta) part ps ≡ None → first_of_part (is_early_name meta.state) part ps ≡ Some text → checked_within part ps ≡ Err text
  early_column text n h =
      after_meta part _ meta (checked_columns (columns_of part ps)) read ∙ goes_on_within part (find (is_stray meta.state meta.tombstone) (columns_of part ps)) _ (first_within-is (stray_test meta) part ps ∙ n)
      ∙ refused_within part (find (is_early meta.state) (columns_of part ps)) _ text (first_within-is (is_early_name meta.state) part ps ∙ h)

  pub fine_columns : first_of_part (stray_test meta) part ps ≡ None → first_of_part (is_early_name meta.state) part ps ≡ None → checked_within part ps ≡ Ok meta
  fine_columns n h =
      after_meta part _ meta (checked_columns (columns_of part ps)) read ∙ goes_on_within part (find (is_stray meta.state meta.tombstone) (columns_of part ps)) _ (first_within-is (stray_test meta) part ps ∙ n)
      ∙ goes_on_within part (find (is_early meta.state) (columns_of part ps)) _ (first_within-is (is_early_name meta.state) part ps ∙ h)
