-- The line at the start of a text.
use Rattle.std.proofs.Common.{◌≡◌, ℕ, suc, ◌+◌, true, ◌==◌, List, [], ◌∷◌, ◌++◌, length, take, drop, Some, refl, sym, ap, subst, ◌∙◌, append_assoc, arith}
use Rattle.std.specs.Prelude.{codes}
use Rattle.std.specs.List.{prefix_len}
use Rattle.std.proofs.lemmas.Bool.{eqb-true}
use Rattle.std.proofs.lemmas.List.{take_at, drop_at}
use Rattle.std.proofs.lemmas.Option.{same_Some}
use Rattle.std.proofs.Common.{take-append-drop}
use Rattle.sdb_model.specs.Plain.{is_no_lf, is_one_line}
use Rattle.sdb_report.proofs.WordLaws.{front_again}
use Rattle.sdb_report.specs.Reading.{behind_lf, cut_line}
use Rattle.sdb_types.proofs.Public.{by_test, front_passes}

-- what a cut says
pub record IsCut (bytes : List ℕ) (cut : List ℕ × List ℕ) : Type 0 where
  pub parts : bytes ≡ (cut.0 ++ codes "\n") ++ cut.1
  pub line : is_one_line cut.0 ≡ true

next_is_lf : (bytes : List ℕ) (b : ℕ) (rest : List ℕ) → drop (prefix_len is_no_lf bytes) bytes ≡ b ∷ rest → b ≡ 10
next_is_lf [] b rest h = absurd cc
next_is_lf (c ∷ cs) b rest h =
    by_test (c == 10)
    (λ q. let k : c ∷ cs ≡ b ∷ rest = rw q at h in let same : c ≡ b = cc in sym same ∙ eqb-true c 10 q)
    (λ q. let one : 1 + prefix_len is_no_lf cs ≡ suc (prefix_len is_no_lf cs) = omega arith in let k : drop (prefix_len is_no_lf cs) cs ≡ b ∷ rest = rw (q, one) at h in next_is_lf cs b rest k)

pub cut_is : (bytes : List ℕ) (cut : List ℕ × List ℕ) → cut_line bytes ≡ Some cut → IsCut bytes cut
cut_is bytes cut h =
    let n : ℕ = prefix_len is_no_lf bytes in
    elim (drop n bytes) as (λ d. drop n bytes ≡ d → behind_lf (take n bytes) d ≡ Some cut → IsCut bytes cut) [
      | [] ↦ λ q k. absurd cc
      | b ∷ rest ↦ λ q k.
          let lf : b ≡ 10 = next_is_lf bytes b rest q in
          subst (IsCut bytes) (same_Some (take n bytes, rest) cut k)
          (record {
            parts = sym (take-append-drop n bytes) ∙ ap (λ (t : List ℕ). take n bytes ++ t) q ∙ ap (λ (c : ℕ). take n bytes ++ c ∷ rest) lf ∙ sym (append_assoc (take n bytes) (codes "\n") rest);
            line = front_passes is_no_lf bytes;
          })
    ] refl h

pub cut_again : (line rest : List ℕ) → is_one_line line ≡ true → cut_line ((line ++ codes "\n") ++ rest) ≡ Some (line, rest)
cut_again line rest h =
    let regrouped : (line ++ codes "\n") ++ rest ≡ line ++ 10 ∷ rest = append_assoc line (codes "\n") rest in
    let n : prefix_len is_no_lf (line ++ 10 ∷ rest) ≡ length line = front_again is_no_lf line (10 ∷ rest) h refl in
    ap cut_line regrouped ∙ rw (n, take_at line (10 ∷ rest) (length line) refl, drop_at line (10 ∷ rest) (length line) refl) refl
