-- Readers of lines: what is read is there, and what is there is read.
use Rattle.std.proofs.Common.{◌≡◌, ℕ, zero, suc, ◌+◌, true, List, [], ◌∷◌, ◌++◌, length, Option, Some, None, Ok, Err, refl, sym, ap, subst, ◌∙◌, append_assoc, arith}
use Rattle.std.specs.Prelude.{codes}
use Rattle.std.proofs.Common.{◌^◌, ◌<◌}
use Rattle.std.proofs.lemmas.List.{length-append}
use Rattle.sdb_model.specs.Plain.{is_one_line}
use Rattle.sdb_report.specs.FieldReading.{case_of}
use Rattle.sdb_report.proofs.WordLaws.{join, Says}
use Rattle.sdb_report.proofs.Lists.{Each}
use Rattle.sdb_report.specs.Reading.{Positioned, then_read, both, cut_line, line_at, lines_at}
use Rattle.sdb_report.proofs.Cuts.{cut_is, cut_again}
use Rattle.sdb_types.proofs.Public.{done}
use Rattle.sdb_codec.proofs.Public.{ok_is}

pub then_ok : {X Y : Type 0} (r : Positioned X) (f : X × List ℕ → Positioned Y) (y : Y × List ℕ) → then_read r f ≡ Ok y → (x : X × List ℕ) × (r ≡ Ok x) × (f x ≡ Ok y)
then_ok (Ok x) f y e = (x, refl, e)
then_ok (Err left) f y e = absurd cc

-- What is read is the text of a value that has P, and each such text is read.
pub record Reads {X : Type 0} (read : List ℕ → Positioned X) (text : X → List ℕ) (P : X → Type 0) : Type 0 where
  pub sound : (bytes : List ℕ) (x : X × List ℕ) → read bytes ≡ Ok x → Says text P bytes x
  pub again : (x : X) (rest : List ℕ) → P x → read (text x ++ rest) ≡ Ok (x, rest)

---- a line

pub record HasForm {X : Type 0} (form_of : List ℕ → Option X) (text : X → List ℕ) (P : X → Type 0) : Type 0 where
  pub is : (line : List ℕ) (x : X) → is_one_line line ≡ true → form_of line ≡ Some x → (line ≡ text x) × P x
  pub again : (x : X) → P x → form_of (text x) ≡ Some x
  pub one : (x : X) → P x → is_one_line (text x) ≡ true

abbrev pub with_lf : {X : Type 0} → (X → List ℕ) → X → List ℕ
with_lf text x = text x ++ codes "\n"

module _ {X : Type 0} (form_of : List ℕ → Option X) (text : X → List ℕ) (P : X → Type 0) (form : HasForm form_of text P) where
  line_sound : (bytes : List ℕ) (x : X × List ℕ) → line_at form_of bytes ≡ Ok x → Says (with_lf text) P bytes x
  line_sound bytes x h =
      elim (cut_line bytes) as (λ o. cut_line bytes ≡ o → case_of o (λ cut. case_of (form_of cut.0) (λ y. done (y, cut.1)) (Err (length bytes))) (Err (length bytes)) ≡ Ok x → Says (with_lf text) P bytes x) [
        | None ↦ λ q k. absurd cc
        | Some cut ↦ λ q k.
            elim (form_of cut.0) as (λ o. form_of cut.0 ≡ o → case_of o (λ y. done (y, cut.1)) (Err (length bytes)) ≡ Ok x → Says (with_lf text) P bytes x) [
              | None ↦ λ r k. absurd cc
              | Some y ↦ λ r k.
                  let c = cut_is bytes cut q in
                  let f = form.is cut.0 y c.line r in
                  subst (Says (with_lf text) P bytes) (ok_is (y, cut.1) x k) (record { parts = c.parts ∙ ap (λ (t : List ℕ). (t ++ codes "\n") ++ cut.1) f.0; fits = f.1 })
            ] refl k
      ] refl h

  pub line_reads : Reads (line_at form_of) (with_lf text) P
  line_reads = record { sound = line_sound; again = λ x rest p. rw (cut_again (text x) rest (form.one x p), form.again x p) refl }

---- one after the other

-- a value of two parts
pub record IsMade {X Y Z : Type 0} (make : X → Y → Z) (P : X → Type 0) (Q : X → Y → Type 0) (z : Z) : Type 0 where
  pub first : X
  pub second : Y
  pub made : make first second ≡ z
  pub has_first : P first
  pub has_second : Q first second

module _ {X Y Z : Type 0} (first : List ℕ → Positioned X) (second : X → List ℕ → Positioned Y) (make : X → Y → Z) (text_one : X → List ℕ) (text_two : X → Y → List ℕ) (text : Z → List ℕ)
    (P : X → Type 0) (Q : X → Y → Type 0) (R : Z → Type 0)
    (same : (x : X) (y : Y) → P x → Q x y → text (make x y) ≡ text_one x ++ text_two x y) (joins : (x : X) (y : Y) → P x → Q x y → R (make x y)) (splits : (z : Z) → R z → IsMade make P Q z)
    (one : Reads first text_one P) (two : (x : X) → P x → Reads (second x) (text_two x) (Q x)) where
  both_sound : (bytes : List ℕ) (z : Z × List ℕ) → both first second make bytes ≡ Ok z → Says text R bytes z
  both_sound bytes z h =
      let a = then_ok (first bytes) (λ x. then_read (second x.0 x.1) (λ y. Ok (make x.0 y.0, y.1))) z h in
      let b = then_ok (second a.0.0 a.0.1) (λ y. Ok (make a.0.0 y.0, y.1)) z a.2 in
      let s = one.sound bytes a.0 a.1 in
      let t = (two a.0.0 s.fits).sound a.0.1 b.0 b.1 in
      subst (Says text R bytes) (ok_is (make a.0.0 b.0.0, b.0.1) z b.2)
      (record {
        parts = join (text_one a.0.0) (text_two a.0.0 b.0.0) b.0.1 s.parts t.parts ∙ ap (λ (l : List ℕ). l ++ b.0.1) (sym (same a.0.0 b.0.0 s.fits t.fits));
        fits = joins a.0.0 b.0.0 s.fits t.fits;
      })

  both_again : (z : Z) (rest : List ℕ) → R z → both first second make (text z ++ rest) ≡ Ok (z, rest)
  both_again z rest r =
      let m = splits z r in
      let after : List ℕ = text_two m.first m.second ++ rest in
      let regrouped : text z ++ rest ≡ text_one m.first ++ after =
      ap (λ (w : Z). text w ++ rest) (sym m.made) ∙ ap (λ (l : List ℕ). l ++ rest) (same m.first m.second m.has_first m.has_second) ∙ append_assoc (text_one m.first) (text_two m.first m.second) rest in
      let x : first (text_one m.first ++ after) ≡ Ok (m.first, after) = one.again m.first after m.has_first in
      let y : second m.first after ≡ Ok (m.second, rest) = (two m.first m.has_first).again m.second rest m.has_second in
      ap (both first second make) regrouped ∙ rw (x, y) (ap (λ (w : Z). Ok (w, rest)) m.made)

  pub both_reads : Reads (both first second make) text R
  both_reads = record { sound = both_sound; again = both_again }

---- items

-- the texts of items, each after those before it
abbrev pub texts : {X : Type 0} → (List X → X → List ℕ) → List X → List X → List ℕ
texts text before [] = []
texts text before (x ∷ xs) = text before x ++ texts text (before ++ x ∷ []) xs

abbrev pub Items : {X : Type 0} → (List X → X → Type 0) → List X → ℕ → List X → Type 0
Items P before n xs = (length xs ≡ n) × Each P before xs

module _ {X : Type 0} (item_at : List X → List ℕ → Positioned X) (text : List X → X → List ℕ) (P : List X → X → Type 0) (each : (before : List X) → length before + 1 < 2 ^ 64 → Reads (item_at before) (text before) (P before)) where
  pub items_read : (n : ℕ) (before : List X) → length before + n < 2 ^ 64 → Reads (lines_at item_at before n) (texts text before) (Items P before n)
  unfolding lines_at
  items_read zero before lt = record {
    sound = λ bytes x h. subst (Says (texts text before) (Items P before 0) bytes) (ok_is ([], bytes) x h) (record { parts = refl; fits = (refl, tt) });
    again = none;
  }
    where
      none : (xs : List X) (rest : List ℕ) → Items P before 0 xs → done {A = List X × List ℕ} ([], texts text before xs ++ rest) ≡ done (xs, rest)
      none [] rest p = refl
      none (x ∷ xs) rest p = absurd (omega (arith, p.0))
  items_read (suc n) before lt =
      both_reads (item_at before) (λ x. lines_at item_at (before ++ x ∷ []) n) (λ x xs. x ∷ xs) (text before) (λ x xs. texts text (before ++ x ∷ []) xs) (texts text before)
      (P before) (λ x xs. Items P (before ++ x ∷ []) n xs) (Items P before (suc n))
      (λ x xs p q. refl) (λ x xs p q. (ap suc q.0, (p, q.1))) some (each before (omega arith)) (λ x p. items_read n (before ++ x ∷ []) (omega (arith, length-append before (x ∷ []))))
    where
      some : (xs : List X) → Items P before (suc n) xs → IsMade (λ x xs. x ∷ xs) (P before) (λ x xs. Items P (before ++ x ∷ []) n xs) xs
      some [] p = absurd (omega (arith, p.0))
      some (x ∷ xs) p = record { first = x; second = xs; made = refl; has_first = p.1.0; has_second = (omega (arith, p.0), p.1.1) }

-- the same under another text and another predicate
pub read_as : {X : Type 0} (read : List ℕ → Positioned X) (text other : X → List ℕ) (P Q : X → Type 0) → ((x : X) → text x ≡ other x) → ((x : X) → P x → Q x) → ((x : X) → Q x → P x) → Reads read text P → Reads read other Q
read_as read text other P Q same there back r = record {
  sound = λ bytes x h. let s = r.sound bytes x h in record { parts = s.parts ∙ ap (λ (t : List ℕ). t ++ x.1) (same x.0); fits = there x.0 s.fits };
  again = λ x rest q. ap (λ (t : List ℕ). read (t ++ rest)) (sym (same x)) ∙ r.again x rest (back x q);
}
