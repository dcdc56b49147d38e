-- Where readers of lines stop: the lines before begin some text, and the next line is in none.
use Rattle.std.proofs.Common.{◌≡◌, ℕ, zero, suc, ◌+◌, ◌^◌, ◌<◌, true, List, [], ◌∷◌, ◌++◌, length, Option, Some, None, Result, Ok, Err, refl, sym, ap, subst, ◌∙◌, append_assoc, arith}
use Rattle.std.specs.Prelude.{codes}
use Rattle.std.specs.List.{AllByRecursion}
use Rattle.std.proofs.lemmas.List.{append-nil, length-append}
use Rattle.sdb_model.specs.Plain.{is_one_line}
use Rattle.sdb_report.specs.FieldReading.{case_of}
use Rattle.sdb_report.specs.Reading.{Positioned, then_read, both, cut_line, line_at, lines_at}
use Rattle.sdb_report.specs.Reports.{text_of_lines}
use Rattle.sdb_report.proofs.Readers.{Reads, HasForm, with_lf, IsMade, texts, Items}
use Rattle.sdb_types.proofs.Public.{done}

---- lines

abbrev pub AreLines : List (List ℕ) → Type 0
AreLines lines = AllByRecursion (λ line. is_one_line line ≡ true) lines

pub lines_append : (xs ys : List (List ℕ)) → text_of_lines (xs ++ ys) ≡ text_of_lines xs ++ text_of_lines ys
lines_append [] ys = refl
lines_append (x ∷ xs) ys = ap (λ (t : List ℕ). (x ++ codes "\n") ++ t) (lines_append xs ys) ∙ sym (append_assoc (x ++ codes "\n") (text_of_lines xs) (text_of_lines ys))

pub are_append : (xs ys : List (List ℕ)) → AreLines xs → AreLines ys → AreLines (xs ++ ys)
are_append [] ys h k = k
are_append (x ∷ xs) ys h k = (h.0, are_append xs ys h.1 k)

-- a text with the same line at its start, or the same text where there is none
abbrev pub SameLine : Option (List ℕ × List ℕ) → List ℕ → List ℕ → Type 0
SameLine None tail t = tail ≡ t
SameLine (Some cut) tail t = (more : List ℕ) × (cut_line t ≡ Some (cut.0, more))

pub record Whole (text : List ℕ) : Type 0 where
  pub lines : List (List ℕ)
  pub is : text ≡ text_of_lines lines
  pub whole : AreLines lines

abbrev pub failed : {A : Type 0} → ℕ → Result A ℕ
failed n = Err n

pub err_is : {A : Type 0} (m n : ℕ) → failed {A = A} m ≡ failed {A = A} n → m ≡ n
err_is m n e = cc

pub record Stop {X : Type 0} (read : List ℕ → Positioned X) (text : X → List ℕ) (L : X → Type 0) (bytes : List ℕ) (left : ℕ) : Type 0 where
  pub lines : List (List ℕ)
  pub tail : List ℕ
  pub split : bytes ≡ text_of_lines lines ++ tail
  pub whole : AreLines lines
  pub here : length tail ≡ left
  pub value : X
  pub loose : L value
  pub rest : List ℕ
  pub begins : text value ≡ text_of_lines lines ++ rest
  pub local : (t : List ℕ) → SameLine (cut_line tail) tail t → read (text_of_lines lines ++ t) ≡ Err (length t)

-- P is what a text has to have, L what it may have after the bad line.
pub record Stopping {X : Type 0} (read : List ℕ → Positioned X) (text : X → List ℕ) (P L : X → Type 0) : Type 0 where
  pub lines : (x : X) → P x → Whole (text x)
  pub loose : (x : X) → P x → L x
  pub value : X
  pub some : L value
  pub stops : (bytes : List ℕ) (left : ℕ) → read bytes ≡ Err left → Stop read text L bytes left

---- a line

module _ {X : Type 0} (form_of : List ℕ → Option X) (text : X → List ℕ) (P L : X → Type 0) (form : HasForm form_of text P) (loosely : (x : X) → P x → L x) (x : X) (some : L x) where
  line_stop : (bytes : List ℕ) (left : ℕ) → length bytes ≡ left → ((t : List ℕ) → SameLine (cut_line bytes) bytes t → line_at form_of t ≡ Err (length t)) → Stop (line_at form_of) (with_lf text) L bytes left
  line_stop bytes left here local = record { lines = []; tail = bytes; split = refl; whole = tt; here = here; value = x; loose = some; rest = with_lf text x; begins = refl; local = local }

  line_stops : (bytes : List ℕ) (left : ℕ) → line_at form_of bytes ≡ Err left → Stop (line_at form_of) (with_lf text) L bytes left
  line_stops bytes left h =
      elim (cut_line bytes) as (λ o. cut_line bytes ≡ o → case_of o (λ cut. case_of (form_of cut.0) (λ y. done {A = X × List ℕ} (y, cut.1)) (Err (length bytes))) (Err (length bytes)) ≡ Err left → Stop (line_at form_of) (with_lf text) L bytes left) [
        | None ↦ λ q k.
            line_stop bytes left (err_is {A = X × List ℕ} (length bytes) left k) (λ t same.
            let e : bytes ≡ t = subst (λ (o : Option (List ℕ × List ℕ)). SameLine o bytes t) q same in
            subst (λ (b : List ℕ). line_at form_of b ≡ Err (length b)) e (rw q refl))
        | Some cut ↦ λ q k.
            elim (form_of cut.0) as (λ o. form_of cut.0 ≡ o → case_of o (λ y. done {A = X × List ℕ} (y, cut.1)) (Err (length bytes)) ≡ Err left → Stop (line_at form_of) (with_lf text) L bytes left) [
              | None ↦ λ r k.
                  line_stop bytes left (err_is {A = X × List ℕ} (length bytes) left k) (λ t same.
                  let e = subst (λ (o : Option (List ℕ × List ℕ)). SameLine o bytes t) q same in
                  rw (e.1, r) refl)
              | Some y ↦ λ r k. absurd cc
            ] refl k
      ] refl h

  pub line_stopping : Stopping (line_at form_of) (with_lf text) P L
  line_stopping = record {
    lines = λ y p. record { lines = text y ∷ []; is = sym (append-nil (with_lf text y)); whole = (form.one y p, tt) };
    loose = loosely;
    value = x;
    some = some;
    stops = line_stops;
  }

---- one after the other

-- something that may follow
pub record Filled {Y : Type 0} (L : Y → Type 0) : Type 0 where
  pub value : Y
  pub fits : L value

module _ {X Y Z : Type 0} (first : List ℕ → Positioned X) (second : X → List ℕ → Positioned Y) (make : X → Y → Z) (text_one : X → List ℕ) (text_two : X → Y → List ℕ) (text : Z → List ℕ)
    (P K : X → Type 0) (Q M : X → Y → Type 0) (R L : Z → Type 0)
    (same : (x : X) (y : Y) → K x → M x y → text (make x y) ≡ text_one x ++ text_two x y) (joins : (x : X) (y : Y) → K x → M x y → L (make x y)) (splits : (z : Z) → R z → IsMade make P Q z)
    (fill : (x : X) → K x → Filled (M x))
    (one : Reads first text_one P) (end_one : Stopping first text_one P K) (end_two : (x : X) → P x → Stopping (second x) (text_two x) (Q x) (M x)) where
  first_stop : (bytes : List ℕ) (left : ℕ) → Stop first text_one K bytes left → Stop (both first second make) text L bytes left
  first_stop bytes left s =
      let f = fill s.value s.loose in
      record {
        lines = s.lines;
        tail = s.tail;
        split = s.split;
        whole = s.whole;
        here = s.here;
        value = make s.value f.value;
        loose = joins s.value f.value s.loose f.fits;
        rest = s.rest ++ text_two s.value f.value;
        begins = same s.value f.value s.loose f.fits ∙ ap (λ (t : List ℕ). t ++ text_two s.value f.value) s.begins ∙ append_assoc (text_of_lines s.lines) s.rest (text_two s.value f.value);
        local = λ t e. rw (s.local t e) refl;
      }

  second_stop : (bytes : List ℕ) (left : ℕ) (x : X × List ℕ) → first bytes ≡ Ok x → Stop (second x.0) (text_two x.0) (M x.0) x.1 left → Stop (both first second make) text L bytes left
  second_stop bytes left x q s =
      let a = one.sound bytes x q in
      let w = end_one.lines x.0 a.fits in
      let k = end_one.loose x.0 a.fits in
      let front = lines_append w.lines s.lines in
      let around : (t : List ℕ) → text_of_lines (w.lines ++ s.lines) ++ t ≡ text_one x.0 ++ (text_of_lines s.lines ++ t) = λ t.
      ap (λ (l : List ℕ). l ++ t) (front ∙ ap (λ (l : List ℕ). l ++ text_of_lines s.lines) (sym w.is)) ∙ append_assoc (text_one x.0) (text_of_lines s.lines) t in
      record {
        lines = w.lines ++ s.lines;
        tail = s.tail;
        split = a.parts ∙ ap (λ (t : List ℕ). text_one x.0 ++ t) s.split ∙ sym (around s.tail);
        whole = are_append w.lines s.lines w.whole s.whole;
        here = s.here;
        value = make x.0 s.value;
        loose = joins x.0 s.value k s.loose;
        rest = s.rest;
        begins = same x.0 s.value k s.loose ∙ ap (λ (t : List ℕ). text_one x.0 ++ t) s.begins ∙ sym (around s.rest);
        local = λ t e. ap (both first second make) (around t) ∙ rw (one.again x.0 (text_of_lines s.lines ++ t) a.fits, s.local t e) refl;
      }

  both_stops : (bytes : List ℕ) (left : ℕ) → both first second make bytes ≡ Err left → Stop (both first second make) text L bytes left
  both_stops bytes left h =
      elim (first bytes) as (λ r. first bytes ≡ r → then_read r (λ x. then_read (second x.0 x.1) (λ y. done {A = Z × List ℕ} (make x.0 y.0, y.1))) ≡ Err left → Stop (both first second make) text L bytes left) [
        | Err l ↦ λ q k. first_stop bytes left (end_one.stops bytes left (q ∙ ap failed (err_is {A = Z × List ℕ} l left k)))
        | Ok x ↦ λ q k.
            elim (second x.0 x.1) as (λ r. second x.0 x.1 ≡ r → then_read r (λ y. done {A = Z × List ℕ} (make x.0 y.0, y.1)) ≡ Err left → Stop (both first second make) text L bytes left) [
              | Err l ↦ λ r k. second_stop bytes left x q ((end_two x.0 (one.sound bytes x q).fits).stops x.1 left (r ∙ ap failed (err_is {A = Z × List ℕ} l left k)))
              | Ok y ↦ λ r k. absurd cc
            ] refl k
      ] refl h

  both_lines : (z : Z) → R z → Whole (text z)
  both_lines z r =
      let m = splits z r in
      let a = end_one.lines m.first m.has_first in
      let two = end_two m.first m.has_first in
      let b = two.lines m.second m.has_second in
      record {
        lines = a.lines ++ b.lines;
        is = ap text (sym m.made) ∙ same m.first m.second (end_one.loose m.first m.has_first) (two.loose m.second m.has_second) ∙ (λ i. a.is i ++ b.is i) ∙ sym (lines_append a.lines b.lines);
        whole = are_append a.lines b.lines a.whole b.whole;
      }

  both_loose : (z : Z) → R z → L z
  both_loose z r =
      let m = splits z r in
      subst L m.made (joins m.first m.second (end_one.loose m.first m.has_first) ((end_two m.first m.has_first).loose m.second m.has_second))

  pub both_stopping : Stopping (both first second make) text R L
  both_stopping =
      let f = fill end_one.value end_one.some in
      record { lines = both_lines; loose = both_loose; value = make end_one.value f.value; some = joins end_one.value f.value end_one.some f.fits; stops = both_stops }

---- items

module _ {X : Type 0} (item_at : List X → List ℕ → Positioned X) (text : List X → X → List ℕ) (P L : List X → X → Type 0)
    (each : (before : List X) → length before + 1 < 2 ^ 64 → Reads (item_at before) (text before) (P before))
    (ends : (before : List X) → length before + 1 < 2 ^ 64 → Stopping (item_at before) (text before) (P before) (L before)) where
  pub items_fill : (n : ℕ) (before : List X) → length before + n < 2 ^ 64 → Filled (Items L before n)
  items_fill zero before lt = record { value = []; fits = (refl, tt) }
  items_fill (suc n) before lt =
      let s = ends before (omega arith) in
      let f = items_fill n (before ++ s.value ∷ []) (omega (arith, length-append before (s.value ∷ []))) in
      record { value = s.value ∷ f.value; fits = (ap suc f.fits.0, (s.some, f.fits.1)) }

  pub items_stopping : (n : ℕ) (before : List X) → length before + n < 2 ^ 64 → Stopping (lines_at item_at before n) (texts text before) (Items P before n) (Items L before n)
  unfolding lines_at
  items_stopping zero before lt = record {
    lines = none;
    loose = none_loose;
    value = [];
    some = (refl, tt);
    stops = λ bytes left h. absurd cc;
  }
    where
      none : (xs : List X) → Items P before 0 xs → Whole (texts text before xs)
      none [] p = record { lines = []; is = refl; whole = tt }
      none (x ∷ xs) p = absurd (omega (arith, p.0))

      none_loose : (xs : List X) → Items P before 0 xs → Items L before 0 xs
      none_loose [] p = (refl, tt)
      none_loose (x ∷ xs) p = absurd (omega (arith, p.0))
  items_stopping (suc n) before lt =
      both_stopping (item_at before) (λ x. lines_at item_at (before ++ x ∷ []) n) (λ x xs. x ∷ xs) (text before) (λ x xs. texts text (before ++ x ∷ []) xs) (texts text before)
      (P before) (L before) (λ x xs. Items P (before ++ x ∷ []) n xs) (λ x xs. Items L (before ++ x ∷ []) n xs) (Items P before (suc n)) (Items L before (suc n))
      (λ x xs p q. refl) (λ x xs p q. (ap suc q.0, (p, q.1))) some (λ x p. items_fill n (before ++ x ∷ []) (more x))
      (each before (omega arith)) (ends before (omega arith)) (λ x p. items_stopping n (before ++ x ∷ []) (more x))
    where
      more : (x : X) → length (before ++ x ∷ []) + n < 2 ^ 64
      more x = omega (arith, length-append before (x ∷ []))

      some : (xs : List X) → Items P before (suc n) xs → IsMade (λ x xs. x ∷ xs) (P before) (λ x xs. Items P (before ++ x ∷ []) n xs) xs
      some [] p = absurd (omega (arith, p.0))
      some (x ∷ xs) p = record { first = x; second = xs; made = refl; has_first = p.1.0; has_second = (omega (arith, p.0), p.1.1) }

-- the same under another text and other predicates
pub stopping_as : {X : Type 0} (read : List ℕ → Positioned X) (text other : X → List ℕ) (P Q L M : X → Type 0) → ((x : X) → text x ≡ other x) → ((x : X) → Q x → P x) → ((x : X) → L x → M x)
    → Stopping read text P L → Stopping read other Q M
stopping_as read text other P Q L M same back loosely s = record {
  lines = λ x q. let w = s.lines x (back x q) in record { lines = w.lines; is = sym (same x) ∙ w.is; whole = w.whole };
  loose = λ x q. loosely x (s.loose x (back x q));
  value = s.value;
  some = loosely s.value s.some;
  stops = λ bytes left h.
      let k = s.stops bytes left h in
      record {
        lines = k.lines;
        tail = k.tail;
        split = k.split;
        whole = k.whole;
        here = k.here;
        value = k.value;
        loose = loosely k.value k.loose;
        rest = k.rest;
        begins = sym (same k.value) ∙ k.begins;
        local = k.local;
      };
}
