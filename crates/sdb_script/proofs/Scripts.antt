-- A text is a script, or is refused because of a line.
use Rattle.std.proofs.Common.{◌≡◌, ◌⊎◌, inl, inr, ℕ, ◌+◌, ◌<◌, ◌≤◌, true, false, List, [], ◌∷◌, ◌++◌, length, Ok, Err, refl, sym, ap, subst, ◌∙◌, append_assoc, append-nil, arith}
use Rattle.std.specs.Prelude.{Result, nat_le, IfOk, IfErr}
use Rattle.std.proofs.lemmas.Bool.Decides.{nat_tests}
use Rattle.std.proofs.lemmas.List.{length-append}
use Rattle.sdb_model.specs.declared.script.Script.{Script}
use Rattle.sdb_model.specs.declared.script.Which.TheVariants as which
use Rattle.sdb_model.specs.Form.{lines_of}
use Rattle.sdb_script.specs.declared.fault.LineFault.TheVariants as fault
use Rattle.sdb_script.specs.declared.fault.LineRefused.{LineRefused}
use Rattle.sdb_script.specs.declared.fault.LineRefused.TheVariants as refused
use Rattle.sdb_script.specs.declared.fault.ScriptRefused.{ScriptRefused}
use Rattle.sdb_script.specs.declared.fault.ScriptRefused.TheVariants.{BadLine, Limit, NoMemory as OutOfMemory}
use Rattle.sdb_script.specs.Lines.{most_bytes}
use Rattle.sdb_script.specs.Begun.{Draft, nothing, IsBegun, Stops, IsFirstWrong}
use Rattle.sdb_script.specs.Whole.{whole, IsScript, last_line, IsRefused}
use Rattle.sdb_script.specs.Reading.{read_line_on, at_line, read_next, read_from, script_of, ended, ended_at, script_in, Agrees}
use Rattle.sdb_script.proofs.Steps.{told_is, cause_is, cause_again}
use Rattle.sdb_script.proofs.Growth.{none_begun, more_begun}
use Rattle.sdb_script.proofs.Sections.{begun_goes}
use Rattle.sdb_types.proofs.Public.{by_test}

abbrev Lines : Type 0
Lines = List (List ℕ)

---- all lines

-- What lines lead to has begun.
goes_begun : (stores front ls : Lines) (d e : Draft) (n : ℕ) → IsBegun stores front d → read_from stores n d ls ≡ Ok e → IsBegun stores (front ++ ls) e
goes_begun stores front [] d e n st h = let same : d ≡ e = cc in subst (λ (x : Lines). IsBegun stores x e) (sym (append-nil front)) (subst (IsBegun stores front) same st)
goes_begun stores front (l ∷ ls) d e n st h =
    elim (read_line_on stores d l) as (λ r. read_line_on stores d l ≡ r → read_next n r (λ x. read_from stores (n + 1) x ls) ≡ Ok e → IsBegun stores (front ++ l ∷ ls) e) [
      | Ok f ↦ λ q k.
          let s = told_is stores d f l q in
          subst (λ (x : Lines). IsBegun stores x e) (append_assoc front (l ∷ []) ls) (goes_begun stores (front ++ l ∷ []) ls f e (n + 1) (more_begun stores front l d f s.0 st s.1 s.2) k)
      | Err r ↦ λ q k. absurd cc
    ] refl h

-- the first line that is refused
pub record Wrong (stores lines : Lines) (r : ScriptRefused) : Type 0 where
  pub number : ℕ
  pub refusal : LineRefused
  pub is : r ≡ at_line number refusal
  pub first : IsFirstWrong stores lines number refusal

wrong_of : (stores front ls : Lines) (d : Draft) (n : ℕ) (r : ScriptRefused) → IsBegun stores front d → n ≡ length front + 1 → read_from stores n d ls ≡ Err r → Wrong stores (front ++ ls) r
wrong_of stores front [] d n r st counted h = absurd cc
wrong_of stores front (l ∷ ls) d n r st counted h =
    elim (read_line_on stores d l) as (λ o. read_line_on stores d l ≡ o → read_next n o (λ x. read_from stores (n + 1) x ls) ≡ Err r → Wrong stores (front ++ l ∷ ls) r) [
      | Ok f ↦ λ q k.
          let s = told_is stores d f l q in
          subst (λ (x : Lines). Wrong stores x r) (append_assoc front (l ∷ []) ls)
          (wrong_of stores (front ++ l ∷ []) ls f (n + 1) r (more_begun stores front l d f s.0 st s.1 s.2) (omega (arith, counted, length-append front (l ∷ []))) k)
      | Err e ↦ λ q k.
          let same : at_line n e ≡ r = cc in
          record {
            number = n;
            refusal = e;
            is = sym same;
            first = record { front = front; rest = l ∷ ls; draft = d; split = refl; before = st; number = counted; here = cause_is stores d l e q };
          }
    ] refl h

---- what is read is a script

draft_is : (ps : Draft) → ps.ran ≡ true → ps ≡ whole ps.described (script_of ps)
draft_is d h = λ i. record { places = d.places; described = d.described; catalog = d.catalog; clients = d.clients; ran = h i; moves = d.moves }

script_err : {G : Type 0} (r : ScriptRefused) (s : Script) → ◌≡◌ {A = Result Script ScriptRefused} (Err r) (Ok s) → G
script_err r s h = absurd cc

ok_script : (s t : Script) → ◌≡◌ {A = Result Script ScriptRefused} (Ok s) (Ok t) → s ≡ t
ok_script s t h = cc

err_script : (r q : ScriptRefused) → ◌≡◌ {A = Result Script ScriptRefused} (Err r) (Err q) → r ≡ q
err_script r q h = cc

script_ok : {G : Type 0} (r : ScriptRefused) (s : Script) → ◌≡◌ {A = Result Script ScriptRefused} (Ok s) (Err r) → G
script_ok r s h = absurd cc

pub script_is : (stores : Lines) (text : List ℕ) (s : Script) → script_in stores text ≡ Ok s → IsScript stores text s
script_is stores text s h =
    by_test (nat_le (length text) most_bytes)
    (λ t.
    let small : length text ≤ most_bytes = grind (arith, nat_tests) in
    by_lines small (read_from stores 1 nothing (lines_of text)) refl (rw t at h))
    (λ t. script_err _ s (rw t at h))
  where
    by_lines : length text ≤ most_bytes → (o : Result Draft ScriptRefused) → read_from stores 1 nothing (lines_of text) ≡ o → ended_at (length (lines_of text) + 1) o ≡ Ok s → IsScript stores text s
    by_lines small (Ok d) q k =
        by_test d.ran
        (λ t.
        let same : script_of d ≡ s = ok_script (script_of d) s (rw t at k) in
        subst (IsScript stores text) same
        (record { small = small; described = d.described; lines = subst (IsBegun stores (lines_of text)) (draft_is d t) (goes_begun stores [] (lines_of text) nothing d 1 (none_begun stores) q) }))
        (λ t. script_err _ s (rw t at k))
    by_lines small (Err r) q k = script_err r s k

all_told : (stores lines : Lines) (d : Draft) → IsBegun stores lines d → read_from stores 1 nothing lines ≡ Ok d
all_told stores lines d st = ap (read_from stores 1 nothing) (sym (append-nil lines)) ∙ begun_goes stores lines d st 1 []

pub script_again : (stores : Lines) (text : List ℕ) (s : Script) → IsScript stores text s → script_in stores text ≡ Ok s
script_again stores text s is =
    let small = is.small in
    let t : nat_le (length text) most_bytes ≡ true = grind (arith, nat_tests) in
    rw t (ap (ended_at (length (lines_of text) + 1)) (all_told stores (lines_of text) (whole is.described s) is.lines))

---- what is refused has its cause

refusal_at : (stores : Lines) (text : List ℕ) (r : ScriptRefused) → length text ≤ most_bytes → Wrong stores (lines_of text) r → IsRefused stores text r
refusal_at stores text r small w = subst (IsRefused stores text) (sym w.is) (by_refusal w.refusal w.first)
  where
    never : (front rest : Lines) (d : Draft) → Stops stores d rest refused.NoMemory → ⊥
    never front [] d h = let k : refused.NoMemory ≡ refused.Bad fault.Missing = h.1 in cc
    never front (l ∷ ls) d h = h

    by_refusal : (e : LineRefused) → IsFirstWrong stores (lines_of text) w.number e → IsRefused stores text (at_line w.number e)
    by_refusal (refused.Bad f) first = (small, first)
    by_refusal (refused.Limit q) first = inr (small, first)
    by_refusal refused.NoMemory first = absurd (never first.front first.rest first.draft first.here)

pub refused_is : (stores : Lines) (text : List ℕ) (r : ScriptRefused) → script_in stores text ≡ Err r → IsRefused stores text r
refused_is stores text r h =
    by_test (nat_le (length text) most_bytes)
    (λ t.
    let small : length text ≤ most_bytes = grind (arith, nat_tests) in
    by_lines small (read_from stores 1 nothing (lines_of text)) refl (rw t at h))
    (λ t.
    let long : most_bytes < length text = grind (arith, nat_tests) in
    subst (IsRefused stores text) (err_script (Limit (last_line text) which.InputBytes) r (rw t at h)) (inl (long, refl, refl)))
  where
    by_lines : length text ≤ most_bytes → (o : Result Draft ScriptRefused) → read_from stores 1 nothing (lines_of text) ≡ o → ended_at (length (lines_of text) + 1) o ≡ Err r → IsRefused stores text r
    by_lines small (Ok d) q k =
        by_test d.ran
        (λ t. script_ok r (script_of d) (rw t at k))
        (λ t.
        let same : BadLine (length (lines_of text) + 1) fault.Missing ≡ r = err_script _ r (rw t at k) in
        subst (IsRefused stores text) same (
          small,
          record {
            front = lines_of text;
            rest = [];
            draft = d;
            split = sym (append-nil (lines_of text));
            before = goes_begun stores [] (lines_of text) nothing d 1 (none_begun stores) q;
            number = refl;
            here = (t, refl);
          },
        ))
    by_lines small (Err e) q k = subst (IsRefused stores text) (err_script e r k) (refusal_at stores text e small (wrong_of stores [] (lines_of text) nothing 1 e (none_begun stores) refl q))

-- what lines are refused for, seen from their end
ends_at : (stores front rest : Lines) (d : Draft) (n : ℕ) (e : LineRefused) → n ≡ length front + 1 → Stops stores d rest e → ended_at (length (front ++ rest) + 1) (read_from stores n d rest) ≡ Err (at_line n e)
ends_at stores front [] d n e counted h =
    let count : length (front ++ []) + 1 ≡ n = omega (arith, counted, length-append front []) in
    rw (h.0, h.1, count) refl
ends_at stores front (l ∷ ls) d n e counted h = rw (cause_again stores d l e h) refl

wrong_again : (stores lines : Lines) (n : ℕ) (e : LineRefused) → IsFirstWrong stores lines n e → ended_at (length lines + 1) (read_from stores 1 nothing lines) ≡ Err (at_line n e)
wrong_again stores lines n e w =
    let same : 1 + length w.front ≡ n = omega (arith, w.number) in
    let read : read_from stores 1 nothing lines ≡ read_from stores n w.draft w.rest =
    ap (read_from stores 1 nothing) w.split ∙ begun_goes stores w.front w.draft w.before 1 w.rest ∙ ap (λ (m : ℕ). read_from stores m w.draft w.rest) same in
    ap (λ (x : Lines). ended_at (length x + 1) (read_from stores 1 nothing lines)) w.split ∙ ap (ended_at (length (w.front ++ w.rest) + 1)) read ∙ ends_at stores w.front w.rest w.draft n e w.number w.here

small_again : (stores : Lines) (text : List ℕ) (n : ℕ) (e : LineRefused) → length text ≤ most_bytes → IsFirstWrong stores (lines_of text) n e → script_in stores text ≡ Err (at_line n e)
small_again stores text n e small w =
    let t : nat_le (length text) most_bytes ≡ true = grind (arith, nat_tests) in
    rw t (wrong_again stores (lines_of text) n e w)

pub refused_again : (stores : Lines) (text : List ℕ) (r : ScriptRefused) → IsRefused stores text r → script_in stores text ≡ Err r
refused_again stores text (BadLine n f) h = small_again stores text n (refused.Bad f) h.0 h.1
refused_again stores text (Limit n w) h =
    elim h [
      | inl long ↦
          let t : nat_le (length text) most_bytes ≡ false = grind (arith, nat_tests) in
          rw (t, long.1, long.2) refl
      | inr short ↦ small_again stores text n (refused.Limit w) short.0 short.1
    ]
refused_again stores text OutOfMemory h = absurd h

---- the laws

pub one_script : (stores : Lines) (text : List ℕ) (s t : Script) → IsScript stores text s → IsScript stores text t → s ≡ t
one_script stores text s t h k = ok_script s t (sym (script_again stores text s h) ∙ script_again stores text t k)

pub one_cause : (stores : Lines) (text : List ℕ) (r q : ScriptRefused) → IsRefused stores text r → IsRefused stores text q → r ≡ q
one_cause stores text r q h k = err_script r q (sym (refused_again stores text r h) ∙ refused_again stores text q k)

pub apart : (stores : Lines) (text : List ℕ) (s : Script) (r : ScriptRefused) → IsScript stores text s → ¬ IsRefused stores text r
apart stores text s r h = λ k. script_ok r s (sym (script_again stores text s h) ∙ refused_again stores text r k)

pub total : (stores : Lines) (text : List ℕ) → ((s : Script) × IsScript stores text s) ⊎ ((r : ScriptRefused) × IsRefused stores text r)
total stores text = by (script_in stores text) refl
  where
    by : (o : Result Script ScriptRefused) → script_in stores text ≡ o → ((s : Script) × IsScript stores text s) ⊎ ((r : ScriptRefused) × IsRefused stores text r)
    by (Ok s) q = inl (s, script_is stores text s q)
    by (Err r) q = inr (r, refused_is stores text r q)

---- what a reader returns

pub all_ok : (stores : Lines) (text : List ℕ) (r : Result Script ScriptRefused) → IfOk r (λ s. script_in stores text ≡ Ok s) → IfOk r (IsScript stores text)
all_ok stores text (Ok s) h = script_is stores text s h
all_ok stores text (Err e) h = tt

pub all_refused : (stores : Lines) (text : List ℕ) (r : Result Script ScriptRefused) → IfErr r (Agrees (script_in stores text)) → IfErr r (λ e. (e ≡ OutOfMemory) ⊎ IsRefused stores text e)
all_refused stores text (Ok s) h = tt
all_refused stores text (Err (BadLine n f)) h = inr (refused_is stores text (BadLine n f) h)
all_refused stores text (Err (Limit n w)) h = inr (refused_is stores text (Limit n w) h)
all_refused stores text (Err OutOfMemory) h = inl refl

pub ended_ok : (stores : Lines) (text : List ℕ) (d : Draft) (n : ℕ) (r : Result Script ScriptRefused) → length text ≤ most_bytes → read_from stores 1 nothing (lines_of text) ≡ Ok d → n ≡ length (lines_of text) + 1 → IfOk r (λ s. ended n d ≡ Ok s) → IfOk r (λ s. script_in stores text ≡ Ok s)
ended_ok stores text d n (Ok s) small q count h =
    let t : nat_le (length text) most_bytes ≡ true = grind (arith, nat_tests) in
    rw t (ap (ended_at (length (lines_of text) + 1)) q ∙ ap (λ (m : ℕ). ended m d) (sym count) ∙ h)
ended_ok stores text d n (Err e) small q count h = tt

pub ended_bad : (stores : Lines) (text : List ℕ) (d : Draft) (n : ℕ) (r : Result Script ScriptRefused) → length text ≤ most_bytes → read_from stores 1 nothing (lines_of text) ≡ Ok d → n ≡ length (lines_of text) + 1 → IfErr r (Agrees (ended n d)) → IfErr r (Agrees (script_in stores text))
ended_bad stores text d n (Ok s) small q count h = tt
ended_bad stores text d n (Err e) small q count h =
    let t : nat_le (length text) most_bytes ≡ true = grind (arith, nat_tests) in
    rw t (subst (λ (x : Result Script ScriptRefused). Agrees x e) (sym (ap (ended_at (length (lines_of text) + 1)) q ∙ ap (λ (m : ℕ). ended m d) (sym count))) h)
