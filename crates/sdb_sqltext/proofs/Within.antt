-- The place of a refusal is in the text, or at its end.
use Rattle.std.proofs.Common.{◌≡◌, ℕ, zero, suc, ◌+◌, ◌-◌, ◌<◌, ◌≤◌, Bool, true, false, cond, List, [], ◌∷◌, length, Option, Some, None, Result, Ok, Err, refl, sym, ap, ◌∙◌, arith}
use Rattle.std.specs.Prelude.{IfSome, IfErr}
use Rattle.std.specs.List.{AllByRecursion}
use Rattle.sdb_sqltext.specs.Types.{Placed, Refusal, Statement}
use Rattle.sdb_model.specs.SqlTokens.{Fault, Bad, Wide, Lexeme, Lexed, is_gap, token_at, behind, first_token, tokens_from, lexed}
use Rattle.sdb_sqltext.specs.declared.fault.ParseRefused.{ParseRefused}
use Rattle.sdb_sqltext.specs.States.{State}
use Rattle.sdb_sqltext.specs.States as state
use Rattle.sdb_sqltext.specs.Machine.{step}
use Rattle.sdb_sqltext.specs.Parsing.{finish, or_at, then, parse_from, of_fault, parsed_by, parsed}
use Rattle.sdb_sqltext.specs.Answers.{refusal_of, Gives}
use Rattle.sdb_sqltext.proofs.Clauses.{of_err}

-- ---- tokens and faults

abbrev Inside : ℕ → Lexed → Type 0
Inside end (Ok ps) = AllByRecursion (λ p. p.at < end) ps
Inside end (Err f) = f.1 < end

behind_inside : (end : ℕ) (p : Placed) (r : Lexed) → p.at < end → Inside end r → Inside end (behind (p ∷ []) r)
behind_inside end p (Ok ps) h more = (h, more)
behind_inside end p (Err f) h more = more

first_inside : (end place : ℕ) (r : Lexeme) (rest : ℕ → Lexed) → place < end → ((n : ℕ) → Inside end (rest n)) → Inside end (first_token place r rest)
first_inside end place (Ok t) rest h more = behind_inside end (record { at = place; token = t.0 }) (rest t.1) h (more t.1)
first_inside end place (Err f) rest h more = h

both : {X : Type 0} (P : X → Type 0) (b : Bool) (x y : X) → P x → P y → P (cond b x y)
both P true x y h k = h
both P false x y h k = k

tokens_inside : (end place n : ℕ) (bytes : List ℕ) → place + length bytes ≤ end → Inside end (tokens_from place n bytes)
tokens_inside end place n [] h = tt
tokens_inside end place (suc n) (b ∷ bs) h = tokens_inside end (place + 1) n bs (omega arith)
tokens_inside end place zero (b ∷ bs) h =
    both (Inside end) (is_gap b) (tokens_from (place + 1) 0 bs) (first_token place (token_at (b ∷ bs)) (λ n. tokens_from (place + 1) (n - 1) bs))
    (tokens_inside end (place + 1) 0 bs (omega arith))
    (first_inside end place (token_at (b ∷ bs)) (λ n. tokens_from (place + 1) (n - 1) bs) (omega arith) (λ n. tokens_inside end (place + 1) (n - 1) bs (omega arith)))

lexed_inside : (text : List ℕ) → Inside (length text) (lexed text)
unfolding lexed
lexed_inside text = tokens_inside (length text) 0 0 text (omega arith)

-- ---- statements

place_inside : (ps : List Placed) (s : State) (end at : ℕ) → AllByRecursion (λ p. p.at < end) ps → parse_from s ps end ≡ Err at → at ≤ end
place_inside [] s end at all h =
    let cases : (r : Option Statement) → or_at end r ≡ Err at → at ≤ end = λ r. elim r as (λ r. or_at end r ≡ Err at → at ≤ end) [
      | Some x ↦ λ h. absurd cc
      | None ↦ λ h. let is : end ≡ at = cc in omega arith
    ] in
    cases (finish s) h
place_inside (p ∷ ps) s end at all h =
    let cases : (r : Option State) → then (or_at p.at r) (λ n. parse_from n ps end) ≡ Err at → at ≤ end = λ r. elim r as (λ r. then (or_at p.at r) (λ n. parse_from n ps end) ≡ Err at → at ≤ end) [
      | Some n ↦ λ h. place_inside ps n end at all.1 h
      | None ↦ λ h. let is : p.at ≡ at = cc in let lt : p.at < end = all.0 in omega arith
    ] in
    cases (step s p.token) h

fault_place : (k : Fault) (at : ℕ) → (of_fault k at).place ≡ at
fault_place Bad at = refl
fault_place Wide at = refl

parsed_inside : (end : ℕ) (l : Lexed) (r : Refusal) → Inside end l → parsed_by end l ≡ Err r → r.place ≤ end
parsed_inside end (Ok ps) r inside h =
    let fault = of_err (parse_from state.Start ps end) r h in
    let is = ap (λ (x : Refusal). x.place) fault.2 in
    let most = place_inside ps state.Start end fault.0 inside fault.1 in
    omega (arith, is, most)
parsed_inside end (Err f) r inside h =
    let same : of_fault f.0 f.1 ≡ r = cc in
    let is = sym (fault_place f.0 f.1) ∙ ap (λ (x : Refusal). x.place) same in
    let lt : f.1 < end = inside in
    omega (arith, is)

if_refused : (o : Option Refusal) (text : List ℕ) → IfSome o (λ f. parsed text ≡ Err f) → IfSome o (λ f. f.place ≤ length text)
if_refused None text h = tt
if_refused (Some f) text h = parsed_inside (length text) (lexed text) f (lexed_inside text) h

pub refused_inside : (r : Result Statement ParseRefused) (text : List ℕ) → Gives r (parsed text) → IfErr r (λ e. IfSome (refusal_of e) (λ f. f.place ≤ length text))
refused_inside (Ok st) text h = tt
refused_inside (Err e) text h = if_refused (refusal_of e) text h
