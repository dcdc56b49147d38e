-- The tokens of a text, one after another.
use Rattle.std.proofs.Common.{◌≡◌, ℕ, zero, suc, ◌+◌, ◌-◌, ◌<◌, ◌≤◌, true, false, List, [], ◌∷◌, ◌++◌, length, drop, get_or, Ok, Err, refl, sym, ap, ◌∙◌, arith, append_assoc, length-drop}
use Rattle.sdb_model.specs.SqlTokens.{Fault, Lexed, is_gap, token_at, behind, tokens_from}
use Rattle.sdb_sqltext.specs.Types.{Placed, Token}

pub behind_twice : (front more : List Placed) (r : Lexed) → behind front (behind more r) ≡ behind (front ++ more) r
behind_twice front more (Ok ps) = ap Ok (sym (append_assoc front more ps))
behind_twice front more (Err f) = refl

-- bytes of a token before are passed over
pub passed_over : (n place : ℕ) (bs : List ℕ) → n ≤ length bs → tokens_from place n bs ≡ tokens_from (place + n) 0 (drop n bs)
passed_over zero place [] h = refl
passed_over zero place (b ∷ bs) h = ap (λ p. tokens_from p 0 (b ∷ bs)) (let e : place ≡ place + 0 = omega arith in e)
passed_over (suc n) place [] h = absurd (omega arith)
passed_over (suc n) place (b ∷ bs) h = passed_over n (place + 1) bs (omega arith) ∙ ap (λ p. tokens_from p 0 (drop n bs)) (let e : place + 1 + n ≡ place + suc n = omega arith in e)

pub gap_turn : (place : ℕ) (b : ℕ) (bs : List ℕ) → is_gap b ≡ true → tokens_from place 0 (b ∷ bs) ≡ tokens_from (place + 1) 0 bs
gap_turn place b bs g = rw g refl

pub fault_turn : (place : ℕ) (b : ℕ) (bs : List ℕ) (f : Fault) → is_gap b ≡ false → token_at (b ∷ bs) ≡ Err f → tokens_from place 0 (b ∷ bs) ≡ Err (f, place)
fault_turn place b bs f g e = rw (g, e) refl

pub token_turn : (place : ℕ) (b : ℕ) (bs : List ℕ) (t : Token) (n : ℕ) → is_gap b ≡ false → token_at (b ∷ bs) ≡ Ok (t, n) → 0 < n → n ≤ length (b ∷ bs)
    → tokens_from place 0 (b ∷ bs) ≡ behind (record { at = place; token = t } ∷ []) (tokens_from (place + n) 0 (drop n (b ∷ bs)))
token_turn place b bs t zero g e some most = absurd (omega arith)
token_turn place b bs t (suc m) g e some most =
    let p : place + 1 + m ≡ place + suc m = omega arith in
    let q : suc m - 1 ≡ m = omega arith in
    rw (g, e) (ap (behind (record { at = place; token = t } ∷ [])) (rw q (passed_over m (place + 1) bs (omega arith) ∙ ap (λ p. tokens_from p 0 (drop m bs)) p)))

-- a token more is read
pub one_token : (rest bytes : List ℕ) (placed : List Placed) (whole : Lexed) (t : Token) (n : ℕ) → 0 < length rest → is_gap (get_or rest 0 0) ≡ false → token_at rest ≡ Ok (t, n) → 0 < n → n ≤ length rest → length rest ≤ length bytes
    → behind placed (tokens_from (length bytes - length rest) 0 rest) ≡ whole
    → behind (placed ++ record { at = length bytes - length rest; token = t } ∷ []) (tokens_from (length bytes - length (drop n rest)) 0 (drop n rest)) ≡ whole
one_token [] bytes placed whole t n has g e some most fits h = absurd (omega arith)
one_token (b ∷ bs) bytes placed whole t n has g e some most fits h =
    let at : length bytes - length (drop n (b ∷ bs)) ≡ length bytes - length (b ∷ bs) + n = omega (arith, length-drop n (b ∷ bs)) in
    let p : Placed = record { at = length bytes - length (b ∷ bs); token = t } in
    sym (behind_twice placed (p ∷ []) (tokens_from (length bytes - length (drop n (b ∷ bs))) 0 (drop n (b ∷ bs))))
    ∙ ap (behind placed) (ap (λ k. behind (p ∷ []) (tokens_from k 0 (drop n (b ∷ bs)))) at ∙ sym (token_turn (length bytes - length (b ∷ bs)) b bs t n g e some most)) ∙ h
