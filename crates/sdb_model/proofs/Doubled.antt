-- A text with its quotes doubled, part by part between the quotes.
use Rattle.std.proofs.Common.{◌≡◌, ℕ, ◌+◌, ◌<◌, Bool, true, false, cond, not, ◌==◌, if◌then◌else◌, List, [], ◌∷◌, ◌++◌, length, take, drop, codes, refl, ap, sym, ◌∙◌, arith, suc, append_assoc}
use Rattle.std.specs.List.{flat_map, position_or_len, before_first, after_first}
use Rattle.sdb_model.specs.Texts.{doubled}

abbrev pub is_quote : ℕ → Bool
is_quote b = b == 39

none_step : (v : Bool) (b p : ℕ) (bs : List ℕ) → cond (not v) (1 + p) 0 ≡ length (b ∷ bs) → (p ≡ length bs → flat_map doubled bs ≡ bs) → (if v then codes "''" else b ∷ []) ++ flat_map doubled bs ≡ b ∷ bs
none_step true b p bs h rest = absurd (omega arith)
none_step false b p bs h rest = ap (λ t. b ∷ t) (rest (omega arith))

-- a text without a quote stays as it is
pub doubled_none : (s : List ℕ) → position_or_len is_quote s ≡ length s → flat_map doubled s ≡ s
doubled_none [] h = refl
doubled_none (b ∷ bs) h = none_step (is_quote b) b (position_or_len is_quote bs) bs h (doubled_none bs)

first_step : (v : Bool) (b p : ℕ) (bs : List ℕ) → cond (not v) (1 + p) 0 < length (b ∷ bs) → (p < length bs → flat_map doubled bs ≡ take p bs ++ codes "''" ++ flat_map doubled (drop (p + 1) bs))
    → (if v then codes "''" else b ∷ []) ++ flat_map doubled bs ≡ take (cond (not v) (1 + p) 0) (b ∷ bs) ++ codes "''" ++ flat_map doubled (drop (cond (not v) (1 + p) 0 + 1) (b ∷ bs))
first_step true b p bs h rest = refl
first_step false b p bs h rest =
    let e : 1 + p + 1 ≡ suc (p + 1) = omega arith in
    let f : 1 + p ≡ suc p = omega arith in
    rw (e, f) (ap (λ t. b ∷ t) (rest (omega arith)))

-- up to the first quote, then the quote twice, then what follows it
pub doubled_first : (s : List ℕ) → position_or_len is_quote s < length s → flat_map doubled s ≡ before_first is_quote s ++ codes "''" ++ flat_map doubled (after_first is_quote s)
doubled_first [] h = absurd (omega arith)
doubled_first (b ∷ bs) h = first_step (is_quote b) b (position_or_len is_quote bs) bs h (doubled_first bs)

-- one more part written, and its quote
pub doubled_more : (start rest : List ℕ) {out middle whole front back : List ℕ} → start ++ flat_map doubled rest ≡ whole → front ≡ before_first is_quote rest → back ≡ after_first is_quote rest → position_or_len is_quote rest < length rest
    → middle ≡ start ++ front → out ≡ middle ++ codes "''" → out ++ flat_map doubled back ≡ whole
doubled_more start rest {out} {middle} {whole} {front} {back} h f b p m o =
    let d = doubled_first rest p in
    rw (o, m, f, b) (simp append_assoc (ap (λ t. start ++ t) (simp append_assoc at (sym d)) ∙ h))

-- the last part written
pub doubled_done : (start rest : List ℕ) {out whole : List ℕ} → start ++ flat_map doubled rest ≡ whole → position_or_len is_quote rest ≡ length rest → out ≡ start ++ rest → out ≡ whole
doubled_done start rest {out} {whole} h p o = o ∙ ap (λ t. start ++ t) (sym (doubled_none rest p)) ∙ h
