-- The readers of parts follow the machine of one token a step.
use Rattle.std.proofs.Common.{◌≡◌, ℕ, zero, suc, ◌<◌, ◌≤◌, Bool, true, false, cond, List, [], ◌∷◌, ◌++◌, length, Option, Some, None, Result, Ok, Err, refl, sym, ap, ◌∙◌, inl, inr, arith}
use Rattle.sdb_sqltext.specs.Types.{Keyword, Placed, Sign, Statement, Token}
use Rattle.sdb_model.specs.declared.token.Token.TheVariants.{Word, Sign as Mark}
use Rattle.sdb_sqltext.specs.States.{State}
use Rattle.sdb_model.specs.Sql.{is_word, is_sign}
use Rattle.sdb_sqltext.specs.Machine.{on_word, on_sign, step}
use Rattle.sdb_sqltext.specs.Parsing.{finish, or_at, then as and_then, parse_from}
use Rattle.sdb_sqltext.specs.Readers.{Read, next_word, next_sign, after_word, after_sign, part_at, choose, items_on, list_at}
use Rattle.sdb_sqltext.proofs.Reached.{chosen, word_is, sign_is}
use Rattle.sdb_types.proofs.Public.{by_option, some_is}
use Rattle.sdb_types.specs.Options.{◌>>=◌}

-- ---- one after the other

pub then_same : {A B : Type 0} (r : Result A ℕ) (f g : A → Result B ℕ) → ((x : A) → r ≡ Ok x → f x ≡ g x) → and_then r f ≡ and_then r g
then_same (Ok x) f g h = h x refl
then_same (Err e) f g h = refl

pub then_twice : {A B C : Type 0} (r : Result A ℕ) (f : A → Result B ℕ) (g : B → Result C ℕ) → and_then (and_then r f) g ≡ and_then r (λ x. and_then (f x) g)
then_twice (Ok x) f g = refl
then_twice (Err e) f g = refl

-- what follows a part, once its first reader is known
pub onward : {A B C : Type 0} (r : Result A ℕ) (f : A → Result B ℕ) (g : B → Result C ℕ) (k : A → Result C ℕ) → ((x : A) → k x ≡ and_then (f x) g) → and_then r k ≡ and_then (and_then r f) g
onward (Ok x) f g k h = h x
onward (Err e) f g k h = refl

-- ---- one token

part_by : {A : Type 0} (r : Option A) (f : A → State) (at : ℕ) (ps : List Placed) (end : ℕ) → and_then (or_at at (r >>= λ x. Some (f x))) (λ n. parse_from n ps end) ≡ and_then (and_then {B = A × List Placed} (or_at at r) (λ x. Ok (x, ps))) (λ r. parse_from (f r.0) r.1 end)
part_by (Some x) f at ps end = refl
part_by None f at ps end = refl

-- what a state makes of tokens, where these steps alone are left
abbrev pub other : Option Statement → (Token → Option State) → List Placed → ℕ → Result Statement ℕ
other ends others [] end = or_at end ends
other ends others (p ∷ ps) end = and_then (or_at p.at (others p.token)) (λ n. parse_from n ps end)

pub all_other : (s : State) (ps : List Placed) (end : ℕ) → parse_from s ps end ≡ other (finish s) (step s) ps end
all_other s [] end = refl
all_other s (p ∷ ps) end = refl

pub other_part : {A : Type 0} (part : Token → Option A) (f : A → State) (ps : List Placed) (end : ℕ) → other None (λ t. part t >>= λ x. Some (f x)) ps end ≡ and_then (part_at part ps end) (λ r. parse_from (f r.0) r.1 end)
other_part part f [] end = refl
other_part part f (p ∷ ps) end = part_by (part p.token) f p.at ps end

if_by : (b : Bool) (n : State) (at : ℕ) (ps : List Placed) (end : ℕ) → and_then (or_at at (cond b (Some n) None)) (λ n. parse_from n ps end) ≡ and_then (or_at at (cond b (Some ps) None)) (λ rest. parse_from n rest end)
if_by true n at ps end = refl
if_by false n at ps end = refl

pub other_word : (k : Keyword) (n : State) (ps : List Placed) (end : ℕ) → other None (on_word k n) ps end ≡ and_then (after_word k ps end) (λ rest. parse_from n rest end)
other_word k n [] end = refl
other_word k n (p ∷ ps) end = if_by (is_word k p.token) n p.at ps end

pub other_sign : (k : Sign) (n : State) (ps : List Placed) (end : ℕ) → other None (on_sign k n) ps end ≡ and_then (after_sign k ps end) (λ rest. parse_from n rest end)
other_sign k n [] end = refl
other_sign k n (p ∷ ps) end = if_by (is_sign k p.token) n p.at ps end

-- a word or a sign comes next
pub word_goes : (s n : State) (k : Keyword) → step s (Word k) ≡ Some n → (ps qs : List Placed) (end : ℕ) → next_word k ps ≡ Some qs → parse_from s ps end ≡ parse_from n qs end
word_goes s n k goes [] qs end h = absurd cc
word_goes s n k goes (p ∷ ps) qs end h =
    elim (chosen (is_word k p.token) (Some ps) None (Some qs) h) as (λ _. parse_from s (p ∷ ps) end ≡ parse_from n qs end) [
      | inl c ↦ ap (λ (r : Option State). and_then (or_at p.at r) (λ n. parse_from n ps end)) (ap (step s) (word_is k p.token c.0) ∙ goes) ∙ ap (λ (r : List Placed). parse_from n r end) (some_is ps qs c.1)
      | inr c ↦ absurd (let bad = c.1 in cc)
    ]

pub sign_goes : (s n : State) (k : Sign) → step s (Mark k) ≡ Some n → (ps qs : List Placed) (end : ℕ) → next_sign k ps ≡ Some qs → parse_from s ps end ≡ parse_from n qs end
sign_goes s n k goes [] qs end h = absurd cc
sign_goes s n k goes (p ∷ ps) qs end h =
    elim (chosen (is_sign k p.token) (Some ps) None (Some qs) h) as (λ _. parse_from s (p ∷ ps) end ≡ parse_from n qs end) [
      | inl c ↦ ap (λ (r : Option State). and_then (or_at p.at r) (λ n. parse_from n ps end)) (ap (step s) (sign_is k p.token c.0) ∙ goes) ∙ ap (λ (r : List Placed). parse_from n r end) (some_is ps qs c.1)
      | inr c ↦ absurd (let bad = c.1 in cc)
    ]

-- or does not
pub word_stops : (s : State) (k : Keyword) (first : Option State) (others : Token → Option State) → ((t : Token) → step s t ≡ cond (is_word k t) first (others t)) → (ps : List Placed) (end : ℕ) → next_word k ps ≡ None → parse_from s ps end ≡ other (finish s) others ps end
word_stops s k first others same [] end h = refl
word_stops s k first others same (p ∷ ps) end h =
    elim (chosen (is_word k p.token) (Some ps) None None h) as (λ _. parse_from s (p ∷ ps) end ≡ other (finish s) others (p ∷ ps) end) [
      | inl c ↦ absurd (let bad = c.1 in cc)
      | inr c ↦ ap (λ (r : Option State). and_then (or_at p.at r) (λ n. parse_from n ps end)) (same p.token ∙ ap (λ (b : Bool). cond b first (others p.token)) c.0)
    ]

pub sign_stops : (s : State) (k : Sign) (first : Option State) (others : Token → Option State) → ((t : Token) → step s t ≡ cond (is_sign k t) first (others t)) → (ps : List Placed) (end : ℕ) → next_sign k ps ≡ None → parse_from s ps end ≡ other (finish s) others ps end
sign_stops s k first others same [] end h = refl
sign_stops s k first others same (p ∷ ps) end h =
    elim (chosen (is_sign k p.token) (Some ps) None None h) as (λ _. parse_from s (p ∷ ps) end ≡ other (finish s) others (p ∷ ps) end) [
      | inl c ↦ absurd (let bad = c.1 in cc)
      | inr c ↦ ap (λ (r : Option State). and_then (or_at p.at r) (λ n. parse_from n ps end)) (same p.token ∙ ap (λ (b : Bool). cond b first (others p.token)) c.0)
    ]

-- ---- what is left is shorter

-- how many tokens are left
abbrev pub left_len : {A : Type 0} → Read A → ℕ
left_len (Ok r) = length r.1
left_len (Err at) = 0

shorter_by : {A : Type 0} (r : Option A) (at : ℕ) (ps : List Placed) (x : A) (qs : List Placed) → and_then {B = A × List Placed} (or_at at r) (λ x. Ok (x, ps)) ≡ Ok (x, qs) → length qs ≤ suc (length ps)
shorter_by (Some y) at ps x qs h = let e : length ps ≡ length qs = ap left_len h in omega (arith, e)
shorter_by None at ps x qs h = absurd cc

pub part_shorter : {A : Type 0} (part : Token → Option A) (ps : List Placed) (end : ℕ) (x : A) (qs : List Placed) → part_at part ps end ≡ Ok (x, qs) → length qs ≤ length ps
part_shorter part [] end x qs h = absurd cc
part_shorter part (p ∷ ps) end x qs h = shorter_by (part p.token) p.at ps x qs h

next_by : (b : Bool) (ps qs : List Placed) → cond b (Some ps) None ≡ Some qs → ps ≡ qs
next_by true ps qs h = some_is ps qs h
next_by false ps qs h = absurd cc

pub word_shorter : (k : Keyword) (ps qs : List Placed) → next_word k ps ≡ Some qs → length qs < length ps
word_shorter k [] qs h = absurd cc
word_shorter k (p ∷ ps) qs h = let e = ap (λ (r : List Placed). length r) (next_by (is_word k p.token) ps qs h) in omega (arith, e)

pub sign_shorter : (k : Sign) (ps qs : List Placed) → next_sign k ps ≡ Some qs → length qs < length ps
sign_shorter k [] qs h = absurd cc
sign_shorter k (p ∷ ps) qs h = let e = ap (λ (r : List Placed). length r) (next_by (is_sign k p.token) ps qs h) in omega (arith, e)

pub then_shorter : {A B : Type 0} (r : Read A) (f : A × List Placed → Read B) (most : ℕ) (x : B) (qs : List Placed) → ((y : A) (rs : List Placed) → r ≡ Ok (y, rs) → length rs ≤ most) → ((y : A) (rs : List Placed) → f (y, rs) ≡ Ok (x, qs) → length qs ≤ length rs)
    → and_then r f ≡ Ok (x, qs) → length qs ≤ most
then_shorter (Ok (y, rs)) f most x qs h k e = let a = h y rs refl in let b = k y rs e in omega arith
then_shorter (Err at) f most x qs h k e = absurd cc

-- ---- lists

pub record Follows {A : Type 0} (item : List Placed → ℕ → Read A) (next : List Placed → Option (List Placed)) (end : ℕ) (loop again : List A → State) (rest : List A → List Placed → Result Statement ℕ) : Type 0 where
  pub shorter : (ps : List Placed) (x : A) (qs : List Placed) → item ps end ≡ Ok (x, qs) → length qs ≤ length ps
  pub smaller : (ps qs : List Placed) → next ps ≡ Some qs → length qs < length ps
  pub running : (xs : List A) (ps qs : List Placed) → next ps ≡ Some qs → parse_from (loop xs) ps end ≡ parse_from (again xs) qs end
  pub one : (xs : List A) (ps : List Placed) → parse_from (again xs) ps end ≡ and_then (item ps end) (λ r. parse_from (loop (xs ++ r.0 ∷ [])) r.1 end)
  pub stopping : (xs : List A) (ps : List Placed) → next ps ≡ None → parse_from (loop xs) ps end ≡ rest xs ps

pub items_follow : {A : Type 0} (item : List Placed → ℕ → Read A) (next : List Placed → Option (List Placed)) (end : ℕ) (loop again : List A → State) (rest : List A → List Placed → Result Statement ℕ) → Follows item next end loop again rest
    → (n : ℕ) (xs : List A) (ps : List Placed) → length ps ≤ n → parse_from (loop xs) ps end ≡ and_then (items_on item next end n xs ps) (λ r. rest r.0 r.1)
items_follow item next end loop again rest f zero xs ps h =
    by_option (next ps) (λ qs e. let bad = f.smaller ps qs e in absurd (omega arith)) (λ e. f.stopping xs ps e)
items_follow item next end loop again rest f (suc n) xs ps h =
    let more = λ (qs : List Placed). and_then (item qs end) (λ r. items_on item next end n (xs ++ r.0 ∷ []) r.1) in
    by_option (next ps)
    (λ qs e.
    let small = f.smaller ps qs e in
    let turns = then_same (item qs end) (λ r. parse_from (loop (xs ++ r.0 ∷ [])) r.1 end) (λ r. and_then (items_on item next end n (xs ++ r.0 ∷ []) r.1) (λ r. rest r.0 r.1))
    (λ r ok. let short = f.shorter qs r.0 r.1 ok in items_follow item next end loop again rest f n (xs ++ r.0 ∷ []) r.1 (omega arith)) in
    f.running xs ps qs e ∙ f.one xs qs ∙ turns ∙ sym (then_twice (item qs end) (λ r. items_on item next end n (xs ++ r.0 ∷ []) r.1) (λ r. rest r.0 r.1))
    ∙ ap (λ (o : Option (List Placed)). and_then (choose o more (Ok (xs, ps))) (λ r. rest r.0 r.1)) (sym e))
    (λ e. f.stopping xs ps e ∙ ap (λ (o : Option (List Placed)). and_then (choose o more (Ok (xs, ps))) (λ r. rest r.0 r.1)) (sym e))

pub list_follows : {A : Type 0} (item : List Placed → ℕ → Read A) (next : List Placed → Option (List Placed)) (end : ℕ) (loop again : List A → State) (rest : List A → List Placed → Result Statement ℕ) → Follows item next end loop again rest
    → (ps : List Placed) → parse_from (again []) ps end ≡ and_then (list_at item next ps end) (λ r. rest r.0 r.1)
list_follows item next end loop again rest f ps =
    f.one [] ps
    ∙ then_same (item ps end) (λ r. parse_from (loop (r.0 ∷ [])) r.1 end) (λ r. and_then (items_on item next end (length r.1) (r.0 ∷ []) r.1) (λ r. rest r.0 r.1))
    (λ r ok. items_follow item next end loop again rest f (length r.1) (r.0 ∷ []) r.1 (omega arith))
    ∙ sym (then_twice (item ps end) (λ r. items_on item next end (length r.1) (r.0 ∷ []) r.1) (λ r. rest r.0 r.1))
