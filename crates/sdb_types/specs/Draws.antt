-- What clocks and sources of ids answer, call after call.
use Rattle.std.specs.Prelude.{◌≡◌, ℕ, zero, suc, ◌+◌, ◌-◌, ◌%◌, ◌^◌, ℤ, pos, ◌≤ℤ◌, List, [], ◌∷◌, ◌++◌, length, Option, Some, None, unwrap_or, slice_get, nat_lt, if◌then◌else◌}

-- a moment: from 0 to 2^53
abbrev pub IsMoment : ℤ → Type 0
IsMoment moment = (pos 0 ≤ℤ moment) × (moment ≤ℤ pos (2 ^ 53))

-- The answer was added at the end of those given before. Answers that are known after a call were known before it.
abbrev pub IsAppended : {X : Type 0} → X → Option (List X) → Option (List X) → Type 0
IsAppended answer old None = Unit {0}
IsAppended answer None (Some new) = ⊥
IsAppended answer (Some old) (Some new) = new ≡ old ++ answer ∷ []

-- the first n answers, where the k-th call, from 0 on, answers f k
abbrev pub first_answers : {X : Type 0} → (ℕ → X) → ℕ → List X
first_answers f zero = []
first_answers f (suc n) = first_answers f n ++ f n ∷ []

-- the answers to the calls made so far, known until call 2^64 - 1
abbrev pub answers_given : {X : Type 0} → (ℕ → X) → ℕ → Option (List X)
answers_given f made = if nat_lt made (2 ^ 64 - 1) then Some (first_answers f made) else None

-- one more call, as far as a count of 64 bits goes
abbrev pub counted : ℕ → ℕ
counted made = if nat_lt made (2 ^ 64 - 1) then made + 1 else made

-- the moments in turn, then the last again and again; 0 where there is none
abbrev pub moment_of : List ℤ → ℕ → ℤ
moment_of moments n = unwrap_or (slice_get moments n) (unwrap_or (slice_get moments (length moments - 1)) (pos 0))

-- numbers of 128 bits that rise by one and wrap
abbrev pub number_from : ℕ → ℕ → ℕ
number_from first n = (first + n) % 2 ^ 128
