-- The generator of a bench: its states of 64 bits, and the draws.
use Rattle.std.specs.Prelude.{ℕ, zero, suc, ◌+◌, ◌*◌, ◌/◌, ◌%◌, ◌^◌, List, [], ◌∷◌, ◌++◌}

-- the state after one draw
abbrev pub next_state : ℕ → ℕ
next_state x = (x * 6364136223846793005 + 1442695040888963407) % 2 ^ 64

-- the state after so many draws
abbrev pub state_after : ℕ → ℕ → ℕ
state_after x zero = x
state_after x (suc k) = next_state (state_after x k)

-- what a draw below m gives, by the state after it: the high 31 bits modulo m
abbrev pub below : ℕ → ℕ → ℕ
below m x = x / 2 ^ 33 % m

-- the draw below m that comes after k draws
abbrev pub draw : ℕ → ℕ → ℕ → ℕ
draw x k m = below m (state_after x (suc k))

-- the numbers below a number, in order
abbrev pub numbers_below : ℕ → List ℕ
numbers_below zero = []
numbers_below (suc n) = numbers_below n ++ n ∷ []
