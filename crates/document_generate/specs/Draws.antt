-- Defines the numbers that a document is made of: a linear congruential generator.
use Rattle.std.specs.Prelude.{ℕ, zero, suc, ◌+◌, ◌*◌, ◌/◌, ◌%◌, ◌^◌}

-- the state after a draw
unfoldable pub next : ℕ → ℕ
next state = (state * 6364136223846793005 + 1442695040888963407) % 2 ^ 64

-- the number below a bound that is drawn at a state
unfoldable pub draw : ℕ → ℕ → ℕ
draw state bound = (next state / 2 ^ 33) % bound

-- the letter from `a` (97) to `f` that is drawn at a state
unfoldable pub letter : ℕ → ℕ
letter state = 97 + draw state 6

-- the state after so many draws
abbrev pub after : ℕ → ℕ → ℕ
after zero state = state
after (suc n) state = after n (next state)
