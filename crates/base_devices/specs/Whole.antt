-- Defines what is read or written of a whole text, also after a fault.
use Rattle.std.specs.Prelude.{◌≡◌, ℕ, ◌<◌, List, ◌++◌, length}

-- some bytes were given, and nothing else is known of them but P
abbrev pub Gave : List ℕ → List ℕ → (List ℕ → Type 0) → Type 0
Gave old new P = (given : List ℕ) × (new ≡ old ++ given) × P given

-- a front of the bytes that is not all of them was taken
abbrev pub TookPart : List ℕ → List ℕ → List ℕ → Type 0
TookPart old new bytes = (part : List ℕ) × (rest : List ℕ) × (bytes ≡ part ++ rest) × (0 < length rest) × (new ≡ old ++ part)
