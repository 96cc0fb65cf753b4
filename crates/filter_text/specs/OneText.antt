-- Defines what it says that each value has one text, and each text one value.
use Rattle.std.specs.Prelude.{◌≡◌, ℕ, List}

-- no value has two texts
abbrev pub HasOneText : {X : Type 0} → (List ℕ → X → Type 0) → Type 0
HasOneText {X = X} text = (x : X) (a b : List ℕ) → text a x → text b x → a ≡ b

-- no text belongs to two values
abbrev pub HasOneValue : {X : Type 0} → (List ℕ → X → Type 0) → Type 0
HasOneValue {X = X} text = (bytes : List ℕ) (x y : X) → text bytes x → text bytes y → x ≡ y
