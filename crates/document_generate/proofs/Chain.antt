-- Lemmas on a text that is appended piece by piece.
use Rattle.std.proofs.Common.{◌≡◌, ℕ, List, ◌++◌, ap, ◌∙◌, append_assoc}

pub join : (x y a b : List ℕ) → a ≡ x → b ≡ a ++ y → b ≡ x ++ y
join x y a b p q = q ∙ ap (λ w. w ++ y) p
