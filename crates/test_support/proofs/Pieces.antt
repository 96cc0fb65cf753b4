-- Lemmas on bytes that are given piece by piece.
use Rattle.std.proofs.Common.{◌≡◌, ℕ, ◌+◌, List, ◌++◌, take, drop, ap, ◌∙◌, take-append-drop}
use Rattle.std.proofs.lemmas.List.{append_cancel_right}
use Rattle.std.proofs.Math.Seq.{take-add}

-- what is given goes behind what was given
pub given_piece : (bytes into : List ℕ) (at n : ℕ) → drop at bytes ≡ take n into ++ drop n (drop at bytes) → take (at + n) bytes ≡ take at bytes ++ take n into
given_piece bytes into at n e =
    take-add at n bytes ∙ ap (λ l. take at bytes ++ l) (append_cancel_right (take n (drop at bytes)) (take n into) (drop n (drop at bytes)) (take-append-drop n (drop at bytes) ∙ e))
