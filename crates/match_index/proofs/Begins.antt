-- Lemmas on what a list keeps at its beginning.
use Rattle.std.proofs.Common.{◌≡◌, ◌∙◌, ap, refl, sym, List, [], ◌∷◌, ◌++◌, ℕ, append-nil, take, length}
use Rattle.match_index.specs.Pairs.{BeginsWith, KeepsBeginning}
use Rattle.std.proofs.Math.Seq.{take-append_seam}

pub begins-itself : (xs : List ℕ) → BeginsWith xs xs
begins-itself xs = record { tail = []; whole = sym (append-nil xs) }

-- cut to its old length, the list is as it was
pub cut-back : (old new : List ℕ) → KeepsBeginning old new → take (length old) new ≡ old
cut-back old new h = let b = h old (begins-itself old) in ap (take (length old)) b.whole ∙ take-append_seam old b.tail
