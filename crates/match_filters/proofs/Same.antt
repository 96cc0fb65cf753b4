-- Laws of lists with the same members in whatever order.
use Rattle.std.proofs.Common.{◌≡◌, ◌∙◌, ℕ, refl, sym, ap, List, [], append-nil}
use Rattle.match_index.specs.Pairs.{tally, Same, Appends}

pub same-of : {X : Type 0} (xs ys : List X) → xs ≡ ys → Same xs ys
same-of xs ys e = λ p. ap (tally p) e

pub appends-none : (xs : List ℕ) → Appends xs xs []
appends-none xs = record { tail = []; whole = sym (append-nil xs); same = λ p. refl }

pub appends-same : (old new xs ys : List ℕ) → Appends old new xs → Same xs ys → Appends old new ys
appends-same old new xs ys h g = record { tail = h.tail; whole = h.whole; same = λ p. h.same p ∙ g p }
