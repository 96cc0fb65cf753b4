-- Lemmas on beginnings of lists.
use Rattle.std.proofs.Common.{◌≡◌, List, [], ◌∷◌, ◌++◌, sym, ap, ◌∙◌}
use mathlib.Core.List.{IsPrefix}
use Rattle.law_machine.proofs.Lists.{append-nothing, append-together}

module _ {X : Type 0} where
  pub prefix-of : (xs ys : List X) → ys ≡ xs → IsPrefix xs ys
  prefix-of xs ys e = ([], append-nothing xs ∙ sym e)

  pub prefix-more : (xs ys : List X) (y : X) → ys ≡ xs ++ y ∷ [] → IsPrefix xs ys
  prefix-more xs ys y e = (y ∷ [], sym e)

  pub prefix-along : (xs ys zs : List X) → IsPrefix xs ys → IsPrefix ys zs → IsPrefix xs zs
  prefix-along xs ys zs p q = (p.0 ++ q.0, sym (append-together xs p.0 q.0) ∙ ap (λ z. z ++ q.0) p.1 ∙ q.1)
