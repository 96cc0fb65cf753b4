-- Lemmas on an index whose patterns and other tests are kept apart.
use Rattle.std.proofs.Common.{◌≡◌, ◌+◌, ap, arith, List, ◌∷◌, ◌++◌}
use Rattle.match_index.specs.Pairs.{tally, Same, Pair}
use Rattle.match_index.proofs.Tallies.{tally-append}

module _ (a b v : List Pair) (e : a ++ b ≡ v) (x : Pair) (new : List Pair) where
  pub more-others : Same new (x ∷ a) → Same (new ++ b) (x ∷ v)
  more-others s = λ p. omega (arith, tally-append p new b, tally-append p a b, s p, ap (tally p) e)

  pub more-patterns : Same new (x ∷ b) → Same (a ++ new) (x ∷ v)
  more-patterns s = λ p. omega (arith, tally-append p a new, tally-append p a b, s p, ap (tally p) e)
