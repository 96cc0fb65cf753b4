-- The uses of one filter, put into an index and taken out of it.
use Rattle.std.proofs.Common.{◌≡◌, ◌+◌, ◌<◌, ap, arith, ℕ, cond, List, ◌∷◌, ◌++◌, length, take, get_or}
use Rattle.filter_constraints.specs.Constraint.{ConstraintParts}
use Rattle.match_index.specs.Pairs.{Same}
use Rattle.match_index.proofs.Tallies.{tally-append, tally-map, tally-more}
use Rattle.match_filters.specs.Index.{Use}
use Rattle.match_filters.specs.Slots.{numbered}

-- one use more is in
pub in-step : (start old now : List Use) (id i : ℕ) (cs : List ConstraintParts) (c : ConstraintParts) → i < length cs → c ≡ get_or cs i c → Same old (numbered id (take i cs) ++ start) → Same now ((c, id) ∷ old) → Same now (numbered id (take (i + 1) cs) ++ start)
in-step start old now id i cs c l e h g = λ p.
    let a = tally-append p (numbered id (take i cs)) start in
    let b = tally-append p (numbered id (take (i + 1) cs)) start in
    let m = tally-map (λ (x : ConstraintParts). (x, id)) p (take i cs) in
    let n = tally-map (λ (x : ConstraintParts). (x, id)) p (take (i + 1) cs) in
    let o = tally-more (λ (x : ConstraintParts). p (x, id)) cs i c l in
    let q = ap {B = ℕ} (λ (x : ConstraintParts). cond (p (x, id)) 1 0) e in
    omega (arith, a, b, m, n, o, q, h p, g p)
