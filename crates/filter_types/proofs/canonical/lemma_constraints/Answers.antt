use Rattle.std.proofs.Common.{◌≡◌, ℕ, zero, suc, ◌+◌, ◌<◌, List, [], ◌∷◌, length, take, get_or, add-one, arith, sym, subst}
use Rattle.filter_constraints.specs.Constraint.{ConstraintParts, IsConstraint}
use Rattle.filter_types.specs.Canonical.{AreConstraints}
use Rattle.filter_types.proofs.canonical.lemma_constraints.Goals as goal

more : (xs : List ConstraintParts) (i : ℕ) (c : ConstraintParts) → i < length xs → c ≡ get_or xs i c → IsConstraint c → AreConstraints (take i xs) → AreConstraints (take (i + 1) xs)
more xs i c l e w a = subst (λ (n : ℕ). AreConstraints (take n xs)) (sym (add-one i)) (go xs i l e a)
  where
    go : (xs : List ConstraintParts) (i : ℕ) → i < length xs → c ≡ get_or xs i c → AreConstraints (take i xs) → AreConstraints (take (suc i) xs)
    go [] i l e a = absurd (omega arith)
    go (x ∷ xs) zero l e a = (subst IsConstraint e w, tt)
    go (x ∷ xs) (suc i) l e a = (a.0, go xs i (omega arith) e a.1)

pub loop-constraint-preserved : goal.loop-constraint-preserved
loop-constraint-preserved c = let t : c.loop-constraint.constraint-index < length c.args.constraints.now = omega arith in more c.args.constraints.now c.loop-constraint.constraint-index c.constraint-item.result t c.constraint-item.is c.op-op.ensures.whole c.loop-constraint.invariant
