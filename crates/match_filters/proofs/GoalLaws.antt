-- The goal of one filter more.
use Rattle.std.proofs.Common.{◌≡◌, ℕ, ◌+◌, ◌<◌, ◌≤◌, List, [], ◌∷◌, ◌++◌, length, take, get_or, zero, suc, refl, ap, arith}
use Rattle.filter_constraints.specs.Constraint.{ConstraintParts}
use Rattle.match_index.specs.Pairs.{tally}
use Rattle.match_index.proofs.Tallies.{tally-append}
use Rattle.match_cells.specs.declared.counts.Counts.{Counts}
use Rattle.match_filters.specs.Goals.{AreGoals, IsFilled, AreEntered}
use Rattle.match_filters.specs.Kinds.{ByKind, all_uses, IsAdded}
use Rattle.match_filters.specs.Slots.{numbered}
use Rattle.match_filters.proofs.Filling.{uses-push}
use Rattle.match_filters.proofs.Uses.{in-step}

-- the constraints of a filter, put one after another

pub entered-none : (id : ℕ) (index : ByKind) → AreEntered [] id index index
entered-none id index = record { same = λ p. refl; kept = λ k. k }

pub entered-more : (id i : ℕ) (cs : List ConstraintParts) (c : ConstraintParts) (start old new : ByKind) → i < length cs → c ≡ get_or cs i c → AreEntered (take i cs) id start old → IsAdded c id old new → AreEntered (take (i + 1) cs) id start new
entered-more id i cs c start old new l e is more = record {
  same = in-step (all_uses start) (all_uses old) (all_uses new) id i cs c l e is.same more.same;
  kept = λ k. more.kept (is.kept k);
}

-- one filter more

few-push : (fs : List (List ConstraintParts)) (f : List ConstraintParts) → length f ≤ 16 → ((k : ℕ) → length (get_or fs k []) ≤ 16) → (k : ℕ) → length (get_or (fs ++ f ∷ []) k []) ≤ 16
few-push [] f l h zero = l
few-push [] f l h (suc k) = h (suc k)
few-push (g ∷ fs) f l h zero = h 0
few-push (g ∷ fs) f l h (suc k) = few-push fs f l (λ j. h (suc j)) k

pub filled-more : (old new : ByKind) (goals more : List Counts) (filters : List (List ConstraintParts)) (f : List ConstraintParts) (id : ℕ) → length filters ≡ id → length f ≤ 16 → IsFilled old goals filters → AreEntered f id old new → AreGoals more (filters ++ f ∷ []) → IsFilled new more (filters ++ f ∷ [])
filled-more old new goals more filters f id e l is entered reached = record {
  sorted = entered.kept is.sorted;
  indexed = λ p. (
      let z : 0 + length filters ≡ id = omega (arith, e) in
      omega (arith, entered.same p, tally-append p (numbered id f) (all_uses old), uses-push p 0 filters f, ap (λ (k : ℕ). tally p (numbered k f)) z, is.indexed p));
  reached = reached;
  few = few-push filters f l is.few;
}
