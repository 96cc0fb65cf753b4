-- Proves that the count of commands of lower phases never falls from phase to phase.
use Rattle.std.proofs.Common.{◌≡◌, ℕ, suc, ◌≤◌, ◌+◌, Bool, true, false, cond, nat_lt, List, [], ◌∷◌, refl, arith}
use Rattle.std.proofs.lemmas.Bool.Decides.{nat_tests}
use Rattle.output_flood.specs.Held.{below}

count_rises : (a b : Bool) (m n : ℕ) → (a ≡ true → b ≡ true) → m ≤ n → cond a (suc m) m ≤ cond b (suc n) n
count_rises true true m n f l = omega (arith, l)
count_rises true false m n f l = let e = f refl in absurd cc
count_rises false true m n f l = omega (arith, l)
count_rises false false m n f l = l

lower : (p k : ℕ) → nat_lt p k ≡ true → nat_lt p (k + 1) ≡ true
lower p k e = grind (arith, nat_tests)

pub below_rises : {A : Type 0} (k : ℕ) (script : List (ℕ × A)) → below k script ≤ below (k + 1) script
below_rises k [] = omega arith
below_rises k (step ∷ steps) =
    count_rises (nat_lt step.0 k) (nat_lt step.0 (k + 1)) (below k steps) (below (k + 1) steps) (lower step.0 k) (below_rises k steps)
