-- Lemmas on numbers picked out of a list in its order.
use Rattle.std.proofs.Common.{ℕ, ◌≤◌, cond, true, false, nat_lt, List, [], ◌∷◌, inl, inr, length, refl, arith}
use Rattle.law_machine.specs.Machine.{Machine, receivers}
use Rattle.thread_cell.specs.LaneMessages.{AreInOrder}

pub no-longer : (xs ys : List ℕ) → AreInOrder xs ys → length xs ≤ length ys
no-longer [] ys o = omega arith
no-longer (x ∷ xs) [] o = absurd o
no-longer (x ∷ xs) (y ∷ ys) (inl o) = omega (arith, no-longer xs ys o.1)
no-longer (x ∷ xs) (y ∷ ys) (inr o) = omega (arith, no-longer (x ∷ xs) ys o)

-- more names behind change nothing for a list that is in order
later : (xs : List ℕ) (y : ℕ) (ys : List ℕ) → AreInOrder xs ys → AreInOrder xs (y ∷ ys)
later [] y ys o = tt
later (x ∷ xs) y ys o = inr o

-- receivers are in the order of the neighbours
pub receivers-in-order : (m : Machine) (outs : ℕ → List m.Message) (links : List ℕ) → AreInOrder (receivers m outs links) links
receivers-in-order m outs [] = tt
receivers-in-order m outs (l ∷ links) = go (nat_lt 0 (length (outs l))) (receivers-in-order m outs links)
  where
    go : (b : _) → AreInOrder (receivers m outs links) links → AreInOrder (cond b (l ∷ receivers m outs links) (receivers m outs links)) (l ∷ links)
    go true o = inl (refl, o)
    go false o = later (receivers m outs links) l links o
