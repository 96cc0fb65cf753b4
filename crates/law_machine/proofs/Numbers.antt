-- Numbers: climbing from one on, and the last at which a test holds.
use Rattle.std.proofs.Common.{◌≡◌, ℕ, zero, suc, ◌≤◌, ◌<◌, Bool, true, false, cond, List, [], ◌∷◌, ◌++◌, ◌⊎◌, inl, inr, length, drop, slice_get, Some, refl, subst, arith}
use Rattle.base.proofs.Numbers.{Same, Is, Not, compare}
use Rattle.law_machine.specs.Links.{last_where}
use Rattle.std.proofs.lemmas.Bool.{cases_lt}

-- from a number on
pub climb : (P : ℕ → Type 0) (x : ℕ) → P x → ((y : ℕ) → x ≤ y → P y → P (suc y)) → (m : ℕ) → x ≤ m → P m
climb P x base step zero le = subst P (omega arith) base
climb P x base step (suc m) le = go (compare x (suc m)) (λ l. climb P x base step m l)
  where
    go : Same x (suc m) → (x ≤ m → P m) → P (suc m)
    go (Is q v) ih = subst P q base
    go (Not n v) ih = step m (omega arith) (ih (omega arith))

-- the test holds there, and at no later one
pub last-where : (p : ℕ → Bool) (m : ℕ) → p 0 ≡ true → (p (last_where p m) ≡ true) × (last_where p m ≤ m) × ((y : ℕ) → last_where p m < y → y ≤ m → p y ≡ false)
last-where p zero e = (e, omega arith, λ y l h. absurd (omega arith))
last-where p (suc m) e = go (p (suc m)) refl (last-where p m e)
  where
    go : (b : Bool) → p (suc m) ≡ b → (p (last_where p m) ≡ true) × (last_where p m ≤ m) × ((y : ℕ) → last_where p m < y → y ≤ m → p y ≡ false)
        → (p (cond b (suc m) (last_where p m)) ≡ true) × (cond b (suc m) (last_where p m) ≤ suc m) × ((y : ℕ) → cond b (suc m) (last_where p m) < y → y ≤ suc m → p y ≡ false)
    go true f ih = (f, omega arith, λ y l h. absurd (omega arith))
    go false f ih = (ih.0, omega (arith, ih.1), λ y l h. elim (compare y (suc m)) [ Is q v ↦ rw q f | Not n v ↦ ih.2 y l (omega arith) ])

-- no earlier than any number at which the test holds
pub last-since : (p : ℕ → Bool) (m b : ℕ) → p 0 ≡ true → p b ≡ true → b ≤ m → b ≤ last_where p m
last-since p m b e f l = let x = last-where p m e in go (cases_lt (last_where p m) b) (λ h. x.2 b h l)
  where
    go : (last_where p m < b) ⊎ (b ≤ last_where p m) → (last_where p m < b → p b ≡ false) → b ≤ last_where p m
    go (inl h) y = absurd (grind (arith, y h, f))
    go (inr h) y = h

pub slice_get-left : {X : Type 0} (xs ys : List X) (k : ℕ) → k < length xs → slice_get (xs ++ ys) k ≡ slice_get xs k
slice_get-left [] ys k l = absurd (omega arith)
slice_get-left (x ∷ xs) ys zero l = refl
slice_get-left (x ∷ xs) ys (suc k) l = slice_get-left xs ys k (omega arith)
