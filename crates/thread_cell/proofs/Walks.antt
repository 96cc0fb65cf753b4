-- A walk along a list that changes each element.
use Rattle.std.proofs.Common.{◌≡◌, ℕ, zero, suc, ◌+◌, ◌<◌, ◌≤◌, List, [], ◌∷◌, length, get_or, set, refl, subst, arith, add-one}
use Rattle.filter_text.specs.MessageText.{Each}
use Rattle.thread_cell.specs.Links.{Both}

-- the first n elements are related, the others are the same
abbrev pub Partly : {X : Type 0} → (X → X → Type 0) → ℕ → List X → List X → Type 0
Partly R zero xs ys = xs ≡ ys
Partly R (suc n) [] [] = Unit {0}
Partly R (suc n) [] (y ∷ ys) = ⊥
Partly R (suc n) (x ∷ xs) [] = ⊥
Partly R (suc n) (x ∷ xs) (y ∷ ys) = R x y × Partly R n xs ys

module _ {X : Type 0} (R : X → X → Type 0) where
  more : (n : ℕ) (xs ys : List X) (d z : X) → n < length xs → Partly R n xs ys → R (get_or ys n d) z → Partly R (suc n) xs (set ys n z)
  more zero [] ys d z lt p r = absurd (omega arith)
  more zero (x ∷ xs) ys d z lt p r = subst (λ (w : List X). R (get_or w 0 d) z → Partly R 1 (x ∷ xs) (set w 0 z)) p (λ (r : R x z). (r, refl)) r
  more (suc n) [] ys d z lt p r = absurd (omega arith)
  more (suc n) (x ∷ xs) [] d z lt p r = absurd p
  more (suc n) (x ∷ xs) (v ∷ ys) d z lt p r = (p.0, more n xs ys d z (omega arith) p.1 r)

  -- the next element
  pub partly-more : (n : ℕ) (xs ys : List X) (d z : X) → n < length xs → Partly R n xs ys → R (get_or ys n d) z → Partly R (n + 1) xs (set ys n z)
  partly-more n xs ys d z lt p r = rw add-one (more n xs ys d z lt p r)

  -- the walk is at its end
  pub partly-end : (n : ℕ) (xs ys : List X) → length xs ≤ n → Partly R n xs ys → Both R xs ys
  partly-end zero [] [] le p = tt
  partly-end zero [] (y ∷ ys) le p = absurd (let q : [] ≡ y ∷ ys = p in cc)
  partly-end zero (x ∷ xs) ys le p = absurd (omega arith)
  partly-end (suc n) [] [] le p = tt
  partly-end (suc n) [] (y ∷ ys) le p = absurd p
  partly-end (suc n) (x ∷ xs) [] le p = absurd p
  partly-end (suc n) (x ∷ xs) (y ∷ ys) le p = (p.0, partly-end n xs ys (omega arith) p.1)

  -- the walk stops at the next element
  pub partly-stop : (Q : X → X → Type 0) → ((x y : X) → R x y → Q x y) → ((x : X) → Q x x) → (n : ℕ) (xs ys : List X) (d z : X) → n < length xs → Partly R n xs ys → Q (get_or ys n d) z → Both Q xs (set ys n z)
  partly-stop Q f g zero [] ys d z lt p r = absurd (omega arith)
  partly-stop Q f g zero (x ∷ xs) ys d z lt p r = subst (λ (w : List X). Q (get_or w 0 d) z → Both Q (x ∷ xs) (set w 0 z)) p (λ (r : Q x z). (r, same xs)) r
    where
      same : (xs : List X) → Both Q xs xs
      same [] = tt
      same (x ∷ xs) = (g x, same xs)
  partly-stop Q f g (suc n) [] ys d z lt p r = absurd (omega arith)
  partly-stop Q f g (suc n) (x ∷ xs) [] d z lt p r = absurd p
  partly-stop Q f g (suc n) (x ∷ xs) (v ∷ ys) d z lt p r = (f x v p.0, partly-stop Q f g n xs ys d z (omega arith) p.1 r)

-- what holds of a pair holds of each
pub both-map : {X : Type 0} (R Q : X → X → Type 0) → ((x y : X) → R x y → Q x y) → (xs ys : List X) → Both R xs ys → Both Q xs ys
both-map R Q f [] [] b = tt
both-map R Q f [] (y ∷ ys) b = absurd b
both-map R Q f (x ∷ xs) [] b = absurd b
both-map R Q f (x ∷ xs) (y ∷ ys) b = (f x y b.0, both-map R Q f xs ys b.1)

pub both-each : {X : Type 0} (R : X → X → Type 0) (P : X → Type 0) → ((x y : X) → R x y → P y) → (xs ys : List X) → Both R xs ys → Each P ys
both-each R P f [] [] b = tt
both-each R P f [] (y ∷ ys) b = absurd b
both-each R P f (x ∷ xs) [] b = absurd b
both-each R P f (x ∷ xs) (y ∷ ys) b = (f x y b.0, both-each R P f xs ys b.1)

pub both-comp : {X : Type 0} (R Q P : X → X → Type 0) → ((x y z : X) → R x y → Q y z → P x z) → (xs ys zs : List X) → Both R xs ys → Both Q ys zs → Both P xs zs
both-comp R Q P f [] [] [] a b = tt
both-comp R Q P f [] [] (z ∷ zs) a b = absurd b
both-comp R Q P f [] (y ∷ ys) zs a b = absurd a
both-comp R Q P f (x ∷ xs) [] zs a b = absurd a
both-comp R Q P f (x ∷ xs) (y ∷ ys) [] a b = absurd b
both-comp R Q P f (x ∷ xs) (y ∷ ys) (z ∷ zs) a b = (f x y z a.0 b.0, both-comp R Q P f xs ys zs a.1 b.1)

-- what held before, with the step, gives what holds after
pub each-after : {X : Type 0} (R : X → X → Type 0) (P Q : X → Type 0) → ((x y : X) → R x y → P x → Q y) → (xs ys : List X) → Both R xs ys → Each P xs → Each Q ys
each-after R P Q f [] [] b e = tt
each-after R P Q f [] (y ∷ ys) b e = absurd b
each-after R P Q f (x ∷ xs) [] b e = absurd b
each-after R P Q f (x ∷ xs) (y ∷ ys) b e = (f x y b.0 e.0, each-after R P Q f xs ys b.1 e.1)
