-- A list in two parts, in each of which one element is changed.
use Rattle.std.proofs.Common.{◌≡◌, ℕ, zero, suc, ◌<◌, ◌≤◌, List, [], ◌∷◌, ◌++◌, length, map, get_or, set, Some, slice_get, refl, sym, ap, subst, ◌∙◌, arith}
use Rattle.std.specs.Prelude.{Result, Ok, Err, OnOk}
use Rattle.std.proofs.lemmas.List.{map-append}

module _ {X : Type 0} where
  pub front : (xs ys : List X) (n : ℕ) (d : X) → n < length xs → slice_get (xs ++ ys) n ≡ Some (get_or xs n d)
  front [] ys n d lt = absurd (omega arith)
  front (x ∷ xs) ys zero d lt = refl
  front (x ∷ xs) ys (suc n) d lt = front xs ys n d (omega arith)

  behind : (xs ys : List X) (d : X) → 0 < length ys → slice_get (xs ++ ys) (length xs) ≡ Some (get_or ys 0 d)
  behind [] [] d lt = absurd (omega arith)
  behind [] (y ∷ ys) d lt = refl
  behind (x ∷ xs) ys d lt = behind xs ys d lt

  pub back : (xs ys : List X) (n : ℕ) (d : X) → length xs ≡ n → 0 < length ys → slice_get (xs ++ ys) n ≡ Some (get_or ys 0 d)
  back xs ys n d e lt = subst (λ k. slice_get (xs ++ ys) k ≡ Some (get_or ys 0 d)) e (behind xs ys d lt)

  set-length : (xs : List X) (n : ℕ) (z : X) → length (set xs n z) ≡ length xs
  set-length [] n z = refl
  set-length (x ∷ xs) zero z = refl
  set-length (x ∷ xs) (suc n) z = ap suc (set-length xs n z)

  get-set : (xs : List X) (n : ℕ) (d z : X) → n < length xs → get_or (set xs n z) n d ≡ z
  get-set [] n d z lt = absurd (omega arith)
  get-set (x ∷ xs) zero d z lt = refl
  get-set (x ∷ xs) (suc n) d z lt = get-set xs n d z (omega arith)

  pub front-set : (xs ys : List X) (n : ℕ) (z : X) → n < length xs → slice_get (set xs n z ++ ys) n ≡ Some z
  front-set xs ys n z lt = front (set xs n z) ys n z (subst (λ k. n < k) (sym (set-length xs n z)) lt) ∙ ap (λ w. Some w) (get-set xs n z z lt)

  pub back-set : (xs ys : List X) (m n : ℕ) (w z : X) → length xs ≡ n → 0 < length ys → slice_get (set xs m w ++ set ys 0 z) n ≡ Some z
  back-set xs ys m n w z e lt = back (set xs m w) (set ys 0 z) n z (set-length xs m w ∙ e) (subst (λ k. 0 < k) (sym (set-length ys 0 z)) lt) ∙ ap (λ w. Some w) (get-set ys 0 z z lt)

  module _ {Y : Type 0} (f : X → Y) where
    pub map-set : (xs : List X) (n : ℕ) (d z : X) → n < length xs → f z ≡ f (get_or xs n d) → map f (set xs n z) ≡ map f xs
    map-set [] n d z lt e = absurd (omega arith)
    map-set (x ∷ xs) zero d z lt e = ap (λ y. y ∷ map f xs) e
    map-set (x ∷ xs) (suc n) d z lt e = ap (λ ys. f x ∷ ys) (map-set xs n d z (omega arith) e)

    pub across : (xs ys : List X) (n : ℕ) (d d' a b : X) → n < length xs → 0 < length ys → f a ≡ f (get_or xs n d) → f b ≡ f (get_or ys 0 d') → map f (set xs n a ++ set ys 0 b) ≡ map f (xs ++ ys)
    across xs ys n d d' a b lt some p q = map-append f (set xs n a) (set ys 0 b) ∙ (λ i. map-set xs n d a lt p i ++ map-set ys 0 d' b some q i) ∙ sym (map-append f xs ys)

pub ok-map : {E A B : Type 0} (r : Result (Unit {0}) E) → OnOk r A → (A → B) → OnOk r B
ok-map (Ok u) a f = f a
ok-map (Err e) a f = tt

pub below : (a b : ℕ) → a ≤ b → (b ≡ a → ⊥) → a < b
below a b le n = grind arith
