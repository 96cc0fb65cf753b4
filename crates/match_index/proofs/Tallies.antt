-- Lemmas on how often a member occurs in a list.
use Rattle.std.proofs.Common.{◌≡◌, ◌+◌, ◌≤◌, ◌<◌, ℕ, Bool, true, false, cond, refl, ap, ◌∙◌, arith, List, [], ◌∷◌, ◌++◌, length, map, append_assoc}
use Rattle.std.specs.List.{insert, remove}
use Rattle.std.proofs.Common.{take, get_or, zero, suc, add-one}
use Rattle.match_index.specs.Pairs.{tally, Appends}

pub tally-append : {X : Type 0} (p : X → Bool) (xs ys : List X) → tally p (xs ++ ys) ≡ tally p xs + tally p ys
tally-append p [] ys = omega arith
tally-append p (x ∷ xs) ys = omega (arith, tally-append p xs ys)

pub tally-map : {X Y : Type 0} (f : X → Y) (p : Y → Bool) (xs : List X) → tally p (map f xs) ≡ tally (λ x. p (f x)) xs
tally-map f p [] = refl
tally-map f p (x ∷ xs) = ap (λ n. cond (p (f x)) 1 0 + n) (tally-map f p xs)

pub tally-le : {X : Type 0} (p : X → Bool) (xs : List X) → tally p xs ≤ length xs
tally-le p [] = omega arith
tally-le p (x ∷ xs) = go (p x) (tally-le p xs)
  where
    go : (b : Bool) → tally p xs ≤ length xs → cond b 1 0 + tally p xs ≤ length (x ∷ xs)
    go true h = omega arith
    go false h = omega arith

-- tests that agree count the same
pub tally-agree : {X : Type 0} (p q : X → Bool) (xs : List X) → ((x : X) → p x ≡ q x) → tally p xs ≡ tally q xs
tally-agree p q [] h = refl
tally-agree p q (x ∷ xs) h = omega (arith, ap {B = ℕ} (λ b. cond b 1 0) (h x), tally-agree p q xs h)

pub tally-none : {X : Type 0} (p : X → Bool) (xs : List X) → ((x : X) → p x ≡ false) → tally p xs ≡ 0
tally-none p [] h = refl
tally-none p (x ∷ xs) h = omega (arith, ap {B = ℕ} (λ b. cond b 1 0) (h x), tally-none p xs h)

take-more : {X : Type 0} (p : X → Bool) (xs : List X) (i : ℕ) (d : X) → i < length xs → tally p (take (suc i) xs) ≡ tally p (take i xs) + cond (p (get_or xs i d)) 1 0
take-more p [] i d h = absurd (omega arith)
take-more p (x ∷ xs) zero d h = omega arith
take-more p (x ∷ xs) (suc i) d h = omega (arith, take-more p xs i d (omega arith))

-- one more of the list
pub tally-more : {X : Type 0} (p : X → Bool) (xs : List X) (i : ℕ) (d : X) → i < length xs → tally p (take (i + 1) xs) ≡ tally p (take i xs) + cond (p (get_or xs i d)) 1 0
tally-more p xs i d h = ap {B = ℕ} (λ n. tally p (take n xs)) (add-one i) ∙ take-more p xs i d h

-- what is taken out at a place is one less
pub tally-remove : {X : Type 0} (p : X → Bool) (xs : List X) (i : ℕ) (d : X) → i < length xs → tally p xs ≡ cond (p (get_or xs i d)) 1 0 + tally p (remove xs i)
tally-remove p [] i d h = absurd (omega arith)
tally-remove p (x ∷ xs) zero d h = refl
tally-remove p (x ∷ xs) (suc i) d h = omega (arith, tally-remove p xs i d (omega arith))

pub Appends-append : (old between new a b : List ℕ) → Appends old between a → Appends between new b → Appends old new (a ++ b)
Appends-append old between new a b h g = record {
  tail = h.tail ++ g.tail;
  whole = g.whole ∙ ap (λ xs. xs ++ g.tail) h.whole ∙ append_assoc old h.tail g.tail;
  same = λ p. omega (arith, tally-append p h.tail g.tail, tally-append p a b, h.same p, g.same p);
}

-- what stands at a place counts
pub tally-at : {X : Type 0} (p : X → Bool) (xs : List X) (i : ℕ) (d : X) → i < length xs → p (get_or xs i d) ≡ true → 1 ≤ tally p xs
tally-at p xs i d h e = omega (arith, tally-remove p xs i d h, ap {B = ℕ} (λ b. cond b 1 0) e)

pub tally-insert : {X : Type 0} (p : X → Bool) (xs : List X) (i : ℕ) (x : X) → i ≤ length xs → tally p (insert xs i x) ≡ cond (p x) 1 0 + tally p xs
tally-insert p [] zero x l = refl
tally-insert p [] (suc i) x l = absurd (omega (arith, l))
tally-insert p (y ∷ ys) zero x l = refl
tally-insert p (y ∷ ys) (suc i) x l = omega (arith, tally-insert p ys i x (omega (arith, l)))
