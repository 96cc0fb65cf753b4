-- Lemmas on a text that is put line by line.
use Rattle.std.proofs.Common.{◌≡◌, ℕ, zero, suc, ◌+◌, ◌<◌, List, [], ◌∷◌, ◌++◌, length, map, take, get_or, refl, sym, ap, subst, ◌∙◌, arith, append_assoc, append-nil}
use Rattle.std.specs.List.{flat_map}

map-suc : {X Y : Type 0} (f : X → Y) (xs : List X) (i : ℕ) (d : X) → i < length xs → map f (take (suc i) xs) ≡ map f (take i xs) ++ f (get_or xs i d) ∷ []
map-suc f [] i d s = absurd (omega (arith, s))
map-suc f (x ∷ xs) zero d s = refl
map-suc f (x ∷ xs) (suc i) d s = ap (λ l. f x ∷ l) (map-suc f xs i d (omega (arith, s)))

pub map-next : {X Y : Type 0} (f : X → Y) (xs : List X) (i : ℕ) (d : X) → i < length xs → map f (take (i + 1) xs) ≡ map f (take i xs) ++ f (get_or xs i d) ∷ []
map-next f xs i d s = subst (λ n. map f (take n xs) ≡ map f (take i xs) ++ f (get_or xs i d) ∷ []) {x = suc i} {y = i + 1} (omega arith) (map-suc f xs i d s)

-- the pieces of two lists
pub flat-append : {X : Type 0} (f : X → List ℕ) (xs ys : List X) → flat_map f (xs ++ ys) ≡ flat_map f xs ++ flat_map f ys
flat-append f [] ys = refl
flat-append f (x ∷ xs) ys = ap (λ l. f x ++ l) (flat-append f xs ys) ∙ sym (append_assoc (f x) (flat_map f xs) (flat_map f ys))
