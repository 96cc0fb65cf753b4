-- What is held of clients alone, and of links that are given.
use Rattle.std.proofs.Common.{◌≡◌, ℕ, ◌+◌, List, [], ◌∷◌, ◌++◌, map, Some, take, slice_get, refl, sym, ap, add-one}
use Rattle.base.proofs.Lists.{take-suc-some, map-push}

pub map-next : {A B : Type 0} (f : A → B) (xs : List A) (n : ℕ) (x : A) (done : List B) → slice_get xs n ≡ Some x → done ≡ map f (take n xs) → done ++ f x ∷ [] ≡ map f (take (n + 1) xs)
map-next f xs n x done at e = rw (e, add-one, take-suc-some xs n x at) (sym (map-push f (take n xs) x))
