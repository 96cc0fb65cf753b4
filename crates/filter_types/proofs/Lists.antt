-- Lemmas on tests of all and of some members.
use Rattle.std.proofs.Common.{inl, inr, ◌≡◌, Bool, true, false, ◌&&◌, ◌||◌, refl, sym, ap, ◌∙◌, arith, List, [], ◌∷◌, length}
use Rattle.std.specs.List.{list_all, list_any}
use Rattle.base.specs.Sets.{Has}
use Rattle.std.proofs.lemmas.Bool.{and_parts, and_from, or_left, or_right}

pub all-has : {X : Type 0} (p : X → Bool) (x : X) (xs : List X) → list_all p xs ≡ true → Has x xs → p x ≡ true
all-has p x [] h m = absurd m
all-has p x (y ∷ ys) h (inl e) = ap p e ∙ (and_parts (p y) (list_all p ys) h).0
all-has p x (y ∷ ys) h (inr m) = all-has p x ys (and_parts (p y) (list_all p ys) h).1 m

pub has-all : {X : Type 0} (p : X → Bool) (xs : List X) → ((x : X) → Has x xs → p x ≡ true) → list_all p xs ≡ true
has-all p [] h = refl
has-all p (y ∷ ys) h = and_from (p y) (list_all p ys) (h y (inl refl)) (has-all p ys (λ x m. h x (inr m)))

pub has-any : {X : Type 0} (p : X → Bool) (x : X) (xs : List X) → Has x xs → p x ≡ true → list_any p xs ≡ true
has-any p x [] m e = absurd m
has-any p x (y ∷ ys) (inl q) e = or_left (p y) (list_any p ys) (ap p (sym q) ∙ e)
has-any p x (y ∷ ys) (inr m) e = or_right (p y) (list_any p ys) (has-any p x ys m e)

pub empty : {X : Type 0} (xs : List X) → length xs ≡ 0 → xs ≡ []
empty [] h = refl
empty (x ∷ xs) h = absurd (omega arith)
