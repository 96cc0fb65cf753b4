-- What each member of a list keeps, and sums over the members.
use Rattle.std.proofs.Common.{◌≡◌, ℕ, zero, suc, ◌+◌, ◌≤◌, List, [], ◌∷◌, ◌++◌, ◌⊎◌, inl, inr, length, map, get_or, refl, sym, ap, subst, arith, Some}
use Rattle.std.specs.Prelude.{slice_get}
use Rattle.base.specs.Sets.{Has}
use Rattle.base.specs.Numbers.{sum_over}
use Rattle.filter_text.specs.MessageText.{Each}
use Rattle.document_reader.specs.Drafts.{changed_at}

-- Each member.

pub each_has : {A : Type 0} (P : A → Type 0) (xs : List A) → Each P xs → (x : A) → Has x xs → P x
each_has P [] h x m = absurd m
each_has P (y ∷ xs) h x (inl e) = subst P (sym e) h.0
each_has P (y ∷ xs) h x (inr m) = each_has P xs h.1 x m

pub each_more : {A : Type 0} (P : A → Type 0) (xs : List A) (x : A) → Each P xs → P x → Each P (xs ++ x ∷ [])
each_more P [] x h p = (p, tt)
each_more P (y ∷ xs) x h p = (h.0, each_more P xs x h.1 p)

pub each_by : {A : Type 0} (P Q : A → Type 0) → ((x : A) → P x → Q x) → (xs : List A) → Each P xs → Each Q xs
each_by P Q f [] h = tt
each_by P Q f (x ∷ xs) h = (f x h.0, each_by P Q f xs h.1)

-- the member at a place keeps what all others keep
pub each_changed : {A : Type 0} (P : A → Type 0) (f : A → A) (xs : List A) (n : ℕ) → ((x : A) → slice_get xs n ≡ Some x → P x → P (f x)) → Each P xs → Each P (changed_at n f xs)
each_changed P f [] n k h = tt
each_changed P f (x ∷ xs) zero k h = (k x refl h.0, h.1)
each_changed P f (x ∷ xs) (suc n) k h = (h.0, each_changed P f xs n k h.1)

pub each_map : {A B : Type 0} (P : B → Type 0) (g : A → B) (xs : List A) → Each (λ x. P (g x)) xs → Each P (map g xs)
each_map P g [] h = tt
each_map P g (x ∷ xs) h = (h.0, each_map P g xs h.1)

-- Sums over the members.

pub sum_more : {A : Type 0} (q : A → ℕ) (xs : List A) (x : A) → sum_over q (xs ++ x ∷ []) ≡ sum_over q xs + q x
sum_more q [] x = omega arith
sum_more q (y ∷ xs) x = omega (arith, sum_more q xs x)

pub sum_map : {A B : Type 0} (q : B → ℕ) (g : A → B) (xs : List A) → sum_over q (map g xs) ≡ sum_over (λ x. q (g x)) xs
sum_map q g [] = refl
sum_map q g (x ∷ xs) = ap (λ n. q (g x) + n) (sum_map q g xs)

pub sum_changed : {A : Type 0} (q : A → ℕ) (f : A → A) (k : ℕ) (xs : List A) (n : ℕ) → ((x : A) → q (f x) ≤ q x + k) → sum_over q (changed_at n f xs) ≤ sum_over q xs + k
sum_changed q f k [] n h = omega arith
sum_changed q f k (x ∷ xs) zero h = omega (arith, h x)
sum_changed q f k (x ∷ xs) (suc n) h = omega (arith, sum_changed q f k xs n h)

pub has-more : {A : Type 0} (xs : List A) (x y : A) → Has y (xs ++ x ∷ []) → Has y xs ⊎ (y ≡ x)
has-more [] x y (inl e) = inr e
has-more [] x y (inr m) = absurd m
has-more (z ∷ xs) x y (inl e) = inl (inl e)
has-more (z ∷ xs) x y (inr m) = later z xs x y (has-more xs x y m)
  where
    later : {A : Type 0} (z : A) (xs : List A) (x y : A) → Has y xs ⊎ (y ≡ x) → Has y (z ∷ xs) ⊎ (y ≡ x)
    later z xs x y (inl h) = inl (inr h)
    later z xs x y (inr e) = inr e

pub get-mapped : {A B : Type 0} (g : A → B) (xs : List A) (k : ℕ) (d : A) → get_or (map g xs) k (g d) ≡ g (get_or xs k d)
get-mapped g [] zero d = refl
get-mapped g [] (suc k) d = refl
get-mapped g (x ∷ xs) zero d = refl
get-mapped g (x ∷ xs) (suc k) d = get-mapped g xs k d
