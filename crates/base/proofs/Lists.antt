-- Lemmas on lists: what is found at a place, and taking, dropping, mapping, filtering and joining. Each is named by the left side of what it says.
use Rattle.std.proofs.Common.{Bool, List, None, Some, [], add-one, ap, append-nil, append_assoc, arith, cond, drop, drop-cons, filter, get_or, inl, inr, length, map, refl, set, slice_get, slice_index_or, slice_set, subst, suc, sym, take, true, zero, ℕ, ◌++◌, ◌+◌, ◌-◌, ◌<◌, ◌∙◌, ◌∷◌, ◌≡◌, ◌≤◌, ◌⊎◌}
use Rattle.base.specs.Sets.{Has}
use Rattle.std.proofs.lemmas.Bool.{and_parts}
use Rattle.std.specs.Str.{bytes_eq}
use Rattle.std.proofs.lemmas.Grind.{common_steps}
use Rattle.std.specs.List.{flat_map, list_all, range_with_len}
use Rattle.std.proofs.lemmas.List.{length-append, map-id}
use Rattle.std.proofs.lemmas.List.FromFn.{map-range_with_len_more}
use Rattle.std.proofs.lemmas.Option.{same_Some}

pub append-cancel : (q a b : List ℕ) → q ++ a ≡ q ++ b → a ≡ b
append-cancel [] a b e = e
append-cancel (x ∷ q) a b e = append-cancel q a b cc

pub append-chain : (z x y a b : List ℕ) → a ≡ z ++ x → b ≡ a ++ y → b ≡ z ++ (x ++ y)
append-chain z x y a b p q = q ∙ (ap (λ w. w ++ y) p ∙ append_assoc z x y)

pub append-self-nil : {X : Type 0} (xs ys : List X) → xs ++ ys ≡ xs → ys ≡ []
append-self-nil [] ys e = e
append-self-nil (x ∷ xs) ys e = append-self-nil xs ys (tails e)
  where
    tails : {X : Type 0} {x : X} {ys zs : List X} → x ∷ ys ≡ x ∷ zs → ys ≡ zs
    tails e = cc

pub bytes_eq-self : (word : List ℕ) → bytes_eq word word ≡ true
bytes_eq-self [] = refl
bytes_eq-self (b ∷ bs) = grind (arith, common_steps, bytes_eq-self bs)

pub drop-next : {X : Type 0} (xs : List X) (i : ℕ) (d : X) → i < length xs → drop i xs ≡ get_or xs i d ∷ drop (i + 1) xs
drop-next xs i d less = drop-cons xs i d less ∙ ap (λ z. get_or xs i d ∷ drop z xs) (sym (add-one i))

pub drop-some : {X : Type 0} (xs : List X) (k : ℕ) (x : X) → slice_get xs k ≡ Some x → drop k xs ≡ x ∷ drop (suc k) xs
drop-some [] k x e = absurd cc
drop-some (y ∷ ys) zero x e = cc
drop-some (y ∷ ys) (suc k) x e = drop-some ys k x e

pub filter-all : {T : Type 0} (p : T → Bool) (xs : List T) → ((x : T) → Has x xs → p x ≡ true) → filter p xs ≡ xs
filter-all p [] f = refl
filter-all p (x ∷ xs) f = rw (f x (inl refl)) (ap (λ zs. x ∷ zs) (filter-all p xs (λ y h. f y (inr h))))

pub filter-same : {T : Type 0} (p q : T → Bool) (xs : List T) → ((x : T) → Has x xs → p x ≡ q x) → filter p xs ≡ filter q xs
filter-same p q [] f = refl
filter-same p q (x ∷ xs) f = rw (f x (inl refl)) (ap (λ ys. cond (q x) (x ∷ ys) ys) (filter-same p q xs (λ y h. f y (inr h))))

pub filter-true : {X : Type 0} (xs : List X) → filter (λ x. true) xs ≡ xs
filter-true [] = refl
filter-true (x ∷ xs) = ap (λ z. x ∷ z) (filter-true xs)

pub flat_map-same : {A B : Type 0} (f g : A → List B) (xs : List A) → ((x : A) → Has x xs → f x ≡ g x) → flat_map f xs ≡ flat_map g xs
flat_map-same f g [] same = refl
flat_map-same f g (x ∷ xs) same = rw (same x (inl refl), flat_map-same f g xs (λ y m. same y (inr m))) refl

pub flat_map-take-suc : {X : Type 0} (f : X → List ℕ) (xs : List X) (i : ℕ) (d : X) → i < length xs → flat_map f (take (suc i) xs) ≡ flat_map f (take i xs) ++ f (get_or xs i d)
flat_map-take-suc f [] i d s = absurd (omega (arith, s))
flat_map-take-suc f (x ∷ xs) zero d s = append-nil (f x)
flat_map-take-suc f (x ∷ xs) (suc i) d s =
    ap (λ l. f x ++ l) (flat_map-take-suc f xs i d (omega (arith, s))) ∙ sym (append_assoc (f x) (flat_map f (take i xs)) (f (get_or xs i d)))

pub flat_map-take-next : {X : Type 0} (f : X → List ℕ) (xs : List X) (i : ℕ) (d : X) → i < length xs
    → flat_map f (take (i + 1) xs) ≡ flat_map f (take i xs) ++ f (get_or xs i d)
flat_map-take-next f xs i d s = subst (λ n. flat_map f (take n xs) ≡ flat_map f (take i xs) ++ f (get_or xs i d)) {x = suc i} {y = i + 1} (omega arith) (flat_map-take-suc f xs i d s)

pub get-append : {X : Type 0} (xs ys : List X) (k : ℕ) (x : X) → slice_get (xs ++ ys) k ≡ Some x → (slice_get xs k ≡ Some x) ⊎ ((j : ℕ) × (k ≡ length xs + j) × (slice_get ys j ≡ Some x))
get-append [] ys k x e = inr (k, omega arith, e)
get-append (z ∷ xs) ys zero x e = inl e
get-append (z ∷ xs) ys (suc k) x e = elim (get-append xs ys k x e) [ inl f ↦ inl f | inr f ↦ inr (f.0, omega (arith, f.1), f.2) ]

pub get-below : {X : Type 0} (xs : List X) (i : ℕ) → i < length xs → (x : X) × (slice_get xs i ≡ Some x)
get-below [] i l = absurd (omega (arith, l))
get-below (x ∷ xs) zero l = (x, refl)
get-below (x ∷ xs) (suc i) l = get-below xs i (omega (arith, l))

pub get-get_or : {X : Type 0} (xs : List X) (i : ℕ) (x : X) → i < length xs → x ≡ get_or xs i x → slice_get xs i ≡ Some x
get-get_or [] i x l e = absurd (omega (arith, l))
get-get_or (y ∷ ys) zero x l e = ap (λ z. Some z) (sym e)
get-get_or (y ∷ ys) (suc i) x l e = get-get_or ys i x (omega (arith, l)) e

pub get-index : {T : Type 0} (xs : List T) (k : ℕ) (x : T) → k < length xs → x ≡ slice_index_or xs k x → slice_get xs k ≡ Some x
get-index [] k x l e = absurd (omega (arith, l))
get-index (y ∷ ys) zero x l e = ap Some (sym e)
get-index (y ∷ ys) (suc k) x l e = get-index ys k x (omega (arith, l)) e

pub get-map : {X Y : Type 0} (f : X → Y) (xs : List X) (i : ℕ) (x : X) → slice_get xs i ≡ Some x → slice_get (map f xs) i ≡ Some (f x)
get-map f [] i x e = absurd cc
get-map f (y ∷ ys) zero x e = cc
get-map f (y ∷ ys) (suc i) x e = get-map f ys i x e

pub get-map-none : {X Y : Type 0} (f : X → Y) (xs : List X) (k : ℕ) → slice_get xs k ≡ None → slice_get (map f xs) k ≡ None
get-map-none f [] k e = refl
get-map-none f (x ∷ xs) zero e = absurd cc
get-map-none f (x ∷ xs) (suc k) e = get-map-none f xs k e

pub get-one : {X : Type 0} (xs : List X) (i : ℕ) (x y : X) → slice_get xs i ≡ Some x → slice_get xs i ≡ Some y → x ≡ y
get-one xs i x y e f = same_Some _ _ (sym e ∙ f)

pub get-push : {X : Type 0} (xs : List X) (y : X) (k : ℕ) (x : X) → slice_get (xs ++ y ∷ []) k ≡ Some x → (slice_get xs k ≡ Some x) ⊎ ((k ≡ length xs) × (y ≡ x))
get-push [] y zero x e = inr (refl, same_Some y x e)
get-push [] y (suc k) x e = absurd cc
get-push (z ∷ xs) y zero x e = inl e
get-push (z ∷ xs) y (suc k) x e = elim (get-push xs y k x e) [ inl f ↦ inl f | inr f ↦ inr (ap suc f.0, f.1) ]

pub each-get-push : {T : Type 0} (P : ℕ → T → Type 0) (xs : List T) (x : T) → ((k : ℕ) (y : T) → slice_get xs k ≡ Some y → P k y) → P (length xs) x
    → (k : ℕ) (y : T) → slice_get (xs ++ x ∷ []) k ≡ Some y → P k y
each-get-push P xs x all one k y e = elim (get-push xs x k y e) [ inl f ↦ all k y f | inr f ↦ subst (λ z. P z y) (sym f.0) (subst (P (length xs)) f.1 one) ]

pub each-get-push-is : {X : Type 0} (P : ℕ → X → Type 0) (xs new : List X) (x : X) → new ≡ xs ++ x ∷ [] → P (length xs) x
    → ((place : ℕ) (y : X) → slice_get xs place ≡ Some y → P place y) → (place : ℕ) (y : X) → slice_get new place ≡ Some y → P place y
each-get-push-is P xs new x is here before place y e = each-get-push P xs x before here place y (subst (λ z. slice_get z place ≡ Some y) is e)

pub get-set-other : {X : Type 0} (xs : List X) (n k : ℕ) (v : X) → (k ≡ n → ⊥) → slice_get (set xs n v) k ≡ slice_get xs k
get-set-other [] n k v other = refl
get-set-other (x ∷ xs) zero zero v other = absurd (other refl)
get-set-other (x ∷ xs) zero (suc k) v other = refl
get-set-other (x ∷ xs) (suc n) zero v other = refl
get-set-other (x ∷ xs) (suc n) (suc k) v other = get-set-other xs n k v (λ e. other (ap suc e))

pub index-get : {P : Type 0} (xs : List P) (k : ℕ) (x d : P) → slice_get xs k ≡ Some x → slice_index_or xs k d ≡ x
index-get [] k x d e = absurd cc
index-get (y ∷ ys) zero x d e = cc
index-get (y ∷ ys) (suc k) x d e = index-get ys k x d e

pub length-push : {A : Type 0} (xs : List A) (x : A) → length (xs ++ x ∷ []) ≡ length xs + 1
length-push [] x = refl
length-push (y ∷ xs) x = omega (arith, length-push xs x)

pub length-push-is : {X : Type 0} (xs new : List X) (x : X) (n : ℕ) → new ≡ xs ++ x ∷ [] → length xs ≡ n → length new ≡ n + 1
length-push-is xs new x n is long = omega (arith, long, ap length is, length-append xs (x ∷ []))

pub length-slice_set : {X : Type 0} (xs : List X) (k : ℕ) (v : X) → length (slice_set xs k v) ≡ length xs
length-slice_set [] k v = refl
length-slice_set (x ∷ xs) zero v = refl
length-slice_set (x ∷ xs) (suc k) v = ap suc (length-slice_set xs k v)

pub list_all-append : {T : Type 0} (test : T → Bool) (xs ys : List T) → list_all test xs ≡ true → list_all test ys ≡ true → list_all test (xs ++ ys) ≡ true
list_all-append test [] ys e f = f
list_all-append test (x ∷ xs) ys e f = let h = and_parts (test x) (list_all test xs) e in rw (h.0, list_all-append test xs ys h.1 f) refl

pub map-get : {A B : Type 0} (f : A → B) (xs : List A) (k : ℕ) (y : B) → slice_get (map f xs) k ≡ Some y → (x : A) × (slice_get xs k ≡ Some x) × (f x ≡ y)
map-get f [] k y e = absurd cc
map-get f (x ∷ xs) zero y e = (x, refl, cc)
map-get f (x ∷ xs) (suc k) y e = map-get f xs k y e

pub map-get-from : {A B : Type 0} (f : A → B) (xs : List A) (place : ℕ) (y : B) → slice_get (map f xs) place ≡ Some y
    → (x : A) × (slice_get xs place ≡ Some x) × (y ≡ f x)
map-get-from f [] place y e = absurd cc
map-get-from f (x ∷ xs) zero y e = (x, refl, sym (same_Some _ _ e))
map-get-from f (x ∷ xs) (suc place) y e = map-get-from f xs place y e

pub map-push : {A B : Type 0} (f : A → B) (xs : List A) (x : A) → map f (xs ++ x ∷ []) ≡ map f xs ++ f x ∷ []
map-push f [] x = refl
map-push f (y ∷ ys) x = ap (λ z. f y ∷ z) (map-push f ys x)

pub map-set : {X Y : Type 0} (f : X → Y) (xs : List X) (i : ℕ) (x : X) → map f (set xs i x) ≡ set (map f xs) i (f x)
map-set f [] i x = refl
map-set f (y ∷ ys) zero x = refl
map-set f (y ∷ ys) (suc i) x = ap (λ z. f y ∷ z) (map-set f ys i x)

pub push-not-empty : {P : Type 0} (read : List P) (x : P) → 0 < length (read ++ x ∷ [])
push-not-empty [] x = omega arith
push-not-empty (y ∷ read) x = omega arith

pub range-push : (n : ℕ) → range_with_len 0 (n + 1) ≡ range_with_len 0 n ++ n ∷ []
range-push n = sym (map-id (range_with_len 0 (n + 1))) ∙ map-range_with_len_more (λ x. x) 0 n n (omega arith) ∙ ap (λ l. l ++ n ∷ []) (map-id (range_with_len 0 n))

pub take-all : {X : Type 0} (i : ℕ) (xs : List X) → length xs ≤ i → take i xs ≡ xs
take-all zero [] h = refl
take-all (suc i) [] h = refl
take-all zero (x ∷ xs) h = absurd (omega (arith, h))
take-all (suc i) (x ∷ xs) h = ap (λ l. x ∷ l) (take-all i xs (omega (arith, h)))

pub take-suc-some : {X : Type 0} (xs : List X) (i : ℕ) (x : X) → slice_get xs i ≡ Some x → take (suc i) xs ≡ take i xs ++ x ∷ []
take-suc-some [] i x e = absurd cc
take-suc-some (y ∷ xs) zero x e = ap (λ z. z ∷ []) (same_Some y x e)
take-suc-some (y ∷ xs) (suc i) x e = ap (λ z. y ∷ z) (take-suc-some xs i x e)
