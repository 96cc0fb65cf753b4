-- Lists: members of joined and mapped lists, beginnings, and rising numbers.
use Rattle.std.proofs.Common.{◌≡◌, ℕ, zero, suc, ◌<◌, Bool, true, false, List, [], ◌∷◌, ◌++◌, ◌⊎◌, inl, inr, map, take, slice_get, Some, refl, ap, subst, arith, eq-eqb}
pub use Rattle.std.proofs.Common.{append-nil as append-none}
use Rattle.law_machine.specs.Machine.{Has}
pub use Rattle.law_machine.proofs.Lists.{get-after as slice_get-end}
use Rattle.law_routing.specs.Server.{is_among}
use Rattle.law_routing.specs.Clients.{some_pass}
use Rattle.law_routing.specs.Order.{IsStrictlyRising}
use Rattle.base.proofs.Sets.{has-append, has-append-left, has-append-right}
use Rattle.std.specs.List.{list_any}
use Rattle.std.proofs.Common.{ne_eqb, ◌||◌}

pub has-one : (u : ℕ) (xs : List ℕ) → Has u xs → is_among u xs ≡ true
has-one u [] h = absurd h
has-one u (y ∷ xs) (inl q) = rw (eq-eqb u y q) refl
has-one u (y ∷ xs) (inr h) = grind (arith, has-one u xs h)

pub take-one : {X : Type 0} (xs : List X) (k : ℕ) (x : X) → slice_get xs k ≡ Some x → take (suc k) xs ≡ take k xs ++ (x ∷ [])
take-one [] k x e = absurd cc
take-one (y ∷ ys) zero x e = cc
take-one (y ∷ ys) (suc k) x e = ap (λ zs. y ∷ zs) (take-one ys k x e)

pub pass-by : {T : Type 0} (test : T → Bool) (x : T) (xs : List T) → Has x xs → test x ≡ true → some_pass test xs ≡ true
pass-by test x [] h e = absurd h
pass-by test x (y ∷ ys) (inl q) e = rw (subst (λ z. test z ≡ true) q e) refl
pass-by test x (y ∷ ys) (inr h) e = grind (arith, pass-by test x ys h e)

pub by-pass : {T : Type 0} (test : T → Bool) (xs : List T) → some_pass test xs ≡ true → (x : T) × Has x xs × (test x ≡ true)
by-pass test [] e = absurd cc
by-pass {T} test (y ∷ ys) e = go (test y) refl (by-pass test ys)
  where
    go : (b : Bool) → test y ≡ b → (some_pass test ys ≡ true → (x : T) × Has x ys × (test x ≡ true)) → (x : T) × Has x (y ∷ ys) × (test x ≡ true)
    go true q ih = (y, inl refl, q)
    go false q ih = let r = ih (rw q at e) in (r.0, inr r.1, r.2)

pub up-append : (xs ys : List ℕ) → IsStrictlyRising xs → IsStrictlyRising ys → ((x y : ℕ) → Has x xs → Has y ys → x < y) → IsStrictlyRising (xs ++ ys)
up-append [] ys u v f = v
up-append (x ∷ xs) ys u v f = ((λ y h. elim (has-append y xs ys h) [ inl a ↦ u.0 y a | inr b ↦ f x y (inl refl) b ]), up-append xs ys u.1 v (λ a b h k. f a b (inr h) k))

pub up-left : (xs ys : List ℕ) → IsStrictlyRising (xs ++ ys) → IsStrictlyRising xs
up-left [] ys u = tt
up-left (x ∷ xs) ys u = ((λ y h. u.0 y (has-append-left y xs ys h)), up-left xs ys u.1)

pub up-below : (xs ys : List ℕ) → IsStrictlyRising (xs ++ ys) → (x y : ℕ) → Has x xs → Has y ys → x < y
up-below [] ys u x y h k = absurd h
up-below (z ∷ xs) ys u x y (inl p) k = rw p (u.0 y (has-append-right y xs ys k))
up-below (z ∷ xs) ys u x y (inr h) k = up-below xs ys u.1 x y h k

pub not-among : (x : ℕ) (xs : List ℕ) → (Has x xs → ⊥) → is_among x xs ≡ false
not-among x [] n = refl
not-among x (y ∷ ys) n = rw (ne_eqb x y (λ e. n (inl e)), not-among x ys (λ h. n (inr h))) refl

pub some_pass-any : {T : Type 0} (test : T → Bool) (xs : List T) → some_pass test xs ≡ list_any test xs
some_pass-any test [] = refl
some_pass-any test (x ∷ xs) = ap (λ b. test x || b) (some_pass-any test xs)
