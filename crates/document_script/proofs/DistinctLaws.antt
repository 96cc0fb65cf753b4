-- Constraints of which equal ones were made one, and some more.
use Rattle.std.proofs.Common.{◌≡◌, ◌<◌, ◌≤◌, ◌⊎◌, inl, inr, refl, sym, ap, subst, ◌∙◌, arith, ℕ, Bool, true, false, List, [], ◌∷◌, ◌++◌, length}
use Rattle.std.specs.declared.cmp.Ordering.{Ordering}
use Rattle.std.specs.declared.cmp.Ordering.TheVariants.{Less, Equal, Greater}
use Rattle.std.specs.List.{Contains}
use Rattle.std.proofs.lemmas.List.Elements.{Contains-append_cases, Contains-append_left, Contains-append_right}
use Rattle.filter_constraints.specs.Constraint.{ConstraintParts}
use Rattle.filter_constraints.specs.Order.{constraint_cmp}
use Rattle.filter_types.specs.Canonical.{canonical, placed, put}
use Rattle.document_script.specs.Reading.{KeepsDistinct}
use Rattle.filter_types.proofs.CanonicalLaws.{canonical_contains, canonical_some, contains_canonical, rises, unique-contains}

moved : (xs ys : List ConstraintParts) (x : ConstraintParts) → canonical xs ≡ canonical ys → Contains xs x → Contains ys x
moved xs ys x e h = canonical_contains x ys (subst (λ (z : List ConstraintParts). Contains z x) e (contains_canonical x xs h))

more : (xs ys zs : List ConstraintParts) (x : ConstraintParts) → canonical xs ≡ canonical ys → Contains (canonical (xs ++ zs)) x → Contains (canonical (ys ++ zs)) x
more xs ys zs x e h = contains_canonical x (ys ++ zs) (go (Contains-append_cases xs zs x (canonical_contains x (xs ++ zs) h)))
  where
    go : Contains xs x ⊎ Contains zs x → Contains (ys ++ zs) x
    go (inl h) = Contains-append_left ys zs x (moved xs ys x e h)
    go (inr h) = Contains-append_right ys zs x h

pub same_with : (xs ys zs : List ConstraintParts) → canonical xs ≡ canonical ys → canonical (xs ++ zs) ≡ canonical (ys ++ zs)
same_with xs ys zs e = unique-contains (canonical (xs ++ zs)) (canonical (ys ++ zs)) (rises (xs ++ zs)) (rises (ys ++ zs)) (λ x. (more xs ys zs x e, more ys xs zs x (sym e)))

pub again : (xs ys : List ConstraintParts) → ys ≡ canonical xs → canonical ys ≡ canonical xs
again xs ys e = unique-contains (canonical ys) (canonical xs) (rises ys) (rises xs)
    (λ x. (λ h. subst (λ (z : List ConstraintParts). Contains z x) e (canonical_contains x ys h), λ h. contains_canonical x ys (subst (λ (z : List ConstraintParts). Contains z x) (sym e) h)))

none_given : (kept given : List ConstraintParts) → canonical kept ≡ canonical given → kept ≡ [] → given ≡ []
unfolding canonical
none_given kept [] e n = refl
none_given kept (c ∷ given) e n =
    let k : [] ≡ canonical (c ∷ given) = ap canonical (sym n) ∙ e in
    let l = canonical_some (c ∷ given) [] k (omega arith) in absurd (omega (arith, l))

put_grows : (c : ConstraintParts) (xs : List ConstraintParts) → length xs ≤ length (put c xs)
put_grows c [] = omega arith
put_grows c (d ∷ xs) = go (constraint_cmp c d) (put_grows c xs)
  where
    go : (o : Ordering) → length xs ≤ length (put c xs) → length (d ∷ xs) ≤ length (placed o c d xs (put c xs))
    go Less l = omega arith
    go Equal l = omega arith
    go Greater l = omega (arith, l)

-- one more at the end is one more in front
at_end : (xs : List ConstraintParts) (c : ConstraintParts) → canonical (xs ++ c ∷ []) ≡ canonical (c ∷ xs)
at_end xs c = unique-contains (canonical (xs ++ c ∷ [])) (canonical (c ∷ xs)) (rises (xs ++ c ∷ [])) (rises (c ∷ xs))
    (λ x. (λ h. contains_canonical x (c ∷ xs) (there x (Contains-append_cases xs (c ∷ []) x (canonical_contains x (xs ++ c ∷ []) h))), λ h. contains_canonical x (xs ++ c ∷ []) (back x (Contains-append_cases (c ∷ []) xs x (canonical_contains x (c ∷ xs) h)))))
  where
    there : (x : ConstraintParts) → Contains xs x ⊎ Contains (c ∷ []) x → Contains (c ∷ xs) x
    there x (inl h) = Contains-append_right (c ∷ []) xs x h
    there x (inr h) = Contains-append_left (c ∷ []) xs x h

    back : (x : ConstraintParts) → Contains (c ∷ []) x ⊎ Contains xs x → Contains (xs ++ c ∷ []) x
    back x (inl h) = Contains-append_right xs (c ∷ []) x h
    back x (inr h) = Contains-append_left xs (c ∷ []) x h

-- where there are more than 64 distinct ones, so there are with one more
pub still_many : (xs : List ConstraintParts) (c : ConstraintParts) → 64 < length (canonical xs) → 64 < length (canonical (xs ++ c ∷ []))
unfolding canonical
still_many xs c l = let g = put_grows c (canonical xs) in subst (λ (z : List ConstraintParts). 64 < length z) (sym (at_end xs c)) (omega (arith, l, g))

-- where there are enough there are more than 64 distinct ones, whatever else is given
pub enough : (full : Bool) (inner given : List ConstraintParts) (c : ConstraintParts) → full ≡ true → KeepsDistinct (full, inner) given → KeepsDistinct (full, inner) (given ++ c ∷ [])
enough true inner given c e k = (k.0, still_many given c k.1)
enough false inner given c e k = absurd cc

pub now_enough : (full : Bool) (before inner given : List ConstraintParts) (c : ConstraintParts) → full ≡ false → KeepsDistinct (full, before) given → canonical inner ≡ canonical before → 64 < length (canonical before)
    → KeepsDistinct (true, inner) (given ++ c ∷ [])
now_enough true before inner given c f k e l = absurd cc
now_enough false before inner given c f k e l = (subst (λ (z : List ConstraintParts). 64 < length z) (sym e) l, still_many given c (subst (λ (z : List ConstraintParts). 64 < length z) k l))

pub one_kept : (full : Bool) (before inner given : List ConstraintParts) (c : ConstraintParts) → full ≡ false → KeepsDistinct (full, before) given → canonical inner ≡ canonical before
    → KeepsDistinct (full, inner ++ c ∷ []) (given ++ c ∷ [])
one_kept true before inner given c f k e = absurd cc
one_kept false before inner given c f k e = same_with inner given (c ∷ []) (e ∙ k)

-- constraints that are few enough are all kept
pub all_kept : (full : Bool) (inner given : List ConstraintParts) → KeepsDistinct (full, inner) given → length (canonical inner) ≤ 64 → canonical inner ≡ canonical given
all_kept true inner given k l = absurd (omega (arith, l, k.0))
all_kept false inner given k l = k

-- of too many kept, too many were given
pub too_many : (full : Bool) (inner given : List ConstraintParts) (most : ℕ) → KeepsDistinct (full, inner) given → most ≤ 64 → most < length (canonical inner) → most < length (canonical given)
too_many true inner given most k s l = omega (arith, s, k.1)
too_many false inner given most k s l = subst (λ (z : List ConstraintParts). most < length z) k l

pub none_kept : (full : Bool) (inner given : List ConstraintParts) → KeepsDistinct (full, inner) given → inner ≡ [] → given ≡ []
unfolding canonical
none_kept true inner given k n = absurd (let l : 64 < length (canonical []) = subst (λ (z : List ConstraintParts). 64 < length (canonical z)) n k.0 in omega (arith, l))
none_kept false inner given k n = none_given inner given k n
