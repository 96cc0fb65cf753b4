-- The steps of a walk along constraints and attributes, both by names.
use Rattle.std.proofs.Common.{◌≡◌, ℕ, true, false, ◌&&◌, refl, sym, ap, ◌∙◌, subst, List, [], ◌∷◌, None, Ordering}
use Rattle.std.specs.declared.cmp.Ordering.TheVariants.{Less, Equal, Greater}
use Rattle.std.specs.Ordering.{nat_cmp, is_eq, ordering_reverse, ordering_then}
use Rattle.std.specs.Cmp.Lexicographic.{slice_cmp}
use Rattle.std.specs.Str.{bytes_eq}
use Rattle.std.proofs.lemmas.Cmp.{nat_list_cmp_total}
use Rattle.std.proofs.lemmas.Map.Text.{is_eq-slice_cmp}
use Rattle.filter_constraints.specs.Constraint.{ConstraintParts, satisfies}
use Rattle.filter_constraints.specs.Order.{constraint_cmp}
use Rattle.filter_constraints.proofs.OrderLaws.{list-tied, nat-tied}
use Rattle.filter_types.specs.Notice.{Attribute, attribute_at, AreRising}
use Rattle.filter_types.specs.Canonical.{IsBelow, AreInCanonicalOrder}
use Rattle.filter_types.specs.Cover.{attribute_satisfies, matches, allows, some_allows}

abbrev pub name_cmp : List ℕ → List ℕ → Ordering
name_cmp = slice_cmp nat_cmp

-- what a comparison told
pub told : (o p : Ordering) (m n k l : List ℕ) → o ≡ name_cmp m n → m ≡ k → n ≡ l → o ≡ p → name_cmp k l ≡ p
told o p m n k l e f g h = cc

less-differs : (m n : List ℕ) → name_cmp m n ≡ Less → bytes_eq m n ≡ false
less-differs m n h = sym (is_eq-slice_cmp m n) ∙ ap is_eq h

greater-differs : (m n : List ℕ) → name_cmp m n ≡ Greater → bytes_eq m n ≡ false
greater-differs m n h = sym (is_eq-slice_cmp m n) ∙ ap is_eq h

equal-same : (m n : List ℕ) → name_cmp m n ≡ Equal → bytes_eq m n ≡ true
equal-same m n h = sym (is_eq-slice_cmp m n) ∙ ap is_eq h

turned : (m n : List ℕ) → name_cmp m n ≡ Less → name_cmp n m ≡ Greater
turned m n h = nat_list_cmp_total.antisymm n m ∙ ap ordering_reverse h

turned-back : (m n : List ℕ) → name_cmp m n ≡ Greater → name_cmp n m ≡ Less
turned-back m n h = nat_list_cmp_total.antisymm n m ∙ ap ordering_reverse h

first-tells : (o p : Ordering) → ordering_then o p ≡ Less → o ≡ Greater → ⊥
first-tells Less p h e = cc
first-tells Equal p h e = cc
first-tells Greater p h e = cc

-- a name below that of a constraint is below those of later ones
below-later : (m : List ℕ) (c d : ConstraintParts) → name_cmp m c.name ≡ Less → constraint_cmp c d ≡ Less → name_cmp m d.name ≡ Less
below-later m c d h l = go (name_cmp c.name d.name) refl
  where
    go : (o : Ordering) → name_cmp c.name d.name ≡ o → name_cmp m d.name ≡ Less
    go Less e = nat_list_cmp_total.trans m c.name d.name h e
    go Equal e = ap (name_cmp m) (sym (list-tied nat_cmp nat-tied c.name d.name e)) ∙ h
    go Greater e = absurd (first-tells (name_cmp c.name d.name) _ l e)

-- the name is below those of all the constraints
abbrev IsUnder : List ℕ → List ConstraintParts → Type 0
IsUnder m [] = Unit {0}
IsUnder m (d ∷ f) = (name_cmp m d.name ≡ Less) × IsUnder m f

under : (m : List ℕ) (c : ConstraintParts) (f : List ConstraintParts) → name_cmp m c.name ≡ Less → IsBelow c f → IsUnder m f
under m c [] h b = tt
under m c (d ∷ f) h b = (below-later m c d h b.0, under m c f h b.1)

-- an attribute below all constraints is of no use to them
unused : (a : Attribute) (n : List Attribute) (f : List ConstraintParts) → IsUnder a.0 f → matches (a ∷ n) f ≡ matches n f
unfolding matches
unused a n [] u = refl
unused a n (d ∷ f) u = rw (less-differs a.0 d.name u.0) (ap (λ b. attribute_satisfies (attribute_at n d.name) d && b) (unused a n f u.1))

pub match_less : (n : List Attribute) (f : List ConstraintParts) (a : Attribute) (later : List Attribute) (c : ConstraintParts) (further : List ConstraintParts) → n ≡ a ∷ later → f ≡ c ∷ further → AreInCanonicalOrder f → name_cmp a.0 c.name ≡ Less → matches n f ≡ matches later f
match_less n f a later c further p q r h = rw (p, q) (unused a later (c ∷ further) (h, under a.0 c further h (subst AreInCanonicalOrder q r).0))

pub match_met : (n : List Attribute) (f : List ConstraintParts) (a : Attribute) (later : List Attribute) (c : ConstraintParts) (further : List ConstraintParts) → n ≡ a ∷ later → f ≡ c ∷ further → name_cmp a.0 c.name ≡ Equal → satisfies c a.1 ≡ true → matches n f ≡ matches n further
unfolding matches
match_met n f a later c further p q h s = rw (p, q, equal-same a.0 c.name h, s) refl

pub match_unmet : (n : List Attribute) (f : List ConstraintParts) (a : Attribute) (later : List Attribute) (c : ConstraintParts) (further : List ConstraintParts) → n ≡ a ∷ later → f ≡ c ∷ further → name_cmp a.0 c.name ≡ Equal → satisfies c a.1 ≡ false → matches n f ≡ false
unfolding matches
match_unmet n f a later c further p q h s = rw (p, q, equal-same a.0 c.name h, s) refl

missing : (a : Attribute) (n : List Attribute) (m : List ℕ) → name_cmp m a.0 ≡ Less → AreRising (a ∷ n) → attribute_at (a ∷ n) m ≡ None
missing a [] m h r = rw (greater-differs a.0 m (turned m a.0 h)) refl
missing a (b ∷ n) m h r = rw (greater-differs a.0 m (turned m a.0 h)) (missing b n m (nat_list_cmp_total.trans m a.0 b.0 h r.0) r.1)

pub match_missing : (n : List Attribute) (f : List ConstraintParts) (a : Attribute) (later : List Attribute) (c : ConstraintParts) (further : List ConstraintParts) → n ≡ a ∷ later → f ≡ c ∷ further → AreRising n → name_cmp a.0 c.name ≡ Greater → matches n f ≡ false
unfolding matches
match_missing n f a later c further p q r h = rw (p, q, missing a later c.name (turned-back a.0 c.name h) (subst AreRising p r)) refl

pub match_none : (n : List Attribute) (f : List ConstraintParts) (c : ConstraintParts) (further : List ConstraintParts) → n ≡ [] → f ≡ c ∷ further → matches n f ≡ false
unfolding matches
match_none n f c further p q = rw (p, q) refl

pub match_all : (n : List Attribute) (f : List ConstraintParts) → f ≡ [] → matches n f ≡ true
unfolding matches
match_all n f q = rw q refl

pub later_rising : (n : List Attribute) (a : Attribute) (later : List Attribute) → n ≡ a ∷ later → AreRising n → AreRising later
later_rising n a [] p r = tt
later_rising n a (b ∷ later) p r = (subst AreRising p r).1

pub further_rising : (f : List ConstraintParts) (c : ConstraintParts) (further : List ConstraintParts) → f ≡ c ∷ further → AreInCanonicalOrder f → AreInCanonicalOrder further
further_rising f c further q r = (subst AreInCanonicalOrder q r).1

-- constraints above a name allow no attribute of it
disallowed : (x : Attribute) (f : List ConstraintParts) → IsUnder x.0 f → some_allows f x.0 x.1 ≡ false
disallowed x [] u = refl
disallowed x (d ∷ f) u = rw (greater-differs d.name x.0 (turned x.0 d.name u.0)) (disallowed x f u.1)

pub allow_less : (n : List Attribute) (f : List ConstraintParts) (x : Attribute) (later : List Attribute) (c : ConstraintParts) (further : List ConstraintParts) → n ≡ x ∷ later → f ≡ c ∷ further → AreInCanonicalOrder f → name_cmp x.0 c.name ≡ Less → allows f n ≡ false
unfolding allows
allow_less n f x later c further p q r h = rw (p, q, disallowed x (c ∷ further) (h, under x.0 c further h (subst AreInCanonicalOrder q r).0)) refl

same-turned : (m n : List ℕ) → name_cmp m n ≡ Equal → bytes_eq n m ≡ true
same-turned m n h = equal-same n m (nat_list_cmp_total.antisymm n m ∙ ap ordering_reverse h)

met : (x : Attribute) (later : List Attribute) (c : ConstraintParts) (further : List ConstraintParts) → name_cmp x.0 c.name ≡ Equal → satisfies c x.1 ≡ true → allows (c ∷ further) (x ∷ later) ≡ allows (c ∷ further) later
unfolding allows
met x later c further h s = rw (same-turned x.0 c.name h, s) refl

pub allow_met : (n : List Attribute) (f : List ConstraintParts) (x : Attribute) (later : List Attribute) (c : ConstraintParts) (further : List ConstraintParts) → n ≡ x ∷ later → f ≡ c ∷ further → name_cmp x.0 c.name ≡ Equal → satisfies c x.1 ≡ true → allows f n ≡ allows f later
allow_met n f x later c further p q h s = rw (p, q) (met x later c further h s)

-- a constraint whose name is below those of all attributes is of no use to them
abbrev IsOver : List ℕ → List Attribute → Type 0
IsOver m [] = Unit {0}
IsOver m (y ∷ n) = (name_cmp m y.0 ≡ Less) × IsOver m n

over : (m : List ℕ) (x : Attribute) (n : List Attribute) → (name_cmp x.0 m ≡ Less → ⊥) → AreRising (x ∷ n) → IsOver m n
over m x [] h r = tt
over m x (y ∷ n) h r = (above, over m y n (λ l. h (nat_list_cmp_total.trans x.0 y.0 m r.0 l)) r.1)
  where
    above : name_cmp m y.0 ≡ Less
    above = go (name_cmp x.0 m) refl
      where
        go : (o : Ordering) → name_cmp x.0 m ≡ o → name_cmp m y.0 ≡ Less
        go Less e = absurd (h e)
        go Equal e = ap (λ k. name_cmp k y.0) (sym (list-tied nat_cmp nat-tied x.0 m e)) ∙ r.0
        go Greater e = nat_list_cmp_total.trans m x.0 y.0 (turned-back x.0 m e) r.0

passed : (c : ConstraintParts) (f : List ConstraintParts) (n : List Attribute) → IsOver c.name n → allows (c ∷ f) n ≡ allows f n
unfolding allows
passed c f [] o = refl
passed c f (y ∷ n) o = rw (less-differs c.name y.0 o.0) (ap (λ b. some_allows f y.0 y.1 && b) (passed c f n o.1))

unmet : (x : Attribute) (later : List Attribute) (c : ConstraintParts) (further : List ConstraintParts) → AreRising (x ∷ later) → name_cmp x.0 c.name ≡ Equal → satisfies c x.1 ≡ false → allows (c ∷ further) (x ∷ later) ≡ allows further (x ∷ later)
unfolding allows
unmet x later c further r h s = rw (same-turned x.0 c.name h, s) (ap (λ b. some_allows further x.0 x.1 && b) (passed c further later (over c.name x later (λ l. cc) r)))

pub allow_unmet : (n : List Attribute) (f : List ConstraintParts) (x : Attribute) (later : List Attribute) (c : ConstraintParts) (further : List ConstraintParts) → n ≡ x ∷ later → f ≡ c ∷ further → AreRising n → name_cmp x.0 c.name ≡ Equal → satisfies c x.1 ≡ false → allows f n ≡ allows further n
allow_unmet n f x later c further p q r h s = rw (p, q) (unmet x later c further (subst AreRising p r) h s)

gone-by : (x : Attribute) (later : List Attribute) (c : ConstraintParts) (further : List ConstraintParts) → AreRising (x ∷ later) → name_cmp x.0 c.name ≡ Greater → allows (c ∷ further) (x ∷ later) ≡ allows further (x ∷ later)
unfolding allows
gone-by x later c further r h = rw (less-differs c.name x.0 (turned-back x.0 c.name h)) (ap (λ b. some_allows further x.0 x.1 && b) (passed c further later (over c.name x later (λ l. cc) r)))

pub allow_passed : (n : List Attribute) (f : List ConstraintParts) (x : Attribute) (later : List Attribute) (c : ConstraintParts) (further : List ConstraintParts) → n ≡ x ∷ later → f ≡ c ∷ further → AreRising n → name_cmp x.0 c.name ≡ Greater → allows f n ≡ allows further n
allow_passed n f x later c further p q r h = rw (p, q) (gone-by x later c further (subst AreRising p r) h)

pub allow_none : (n : List Attribute) (f : List ConstraintParts) (x : Attribute) (later : List Attribute) → n ≡ x ∷ later → f ≡ [] → allows f n ≡ false
unfolding allows
allow_none n f x later p q = rw (p, q) refl

pub allow_all : (n : List Attribute) (f : List ConstraintParts) → n ≡ [] → allows f n ≡ true
unfolding allows
allow_all n f p = rw p refl
