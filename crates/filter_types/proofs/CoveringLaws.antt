-- Proves the laws of covering of filters and of advertisements.
use Rattle.std.proofs.Common.{inl, inr, ◌≡◌, ℕ, Bool, true, false, ◌&&◌, refl, sym, ap, subst, ◌∙◌, List, [], ◌∷◌, Some, None, Option, cond}
use Rattle.std.specs.List.{list_any}
use Rattle.std.specs.Str.{bytes_eq}
use Rattle.filter_values.specs.Value.{IsValue}
use Rattle.filter_constraints.specs.Constraint.{ConstraintParts, satisfies, constraint_covers}
use Rattle.filter_constraints.proofs.BytesLemmas.{bytes_eq-tells, bytes_eq-told}
use Rattle.filter_constraints.proofs.ConstraintLaws.{covers-self, covers-covers, covers-sound, covers-name}
use Rattle.filter_types.specs.Notice.{Attribute, attribute_at, AreValues}
use Rattle.filter_types.specs.Cover.{attribute_satisfies, matches, allows, filter_covers, advert_covers}
use Rattle.base.specs.Sets.{Has}
use Rattle.filter_types.proofs.Lists.{all-has, has-all, has-any}
use Rattle.std.proofs.lemmas.Bool.{and_parts, and_from}
use Rattle.base.proofs.Sets.{any-some}

pub value-of : (x : Attribute) (n : List Attribute) → AreValues n → Has x n → IsValue x.1
value-of x [] i m = absurd m
value-of x (y ∷ n) i (inl e) = subst (λ (z : Attribute). IsValue z.1) (sym e) i.0
value-of x (y ∷ n) i (inr m) = value-of x n i.1 m

-- what is found at a name is an attribute of that name
pub found : (n : List Attribute) (name : List ℕ) (x : Attribute) → attribute_at n name ≡ Some x → Has x n × (x.0 ≡ name)
found [] name x e = cc
found (a ∷ n) name x e = go (bytes_eq a.0 name) refl e (λ q. found n name x q)
  where
    go : (b : Bool) → bytes_eq a.0 name ≡ b → cond b (Some a) (attribute_at n name) ≡ Some x → (attribute_at n name ≡ Some x → Has x n × (x.0 ≡ name)) → Has x (a ∷ n) × (x.0 ≡ name)
    go true t q k = let s : a ≡ x = cc in (inl (sym s), subst (λ (z : Attribute). z.0 ≡ name) s (bytes_eq-tells a.0 name t))
    go false t q k = let r = k q in (inr r.0, r.1)

pub met : (o : Option Attribute) (c : ConstraintParts) → attribute_satisfies o c ≡ true → (x : Attribute) × (o ≡ Some x) × (satisfies c x.1 ≡ true)
met None c h = cc
met (Some x) c h = (x, refl, h)

pub filter-reflexive : (f : List ConstraintParts) → filter_covers f f ≡ true
unfolding filter_covers
filter-reflexive f = has-all _ f (λ c m. has-any (λ d. constraint_covers c d) c f m (covers-self c))

pub filter-transitive : (f g h : List ConstraintParts) → filter_covers f g ≡ true → filter_covers g h ≡ true → filter_covers f h ≡ true
unfolding filter_covers
filter-transitive f g h p q = has-all _ f (λ c m.
    let a = any-some (λ d. constraint_covers c d) g (all-has (λ x. list_any (λ d. constraint_covers x d) g) c f p m) in
    let b = any-some (λ d. constraint_covers a.0 d) h (all-has (λ x. list_any (λ d. constraint_covers x d) h) a.0 g q a.1) in
    has-any (λ d. constraint_covers c d) b.0 h b.1 (covers-covers c a.0 b.0 a.2 b.2))

pub filter-sound : (f g : List ConstraintParts) (n : List Attribute) → AreValues n → filter_covers f g ≡ true → matches n g ≡ true → matches n f ≡ true
unfolding filter_covers matches
filter-sound f g n k p q = has-all _ f (λ c m.
    let a = any-some (λ d. constraint_covers c d) g (all-has (λ x. list_any (λ d. constraint_covers x d) g) c f p m) in
    let s = met (attribute_at n a.0.name) a.0 (all-has (λ x. attribute_satisfies (attribute_at n x.name) x) a.0 g q a.1) in
    let v = value-of s.0 n k (found n a.0.name s.0 s.1).0 in
    let t : satisfies c s.0.1 ≡ true = covers-sound c a.0 s.0.1 v a.2 s.2 in
    let e : attribute_at n c.name ≡ Some s.0 = ap (attribute_at n) (covers-name c a.0 a.2) ∙ s.1 in
    rw e t)

pub advert-reflexive : (a : List ConstraintParts) → advert_covers a a ≡ true
unfolding advert_covers
advert-reflexive a = has-all _ a (λ c m. has-any (λ d. constraint_covers d c) c a m (covers-self c))

pub advert-transitive : (a b c : List ConstraintParts) → advert_covers a b ≡ true → advert_covers b c ≡ true → advert_covers a c ≡ true
unfolding advert_covers
advert-transitive a b c p q = has-all _ c (λ x m.
    let s = any-some (λ d. constraint_covers d x) b (all-has (λ y. list_any (λ d. constraint_covers d y) b) x c q m) in
    let t = any-some (λ d. constraint_covers d s.0) a (all-has (λ y. list_any (λ d. constraint_covers d y) a) s.0 b p s.1) in
    has-any (λ d. constraint_covers d x) t.0 a t.1 (covers-covers t.0 s.0 x t.2 s.2))

pub advert-sound : (a b : List ConstraintParts) (n : List Attribute) → AreValues n → advert_covers a b ≡ true → allows b n ≡ true → allows a n ≡ true
unfolding advert_covers allows
advert-sound a b n k p q = has-all _ n (λ x m.
    let s = any-some (λ d. bytes_eq d.name x.0 && satisfies d x.1) b (all-has (λ y. list_any (λ d. bytes_eq d.name y.0 && satisfies d y.1) b) x n q m) in
    let t = any-some (λ d. constraint_covers d s.0) a (all-has (λ y. list_any (λ d. constraint_covers d y) a) s.0 b p s.1) in
    let r = and_parts (bytes_eq s.0.name x.0) (satisfies s.0 x.1) s.2 in
    let w = covers-sound t.0 s.0 x.1 (value-of x n k m) t.2 r.1 in
    let e = bytes_eq-told t.0.name x.0 (covers-name t.0 s.0 t.2 ∙ bytes_eq-tells s.0.name x.0 r.0) in
    has-any (λ d. bytes_eq d.name x.0 && satisfies d x.1) t.0 a t.1 (and_from (bytes_eq t.0.name x.0) (satisfies t.0 x.1) e w))
