-- What matches a filter and is allowed by an advertisement makes the two overlap.
use Rattle.std.proofs.Common.{◌≡◌, Bool, true, false, not, ◌&&◌, ◌||◌, refl, sym, ap, subst, ◌∙◌, List, Some}
use Rattle.std.specs.List.{list_all, list_any}
use Rattle.std.specs.Str.{bytes_eq}
use Rattle.filter_constraints.specs.Constraint.{ConstraintParts, same_subject, satisfies, compatible}
use Rattle.filter_constraints.proofs.BytesLemmas.{bytes_eq-tells}
use Rattle.filter_constraints.proofs.ConstraintLaws.{shared-compatible, sat-kind, subject-tells, subject-told}
use Rattle.filter_types.specs.Notice.{Attribute, attribute_at, AreValues}
use Rattle.filter_types.specs.Cover.{attribute_satisfies, matches, allows, overlaps}
use Rattle.filter_types.proofs.Lists.{all-has, has-all, has-any}
use Rattle.filter_types.proofs.CoveringLaws.{value-of, found, met}
use Rattle.std.proofs.lemmas.Bool.{and_parts, and_from}
use Rattle.base.proofs.Sets.{any-some}

either : (b c : Bool) → (b ≡ true → c ≡ true) → (not b || c) ≡ true
either true c h = h refl
either false c h = refl

pub overlap : (f a : List ConstraintParts) (n : List Attribute) → AreValues n → matches n f ≡ true → allows a n ≡ true → overlaps f a ≡ true
unfolding overlaps matches allows
overlap f a n k p q = has-all _ f (λ c m.
    let s = met (attribute_at n c.name) c (all-has (λ x. attribute_satisfies (attribute_at n x.name) x) c f p m) in
    let x = found n c.name s.0 s.1 in
    let v = value-of s.0 n k x.0 in
    let t = any-some (λ d. bytes_eq d.name s.0.0 && satisfies d s.0.1) a (all-has (λ y. list_any (λ d. bytes_eq d.name y.0 && satisfies d y.1) a) s.0 n q x.0) in
    let r = and_parts (bytes_eq t.0.name s.0.0) (satisfies t.0 s.0.1) t.2 in
    let name : c.name ≡ t.0.name = sym (bytes_eq-tells t.0.name s.0.0 r.0 ∙ x.1) in
    let held = r.1 in
    let kind : c.kind ≡ t.0.kind = sat-kind c s.0.1 s.2 ∙ sym (sat-kind t.0 s.0.1 held) in
    has-any (λ d. same_subject c d && list_all (λ e. not (same_subject c e) || compatible d e) f) t.0 a t.1
    (and_from (same_subject c t.0) (list_all (λ e. not (same_subject c e) || compatible t.0 e) f)
    (subject-told c t.0 name kind)
    (has-all (λ e. not (same_subject c e) || compatible t.0 e) f (λ e l. either (same_subject c e) (compatible t.0 e) (λ same.
    let z = (subject-tells c e same).0 in
    let u = met (attribute_at n e.name) e (all-has (λ y. attribute_satisfies (attribute_at n y.name) y) e f p l) in
    let one : Some u.0 ≡ Some s.0 = sym u.1 ∙ ap (attribute_at n) (sym z) ∙ s.1 in
    let is : u.0 ≡ s.0 = cc in
    shared-compatible t.0 e s.0.1 v (sym name ∙ z) held (subst (λ (z : Attribute). satisfies e z.1 ≡ true) is u.2))))))
