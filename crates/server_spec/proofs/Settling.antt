-- A list that some members leave and others join at the end: what the difference of the two lists is, and that it leads from one to the other.
use Rattle.std.proofs.Common.{◌≡◌, Bool, true, false, cond, not, List, [], ◌∷◌, ◌++◌, inl, inr, filter, refl, sym, ap, ◌∙◌}
use Rattle.base.specs.Laws.{CoverLaws}
use Rattle.base.specs.Sets.{Has, member, minus, IsRising, union, set_of}
use Rattle.base.proofs.Roots.{Has-filter, filter-Has}
use Rattle.base.proofs.Sets.{member-has, has-member, ext, rising-union, rising-minus, rising-set_of, has-set_of, has-union, minus-iff, has-append, has-append-left}
use Rattle.base.proofs.Lists.{filter-same, filter-all}
use Rattle.std.proofs.lemmas.List.Elements.{filter-append}

filter-none : {T : Type 0} (p : T → Bool) (xs : List T) → ((x : T) → Has x xs → p x ≡ false) → filter p xs ≡ []
filter-none p [] f = refl
filter-none p (x ∷ xs) f = rw (f x (inl refl)) (filter-none p xs (λ y h. f y (inr h)))

module _ {T : Type 0} {covers before : T → T → Bool} (laws : CoverLaws covers before) where
  pub absent : (x : T) (xs : List T) → (Has x xs → ⊥) → member before x xs ≡ false
  absent x xs missing = go (member before x xs) refl
    where
      go : (b : Bool) → member before x xs ≡ b → member before x xs ≡ false
      go true e = absurd (missing (member-has laws x xs e))
      go false e = e

  module _ (q : T → Bool) (now added : List T) (new : (x : T) → Has x added → Has x now → ⊥) where
    abbrev next : List T
    next = filter q now ++ added

    stands : (x : T) → Has x now → member before x next ≡ q x
    stands x h = go (q x) refl
      where
        gone : q x ≡ false → Has x next → ⊥
        gone e m = elim (has-append x (filter q now) added m) [ inl k ↦ bad (sym e ∙ (filter-Has q x now k).1) | inr k ↦ new x k h ]
          where
            bad : false ≡ true → ⊥
            bad w = cc

        go : (b : Bool) → q x ≡ b → member before x next ≡ q x
        go true e = has-member laws x next (has-append-left x (filter q now) added (Has-filter q x now h e)) ∙ sym e
        go false e = absent x next (gone e) ∙ sym e

    -- what goes
    pub out : minus before now (filter q now ++ added) ≡ filter (λ x. not (q x)) now
    out = filter-same (λ x. not (member before x next)) (λ x. not (q x)) now (λ x h. ap not (stands x h))

    -- what comes
    pub add : minus before (filter q now ++ added) now ≡ added
    add = filter-append left (filter q now) added ∙ ap (λ xs. xs ++ filter left added) (filter-none left (filter q now) there) ∙ filter-all left added fresh
      where
        left : T → Bool
        left x = not (member before x now)

        there : (x : T) → Has x (filter q now) → not (member before x now) ≡ false
        there x h = rw (has-member laws x now (filter-Has q x now h).0) refl

        fresh : (x : T) → Has x added → not (member before x now) ≡ true
        fresh x h = rw (absent x now (new x h)) refl

    -- what stays
    stays : minus before now (filter (λ x. not (q x)) now) ≡ filter q now
    stays = filter-same (λ x. not (member before x (filter (λ y. not (q y)) now))) q now same
      where
        same : (x : T) → Has x now → not (member before x (filter (λ y. not (q y)) now)) ≡ q x
        same x h = go (q x) refl
          where
            kept : q x ≡ true → Has x (filter (λ y. not (q y)) now) → ⊥
            kept e m = bad (ap not (sym e) ∙ (filter-Has (λ y. not (q y)) x now m).1)
              where
                bad : false ≡ true → ⊥
                bad w = cc

            go : (b : Bool) → q x ≡ b → not (member before x (filter (λ y. not (q y)) now)) ≡ q x
            go true e = ap not (absent x (filter (λ y. not (q y)) now) (kept e)) ∙ sym e
            go false e = ap not (has-member laws x (filter (λ y. not (q y)) now) (Has-filter (λ y. not (q y)) x now h (ap not e))) ∙ sym e

    -- the difference leads from one list to the other
    pub settled : minus before now (minus before now (filter q now ++ added)) ++ minus before (filter q now ++ added) now ≡ filter q now ++ added
    settled = ap (λ xs. minus before now xs ++ minus before next now) out ∙ ap (λ xs. xs ++ minus before next now) stays ∙ ap (λ xs. filter q now ++ xs) add

  -- between the sets of any two lists their difference leads from one to the other
  pub sets-settled : (now next : List T) → union before (minus before next now) (minus before (set_of before now) (minus before now next)) ≡ set_of before next
  sets-settled now next = ext laws (union before (minus before next now) (minus before (set_of before now) (minus before now next))) (set_of before next) rises (rising-set_of laws next) to back
    where
      left : IsRising before (minus before (set_of before now) (minus before now next))
      left = rising-minus laws (set_of before now) (minus before now next) (rising-set_of laws now)

      rises : IsRising before (union before (minus before next now) (minus before (set_of before now) (minus before now next)))
      rises = rising-union laws (minus before next now) (minus before (set_of before now) (minus before now next)) left

      to : (x : T) → Has x (union before (minus before next now) (minus before (set_of before now) (minus before now next))) → Has x (set_of before next)
      to x h = elim ((has-union laws x (minus before next now) (minus before (set_of before now) (minus before now next))).0 h) [
        | inl m ↦ (has-set_of laws x next).1 ((minus-iff laws x next now).0 m).0
        | inr m ↦ held x ((minus-iff laws x (set_of before now) (minus before now next)).0 m)
      ]
        where
          held : (x : T) → Has x (set_of before now) × (Has x (minus before now next) → ⊥) → Has x (set_of before next)
          held x w = go (member before x next) refl
            where
              go : (b : Bool) → member before x next ≡ b → Has x (set_of before next)
              go true e = (has-set_of laws x next).1 (member-has laws x next e)
              go false e = absurd (w.1 ((minus-iff laws x now next).1 ((has-set_of laws x now).0 w.0, λ k. bad (sym e ∙ has-member laws x next k))))
                where
                  bad : false ≡ true → ⊥
                  bad q = cc

      back : (x : T) → Has x (set_of before next) → Has x (union before (minus before next now) (minus before (set_of before now) (minus before now next)))
      back x h = go (member before x now) refl
        where
          in-next : Has x next
          in-next = (has-set_of laws x next).0 h

          go : (b : Bool) → member before x now ≡ b → Has x (union before (minus before next now) (minus before (set_of before now) (minus before now next)))
          go true e = (has-union laws x (minus before next now) (minus before (set_of before now) (minus before now next))).1 (inr ((minus-iff laws x (set_of before now) (minus before now next)).1 ((has-set_of laws x now).1 (member-has laws x now e), λ m. ((minus-iff laws x now next).0 m).1 in-next)))
          go false e = (has-union laws x (minus before next now) (minus before (set_of before now) (minus before now next))).1 (inl ((minus-iff laws x next now).1 (in-next, λ k. bad (sym e ∙ has-member laws x now k))))
            where
              bad : false ≡ true → ⊥
              bad q = cc
