-- A merge is one list, and merges one after the other are the merge of the whole.
use Rattle.std.proofs.Common.{◌≡◌, ℕ, ◌<◌, List, [], ◌∷◌, ◌++◌, inl, inr, refl, sym, ap, subst, ◌∙◌, arith}
use Rattle.law_machine.specs.Machine.{Has, Machine, Entry}
use Rattle.law_machine.specs.Journals.{entries_of, IsEarlier, IsInOrder, IsMerge}
use Rattle.law_machine.proofs.Lists.{Same, Is, Not, compare}
use Rattle.law_machine.proofs.Merge.{of-mine, of-has}
use Rattle.base.proofs.Sets.{has-append}

abbrev pub tail : {X : Type 0} → List X → List X
tail [] = []
tail (x ∷ xs) = xs

module _ (m : Machine) where
  not-both : (e f : Entry m) → IsEarlier m e f → IsEarlier m f e → ⊥
  not-both e f (inl a) (inl b) = omega (arith, a, b)
  not-both e f (inl a) (inr b) = omega (arith, a, b.0)
  not-both e f (inr a) (inl b) = omega (arith, a.0, b)
  not-both e f (inr a) (inr b) = omega (arith, a.1, b.1)

  first-in : (a : Entry m) (xs ys : List (Entry m)) → entries_of m a.server (a ∷ xs) ≡ entries_of m a.server ys → Has a ys
  first-in a xs ys e = of-has m a.server ys a (subst (Has a) (sym (of-mine m a xs) ∙ e) (inl refl))

  same-first : (a b : Entry m) (xs ys : List (Entry m)) → IsInOrder m (a ∷ xs) → IsInOrder m (b ∷ ys) → Has a (b ∷ ys) → Has b (a ∷ xs) → a ≡ b
  same-first a b xs ys o p (inl e) h = e
  same-first a b xs ys o p (inr g) (inl e) = sym e
  same-first a b xs ys o p (inr g) (inr h) = absurd (not-both a b (o.0 b h) (p.0 a g))

  rest-same : (a : Entry m) (xs ys : List (Entry m)) → ((t : ℕ) → entries_of m t (a ∷ xs) ≡ entries_of m t (a ∷ ys)) → (t : ℕ) → entries_of m t xs ≡ entries_of m t ys
  rest-same a xs ys h t = by (compare a.server t) (h t)
    where
      by : Same a.server t → entries_of m t (a ∷ xs) ≡ entries_of m t (a ∷ ys) → entries_of m t xs ≡ entries_of m t ys
      by (Is p v) e = ap tail (rw v at e)
      by (Not n v) e = rw v at e

  -- two merges of the same journals are one
  pub merge-once : (xs ys : List (Entry m)) → IsInOrder m xs → IsInOrder m ys → ((t : ℕ) → entries_of m t xs ≡ entries_of m t ys) → xs ≡ ys
  merge-once [] [] o p h = refl
  merge-once [] (b ∷ ys) o p h = absurd (first-in b ys [] (sym (h b.server)))
  merge-once (a ∷ xs) [] o p h = absurd (first-in a xs [] (h a.server))
  merge-once (a ∷ xs) (b ∷ ys) o p h =
      let e : a ≡ b = same-first a b xs ys o p (first-in a xs (b ∷ ys) (h a.server)) (first-in b ys (a ∷ xs) (sym (h b.server))) in
      let rest : xs ≡ ys = merge-once xs ys o.1 p.1 (rest-same a xs ys (λ t. subst (λ z. entries_of m t (a ∷ xs) ≡ entries_of m t (z ∷ ys)) (sym e) (h t))) in
      ap (λ z. z ∷ xs) e ∙ ap (λ z. b ∷ z) rest

  pub of-append : (t : ℕ) (xs ys : List (Entry m)) → entries_of m t (xs ++ ys) ≡ entries_of m t xs ++ entries_of m t ys
  of-append t [] ys = refl
  of-append t (a ∷ xs) ys = by (compare a.server t) (of-append t xs ys)
    where
      by : Same a.server t → entries_of m t (xs ++ ys) ≡ entries_of m t xs ++ entries_of m t ys → entries_of m t (a ∷ (xs ++ ys)) ≡ entries_of m t (a ∷ xs) ++ entries_of m t ys
      by (Is p v) e = rw v (ap (λ z. a ∷ z) e)
      by (Not n v) e = rw v e

  order-append : (xs ys : List (Entry m)) → IsInOrder m xs → IsInOrder m ys → ((e f : Entry m) → Has e xs → Has f ys → e.stamp < f.stamp) → IsInOrder m (xs ++ ys)
  order-append [] ys o p low = p
  order-append (a ∷ xs) ys o p low = (λ f h. elim (has-append f xs ys h) [ inl x ↦ o.0 f x | inr x ↦ inl (low a f (inl refl) x) ], order-append xs ys o.1 p (λ e f h g. low e f (inr h) g))

  -- merges one after the other, of which the later have greater stamps, are the merge of the whole
  pub merge-join : (j j' : ℕ → List (Entry m)) (xs ys : List (Entry m)) → IsMerge m j xs → IsMerge m j' ys → ((e f : Entry m) → Has e xs → Has f ys → e.stamp < f.stamp) → IsMerge m (λ t. j t ++ j' t) (xs ++ ys)
  merge-join j j' xs ys x y low = record {
    order = order-append xs ys x.order y.order low;
    parts = λ t. of-append t xs ys ∙ ap (λ z. z ++ entries_of m t ys) (x.parts t) ∙ ap (λ z. j t ++ z) (y.parts t);
  }
