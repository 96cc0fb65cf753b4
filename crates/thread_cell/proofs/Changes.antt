-- What changes make of a set of pairs: a pair that one of them touches is there after them or not, whatever was there before; another one stays.
use Rattle.std.proofs.Common.{◌≡◌, ◌↔◌, ◌⊎◌, inl, inr, ℕ, List, [], ◌∷◌, refl, ap, subst, ◌∙◌}
use Rattle.base.specs.Sets.{Has}
use Rattle.base.proofs.Sets.{has-put_in, minus-iff}
use Rattle.law_machine.proofs.Lists.{Same, Is, Not, compare}
use Rattle.match_routes.specs.declared.table_change.TableChange.{TableChange}
use Rattle.match_routes.specs.declared.table_change.TableChange.TheVariants.{Put, Take}
use Rattle.match_routes.specs.Installed.{Pair, pair_in, changed, all_changed}
use Rattle.match_routes.proofs.Pairs.{pair_laws}

-- two pairs are the same, or not
same-pair : (x y : Pair) → (x ≡ y) ⊎ (x ≡ y → ⊥)
same-pair x y = go (compare x.0 y.0) (compare x.1 y.1)
  where
    go : Same x.0 y.0 → Same x.1 y.1 → (x ≡ y) ⊎ (x ≡ y → ⊥)
    go (Is p v) (Is q w) = inl (λ i. (p i, q i))
    go (Not p v) q = inr (λ e. p (ap (λ (z : Pair). z.0) e))
    go (Is p v) (Not q w) = inr (λ e. q (ap (λ (z : Pair). z.1) e))

pub at-put : (x : Pair) (number interface : ℕ) (pairs : List Pair) → Has x (changed (Put number interface) pairs) ↔ ((x ≡ (interface, number)) ⊎ Has x pairs)
at-put x number interface pairs = has-put_in pair_laws (interface, number) x pairs

pub at-take : (x : Pair) (number interface : ℕ) (pairs : List Pair) → Has x (changed (Take number interface) pairs) ↔ (Has x pairs × (x ≡ (interface, number) → ⊥))
at-take x number interface pairs = (λ h. (let r = (minus-iff pair_laws x pairs ((interface, number) ∷ [])).0 h in (r.0, λ e. r.1 (inl e))), λ p. (minus-iff pair_laws x pairs ((interface, number) ∷ [])).1 (p.0, λ h. one p.1 h))
  where
    one : (x ≡ (interface, number) → ⊥) → Has x ((interface, number) ∷ []) → ⊥
    one n (inl e) = n e
    one n (inr h) = absurd h

module _ (x : Pair) where
  -- one of the changes touches the pair
  abbrev pub Touch : List TableChange → Type 0
  Touch changes = (c : TableChange) × Has c changes × (x ≡ pair_in c)

  pub look : (changes : List TableChange) → Touch changes ⊎ (Touch changes → ⊥)
  look [] = inr (λ t. t.1)
  look (c ∷ cs) = go (same-pair x (pair_in c)) (look cs)
    where
      go : (x ≡ pair_in c) ⊎ (x ≡ pair_in c → ⊥) → Touch cs ⊎ (Touch cs → ⊥) → Touch (c ∷ cs) ⊎ (Touch (c ∷ cs) → ⊥)
      go (inl e) r = inl (c, inl refl, e)
      go (inr n) (inl t) = inl (t.0, inr t.1, t.2)
      go (inr n) (inr m) = inr at
        where
          at : Touch (c ∷ cs) → ⊥
          at (d, inl q, e) = n (e ∙ ap pair_in q)
          at (d, inr h, e) = m (d, h, e)

  -- a change of another pair
  other : (c : TableChange) (pairs : List Pair) → (x ≡ pair_in c → ⊥) → Has x (changed c pairs) ↔ Has x pairs
  other (Put number interface) pairs n = (λ h. from ((at-put x number interface pairs).0 h), λ h. (at-put x number interface pairs).1 (inr h))
    where
      from : (x ≡ (interface, number)) ⊎ Has x pairs → Has x pairs
      from (inl e) = absurd (n e)
      from (inr h) = h
  other (Take number interface) pairs n = (λ h. ((at-take x number interface pairs).0 h).0, λ h. (at-take x number interface pairs).1 (h, n))

  pub untouched : (cs : List TableChange) (pairs : List Pair) → (Touch cs → ⊥) → Has x (all_changed cs pairs) ↔ Has x pairs
  untouched [] pairs n = (λ h. h, λ h. h)
  untouched (c ∷ cs) pairs n =
      let rest = untouched cs (changed c pairs) (λ t. n (t.0, inr t.1, t.2)) in
      let first = other c pairs (λ e. n (c, inl refl, e)) in
      (λ h. first.0 (rest.0 h), λ h. rest.1 (first.1 h))

  -- a change of this pair
  alike : (c : TableChange) (one two : List Pair) → x ≡ pair_in c → Has x (changed c one) → Has x (changed c two)
  alike (Put number interface) one two e h = (at-put x number interface two).1 (inl e)
  alike (Take number interface) one two e h = absurd (((at-take x number interface one).0 h).1 e)

  pub touched : (cs : List TableChange) (one two : List Pair) → Touch cs → Has x (all_changed cs one) → Has x (all_changed cs two)
  touched [] one two t h = absurd t.1
  touched (c ∷ cs) one two t h = go (look cs) t (λ r. touched cs (changed c one) (changed c two) r h)
    where
      go : Touch cs ⊎ (Touch cs → ⊥) → Touch (c ∷ cs) → (Touch cs → Has x (all_changed (c ∷ cs) two)) → Has x (all_changed (c ∷ cs) two)
      go (inl r) t later = later r
      go (inr n) (d, inl q, e) later = (untouched cs (changed c two) n).1 (alike c one two (e ∙ ap pair_in q) ((untouched cs (changed c one) n).0 h))
      go (inr n) (d, inr m, e) later = absurd (n (d, m, e))

  -- changes that take pairs away put none in
  pub only-less : (cs : List TableChange) (pairs : List Pair) → ((c : TableChange) → Has c cs → (interface number : ℕ) × (c ≡ Take number interface)) → Has x (all_changed cs pairs) → Has x pairs
  only-less [] pairs all h = h
  only-less (c ∷ cs) pairs all h = go (all c (inl refl)) (only-less cs (changed c pairs) (λ d m. all d (inr m)) h)
    where
      go : (interface number : ℕ) × (c ≡ Take number interface) → Has x (changed c pairs) → Has x pairs
      go (interface, number, e) m = ((at-take x number interface pairs).0 (subst (λ z. Has x (changed z pairs)) e m)).0

  -- and one that is taken away is gone
  pub gone : (cs : List TableChange) (pairs : List Pair) → ((c : TableChange) → Has c cs → (interface number : ℕ) × (c ≡ Take number interface)) → Touch cs → Has x (all_changed cs pairs) → ⊥
  gone cs pairs all t h = only-less cs [] all (touched cs pairs [] t h)
