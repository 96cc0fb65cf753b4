-- What is gathered from the interfaces of a server, and its roots.
use Rattle.std.proofs.Common.{◌≡◌, ℕ, Bool, List, [], ◌∷◌, inl, inr, refl, subst, ◌∙◌}
use Rattle.law_machine.specs.Machine.{Has}
use Rattle.law_machine.proofs.Lists.{Same, Is, Not, compare}
use Rattle.base.specs.Laws.{CoverLaws}
use Rattle.base.proofs.Sets.{has-union}
use Rattle.law_routing.specs.Server.{union_except}

module _ {T : Type 0} {covers before : T → T → Bool} (laws : CoverLaws covers before) where
  -- what is gathered is what some interface but l has
  pub has-gather : (sets : ℕ → List T) (l i : ℕ) (f : T) (is : List ℕ) → Has i is → (i ≡ l → ⊥) → Has f (sets i) → Has f (union_except before sets l is)
  has-gather sets l i f [] h n m = absurd h
  has-gather sets l i f (j ∷ is) h n m = go (compare j l) h (λ k. has-gather sets l i f is k n m)
    where
      go : Same j l → Has i (j ∷ is) → (Has i is → Has f (union_except before sets l is)) → Has f (union_except before sets l (j ∷ is))
      go (Is q v) (inl p) ih = absurd (n (p ∙ q))
      go (Is q v) (inr k) ih = rw v (ih k)
      go (Not z v) (inl p) ih = rw v ((has-union laws f (sets j) (union_except before sets l is)).1 (inl (subst (λ x. Has f (sets x)) p m)))
      go (Not z v) (inr k) ih = rw v ((has-union laws f (sets j) (union_except before sets l is)).1 (inr (ih k)))

  pub gather-has : (sets : ℕ → List T) (l : ℕ) (f : T) (is : List ℕ) → Has f (union_except before sets l is) → (i : ℕ) × Has i is × (i ≡ l → ⊥) × Has f (sets i)
  gather-has sets l f [] h = absurd h
  gather-has sets l f (j ∷ is) h = go (compare j l) h (gather-has sets l f is)
    where
      go : Same j l → Has f (union_except before sets l (j ∷ is)) → (Has f (union_except before sets l is) → (i : ℕ) × Has i is × (i ≡ l → ⊥) × Has f (sets i)) → (i : ℕ) × Has i (j ∷ is) × (i ≡ l → ⊥) × Has f (sets i)
      go (Is q v) k ih = let r = ih (rw v at k) in (r.0, inr r.1, r.2, r.3)
      go (Not z v) k ih = elim ((has-union laws f (sets j) (union_except before sets l is)).0 (rw v at k)) [ inl a ↦ (j, inl refl, z, a) | inr b ↦ (let r = ih b in (r.0, inr r.1, r.2, r.3)) ]
